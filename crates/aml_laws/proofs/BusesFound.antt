-- The bus behind bridges is the one that they tell, one after another.
use Rattle.std.specs.Prelude.{◌≡◌, ◌⊎◌, ◌<◌, ◌+◌, ◌*◌, ◌/◌, ◌%◌, ◌++◌, ℕ, nat_lt, true, List, [], ◌∷◌, Ok, refl}
use Rattle.std.proofs.Common.{arith, inl, inr}
use Rattle.std.proofs.lemmas.Bool.Decides.{nat_tests}
use Rattle.std.proofs.lemmas.Nat.{div-mul-add, mod-mul-add}
use Rattle.ar_space.specs.declared.space.Width.TheVariants.{W8}
use Rattle.ar_space.specs.declared.space.Place.TheVariants as place
use Rattle.ar_space.specs.Accesses.{Accesses}
use Rattle.ar_space.specs.Change.{give, settle, go_on, ◌>>=◌}
use Rattle.aml_path.specs.declared.segment.Seg.{Seg}
use Rattle.aml_fields.specs.declared.region.AddressSpace.TheVariants as spaces
use Rattle.aml_fields.specs.Regions.{unit_place, read_access, read_unit}
use Rattle.aml_world.specs.state.State.{State, on_space}
use Rattle.aml_world.specs.state.Run.{Run, lift}
use Rattle.aml_world.specs.fields.PciFunctions.{adr, segment_group, base_bus, pci_function}
use Rattle.aml_world.specs.fields.Regions.{pci_space}
use Rattle.aml_world.specs.fields.Bridges.{header_of, bridge_header, bridges_to, bridges_above, secondary_bus}
use Rattle.aml_world.specs.fields.Fields.{inherited, bus_behind, bus_behind_all, pci_address}
use Rattle.aml_laws.specs.BusesFound.{BusesFound, there, behind, TellsNumber, TellAddresses, no_more, one_more, TellsPart, of_none, of_some}

below : (n k : ℕ) → n < k → nat_lt n k ≡ true
below n k less = grind (arith, nat_tests)

pub function_space : (seg bus dev func : ℕ) → seg < 65536 → bus < 256 → dev < 32 → func < 8 → pci_space seg bus (dev * 65536 + func) ≡ Ok (spaces.Pci seg bus dev func)
function_space seg bus dev func s b d f =
    let high : (dev * 65536 + func) / 65536 ≡ dev = div-mul-add dev 65536 func (omega (arith, f)) in
    let low : (dev * 65536 + func) % 65536 ≡ func = mod-mul-add dev 65536 func (omega (arith, f)) in
    rw (high, low, below seg 65536 s, below bus 256 b, below dev 32 d, below func 8 f) refl

pub bridge_kind : (kind : ℕ) → (kind % 128 ≡ 1) ⊎ (kind % 128 ≡ 2) → bridge_header kind ≡ Ok tt
bridge_kind kind (inl one) = rw one refl
bridge_kind kind (inr two) = rw two refl

pub header_place : (seg bus dev func : ℕ) → unit_place (header_of (spaces.Pci seg bus dev func)) W8 14 ≡ Ok (place.Pci seg bus dev func 14)
unfolding unit_place
header_place seg bus dev func = refl

pub number_place : (seg bus dev func : ℕ) → unit_place (header_of (spaces.Pci seg bus dev func)) W8 25 ≡ Ok (place.Pci seg bus dev func 25)
unfolding unit_place
number_place seg bus dev func = refl

module _ {S : Type 0} (accesses : Accesses S) (seg : ℕ) (small : seg < 65536) where
  told : (bus dev func kind number : ℕ) (s t u : S) → bus < 256 → dev < 32 → func < 8 → accesses.reads s (place.Pci seg bus dev func 14) W8 ≡ (Ok kind, t) → (kind % 128 ≡ 1) ⊎ (kind % 128 ≡ 2)
      → accesses.reads t (place.Pci seg bus dev func 25) W8 ≡ (Ok number, u) → secondary_bus accesses seg bus (dev * 65536 + func) s ≡ (Ok number, u)
  unfolding secondary_bus read_unit read_access settle go_on ◌>>=◌
  told bus dev func kind number s t u b d f first is second = rw (function_space seg bus dev func small b d f, header_place seg bus dev func, first, bridge_kind kind is, number_place seg bus dev func, second) refl

  module _ (call : List Seg → Run S ℕ) where
    -- of a world with other registers
    one_behind : (w : State S) (steps : ℕ) (p : List Seg) (bus dev func number : ℕ) (s u : S) → TellsNumber call w steps (p ++ adr ∷ []) (dev * 65536 + func) → secondary_bus accesses seg bus (dev * 65536 + func) s ≡ (Ok number, u)
        → bus_behind accesses call seg bus p (record w { space = s }, steps) ≡ (Ok number, (record w { space = u }, steps))
    unfolding bus_behind lift on_space go_on ◌>>=◌
    one_behind w steps p bus dev func number s u tells is = rw (tells s, is) refl

    all_behind : (w : State S) (steps bus end : ℕ) (ps : List (List Seg)) (addresses : List (ℕ × ℕ)) (s after : S) → TellAddresses call w steps ps addresses → BusesFound accesses seg bus addresses s end after
        → bus_behind_all accesses call seg bus ps (record w { space = s }, steps) ≡ (Ok end, (record w { space = after }, steps))
    unfolding bus_behind_all give go_on ◌>>=◌
    all_behind w steps bus end ps addresses s after no_more (there _ _) = refl
    all_behind w steps bus end ps addresses s after (one_more p qs dev func further tells all) (behind _ _ _ kind number _ _ _ t u _ b d f first is second rest) =
        rw (one_behind w steps p bus dev func number s u tells (told bus dev func kind number s t u b d f first is second)) (all_behind w steps number end qs further u after all rest)

    pub buses_found : (w : State S) (steps bus end : ℕ) (ps : List (List Seg)) (addresses : List (ℕ × ℕ)) (after : S) → TellAddresses call w steps ps addresses → BusesFound accesses seg bus addresses w.space end after
        → bus_behind_all accesses call seg bus ps (w, steps) ≡ (Ok end, (record w { space = after }, steps))
    buses_found w steps bus end ps addresses after all found = all_behind w steps bus end ps addresses w.space after all found

    -- ---- the whole address

    pub part_told : (w : State S) (steps : ℕ) (name : Seg) (scope : List Seg) (n : ℕ) → TellsPart call w steps name scope n → inherited accesses call name scope (w, steps) ≡ (Ok n, (w, steps))
    unfolding inherited lift give go_on ◌>>=◌
    part_told w steps name scope _ (of_none none) = rw none refl
    part_told w steps name scope n (of_some at _ is tells) = rw is (tells w.space)

    pub address_told : (w : State S) (steps bus end dev func : ℕ) (scope p : List Seg) (addresses : List (ℕ × ℕ)) (after : S) → pci_function scope w ≡ (Ok p, w) → TellsPart call w steps segment_group p seg → TellsPart call w steps base_bus p bus
        → TellAddresses call w steps (bridges_to w.names.map p) addresses → BusesFound accesses seg bus addresses w.space end after → end < 256 → dev < 32 → func < 8 → TellsNumber call w steps (p ++ adr ∷ []) (dev * 65536 + func)
        → pci_address accesses call scope (w, steps) ≡ (Ok (spaces.Pci seg end dev func), (record w { space = after }, steps))
    unfolding pci_address bridges_above lift settle go_on ◌>>=◌
    address_told w steps bus end dev func scope p addresses after belongs group first bridges found b d f tells =
        rw (belongs, part_told w steps segment_group p seg group, part_told w steps base_bus p bus first, buses_found w steps bus end (bridges_to w.names.map p) addresses after bridges found, tells after, function_space seg end dev func small b d f) refl
