-- The objects of the address of a PCI function are asked in turn, and the first that is refused ends it.
use Rattle.std.specs.Prelude.{◌≡◌, ◌≢◌, ◌≤◌, ◌<◌, ◌+◌, ◌*◌, ◌/◌, ◌%◌, ◌++◌, ◌==◌, ◌&&◌, ℕ, nat_lt, Bool, true, false, List, [], ◌∷◌, Ok, Err, refl, if◌then◌else◌}
use Rattle.std.proofs.Common.{arith}
use Rattle.std.proofs.lemmas.Bool.{eqb-true}
use Rattle.std.proofs.lemmas.Bool.Decides.{nat_tests}
use Rattle.std.proofs.lemmas.Nat.{div-mul-add, mod-mul-add}
use Rattle.ar_space.specs.declared.refusal.Refusal.{Refusal}
use Rattle.ar_space.specs.declared.refusal.Refusal.TheVariants as refusal
use Rattle.ar_space.specs.declared.refusal.EvaluationFault.TheVariants.{DeepPci}
use Rattle.ar_space.specs.declared.refusal.FieldFault.TheVariants.{RegionLimit}
use Rattle.ar_space.specs.Accesses.{Accesses}
use Rattle.ar_space.specs.Outcome.{Outcome}
use Rattle.ar_space.specs.Change.{give, settle, go_on, ◌>>=◌}
use Rattle.aml_path.specs.declared.segment.Seg.{Seg}
use Rattle.aml_fields.specs.declared.region.AddressSpace.{AddressSpace}
use Rattle.aml_fields.specs.declared.region.AddressSpace.TheVariants as spaces
use Rattle.aml_fields.specs.Regions.{read_access, read_unit}
use Rattle.aml_world.specs.state.State.{State, on_space}
use Rattle.aml_world.specs.state.Run.{Run, lift}
use Rattle.aml_world.specs.fields.PciFunctions.{adr, segment_group, base_bus, pci_function}
use Rattle.aml_world.specs.fields.Regions.{pci_space}
use Rattle.aml_world.specs.fields.Bridges.{bridge_header, bridges_to, bridges_above, secondary_bus}
use Rattle.aml_world.specs.fields.Fields.{inherited, bus_behind, bus_behind_all, pci_address}
use Rattle.aml_laws.specs.PciAddresses.{MayBeFunction, IsNoFunction, no_group, no_bus, no_device, no_number, BridgeTells, is_nowhere, type_has_fault, is_no_bridge, bus_has_fault, is_bridge}
use Rattle.aml_laws.specs.PciAddresses.{with_space, PartAnswers, of_none, of_nearest, BridgesLead, no_further, adr_refused, bridge_refused, leads_on}
use Rattle.aml_laws.specs.PciAddresses.{AddressAnswers, segment_refused, bus_refused, bridges_refused, function_refused, out_of_range, in_range}
use Rattle.aml_laws.proofs.BusesFound.{function_space, bridge_kind, header_place, number_place}
use Rattle.aml_laws.proofs.PciScopes.{nearest_parent, no_parent}

-- ---- which numbers are those of a function

second_fails : {A : Type 0} (a c d : Bool) (x y : A) → (if a && (false && (c && d)) then x else y) ≡ y
second_fails true c d x y = refl
second_fails false c d x y = refl

third_fails : {A : Type 0} (a b d : Bool) (x y : A) → (if a && (b && (false && d)) then x else y) ≡ y
third_fails true true d x y = refl
third_fails true false d x y = refl
third_fails false b d x y = refl

fourth_fails : {A : Type 0} (a b c : Bool) (x y : A) → (if a && (b && (c && false)) then x else y) ≡ y
fourth_fails true true true x y = refl
fourth_fails true true false x y = refl
fourth_fails true false c x y = refl
fourth_fails false b c x y = refl

not_below : (n k : ℕ) → k ≤ n → nat_lt n k ≡ false
not_below n k le = grind (arith, nat_tests)

module _ (seg bus dev func : ℕ) where
  space_so : MayBeFunction seg bus dev func → pci_space seg bus (dev * 65536 + func) ≡ Ok (spaces.Pci seg bus dev func)
  space_so h = function_space seg bus dev func h.group_fits h.bus_fits h.device_fits h.function_fits

  module _ (word : func < 65536) where
    high : (dev * 65536 + func) / 65536 ≡ dev
    high = div-mul-add dev 65536 func word

    low : (dev * 65536 + func) % 65536 ≡ func
    low = mod-mul-add dev 65536 func word

    no_space_so : IsNoFunction seg bus dev func → pci_space seg bus (dev * 65536 + func) ≡ Err (refusal.Field RegionLimit)
    no_space_so (no_group many) = rw (not_below seg 65536 many) refl
    no_space_so (no_bus many) = rw (not_below bus 256 many) (second_fails (nat_lt seg 65536) (nat_lt ((dev * 65536 + func) / 65536) 32) (nat_lt ((dev * 65536 + func) % 65536) 8) _ _)
    no_space_so (no_device many) = rw (high, not_below dev 32 many) (third_fails (nat_lt seg 65536) (nat_lt bus 256) (nat_lt ((dev * 65536 + func) % 65536) 8) _ _)
    no_space_so (no_number many) = rw (low, not_below func 8 many) (fourth_fails (nat_lt seg 65536) (nat_lt bus 256) (nat_lt ((dev * 65536 + func) / 65536) 32) _ _)

-- ---- one bridge

differs : (n k : ℕ) (b : Bool) → (n == k) ≡ b → n ≢ k → b ≡ false
differs n k true is h = absurd (h (eqb-true n k is))
differs n k false is h = refl

other_kind : (kind : ℕ) → kind % 128 ≢ 1 → kind % 128 ≢ 2 → bridge_header kind ≡ Err (refusal.Evaluation DeepPci)
other_kind kind one two = rw (differs (kind % 128) 1 (kind % 128 == 1) refl one, differs (kind % 128) 2 (kind % 128 == 2) refl two) refl

module _ {S : Type 0} (accesses : Accesses S) (seg bus dev func : ℕ) (word : func < 65536) where
  pub bridge_told : (s : S) (r : Outcome ℕ) (after : S) → BridgeTells accesses seg bus dev func s r after → secondary_bus accesses seg bus (dev * 65536 + func) s ≡ (r, after)
  unfolding secondary_bus read_unit read_access settle go_on ◌>>=◌
  bridge_told s _ _ (is_nowhere beyond) = rw (no_space_so seg bus dev func word beyond) refl
  bridge_told s _ _ (type_has_fault fault t h first) = rw (space_so seg bus dev func h, header_place seg bus dev func, first) refl
  bridge_told s _ _ (is_no_bridge kind t h first one two) = rw (space_so seg bus dev func h, header_place seg bus dev func, first, other_kind kind one two) refl
  bridge_told s _ _ (bus_has_fault kind fault t u h first is second) = rw (space_so seg bus dev func h, header_place seg bus dev func, first, bridge_kind kind is, number_place seg bus dev func, second) refl
  bridge_told s _ _ (is_bridge kind number t u h first is second) = rw (space_so seg bus dev func h, header_place seg bus dev func, first, bridge_kind kind is, number_place seg bus dev func, second) refl

-- ---- all objects of an address

module _ {S : Type 0} (accesses : Accesses S) (call : List Seg → Run S ℕ) where
  part_so : (name : Seg) (scope : List Seg) (s : State S × ℕ) (r : Outcome ℕ) (after : State S × ℕ) → PartAnswers call name scope s r after → inherited accesses call name scope s ≡ (r, after)
  unfolding inherited lift give go_on ◌>>=◌
  part_so name scope s _ _ (of_none none) = rw (no_parent s.0 name scope none) refl
  part_so name scope s _ _ (of_nearest k r after is asked) = rw (nearest_parent s.0 name scope k is) asked

  one_so : (seg bus address : ℕ) (p : List Seg) (s t : State S × ℕ) (r : Outcome ℕ) (u : S) → call (p ++ adr ∷ []) s ≡ (Ok address, t) → secondary_bus accesses seg bus address t.0.space ≡ (r, u)
      → bus_behind accesses call seg bus p s ≡ (r, with_space t u)
  unfolding bus_behind lift on_space go_on ◌>>=◌
  one_so seg bus address p s t r u asked is = rw (asked, is) refl

  no_address : (seg bus : ℕ) (p : List Seg) (s t : State S × ℕ) (e : Refusal) → call (p ++ adr ∷ []) s ≡ (Err e, t) → bus_behind accesses call seg bus p s ≡ (Err e, t)
  unfolding bus_behind go_on ◌>>=◌
  no_address seg bus p s t e asked = rw asked refl

  bridges_so : (seg bus : ℕ) (ps : List (List Seg)) (s : State S × ℕ) (r : Outcome ℕ) (after : State S × ℕ) → BridgesLead accesses call seg bus ps s r after → bus_behind_all accesses call seg bus ps s ≡ (r, after)
  unfolding bus_behind_all give go_on ◌>>=◌
  bridges_so seg _ _ _ _ _ (no_further bus s) = refl
  bridges_so seg _ _ _ _ _ (adr_refused bus p ps s t e asked) = rw (no_address seg bus p s t e asked) refl
  bridges_so seg _ _ _ _ _ (bridge_refused bus dev func p ps s t e u word asked tells) = rw (one_so seg bus (dev * 65536 + func) p s t (Err e) u asked (bridge_told accesses seg bus dev func word t.0.space (Err e) u tells)) refl
  bridges_so seg _ _ _ _ _ (leads_on bus dev func number p ps s t after r u word asked tells on) =
      rw (one_so seg bus (dev * 65536 + func) p s t (Ok number) u asked (bridge_told accesses seg bus dev func word t.0.space (Ok number) u tells)) (bridges_so seg number ps (with_space t u) r after on)

  module _ (w : State S) (steps : ℕ) (scope path : List Seg) where
    pub objects_asked : (r : Outcome AddressSpace) (after : State S × ℕ) → pci_function scope w ≡ (Ok path, w) → AddressAnswers accesses call path (w, steps) r after → pci_address accesses call scope (w, steps) ≡ (r, after)
    unfolding pci_address bridges_above lift settle go_on ◌>>=◌
    objects_asked _ _ belongs (segment_refused e t group) = rw (belongs, part_so segment_group path (w, steps) (Err e) t group) refl
    objects_asked _ _ belongs (bus_refused seg e t u group first) = rw (belongs, part_so segment_group path (w, steps) (Ok seg) t group, part_so base_bus path t (Err e) u first) refl
    objects_asked _ _ belongs (bridges_refused seg bus e t u v group first lead) =
        rw (belongs, part_so segment_group path (w, steps) (Ok seg) t group, part_so base_bus path t (Ok bus) u first, bridges_so seg bus (bridges_to w.names.map path) u (Err e) v lead) refl
    objects_asked _ _ belongs (function_refused seg bus end e t u v after group first lead asked) =
        rw (belongs, part_so segment_group path (w, steps) (Ok seg) t group, part_so base_bus path t (Ok bus) u first, bridges_so seg bus (bridges_to w.names.map path) u (Ok end) v lead, asked) refl
    objects_asked _ _ belongs (out_of_range seg bus end dev func t u v after group first lead asked word beyond) =
        rw (belongs, part_so segment_group path (w, steps) (Ok seg) t group, part_so base_bus path t (Ok bus) u first, bridges_so seg bus (bridges_to w.names.map path) u (Ok end) v lead, asked, no_space_so seg end dev func word beyond) refl
    objects_asked _ _ belongs (in_range seg bus end dev func t u v after group first lead asked is) =
        rw (belongs, part_so segment_group path (w, steps) (Ok seg) t group, part_so base_bus path t (Ok bus) u first, bridges_so seg bus (bridges_to w.names.map path) u (Ok end) v lead, asked, space_so seg end dev func is) refl

  pub function_missing : (w : State S) (steps : ℕ) (scope : List Seg) (e : Refusal) → pci_function scope w ≡ (Err e, w) → pci_address accesses call scope (w, steps) ≡ (Err e, (w, steps))
  unfolding pci_address lift go_on ◌>>=◌
  function_missing w steps scope e none = rw none refl
