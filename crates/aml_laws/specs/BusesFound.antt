-- How the bus behind PCI-to-PCI bridges is found (PCI-to-PCI Bridge Architecture 1.2, 3.2): each bridge tells its secondary bus.
use Rattle.std.specs.Prelude.{◌≡◌, ◌⊎◌, ◌<◌, ◌+◌, ◌*◌, ◌%◌, ◌++◌, ℕ, List, [], ◌∷◌, Some, None, Ok}
use Rattle.ar_space.specs.declared.space.Width.TheVariants.{W8}
use Rattle.ar_space.specs.declared.space.Place.TheVariants as place
use Rattle.ar_space.specs.Accesses.{Accesses}
use Rattle.aml_path.specs.declared.segment.Seg.{Seg}
use Rattle.aml_world.specs.state.State.{State}
use Rattle.aml_world.specs.state.Run.{Run}
use Rattle.aml_world.specs.declared.fields.pci_functions.Sought.TheVariants.{Parent}
use Rattle.aml_world.specs.fields.PciFunctions.{adr, nearest}

-- From a bus on, bridges at these devices and functions lead to a bus, the first of them on the bus itself and each further one on the bus
-- that the one before it tells. Of each two bytes are read: the header type, whose low seven bits are 1 or 2, and the secondary bus.
pub data BusesFound {S : Type 0} (accesses : Accesses S) (seg : ℕ) : ℕ → List (ℕ × ℕ) → S → ℕ → S → Type 0 where
  there : (bus : ℕ) (s : S) → BusesFound accesses seg bus [] s bus s
  behind : (bus dev func kind number end : ℕ) (further : List (ℕ × ℕ)) (s t u v : S) → bus < 256 → dev < 32 → func < 8
      → accesses.reads s (place.Pci seg bus dev func 14) W8 ≡ (Ok kind, t) → (kind % 128 ≡ 1) ⊎ (kind % 128 ≡ 2)
      → accesses.reads t (place.Pci seg bus dev func 25) W8 ≡ (Ok number, u) → BusesFound accesses seg number further u end v
      → BusesFound accesses seg bus ((dev, func) ∷ further) s end v

-- What an object answers where an address is asked for: a number, and nothing changes, whatever the registers are by then. So it is where a
-- name holds an integer.
abbrev pub TellsNumber : {S : Type 0} → (List Seg → Run S ℕ) → State S → ℕ → List Seg → ℕ → Type 0
TellsNumber {S} call w steps p n = (t : S) → call p (record w { space = t }, steps) ≡ (Ok n, (record w { space = t }, steps))

-- the `_ADR` of each bridge answers its device in the high word and its function in the low one
pub data TellAddresses {S : Type 0} (call : List Seg → Run S ℕ) (w : State S) (steps : ℕ) : List (List Seg) → List (ℕ × ℕ) → Type 0 where
  no_more : TellAddresses call w steps [] []
  one_more : (p : List Seg) (ps : List (List Seg)) (dev func : ℕ) (further : List (ℕ × ℕ)) → TellsNumber call w steps (p ++ adr ∷ []) (dev * 65536 + func) → TellAddresses call w steps ps further
      → TellAddresses call w steps (p ∷ ps) ((dev, func) ∷ further)

-- the number that the nearest object of a name tells, of a scope and those above it, and 0 where there is none
pub data TellsPart {S : Type 0} (call : List Seg → Run S ℕ) (w : State S) (steps : ℕ) (name : Seg) (scope : List Seg) : ℕ → Type 0 where
  of_none : nearest (Parent name) scope w ≡ (Ok None, w) → TellsPart call w steps name scope 0
  of_some : (at : List Seg) (n : ℕ) → nearest (Parent name) scope w ≡ (Ok (Some at), w) → TellsNumber call w steps (at ++ name ∷ []) n → TellsPart call w steps name scope n
