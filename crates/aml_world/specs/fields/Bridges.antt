-- PCI-to-PCI bridges above a function of PCI_Config (ACPI 6.5, 5.5.2.4, 6.1.1 and 6.5.5). The bus behind a bridge is its secondary bus,
-- which the configuration header of the bridge holds (PCI-to-PCI Bridge Architecture 1.2, 3.2).
use Rattle.std.specs.Prelude.{ℕ, zero, suc, ◌%◌, ◌==◌, ◌||◌, List, [], ◌∷◌, ◌++◌, length, take, Ok, Err, if◌then◌else◌}
use Rattle.ar_space.specs.declared.refusal.Refusal.TheVariants as refusal
use Rattle.ar_space.specs.declared.refusal.EvaluationFault.TheVariants.{DeepPci}
use Rattle.ar_space.specs.declared.space.Width.TheVariants.{W8}
use Rattle.ar_space.specs.Accesses.{Accesses}
use Rattle.ar_space.specs.Outcome.{Outcome}
use Rattle.ar_space.specs.Change.{Change, settle, ◌>>=◌}
use Rattle.aml_path.specs.declared.segment.Seg.{Seg}
use Rattle.aml_fields.specs.declared.region.AddressSpace.{AddressSpace}
use Rattle.aml_fields.specs.declared.region.Region.{Region}
use Rattle.aml_fields.specs.Regions.{read_unit}
use Rattle.aml_namespace.specs.Namespace.{Map}
use Rattle.aml_world.specs.fields.PciFunctions.{base_bus, has, is_bridge}
use Rattle.aml_world.specs.fields.Regions.{pci_space}
use Rattle.aml_world.specs.state.State.{State}

-- ---- which devices are bridges

-- a scope below others: a base bus number counts anew, and a bridge is one more
abbrev pub with_scope : Map → List Seg → List (List Seg) → List (List Seg)
with_scope names p bridges = if has names p base_bus then [] else (if is_bridge names p then bridges ++ p ∷ [] else bridges)

-- the bridges among the scopes of a path that have fewer than so many segments, from the outermost on
unfoldable pub bridges_over : Map → List Seg → ℕ → List (List Seg)
bridges_over names p zero = []
bridges_over names p (suc n) = with_scope names (take n p) (bridges_over names p n)

-- those above a device; above one that has a base bus number itself none counts
abbrev pub bridges_to : Map → List Seg → List (List Seg)
bridges_to names p = if has names p base_bus then [] else bridges_over names p (length p)

unfoldable pub bridges_above : {S : Type 0} → List Seg → Change (State S) (List (List Seg))
bridges_above p w = (Ok (bridges_to w.names.map p), w)

-- ---- the bus behind a bridge

-- the configuration header of a function
abbrev pub header_of : AddressSpace → Region
header_of function = record { space = function; offset = 0; length = 64 }

-- the low seven bits of the header type are 1 at a PCI-to-PCI bridge, and 2 at a CardBus bridge
abbrev pub bridge_header : ℕ → Outcome (Unit {0})
bridge_header kind = if kind % 128 == 1 || kind % 128 == 2 then Ok tt else Err (refusal.Evaluation DeepPci)

module _ {S : Type 0} (accesses : Accesses S) where
  -- the byte at an offset in the header
  abbrev pub header_byte : AddressSpace → ℕ → Change S ℕ
  header_byte function n = read_unit accesses (header_of function) W8 (record { offset = n; first = 0; count = 8; position = 0 })

  -- the secondary bus of the bridge at a segment group, bus and address: the header type is at 0Eh, the secondary bus at 19h
  unfoldable pub secondary_bus : ℕ → ℕ → ℕ → Change S ℕ
  secondary_bus seg bus address = do
    function ← settle (pci_space seg bus address)
    kind ← header_byte function 14
    bridge ← settle (bridge_header kind)
    header_byte function 25
