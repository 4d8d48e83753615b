-- The PCI function that an operation region of PCI_Config belongs to (ACPI 6.5, 5.5.2.4, 6.1.1, 6.5.5 and 6.5.6).
use Rattle.std.specs.Prelude.{ℕ, zero, suc, List, [], ◌∷◌, ◌++◌, length, take, codes, is_some, Bool, true, false, ◌&&◌, not, Option, Some, None, Ok, Err, refl, if◌then◌else◌}
use Rattle.std.specs.FinMap.{get}
use Rattle.ar_space.specs.declared.refusal.Refusal.TheVariants as refusal
use Rattle.ar_space.specs.declared.refusal.EvaluationFault.TheVariants.{DeepPci}
use Rattle.ar_space.specs.Outcome.{Outcome}
use Rattle.ar_space.specs.Change.{Change, give, settle, ◌>>=◌}
use Rattle.aml_path.specs.declared.segment.Seg.{Seg}
use Rattle.aml_objects.specs.declared.entry.Entry.{Entry}
use Rattle.aml_objects.specs.declared.entry.NamedObject.{NamedObject}
use Rattle.aml_objects.specs.declared.entry.NamedObject.TheVariants as object
use Rattle.aml_namespace.specs.Namespace.{Map, above}
use Rattle.aml_world.specs.declared.fields.pci_functions.Sought.{Sought}
use Rattle.aml_world.specs.declared.fields.pci_functions.Sought.TheVariants as sought
use Rattle.aml_world.specs.declared.state.profile.Profile.{Profile}
use Rattle.aml_world.specs.declared.state.profile.Profile.TheVariants as profiles
use Rattle.aml_world.specs.state.State.{State}

-- the names of objects that make the address of a function: address, hardware id, segment group, base bus number
abbrev pub adr : Seg
adr = record { bytes = codes "_ADR"; valid = refl }

abbrev pub hid : Seg
hid = record { bytes = codes "_HID"; valid = refl }

abbrev pub segment_group : Seg
segment_group = record { bytes = codes "_SEG"; valid = refl }

abbrev pub base_bus : Seg
base_bus = record { bytes = codes "_BBN"; valid = refl }

abbrev pub is_device_object : NamedObject → Bool
is_device_object object.Device = true
is_device_object _ = false

abbrev pub is_device : Option Entry → Bool
is_device None = false
is_device (Some e) = is_device_object e.object

-- a name stands in a scope
abbrev pub has : Map → List Seg → Seg → Bool
has names p s = is_some (get names (p ++ s ∷ []))

-- a device with an address
abbrev pub is_function : Map → List Seg → Bool
is_function names p = is_device (get names p) && has names p adr

-- one that nothing but its address identifies: a bridge, or a function behind one
abbrev pub is_bridge : Map → List Seg → Bool
is_bridge names p = is_function names p && not (has names p hid)

abbrev pub fits : Map → Sought → List Seg → Bool
fits names sought.Function p = is_function names p
fits names sought.Bridge p = is_bridge names p
fits names (sought.Parent s) p = has names p s

-- the nearest of a scope and those above it, from the one with so many segments on, that is what is sought
unfoldable pub nearest_from : Map → Sought → List Seg → ℕ → Option (List Seg)
nearest_from names x p zero = if fits names x (take 0 p) then Some (take 0 p) else None
nearest_from names x p (suc n) = if fits names x (take (suc n) p) then Some (take (suc n) p) else nearest_from names x p n

unfoldable pub nearest : {S : Type 0} → Sought → List Seg → Change (State S) (Option (List Seg))
nearest x p w = (Ok (nearest_from w.names.map x p (length p)), w)

abbrev pub or_deep : Option (List Seg) → Outcome (List Seg)
or_deep None = Err (refusal.Evaluation DeepPci)
or_deep (Some p) = Ok p

-- what lies behind a bridge is reached in the wide profile alone
abbrev pub or_behind : Profile → Option (List Seg) → Outcome (Unit {0})
or_behind profiles.Wide bridge = Ok tt
or_behind profiles.Core None = Ok tt
or_behind profiles.Core (Some p) = Err (refusal.Evaluation DeepPci)

unfoldable pub behind_asked : {S : Type 0} → Option (List Seg) → Change (State S) (Unit {0})
behind_asked bridge w = (or_behind w.profile bridge, w)

-- the function that a scope belongs to; in the core profile it must not be behind a bridge
unfoldable pub pci_function : {S : Type 0} → List Seg → Change (State S) (List Seg)
pci_function scope = do
  near ← nearest sought.Function scope
  p ← settle (or_deep near)
  bridge ← nearest sought.Bridge (above p)
  reached ← behind_asked bridge
  give p
