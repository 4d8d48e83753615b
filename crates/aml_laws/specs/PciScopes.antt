-- Which scopes the address of a register of PCI_Config comes from (ACPI 6.5, 5.5.2.4, 6.1.1, 6.5.5 and 6.5.6).
use Rattle.std.specs.Prelude.{◌≡◌, ◌⊎◌, ◌≤◌, ◌<◌, ◌+◌, ℕ, List, [], ◌∷◌, ◌++◌, length, take, Some, None}
use Rattle.std.specs.FinMap.{get}
use Rattle.aml_path.specs.declared.segment.Seg.{Seg}
use Rattle.aml_objects.specs.declared.entry.Entry.{Entry}
use Rattle.aml_objects.specs.declared.entry.NamedObject.TheVariants as object
use Rattle.aml_namespace.specs.Namespace.{Map}
use Rattle.aml_world.specs.fields.PciFunctions.{adr, hid, base_bus}

-- an object with this name stands in a scope
pub record StandsIn (names : Map) (name : Seg) (scope : List Seg) : Type 0 where
  pub entry : Entry
  pub stands : get names (scope ++ name ∷ []) ≡ Some entry

-- a Device with an `_ADR`: a PCI function
pub record IsFunctionAt (names : Map) (path : List Seg) : Type 0 where
  pub entry : Entry
  pub stands : get names path ≡ Some entry
  pub device : entry.object ≡ object.Device
  pub address : StandsIn names adr path

-- one without a `_HID`: where another function stands below it, a bridge
pub record IsBridgeAt (names : Map) (path : List Seg) : Type 0 where
  pub function : IsFunctionAt names path
  pub no_hid : get names (path ++ hid ∷ []) ≡ None

-- the first k segments of a scope are such, and no longer front of it is
pub record IsNearestSuch (Such : List Seg → Type 0) (scope : List Seg) (k : ℕ) : Type 0 where
  pub within : k ≤ length scope
  pub such : Such (take k scope)
  pub none_nearer : (j : ℕ) → k < j → j ≤ length scope → Such (take j scope) → ⊥

-- no front of a scope with so many segments, or fewer, is such
abbrev pub NoneSuch : (List Seg → Type 0) → List Seg → ℕ → Type 0
NoneSuch Such scope n = (j : ℕ) → j ≤ n → Such (take j scope) → ⊥

-- ---- bridges above a function

-- a bridge above a function that is asked for its bus: from it on down to the function no scope has a `_BBN`
pub record IsAskedBridge (names : Map) (function bridge : List Seg) : Type 0 where
  pub segments : ℕ
  pub above : segments < length function
  pub is : bridge ≡ take segments function
  pub stands : IsBridgeAt names bridge
  pub no_bus : (j : ℕ) → segments ≤ j → j ≤ length function → get names (take j function ++ base_bus ∷ []) ≡ None

-- a path is one of some
abbrev pub IsAmong : List Seg → List (List Seg) → Type 0
IsAmong path [] = ⊥
IsAmong path (other ∷ paths) = (path ≡ other) ⊎ IsAmong path paths

-- paths each of which is longer than those before it; the first has at least so many segments
abbrev pub GrowFrom : ℕ → List (List Seg) → Type 0
GrowFrom n [] = Unit {0}
GrowFrom n (path ∷ paths) = (n ≤ length path) × GrowFrom (length path + 1) paths
