-- Data that is handed out as it was handed in, and what handing it out costs.
use Rattle.std.specs.Prelude.{◌≡◌, ◌<◌, ◌+◌, ◌^◌, ℕ, List, Some, None}
use Rattle.std.specs.FinMap.{get}
use Rattle.ar_space.specs.declared.integer_width.IntegerWidth.{IntegerWidth}
use Rattle.aml_path.specs.declared.segment.Seg.{Seg}
use Rattle.aml_objects.specs.declared.entry.Entry.{Entry}
use Rattle.aml_namespace.specs.Namespace.{Map}
use Rattle.aml_convert.specs.Integers.{bits_of}
use Rattle.aml_world.specs.state.Given.{Given, Nothing, Integer, Text, Bytes, Package, Named, Reference, Givens, none, more}
use Rattle.aml_laws.specs.NamesFound.{alias_path}

-- at the path stands a name that is no alias
pub record StandsItself (names : Map) (path : List Seg) : Type 0 where
  pub entry : Entry
  pub stands : get names path ≡ Some entry
  pub no_alias : alias_path entry.object ≡ None

-- integers fit the width, and each path is that of a name; a reference without a path can't be handed in
abbrev mutual
  pub ComesBack : IntegerWidth → Map → Given → Type 0
  ComesBack width names Nothing = Unit {0}
  ComesBack width names (Integer n) = n < 2 ^ bits_of width
  ComesBack width names (Text bytes) = Unit {0}
  ComesBack width names (Bytes bytes) = Unit {0}
  ComesBack width names (Package gs) = AllComeBack width names gs
  ComesBack width names (Named p) = StandsItself names p
  ComesBack width names Reference = ⊥

  pub AllComeBack : IntegerWidth → Map → Givens → Type 0
  AllComeBack width names none = Unit {0}
  AllComeBack width names (more g gs) = ComesBack width names g × AllComeBack width names gs

-- how many elements there are in all, each of which costs a step
abbrev mutual
  pub elements_of : Given → ℕ
  elements_of Nothing = 0
  elements_of (Integer n) = 0
  elements_of (Text bytes) = 0
  elements_of (Bytes bytes) = 0
  elements_of (Package gs) = elements_in gs
  elements_of (Named p) = 0
  elements_of Reference = 0

  pub elements_in : Givens → ℕ
  elements_in none = 0
  elements_in (more g gs) = 1 + elements_of g + elements_in gs
