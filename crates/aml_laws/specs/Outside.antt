-- Names that stand outside of control methods.
use Rattle.std.specs.Prelude.{◌≡◌, ℕ, List, Bool, true, false, not, Option, Some, None}
use Rattle.std.specs.Option.{option_map}
use Rattle.std.specs.FinMap.{get, contains_key}
use Rattle.aml_path.specs.declared.segment.Seg.{Seg}
use Rattle.aml_path.specs.Paths.{is_below}
use Rattle.aml_objects.specs.declared.entry.Entry.{Entry}
use Rattle.aml_objects.specs.declared.entry.NamedObject.{NamedObject}
use Rattle.aml_objects.specs.declared.entry.NamedObject.TheVariants as object
use Rattle.aml_namespace.specs.Namespace.{Map}
use Rattle.aml_world.specs.state.State.{State}

abbrev pub is_method : NamedObject → Bool
is_method (object.Method m) = true
is_method _ = false

-- whether a name stands there, and that of no control method
abbrev pub is_open : Option Entry → Bool
is_open None = false
is_open (Some e) = not (is_method e.object)

-- a path is outside of control methods: at each path above it stands a name, and that of no control method
pub record OutsideIn (names : Map) (p : List Seg) : Type 0 where
  pub above : (q : List Seg) → is_below q p ≡ true → is_open (get names q) ≡ true

abbrev pub Outside : {S : Type 0} → State S → List Seg → Type 0
Outside w p = OutsideIn w.names.map p

-- the number of the declaration that stands at a path
abbrev pub number_in : Map → List Seg → Option ℕ
number_in names p = option_map (λ e. e.number) (get names p)

abbrev pub number_at : {S : Type 0} → State S → List Seg → Option ℕ
number_at w p = number_in w.names.map p

-- a name stands at a path
abbrev pub Stands : {S : Type 0} → State S → List Seg → Type 0
Stands w p = contains_key w.names.map p ≡ true
