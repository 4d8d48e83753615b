-- What names find, and what values are, in a world.
use Rattle.std.specs.Prelude.{ℕ, ◌==◌, List, Bool, true, false, Ok, Err, if◌then◌else◌}
use Rattle.ar_space.specs.declared.refusal.Refusal.TheVariants as refusal
use Rattle.ar_space.specs.declared.refusal.EvaluationFault.TheVariants.{ArityChanged}
use Rattle.ar_space.specs.declared.refusal.ValueFault.TheVariants.{WrongType}
use Rattle.ar_space.specs.Outcome.{Outcome, seen}
use Rattle.ar_space.specs.Change.{Change, give, settle, ◌>>=◌}
use Rattle.aml_path.specs.declared.segment.Seg.{Seg}
use Rattle.aml_path.specs.declared.name.Prefix.TheVariants.{Root}
use Rattle.aml_path.specs.Paths.{Name}
use Rattle.aml_objects.specs.Contents.{content_in}
use Rattle.aml_objects.specs.declared.value.Value.{Value}
use Rattle.aml_objects.specs.declared.value.Value.TheVariants as value
use Rattle.aml_objects.specs.declared.value.Reference.TheVariants as reference
use Rattle.aml_objects.specs.declared.entry.Entry.{Entry}
use Rattle.aml_objects.specs.Methods.{arguments_taken}
use Rattle.aml_objects.specs.declared.entry.NamedObject.{NamedObject}
use Rattle.aml_objects.specs.declared.entry.NamedObject.TheVariants as object
use Rattle.aml_convert.specs.Conversions.{to_integer_of}
use Rattle.aml_convert.specs.Integers.{truncated}
use Rattle.aml_namespace.specs.Search.{found}
use Rattle.aml_world.specs.state.State.{State}

-- ---- values

-- a number as an integer keeps it
unfoldable pub integer_kept : {S : Type 0} → ℕ → Change (State S) Value
integer_kept n w = (Ok (value.Integer (truncated w.width n)), w)

-- a value where an integer is wanted
unfoldable pub integer_in : {S : Type 0} → Value → Change (State S) ℕ
integer_in v w = (to_integer_of w.width (content_in w.objects v), w)

-- a name is read as the value that it holds; where that is a reference, as a reference to the name
abbrev pub read_as : ℕ → Value → Value
read_as n value.Uninitialized = value.Uninitialized
read_as n (value.Integer x) = value.Integer x
read_as n (value.String o) = value.String o
read_as n (value.Buffer o) = value.Buffer o
read_as n (value.Package o) = value.Package o
read_as n (value.Reference r) = value.Reference (reference.Name n)

-- ---- names

-- what a name finds from a scope
unfoldable pub entry_found : {S : Type 0} → List Seg → Name → Change (State S) Entry
entry_found scope n w = (seen (λ f. f.1) (found w.names.map scope n), w)

-- the path of what a name finds
unfoldable pub path_found : {S : Type 0} → List Seg → Name → Change (State S) (List Seg)
path_found scope n w = (seen (λ f. f.0) (found w.names.map scope n), w)

-- a path, as a name that stands for it anywhere
abbrev pub absolute : List Seg → Name
absolute p = record { prefix = Root; segments = p }

-- whether names may be declared in what stands there by a Scope term
abbrev pub is_scope : NamedObject → Bool
is_scope object.Scope = true
is_scope object.Device = true
is_scope object.Processor = true
is_scope object.PowerResource = true
is_scope object.ThermalZone = true
is_scope _ = false

abbrev pub scope_or_not : NamedObject → Outcome (Unit {0})
scope_or_not o = if is_scope o then Ok tt else Err (refusal.Value WrongType)

-- the path of the scope that a name finds (DefScope, 19.6)
unfoldable pub scope_found : {S : Type 0} → List Seg → Name → Change (State S) (List Seg)
scope_found scope n = do
  e ← entry_found scope n
  is ← settle (scope_or_not e.object)
  path_found scope n

-- how many arguments it takes to evaluate an object
abbrev pub arguments_of : NamedObject → ℕ
arguments_of (object.Method m) = arguments_taken m.flags
arguments_of _ = 0

-- it must be so many
abbrev pub as_many : ℕ → ℕ → Outcome (Unit {0})
as_many wanted count = if wanted == count then Ok tt else Err (refusal.Evaluation ArityChanged)

-- how many arguments it takes to evaluate what a name finds
unfoldable pub arguments_found : {S : Type 0} → List Seg → Name → Change (State S) ℕ
arguments_found scope n = do
  e ← entry_found scope n
  give (arguments_of e.object)
