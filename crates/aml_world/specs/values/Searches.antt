-- The search of Match, and whether what is found meets its tests (ACPI 6.5, 19.6). A name that is an element is searched for at each use.
use Rattle.std.specs.Prelude.{ℕ, ◌-◌, Bool, true, false, List, Option, Some, None, Ok, Err, nat_lt, if◌then◌else◌}
use Rattle.ar_space.specs.declared.refusal.Refusal.TheVariants as refusal
use Rattle.ar_space.specs.declared.refusal.EvaluationFault.TheVariants.{IndexLimit}
use Rattle.ar_space.specs.declared.refusal.NamespaceFault.TheVariants.{NotFound}
use Rattle.ar_space.specs.declared.refusal.ValueFault.TheVariants.{WrongType}
use Rattle.ar_space.specs.Outcome.{Outcome, seen}
use Rattle.ar_space.specs.Change.{Change, give, settle, ◌>>=◌}
use Rattle.aml_path.specs.declared.segment.Seg.{Seg}
use Rattle.aml_path.specs.Paths.{Name}
use Rattle.aml_objects.specs.Contents.{content_in}
use Rattle.aml_objects.specs.declared.value.Value.{Value}
use Rattle.aml_objects.specs.declared.value.Value.TheVariants as value
use Rattle.aml_objects.specs.declared.object.Element.{Element}
use Rattle.aml_objects.specs.declared.object.Element.TheVariants as element
use Rattle.aml_objects.specs.declared.entry.Entry.{Entry}
use Rattle.aml_objects.specs.Objects.{element_at}
use Rattle.aml_namespace.specs.Search.{found}
use Rattle.aml_convert.specs.declared.matching.MatchOperator.{MatchOperator}
use Rattle.aml_convert.specs.Matching.{match_operator, is_match}
use Rattle.aml_world.specs.declared.values.searches.MatchTest.{MatchTest}
use Rattle.aml_world.specs.declared.values.searches.Search.{Search}
use Rattle.aml_world.specs.declared.values.searches.Searching.{Searching}
use Rattle.aml_world.specs.declared.values.store_target.Held.{Held}
use Rattle.aml_world.specs.declared.values.store_target.Held.TheVariants as held
use Rattle.aml_world.specs.state.State.{State, on_objects}
use Rattle.aml_world.specs.state.Readings.{integer_in}
use Rattle.aml_world.specs.values.StoreTargets.{named_once}
use Rattle.aml_world.specs.values.Operations.{size_held}

-- the package that a value is
abbrev pub package_of : Value → Outcome ℕ
package_of (value.Package o) = Ok o
package_of value.Uninitialized = Err (refusal.Value WrongType)
package_of (value.Integer n) = Err (refusal.Value WrongType)
package_of (value.String o) = Err (refusal.Value WrongType)
package_of (value.Buffer o) = Err (refusal.Value WrongType)
package_of (value.Reference r) = Err (refusal.Value WrongType)

-- what elements are compared with: an integer, a string or a buffer
abbrev pub is_comparable : Value → Bool
is_comparable (value.Integer n) = true
is_comparable (value.String o) = true
is_comparable (value.Buffer o) = true
is_comparable value.Uninitialized = false
is_comparable (value.Package o) = false
is_comparable (value.Reference r) = false

-- a test by the byte of its operator and its object
abbrev pub test_with : Option MatchOperator → Value → Outcome MatchTest
test_with None v = Err (refusal.Value WrongType)
test_with (Some operator) v = if is_comparable v then Ok (record { operator = operator; object = v }) else Err (refusal.Value WrongType)

abbrev pub test_of : ℕ → Value → Outcome MatchTest
test_of n v = test_with (match_operator n) v

-- a search that begins at an index
abbrev pub searching_from : Search → ℕ → Outcome Searching
searching_from x i = if nat_lt i x.count then Ok (record { search = x; left = x.count - i }) else Err (refusal.Evaluation IndexLimit)

-- the search that Match makes, by the values of its operands and the bytes of its operators, in the order in which they stand
unfoldable pub search_begun : {S : Type 0} → Value → ℕ → Value → ℕ → Value → Value → Change (State S) Searching
search_begun p k a l b start = do
  o ← settle (package_of p)
  x ← settle (test_of k a)
  y ← settle (test_of l b)
  i ← integer_in start
  n ← size_held (value.Package o)
  settle (searching_from (record { source = o; count = n; first = x; second = y }) i)

-- what an element that is a value holds, and one that is a name: nothing where the name isn't found
abbrev pub unless_uninitialized : Value → Option Held
unless_uninitialized value.Uninitialized = None
unless_uninitialized (value.Integer n) = Some (held.Value (value.Integer n))
unless_uninitialized (value.String o) = Some (held.Value (value.String o))
unless_uninitialized (value.Buffer o) = Some (held.Value (value.Buffer o))
unless_uninitialized (value.Package o) = Some (held.Value (value.Package o))
unless_uninitialized (value.Reference r) = Some (held.Value (value.Reference r))

abbrev pub where_named : Outcome Entry → Outcome (Option Held)
where_named (Ok e) = Ok (Some (named_once e.number e.object))
where_named (Err (refusal.Namespace NotFound)) = Ok None
where_named (Err e) = Err e

unfoldable pub name_held : {S : Type 0} → Name → List Seg → Change (State S) (Option Held)
name_held n scope w = (where_named (seen (λ f. f.1) (found w.names.map scope n)), w)

abbrev pub held_by : {S : Type 0} → Element → Change (State S) (Option Held)
held_by (element.Value v) = give (unless_uninitialized v)
held_by (element.Name n scope) = name_held n scope

unfoldable pub element_held : {S : Type 0} → ℕ → ℕ → Change (State S) (Option Held)
element_held o i = do
  e ← on_objects (element_at o i)
  held_by e

-- whether a value meets both tests: what is uninitialized meets none
unfoldable pub meets : {S : Type 0} → Search → Value → Change (State S) Bool
meets x v w = (
  Ok (if is_match w.width x.first.operator (content_in w.objects x.first.object) (content_in w.objects v)
      then is_match w.width x.second.operator (content_in w.objects x.second.object) (content_in w.objects v)
      else false),
  w,
)

abbrev pub value_meets : {S : Type 0} → Search → Value → Change (State S) Bool
value_meets x value.Uninitialized = give false
value_meets x (value.Integer n) = meets x (value.Integer n)
value_meets x (value.String o) = meets x (value.String o)
value_meets x (value.Buffer o) = meets x (value.Buffer o)
value_meets x (value.Package o) = meets x (value.Package o)
value_meets x (value.Reference r) = meets x (value.Reference r)
