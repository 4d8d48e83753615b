-- A Match term over a package (ACPI 6.5, 19.6: Match).
use Rattle.std.specs.Prelude.{◌≡◌, ◌<◌, ◌≤◌, ℕ, List, slice_get, Some, Ok, Err, ⊤}
use Rattle.ar_space.specs.Accesses.{Accesses}
use Rattle.ar_space.specs.declared.refusal.Refusal.TheVariants as refusal
use Rattle.ar_space.specs.declared.refusal.NamespaceFault.TheVariants.{NotFound}
use Rattle.aml_path.specs.declared.segment.Seg.{Seg}
use Rattle.aml_path.specs.Paths.{Name}
use Rattle.aml_grammar.specs.declared.opcode.Opcode.TheVariants as opcodes
use Rattle.aml_grammar.specs.Tree.{Tree, inner, number, no_parts, part}
use Rattle.aml_objects.specs.declared.object.Element.{Element}
use Rattle.aml_objects.specs.declared.object.Element.TheVariants as element
use Rattle.aml_objects.specs.declared.object.Object.TheVariants as object
use Rattle.aml_objects.specs.declared.value.Value.{Value}
use Rattle.aml_objects.specs.declared.value.Value.TheVariants as value
use Rattle.aml_namespace.specs.Search.{found}
use Rattle.aml_convert.specs.declared.matching.MatchOperator.{MatchOperator}
use Rattle.aml_convert.specs.declared.matching.MatchOperator.TheVariants as operators
use Rattle.aml_world.specs.declared.state.profile.Profile.TheVariants as profiles
use Rattle.aml_world.specs.state.State.{State}
use Rattle.aml_world.specs.state.Readings.{integer_in}
use Rattle.aml_laws.specs.OperatorTerms.{of_opcode, GivesValue}
use Rattle.aml_laws.specs.StoredNames.{data_entry}

-- the package, the two tests, each the number of an operator and an object, and the index where the search begins
abbrev pub match : Tree → ℕ → Tree → ℕ → Tree → Tree → Tree
match p k x l y i = of_opcode opcodes.Match (part (inner p) (part (number k) (part (inner x) (part (number l) (part (inner y) (part (inner i) no_parts))))))

-- the numbers of the operators MTR, MEQ, MLE, MLT, MGE and MGT
pub data IsNumberOf : ℕ → MatchOperator → Type 0 where
  mtr : IsNumberOf 0 operators.Always
  meq : IsNumberOf 1 operators.Equal
  mle : IsNumberOf 2 operators.LessOrEqual
  mlt : IsNumberOf 3 operators.Less
  mge : IsNumberOf 4 operators.GreaterOrEqual
  mgt : IsNumberOf 5 operators.Greater

-- what an element has to be to an object
abbrev pub IsMet : MatchOperator → ℕ → ℕ → Type 0
IsMet operators.Always element object = ⊤
IsMet operators.Equal element object = element ≡ object
IsMet operators.LessOrEqual element object = element ≤ object
IsMet operators.Less element object = element < object
IsMet operators.GreaterOrEqual element object = object ≤ element
IsMet operators.Greater element object = object < element

-- ---- elements

-- an element holds an integer: it is one, or a name that is declared as one, which is searched for from the scope
-- that stands beside it
pub data HoldsInteger {S : Type 0} (w : State S) : Element → ℕ → Type 0 where
  an_integer : (n : ℕ) → HoldsInteger w (element.Value (value.Integer n)) n
  a_name : (name : Name) (home path : List Seg) (number n : ℕ) → found w.names.map home name ≡ Ok (path, data_entry number (value.Integer n)) → HoldsInteger w (element.Name name home) n

-- an element holds nothing: it is uninitialized, or a name that isn't found, or one that is declared without a value
pub data HoldsNone {S : Type 0} (w : State S) : Element → Type 0 where
  uninitialized : HoldsNone w (element.Value value.Uninitialized)
  unfound : (name : Name) (home : List Seg) → found w.names.map home name ≡ Err (refusal.Namespace NotFound) → HoldsNone w (element.Name name home)
  without_value : (name : Name) (home path : List Seg) (number : ℕ) → found w.names.map home name ≡ Ok (path, data_entry number value.Uninitialized) → HoldsNone w (element.Name name home)

-- an element holds an integer or nothing
pub data IsLookedAt {S : Type 0} (w : State S) (e : Element) : Type 0 where
  with_integer : (n : ℕ) → HoldsInteger w e n → IsLookedAt w e
  with_none : HoldsNone w e → IsLookedAt w e

-- ---- operands

-- The operands give, one behind another, a value for the package, one for each test, and one for the index, in the
-- wide profile.
pub record GivesOperands {S : Type 0} (accesses : Accesses S) (scope : List Seg) (depth : ℕ) (p x y i : Tree) (s : State S × ℕ) (c u v t : Value) (after : State S × ℕ) : Type 0 where
  pub wide : s.0.profile ≡ profiles.Wide
  pub behind_package : State S × ℕ
  pub behind_first : State S × ℕ
  pub behind_second : State S × ℕ
  pub gives_package : GivesValue accesses scope depth p s c behind_package
  pub gives_first : GivesValue accesses scope depth x behind_package u behind_first
  pub gives_second : GivesValue accesses scope depth y behind_first v behind_second
  pub gives_start : GivesValue accesses scope depth i behind_second t after

-- They give a package of these elements, each with an integer or with nothing, an integer for each test, and a value
-- that converts to the index.
pub record Matches {S : Type 0} (accesses : Accesses S) (scope : List Seg) (depth : ℕ) (p x y i : Tree) (s : State S × ℕ) (es : List Element) (a b start : ℕ) (after : State S × ℕ) : Type 0 where
  pub source : ℕ
  pub v : Value
  pub operands : GivesOperands accesses scope depth p x y i s (value.Package source) (value.Integer a) (value.Integer b) v after
  pub converts : integer_in v after.0 ≡ (Ok start, after.0)
  pub holds : slice_get after.0.objects source ≡ Some (object.Package es)
  pub looked_at : (q : ℕ) (e : Element) → slice_get es q ≡ Some e → IsLookedAt after.0 e

-- the element at an index holds an integer that meets both tests
pub record MeetsBoth {S : Type 0} (w : State S) (k l : MatchOperator) (es : List Element) (a b i : ℕ) : Type 0 where
  pub e : Element
  pub n : ℕ
  pub stands : slice_get es i ≡ Some e
  pub holds : HoldsInteger w e n
  pub first : IsMet k n a
  pub second : IsMet l n b

-- a value that is no package
abbrev pub IsNoPackage : Value → Type 0
IsNoPackage v = (o : ℕ) → v ≡ value.Package o → ⊥
