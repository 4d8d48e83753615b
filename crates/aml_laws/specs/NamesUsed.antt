-- Names where values stand, and what names hold as operands of operators (ACPI 6.5, 19.3.5 and 20.2.5.4).
use Rattle.std.specs.Prelude.{◌≡◌, ◌<◌, ℕ, List, ◌∷◌, slice_get, Some, Ok}
use Rattle.ar_space.specs.Accesses.{Accesses}
use Rattle.aml_path.specs.declared.segment.Seg.{Seg}
use Rattle.aml_path.specs.Paths.{Name}
use Rattle.aml_grammar.specs.declared.opcode.TermCode.TheVariants as codes
use Rattle.aml_grammar.specs.Tree.{Tree, term, name, list, no_parts, part, no_trees, tree}
use Rattle.aml_objects.specs.Methods.{arguments_taken}
use Rattle.aml_objects.specs.declared.entry.Entry.{Entry}
use Rattle.aml_objects.specs.declared.entry.MethodBody.TheVariants.{Osi}
use Rattle.aml_objects.specs.declared.entry.MethodFlags.{MethodFlags}
use Rattle.aml_objects.specs.declared.entry.NamedObject.TheVariants as named
use Rattle.aml_objects.specs.declared.object.Object.TheVariants as object
use Rattle.aml_objects.specs.declared.value.Reference.{Reference}
use Rattle.aml_objects.specs.declared.value.Reference.TheVariants as reference
use Rattle.aml_objects.specs.declared.value.Value.{Value}
use Rattle.aml_objects.specs.declared.value.Value.TheVariants as value
use Rattle.aml_namespace.specs.Search.{found}
use Rattle.aml_world.specs.state.State.{State}
use Rattle.aml_laws.specs.OperatorTerms.{GivesValue}

-- a name without arguments
abbrev pub use_of : Name → Tree
use_of n = term codes.MethodInvocation (part (name n) (part (list no_trees) no_parts))

-- what a name gives that holds a value, by the number of its declaration: the value itself, which shares its object, and of a reference
-- one to the name
pub data IsGivenBy (number : ℕ) : Value → Value → Type 0 where
  an_integer : (n : ℕ) → IsGivenBy number (value.Integer n) (value.Integer n)
  a_string : (o : ℕ) → IsGivenBy number (value.String o) (value.String o)
  a_buffer : (o : ℕ) → IsGivenBy number (value.Buffer o) (value.Buffer o)
  a_package : (o : ℕ) → IsGivenBy number (value.Package o) (value.Package o)
  another : (r : Reference) → IsGivenBy number (value.Reference r) (value.Reference (reference.Name number))

-- ---- \_OSI

-- a name with one argument
abbrev pub call_of_one : Name → Tree → Tree
call_of_one n x = term codes.MethodInvocation (part (name n) (part (list (tree x no_trees)) no_parts))

-- a text is one of these
pub data IsAmong (text : List ℕ) : List (List ℕ) → Type 0 where
  first : (others : List (List ℕ)) → IsAmong text (text ∷ others)
  later : (other : List ℕ) (others : List (List ℕ)) → IsAmong text others → IsAmong text (other ∷ others)

-- the declaration of the predefined control method, which takes one argument
abbrev pub osi_entry : ℕ → MethodFlags → Entry
osi_entry number flags = record { number = number; object = named.Method (record { flags = flags; body = Osi }) }

-- a name finds it
pub record FindsOsi {S : Type 0} (w : State S) (scope : List Seg) (n : Name) : Type 0 where
  pub path : List Seg
  pub number : ℕ
  pub flags : MethodFlags
  pub takes_one : arguments_taken flags ≡ 1
  pub finds : found w.names.map scope n ≡ Ok (path, osi_entry number flags)

-- it is asked of a string by a name, where one more call may be made
pub record AsksOsi {S : Type 0} (accesses : Accesses S) (scope : List Seg) (depth : ℕ) (n : Name) (x : Tree) (s : State S × ℕ) (text : List ℕ) (after : State S × ℕ) : Type 0 where
  pub osi : FindsOsi s.0 scope n
  pub o : ℕ
  pub gives : GivesValue accesses scope depth x s (value.String o) after
  pub holds : slice_get after.0.objects o ≡ Some (object.String text)
  pub below_32 : depth < 32
  pub allowed : depth < after.0.nesting.calls

-- or of any value
pub record AsksOsiOf {S : Type 0} (accesses : Accesses S) (scope : List Seg) (depth : ℕ) (n : Name) (x : Tree) (s : State S × ℕ) (v : Value) (after : State S × ℕ) : Type 0 where
  pub osi : FindsOsi s.0 scope n
  pub gives : GivesValue accesses scope depth x s v after
  pub below_32 : depth < 32
  pub allowed : depth < after.0.nesting.calls
