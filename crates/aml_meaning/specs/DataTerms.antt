-- Data that terms form: integers, strings, buffers and packages (ACPI 6.5, 19.6 and 20.2.3).
use Rattle.std.specs.Prelude.{ℕ, zero, suc, List, [], ◌∷◌, ◌++◌}
use Rattle.ar_space.specs.Change.{give, settle, ◌>>=◌}
use Rattle.aml_path.specs.declared.segment.Seg.{Seg}
use Rattle.aml_grammar.specs.declared.opcode.TermCode.{TermCode}
use Rattle.aml_grammar.specs.declared.opcode.TermCode.TheVariants as codes
use Rattle.aml_grammar.specs.Tree.{Tree, Trees, no_trees, tree}
use Rattle.aml_grammar.specs.Apart.{code_of, operand_of, name_of, bytes_of}
use Rattle.aml_objects.specs.declared.object.Element.{Element}
use Rattle.aml_objects.specs.declared.object.Element.TheVariants as element
use Rattle.aml_objects.specs.Objects.{make_string}
use Rattle.aml_world.specs.state.State.{on_objects}
use Rattle.aml_world.specs.state.Run.{Run, lift, charge}
use Rattle.aml_world.specs.state.Readings.{integer_kept}
use Rattle.aml_world.specs.state.NewObjects.{within, new_buffer, new_package}
use Rattle.aml_meaning.specs.declared.flow.Flow.{Flow}
use Rattle.aml_meaning.specs.declared.flow.Flow.TheVariants as flow
use Rattle.aml_meaning.specs.declared.term_kind.DataKind.{DataKind}
use Rattle.aml_meaning.specs.declared.term_kind.DataKind.TheVariants as kinds
use Rattle.aml_meaning.specs.Terms.{number_of, inner_of, list_of}
use Rattle.aml_meaning.specs.Tasks.{Task, operand_value, operand_integer}

module _ {S : Type 0} (ev : Task → Run S Flow) where
  unfoldable pub constant_rule : ℕ → Run S Flow
  constant_rule n = do
    v ← lift (integer_kept n)
    give (flow.Value v)

  unfoldable pub integer_rule : Tree → Run S Flow
  integer_rule t = do
    n ← settle (number_of (operand_of t 0))
    constant_rule n

  unfoldable pub string_rule : Tree → Run S Flow
  string_rule t = do
    bytes ← settle (bytes_of (operand_of t 0))
    v ← lift (on_objects (make_string bytes))
    give (flow.Value v)

  unfoldable pub buffer_rule : List Seg → ℕ → Tree → Run S Flow
  buffer_rule scope depth t = do
    size ← settle (inner_of (operand_of t 0))
    n ← operand_integer ev scope depth size
    bytes ← settle (bytes_of (operand_of t 1))
    v ← lift (new_buffer n bytes)
    give (flow.Value v)

  -- a name in a package is searched for at each use
  unfoldable pub named_element : List Seg → Tree → Run S Element
  named_element scope t = do
    step ← charge
    n ← settle (name_of (operand_of t 0))
    give (element.Name n scope)

  unfoldable pub valued_element : List Seg → ℕ → Tree → Run S Element
  valued_element scope depth t = do
    v ← operand_value ev scope depth t
    give (element.Value v)

  abbrev pub element_by : TermCode → List Seg → ℕ → Tree → Run S Element
  element_by codes.Name scope depth t = named_element scope t
  element_by (codes.Opcode op) scope depth t = valued_element scope depth t
  element_by codes.MethodInvocation scope depth t = valued_element scope depth t
  element_by codes.NamedField scope depth t = valued_element scope depth t
  element_by codes.ReservedField scope depth t = valued_element scope depth t
  element_by codes.AccessField scope depth t = valued_element scope depth t
  element_by codes.ExtendedAccessField scope depth t = valued_element scope depth t
  element_by codes.ConnectField scope depth t = valued_element scope depth t

  -- elements behind those that are done; at most as many as the package has are evaluated
  unfoldable pub elements_in_turn : List Seg → ℕ → ℕ → Trees → List Element → Run S (List Element)
  elements_in_turn scope depth zero ts done = give done
  elements_in_turn scope depth (suc n) no_trees done = give done
  elements_in_turn scope depth (suc n) (tree t ts) done = do
    e ← element_by (code_of t) scope depth t
    elements_in_turn scope depth n ts (done ++ e ∷ [])

  unfoldable pub package_of : List Seg → ℕ → ℕ → Trees → Run S Flow
  package_of scope depth n ts = do
    elements ← elements_in_turn scope depth n ts []
    v ← lift (new_package n elements)
    give (flow.Value v)

  unfoldable pub package_rule : List Seg → ℕ → Tree → Run S Flow
  package_rule scope depth t = do
    n ← settle (number_of (operand_of t 0))
    ts ← settle (list_of (operand_of t 1))
    package_of scope depth n ts

  unfoldable pub var_package_rule : List Seg → ℕ → Tree → Run S Flow
  var_package_rule scope depth t = do
    size ← settle (inner_of (operand_of t 0))
    n ← operand_integer ev scope depth size
    few ← lift (within 65535 n)
    ts ← settle (list_of (operand_of t 1))
    package_of scope depth n ts

  abbrev pub data_rule : DataKind → List Seg → ℕ → Tree → Run S Flow
  data_rule (kinds.Constant n) scope depth t = constant_rule n
  data_rule kinds.Integer scope depth t = integer_rule t
  data_rule kinds.String scope depth t = string_rule t
  data_rule kinds.Buffer scope depth t = buffer_rule scope depth t
  data_rule kinds.Package scope depth t = package_rule scope depth t
  data_rule kinds.VarPackage scope depth t = var_package_rule scope depth t
