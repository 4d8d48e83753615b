-- Names where values stand, and the arguments of calls (ACPI 6.5, 5.5.2 and 20.2.5: MethodInvocation).
use Rattle.std.specs.Prelude.{ℕ, List, [], ◌∷◌, ◌++◌}
use Rattle.ar_space.specs.Accesses.{Accesses}
use Rattle.ar_space.specs.Change.{give, settle, ◌>>=◌}
use Rattle.aml_path.specs.declared.segment.Seg.{Seg}
use Rattle.aml_grammar.specs.Tree.{Tree, Trees, no_trees, tree}
use Rattle.aml_grammar.specs.Apart.{operand_of, name_of}
use Rattle.aml_objects.specs.declared.value.Value.{Value}
use Rattle.aml_objects.specs.declared.entry.Field.{Field}
use Rattle.aml_world.specs.declared.state.invocation.Invocation.{Invocation}
use Rattle.aml_world.specs.declared.state.invocation.Invocation.TheVariants as invocation
use Rattle.aml_world.specs.state.Run.{Run, lift}
use Rattle.aml_world.specs.state.Invocations.{invocation_found, call_allowed}
use Rattle.aml_world.specs.state.Osi.{osi_answered}
use Rattle.aml_meaning.specs.declared.flow.Flow.{Flow}
use Rattle.aml_meaning.specs.declared.flow.Flow.TheVariants as flow
use Rattle.aml_meaning.specs.Terms.{list_of, count_of}
use Rattle.aml_meaning.specs.Tasks.{Task, operand_value}
use Rattle.aml_meaning.specs.Calls.{invoked}
use Rattle.aml_meaning.specs.FieldCalls.{field_read}

module _ {S : Type 0} (ev : Task → Run S Flow) where
  -- arguments behind those that are done
  unfoldable pub arguments_in_turn : List Seg → ℕ → Trees → List Value → Run S (List Value)
  arguments_in_turn scope depth no_trees done = give done
  arguments_in_turn scope depth (tree t ts) done = do
    v ← operand_value ev scope depth t
    arguments_in_turn scope depth ts (done ++ v ∷ [])

  unfoldable pub call_rule : List Seg → ℕ → Trees → List Seg → List ℕ → Run S Flow
  call_rule scope depth ts p body = do
    arguments ← arguments_in_turn scope depth ts []
    invoked ev depth p body arguments

  -- \_OSI: its arguments, whether one more call may be made, and its answer; it has no frame
  unfoldable pub osi_rule : List Seg → ℕ → Trees → Run S Flow
  osi_rule scope depth ts = do
    arguments ← arguments_in_turn scope depth ts []
    few ← lift (call_allowed depth)
    v ← lift (osi_answered arguments)
    give (flow.Value v)

module _ {S : Type 0} (accesses : Accesses S) (ev : Task → Run S Flow) where
  unfoldable pub field_rule : ℕ → Field → Run S Flow
  field_rule depth f = do
    v ← field_read accesses ev depth f
    give (flow.Value v)

  abbrev pub invocation_rule : List Seg → ℕ → Trees → Invocation → Run S Flow
  invocation_rule scope depth ts (invocation.Value v) = give (flow.Value v)
  invocation_rule scope depth ts (invocation.Field f) = field_rule depth f
  invocation_rule scope depth ts (invocation.Method p body) = call_rule ev scope depth ts p body
  invocation_rule scope depth ts invocation.Osi = osi_rule ev scope depth ts

  unfoldable pub name_value : List Seg → ℕ → Tree → Run S Flow
  name_value scope depth t = do
    n ← settle (name_of (operand_of t 0))
    ts ← settle (list_of (operand_of t 1))
    i ← lift (invocation_found scope n (count_of ts))
    invocation_rule scope depth ts i
