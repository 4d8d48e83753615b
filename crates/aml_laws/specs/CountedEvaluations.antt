-- Loading a table, evaluating an object and answering a caller, with what begins counted: `loaded`, `evaluated` and `answered`, over an
-- evaluation of terms that counts.
use Rattle.std.specs.Prelude.{ℕ, zero, suc, List, [], ◌∷◌, ◌++◌, length, replicate}
use Rattle.ar_space.specs.declared.refusal.Refusal.TheVariants as refusal
use Rattle.ar_space.specs.declared.refusal.EvaluationFault.TheVariants.{ObjectLimit}
use Rattle.ar_space.specs.Accesses.{Accesses}
use Rattle.ar_space.specs.Change.{Change, give, stop, ◌>>=◌}
use Rattle.aml_path.specs.declared.segment.Seg.{Seg}
use Rattle.aml_grammar.specs.Tree.{Trees}
use Rattle.aml_objects.specs.Objects.{elements_at}
use Rattle.aml_objects.specs.declared.object.Element.{Element}
use Rattle.aml_objects.specs.declared.object.Element.TheVariants as element
use Rattle.aml_objects.specs.declared.value.Value.{Value}
use Rattle.aml_objects.specs.declared.value.Value.TheVariants as value
use Rattle.aml_world.specs.declared.state.invocation.Invocation.{Invocation}
use Rattle.aml_world.specs.declared.state.invocation.Invocation.TheVariants as invocation
use Rattle.aml_world.specs.declared.state.name_use.NameUse.{NameUse}
use Rattle.aml_world.specs.declared.state.name_use.NameUse.TheVariants as uses
use Rattle.aml_world.specs.state.Given as given
use Rattle.aml_world.specs.state.State.{State, on_objects}
use Rattle.aml_world.specs.state.Run.{Run, lift, charge}
use Rattle.aml_world.specs.state.Readings.{absolute}
use Rattle.aml_world.specs.state.Invocations.{invocation_found}
use Rattle.aml_world.specs.state.Osi.{osi_answered}
use Rattle.aml_world.specs.fields.Fields.{field_given}
use Rattle.aml_world.specs.state.Importing.{all_imported}
use Rattle.aml_world.specs.state.NameUses.{name_use}
use Rattle.aml_meaning.specs.declared.flow.Flow.{Flow}
use Rattle.aml_meaning.specs.Tasks.{Task, in_turn}
use Rattle.aml_meaning.specs.Calls.{method_value}
use Rattle.aml_meaning.specs.FieldCalls.{called_at, field_read}
use Rattle.aml_meaning.specs.Exporting.{value_exported}
use Rattle.aml_meaning.specs.Calling.{ending, with_steps, in_frame, table_terms, counted}
use Rattle.aml_laws.specs.Counted.{beside_counter}

-- evaluated: what a term evaluates to, counted
module _ {S : Type 0} (accesses : Accesses S) (evaluated : Task → Run (S × ℕ) Flow) where
  -- the terms of a table, evaluated at the root
  unfoldable pub counted_at_root : Trees → Run (S × ℕ) (Unit {0})
  counted_at_root ts = do
    last ← in_turn evaluated [] 0 ts
    give tt

  unfoldable pub counted_table_run : ℕ → List ℕ → Change (State (S × ℕ)) (Unit {0})
  counted_table_run steps bytes = do
    ts ← table_terms bytes
    in_frame (replicate 7 value.Uninitialized) (with_steps steps (counted_at_root ts))

  -- a table, loaded
  unfoldable pub counted_loaded : List ℕ → ℕ → Change (State (S × ℕ)) (Unit {0})
  counted_loaded bytes steps = ending (counted_table_run steps bytes)

  -- the value of what a path names
  abbrev pub counted_value_of : Invocation → List Value → Run (S × ℕ) Value
  counted_value_of (invocation.Value v) arguments = give v
  counted_value_of (invocation.Field f) arguments = field_read (beside_counter accesses) evaluated 1 f
  counted_value_of (invocation.Method p body) arguments = method_value evaluated 0 p body arguments
  counted_value_of invocation.Osi arguments = lift (osi_answered arguments)

  -- the value of the object at a path, with these arguments
  unfoldable pub counted_called : List Seg → List Value → Run (S × ℕ) Value
  counted_called p arguments = do
    i ← lift (invocation_found [] (absolute p) (length arguments))
    counted_value_of i arguments

  -- that value, and the steps that are left
  unfoldable pub counted_evaluated : List Seg → List Value → ℕ → Change (State (S × ℕ)) (Value × ℕ)
  counted_evaluated p arguments steps = counted steps (counted_called p arguments)

  -- how the elements of a package are handed out; each costs a step, and is not counted
  module _ (package_exported : ℕ → Run (S × ℕ) given.Given) where
    unfoldable pub counted_use_exported : NameUse → Run (S × ℕ) given.Given
    counted_use_exported (uses.Value v) = value_exported (beside_counter accesses) package_exported v
    counted_use_exported (uses.Field f) = field_given (beside_counter accesses) (called_at (beside_counter accesses) evaluated 1) f
    counted_use_exported (uses.Path p) = give (given.Named p)

    unfoldable pub counted_held_exported : Element → Run (S × ℕ) given.Given
    counted_held_exported (element.Value v) = value_exported (beside_counter accesses) package_exported v
    counted_held_exported (element.Name n scope) = do
      u ← lift (name_use n scope)
      counted_use_exported u

    unfoldable pub counted_element_exported : Element → Run (S × ℕ) given.Given
    counted_element_exported e = do
      step ← charge
      counted_held_exported e

    unfoldable pub counted_each_exported : List Element → List given.Given → Run (S × ℕ) (List given.Given)
    counted_each_exported [] done = give done
    counted_each_exported (e ∷ es) done = do
      g ← counted_element_exported e
      counted_each_exported es (done ++ g ∷ [])

    unfoldable pub counted_elements_exported : ℕ → Run (S × ℕ) given.Given
    counted_elements_exported o = do
      es ← lift (on_objects (elements_at o))
      gs ← counted_each_exported es []
      give (given.Package (given.givens gs))

  unfoldable pub counted_package_exported : ℕ → ℕ → Run (S × ℕ) given.Given
  counted_package_exported zero o = stop (refusal.Evaluation ObjectLimit)
  counted_package_exported (suc n) o = counted_elements_exported (counted_package_exported n) o

  abbrev pub counted_invocation_exported : Invocation → List Value → Run (S × ℕ) given.Given
  counted_invocation_exported (invocation.Field f) arguments = field_given (beside_counter accesses) (called_at (beside_counter accesses) evaluated 1) f
  counted_invocation_exported i arguments = do
    v ← counted_value_of i arguments
    value_exported (beside_counter accesses) (counted_package_exported 64) v

  unfoldable pub counted_answer_exported : List Seg → ℕ → List given.Given → Run (S × ℕ) given.Given
  counted_answer_exported p count arguments = do
    i ← lift (invocation_found [] (absolute p) count)
    vs ← lift (all_imported arguments [])
    counted_invocation_exported i vs

  -- what the object at a path answers
  unfoldable pub counted_answered : List Seg → List given.Given → ℕ → Change (State (S × ℕ)) given.Given
  counted_answered p arguments steps = ending (with_steps steps (counted_answer_exported p (length arguments) arguments))
