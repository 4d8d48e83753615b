-- Calls of control methods (ACPI 6.5, 5.5.2).
use Rattle.std.specs.Prelude.{ℕ, ◌+◌, List, [], ◌∷◌, slice_index_or}
use Rattle.ar_space.specs.Outcome.{seen}
use Rattle.ar_space.specs.Change.{give, ◌>>=◌}
use Rattle.aml_path.specs.declared.segment.Seg.{Seg}
use Rattle.aml_objects.specs.declared.value.Value.{Value}
use Rattle.aml_objects.specs.declared.value.Value.TheVariants as value
use Rattle.aml_world.specs.state.Run.{Run, lift}
use Rattle.aml_world.specs.state.Slots.{opened}
use Rattle.aml_world.specs.state.Invocations.{left, call_allowed, body_terms}
use Rattle.aml_meaning.specs.declared.flow.Flow.{Flow}
use Rattle.aml_meaning.specs.declared.flow.Flow.TheVariants as flow
use Rattle.aml_meaning.specs.Tasks.{Task, in_turn}

-- the value of a call
abbrev pub returned_by : Flow → Flow
returned_by (flow.Return v) = flow.Value v
returned_by (flow.Value v) = flow.Next
returned_by flow.Next = flow.Next
returned_by flow.Break = flow.Next
returned_by flow.Continue = flow.Next

unfoldable pub leaving : {S : Type 0} → List Seg → Run S Flow → Run S Flow
leaving p m s = (seen returned_by (m s).0, (left p (m s).1.0, (m s).1.1))

-- the slots of a frame for these arguments
abbrev pub frame_arguments : List Value → List Value
frame_arguments vs = slice_index_or vs 0 value.Uninitialized ∷ slice_index_or vs 1 value.Uninitialized ∷ slice_index_or vs 2 value.Uninitialized ∷ slice_index_or vs 3 value.Uninitialized
    ∷ slice_index_or vs 4 value.Uninitialized ∷ slice_index_or vs 5 value.Uninitialized ∷ slice_index_or vs 6 value.Uninitialized ∷ []

-- what a call leaves, as a value
abbrev pub value_of_call : Flow → Value
value_of_call (flow.Value v) = v
value_of_call flow.Next = value.Uninitialized
value_of_call flow.Break = value.Uninitialized
value_of_call flow.Continue = value.Uninitialized
value_of_call (flow.Return v) = value.Uninitialized

module _ {S : Type 0} (ev : Task → Run S Flow) where
  unfoldable pub invoked : ℕ → List Seg → List ℕ → List Value → Run S Flow
  invoked depth p body arguments = do
    few ← lift (call_allowed depth)
    ts ← lift (body_terms p body)
    number ← lift (opened (frame_arguments arguments))
    leaving p (in_turn ev p (depth + 1) ts)

  -- the value of a call; one that gives none is uninitialized
  unfoldable pub method_value : ℕ → List Seg → List ℕ → List Value → Run S Value
  method_value depth p body arguments = do
    f ← invoked depth p body arguments
    give (value_of_call f)
