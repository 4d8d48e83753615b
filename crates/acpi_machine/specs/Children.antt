-- What stands one level below a path, and what it answers (ACPI 6.5, 5.3 and 5.5).
use Rattle.std.specs.Prelude.{List, [], ◌∷◌, ◌++◌, Bool, Option, Some, None, Ok, if◌then◌else◌}
use Rattle.std.specs.Option.{is_some}
use Rattle.ar_space.specs.Accesses.{Accesses}
use Rattle.ar_space.specs.Change.{Change, give, ◌>>=◌}
use Rattle.aml_path.specs.declared.segment.Seg.{Seg}
use Rattle.aml_world.specs.state.Given.{Given}
use Rattle.acpi_machine.specs.Calls.{evaluated_object}
use Rattle.acpi_machine.specs.Kinds.{kind_at}
use Rattle.acpi_machine.specs.MachineStates.{MachineState}

-- whether a name stands at a path
abbrev pub stands : {S : Type 0} → List Seg → MachineState S → Bool
stands p s = is_some (kind_at s.world.names.map p)

-- whether a name stands one level below a path
abbrev pub has_child : {S : Type 0} → List Seg → Seg → MachineState S → Bool
has_child parent name s = stands (parent ++ name ∷ []) s

-- accesses: what the register space makes of them
module _ {S : Type 0} (accesses : Accesses S) where
  -- what the object at a path answers, which has to stand
  unfoldable pub some_answer : List Seg → List Given → Change (MachineState S) (Option Given)
  some_answer p arguments = do
    answer ← evaluated_object accesses p arguments
    give (Some answer)

  -- what the object at a path answers, if a name stands there
  unfoldable pub answer_if_any : List Seg → List Given → Change (MachineState S) (Option Given)
  answer_if_any p arguments s = if stands p s then some_answer p arguments s else (Ok None, s)

  -- what the object of a name one level below a path answers, if it stands there
  abbrev pub child_evaluated : List Seg → Seg → List Given → Change (MachineState S) (Option Given)
  child_evaluated parent name arguments = answer_if_any (parent ++ name ∷ []) arguments
