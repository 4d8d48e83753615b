-- What `names` answers.
use Rattle.std.specs.Prelude.{ℕ, List, Ok}
use Rattle.ar_space.specs.Outcome.{Outcome, ◌>>=◌}
use Rattle.acpi_machine.specs.Kinds.{kinds_walked}
use Rattle.acpi_machine.specs.MachineStates.{MachineState}
use Rattle.acpiroute_shell.specs.declared.request.Evaluation.{Evaluation}
use Rattle.acpiroute_shell.specs.declared.completion.Completion.TheVariants.{Done}
use Rattle.acpiroute_lib.specs.Machines.{Registers, machine_of_text}
use Rattle.acpiroute_lib.specs.NameLines.{name_lines}
use Rattle.acpiroute_shell.specs.Written.{Written}

-- all names of a machine but the root, in path order
abbrev pub names_of_machine : MachineState Registers → Written
names_of_machine m = record { text = name_lines (kinds_walked m.world.names.map); completion = Done }

-- what `names` answers over a machine text, with its tables evaluated like this: nothing is initialized
unfoldable pub names_answer : Evaluation → List ℕ → Outcome Written
names_answer evaluation text = do
  m ← machine_of_text evaluation text
  Ok (names_of_machine m)
