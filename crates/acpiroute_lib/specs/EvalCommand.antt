-- What `eval` answers.
use Rattle.std.specs.Prelude.{ℕ, List, ◌++◌, map, Ok, codes}
use Rattle.ar_space.specs.Outcome.{Outcome, ◌>>=◌}
use Rattle.aml_path.specs.declared.segment.Seg.{Seg}
use Rattle.aml_path.specs.Text.{path_of_text}
use Rattle.aml_world.specs.state.Given as given
use Rattle.acpi_machine.specs.Calls.{evaluated_object}
use Rattle.acpi_machine.specs.MachineStates.{MachineState}
use Rattle.ar_tables.specs.declared.mode.Mode.{Mode}
use Rattle.acpiroute_shell.specs.declared.arguments.Argument.{Argument}
use Rattle.acpiroute_shell.specs.declared.arguments.Argument.TheVariants as argument
use Rattle.acpiroute_shell.specs.declared.request.Evaluation.{Evaluation}
use Rattle.acpiroute_shell.specs.declared.completion.Completion.TheVariants.{Done}
use Rattle.acpiroute_lib.specs.Machines.{Registers, register_accesses, machine_of_text_in}
use Rattle.acpiroute_lib.specs.ValueText.{value_text}
use Rattle.acpiroute_shell.specs.Written.{Written}

-- an argument of the command line as a value for the interpreter
abbrev pub given_argument : Argument → given.Given
given_argument (argument.Integer n) = given.Integer n
given_argument (argument.Text bytes) = given.Text bytes
given_argument (argument.Bytes bytes) = given.Bytes bytes

-- what the object at a path of a machine answers to arguments
unfoldable pub value_at : MachineState Registers → List Seg → List given.Given → Outcome given.Given
value_at m path arguments = (evaluated_object register_accesses path arguments m).0

-- a value on a line of its own
abbrev pub value_written : given.Given → Written
value_written value = record { text = value_text value ++ codes "\n"; completion = Done }

-- the value of the object whose path this text is, where these are the arguments
unfoldable pub evaluated_text : MachineState Registers → List ℕ → List Argument → Outcome Written
evaluated_text m path arguments = do
  p ← path_of_text path
  value ← value_at m p (map given_argument arguments)
  Ok (value_written value)

-- what `eval` answers over a machine text, in this mode, its AML evaluated like this: the text of the path is looked at once
-- the machine is initialized
unfoldable pub eval_answer : Mode → Evaluation → List ℕ → List Argument → List ℕ → Outcome Written
eval_answer mode evaluation path arguments text = do
  m ← machine_of_text_in mode evaluation text
  evaluated_text m path arguments
