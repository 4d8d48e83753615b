-- What is passed over in the runs of commands, which they tell.
use Rattle.std.specs.Prelude.{ℕ, Bool, true, false, List, [], Ok, Err}
use Rattle.ar_space.specs.Outcome.{Outcome}
use Rattle.ar_tables.specs.declared.mode.Mode.{Mode}
use Rattle.ar_tables.specs.declared.tables.Tables.{Tables}
use Rattle.ar_tables.specs.FindTables.{tables_of}
use Rattle.machine_text.specs.MachineText.{machine_text}
use Rattle.machine_text.specs.declared.machine_lines.MachineText.{MachineText}
use Rattle.aml_world.specs.state.PassedOver.{PassedOver, nothing_passed}
use Rattle.aml_world.specs.state.Predefined.{fresh_as}
use Rattle.acpi_machine.specs.Calls.{initialized}
use Rattle.acpi_machine.specs.Loading.{loaded_tables}
use Rattle.acpi_machine.specs.MachineStates.{MachineState}
use Rattle.acpiroute_shell.specs.declared.request.Evaluation.{Evaluation}
use Rattle.acpiroute_shell.specs.declared.request.Request.{Request}
use Rattle.acpiroute_shell.specs.declared.request.Request.TheVariants as request
use Rattle.acpiroute_shell.specs.Input.{input_of}
use Rattle.acpiroute_shell.specs.PassedLines.{passed_lines}
use Rattle.acpiroute_lib.specs.Machines.{Registers, register_accesses, registers_of, machine_of_text}

-- ---- in loading: nothing, where the text or its tables are refused

abbrev pub tables_passed : Evaluation → Tables → Registers → List (List ℕ) → PassedOver
tables_passed evaluation t space osi = (loaded_tables register_accesses t evaluation.steps osi (fresh_as evaluation.settings t.width osi space)).1.passed

abbrev pub found_passed : Evaluation → Outcome Tables → Registers → List (List ℕ) → PassedOver
found_passed evaluation (Ok t) space osi = tables_passed evaluation t space osi
found_passed evaluation (Err e) space osi = nothing_passed

abbrev pub said_passed : Evaluation → Outcome MachineText → PassedOver
said_passed evaluation (Ok m) = found_passed evaluation (tables_of m.space.memory m.rsdp) (registers_of evaluation m.space) m.osi
said_passed evaluation (Err e) = nothing_passed

abbrev pub loading_passed : Evaluation → List ℕ → PassedOver
loading_passed evaluation text = said_passed evaluation (machine_text text)

-- ---- in loading and initializing

abbrev pub machine_passed : Mode → PassedOver → Outcome (MachineState Registers) → PassedOver
machine_passed mode loading (Ok m) = (initialized register_accesses mode m).1.world.passed
machine_passed mode loading (Err e) = loading

abbrev pub run_passed : Mode → Evaluation → List ℕ → PassedOver
run_passed mode evaluation text = machine_passed mode (loading_passed evaluation text) (machine_of_text evaluation text)

-- ---- the lines of a request: `route`, `eval` and `names` tell

abbrev pub request_passed : Request → List ℕ → List ℕ
request_passed (request.Route mode evaluation avoid flags) input = passed_lines (run_passed mode evaluation input)
request_passed (request.Eval mode evaluation path arguments) input = passed_lines (run_passed mode evaluation input)
request_passed (request.Names evaluation) input = passed_lines (loading_passed evaluation input)
request_passed (request.Why asking) input = []
request_passed (request.Registers asking) input = []
request_passed request.Check input = []

abbrev pub input_passed : Request → Outcome (List ℕ) → List ℕ
input_passed q (Ok input) = request_passed q input
input_passed q (Err e) = []

-- over all that was left to the reader; where a read failed, nothing
abbrev pub told_passed : Request → Bool → List ℕ → List ℕ
told_passed q true left = []
told_passed q false left = input_passed q (input_of left)
