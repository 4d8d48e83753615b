-- The machine of a machine text, by what its tables, loading and initializing come to.
use Rattle.std.specs.Prelude.{◌≡◌, ℕ, List, Ok, Err, map, refl}
use Rattle.std.proofs.Common.{ap}
use Rattle.ar_space.specs.Outcome.{Outcome, seen, ◌>>=◌}
use Rattle.ar_space.specs.declared.refusal.Refusal.{Refusal}
use Rattle.ar_tables.specs.declared.mode.Mode.{Mode}
use Rattle.ar_tables.specs.declared.tables.Tables.{Tables}
use Rattle.ar_tables.specs.FindTables.{tables_of}
use Rattle.aml_world.specs.state.Predefined.{fresh_as}
use Rattle.aml_world.specs.state.State.{State}
use Rattle.acpi_machine.specs.Calls.{initialized}
use Rattle.acpi_machine.specs.Loading.{loaded_tables}
use Rattle.acpi_machine.specs.MachineStates.{MachineState, machine_of}
use Rattle.aml_world.specs.state.Given.{Given}
use Rattle.aml_path.specs.declared.segment.Seg.{Seg}
use Rattle.aml_path.specs.Text.{path_of_text}
use Rattle.acpiroute_shell.specs.Written.{Written}
use Rattle.acpiroute_shell.specs.declared.arguments.Argument.{Argument}
use Rattle.acpiroute_lib.specs.EvalCommand.{given_argument, value_at, value_written, evaluated_text, eval_answer}
use Rattle.machine_text.specs.MachineText.{machine_text}
use Rattle.machine_text.specs.declared.machine_lines.MachineText.{MachineText}
use Rattle.acpiroute_shell.specs.declared.request.Evaluation.{Evaluation}
use Rattle.acpiroute_lib.specs.Machines.{Registers, register_accesses, registers_of, machine_left, machine_with, machine_of_text, initialized_left, initialized_machine, machine_of_text_in}

pub refused_alike : {A B : Type 0} (e x : Refusal) → ◌≡◌ {A = Outcome A} (Err x) (Err e) → ◌≡◌ {A = Outcome B} (Err x) (Err e)
refused_alike e x h = let same : x ≡ e = cc h in ap Err same

-- ---- an evaluation

-- the refusal of a path, or else of what its object answers
abbrev pub by_path : Outcome (List Seg) → (List Seg → Outcome Given) → Outcome (Unit {0})
by_path (Ok p) f = seen (λ _. tt) (f p)
by_path (Err e) f = Err e

value_refused : (e : Refusal) (x : Outcome Given) → x >>= (λ value. Ok (value_written value)) ≡ Err e → seen (λ _. tt {0}) x ≡ Err e
unfolding ◌>>=◌
value_refused e (Ok value) h = absurd (cc h)
value_refused e (Err x) h = refused_alike e x h

path_refused : (e : Refusal) (x : Outcome (List Seg)) (f : List Seg → Outcome Given) → x >>= (λ p. f p >>= (λ value. Ok (value_written value))) ≡ Err e → by_path x f ≡ Err e
unfolding ◌>>=◌
path_refused e (Ok p) f h = value_refused e (f p) h
path_refused e (Err x) f h = refused_alike e x h

pub text_refused : (m : MachineState Registers) (path : List ℕ) (arguments : List Argument) (e : Refusal) → evaluated_text m path arguments ≡ Err e → by_path (path_of_text path) (λ p. value_at m p (map given_argument arguments)) ≡ Err e
unfolding evaluated_text
text_refused m path arguments e h = path_refused e (path_of_text path) (λ p. value_at m p (map given_argument arguments)) h

-- what is asked of a machine, if there is one
abbrev pub IsAnsweredOn : List ℕ → List Argument → Outcome (MachineState Registers) → Outcome Written → Type 0
IsAnsweredOn path arguments (Ok m) r = evaluated_text m path arguments ≡ r
IsAnsweredOn path arguments (Err e) r = Err e ≡ r

answered_on : (path : List ℕ) (arguments : List Argument) (x : Outcome (MachineState Registers)) (r : Outcome Written) → x >>= (λ m. evaluated_text m path arguments) ≡ r → IsAnsweredOn path arguments x r
unfolding ◌>>=◌
answered_on path arguments (Ok m) r h = h
answered_on path arguments (Err e) r h = h

pub eval_on : (mode : Mode) (evaluation : Evaluation) (path : List ℕ) (arguments : List Argument) (text : List ℕ) (r : Outcome Written) → eval_answer mode evaluation path arguments text ≡ r → IsAnsweredOn path arguments (machine_of_text_in mode evaluation text) r
unfolding eval_answer
eval_on mode evaluation path arguments text r h = answered_on path arguments (machine_of_text_in mode evaluation text) r h

-- ---- the machine

module _ (mode : Mode) (evaluation : Evaluation) where
  abbrev pub by_loaded : Tables → State Registers → Outcome (Unit {0}) → Outcome (MachineState Registers)
  by_loaded t w (Ok u) = let i = initialized register_accesses mode (machine_of t evaluation.steps w) in initialized_left i.1 i.0
  by_loaded t w (Err e) = Err e

  abbrev pub by_tables : Registers → List (List ℕ) → Outcome Tables → Outcome (MachineState Registers)
  by_tables space osi (Ok t) = let l = loaded_tables register_accesses t evaluation.steps osi (fresh_as evaluation.settings t.width osi space) in by_loaded t l.1 l.0
  by_tables space osi (Err e) = Err e

  left_by : (t : Tables) (w : State Registers) (r : Outcome (Unit {0})) → machine_left t evaluation.steps w r >>= initialized_machine mode ≡ by_loaded t w r
  unfolding ◌>>=◌ initialized_machine
  left_by t w (Ok u) = refl
  left_by t w (Err e) = refl

  found_by_tables : (space : Registers) (osi : List (List ℕ)) (ts : Outcome Tables) → (ts >>= (λ t. machine_with evaluation t space osi)) >>= initialized_machine mode ≡ by_tables space osi ts
  unfolding ◌>>=◌ machine_with
  found_by_tables space osi (Ok t) = let l = loaded_tables register_accesses t evaluation.steps osi (fresh_as evaluation.settings t.width osi space) in left_by t l.1 l.0
  found_by_tables space osi (Err e) = refl

  pub text_machine : (text : List ℕ) (said : MachineText) → machine_text text ≡ Ok said
      → machine_of_text_in mode evaluation text ≡ by_tables (registers_of evaluation said.space) said.osi (tables_of said.space.memory said.rsdp)
  unfolding ◌>>=◌ machine_of_text_in machine_of_text
  text_machine text said is = rw is (found_by_tables (registers_of evaluation said.space) said.osi (tables_of said.space.memory said.rsdp))
