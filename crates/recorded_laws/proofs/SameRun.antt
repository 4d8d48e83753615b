-- The run that `why` makes, and what `route` and `eval` answer.
use Rattle.std.specs.Prelude.{◌≡◌, ℕ, List, Ok, Err, map, refl}
use Rattle.std.proofs.Common.{ap, sym, subst}
use Rattle.ar_space.specs.Change.{settle, go_on, ◌>>=◌}
use Rattle.ar_space.specs.Outcome.{Outcome, seen}
use Rattle.ar_space.specs.declared.refusal.Refusal.{Refusal}
use Rattle.ar_tables.specs.declared.tables.Tables.{Tables}
use Rattle.ar_tables.specs.FindTables.{tables_of}
use Rattle.aml_world.specs.state.State.{State}
use Rattle.acpi_machine.specs.Calls.{initialized}
use Rattle.aml_path.specs.declared.segment.Seg.{Seg}
use Rattle.aml_path.specs.Text.{path_of_text}
use Rattle.acpiroute_shell.specs.declared.arguments.Argument.{Argument}
use Rattle.acpiroute_lib.specs.EvalCommand.{given_argument, value_at, eval_answer}
use Rattle.acpi_machine.specs.MachineStates.{MachineState, machine_of}
use Rattle.machine_text.specs.MachineText.{machine_text}
use Rattle.machine_text.specs.declared.machine_lines.MachineText.{MachineText}
use Rattle.acpiroute_shell.specs.declared.request.Asking.{Asking}
use Rattle.acpiroute_shell.specs.declared.request.Flags.{Flags}
use Rattle.acpiroute_shell.specs.declared.request.Question.TheVariants.{Route, Eval}
use Rattle.acpiroute_lib.specs.RunEnds.{options_of, evaluates, after_loading, asks, started, loaded_over, run_of}
use Rattle.acpiroute_lib.specs.Machines.{Registers, register_accesses, registers_of, initialized_left}
use Rattle.acpiroute_lib.specs.RouteCommand.{IsRoutedOn, IsRouteAnswer}
use Rattle.recorded_laws.proofs.SameMachine.{refused_alike, by_path, by_loaded, by_tables, text_machine, text_refused, IsAnsweredOn, eval_on}

module _ (q : Asking) (avoid : List ℕ) (flags : Flags) (e : Refusal) where
  abbrev asked : MachineState Registers → Outcome (Unit {0}) × MachineState Registers
  asked = asks register_accesses (Route avoid flags)

  machine_routed : (i : Outcome (Unit {0})) (m : MachineState Registers) → IsRoutedOn (options_of avoid flags) (initialized_left m i) (Err e) → (go_on i m (λ _. asked)).0 ≡ Err e
  unfolding go_on
  machine_routed (Ok u) m h = ap (seen (λ _. tt)) h
  machine_routed (Err x) m h = refused_alike e x (sym h)

  loaded_routed : (t : Tables) (w : State Registers) (r : Outcome (Unit {0})) → IsRoutedOn (options_of avoid flags) (by_loaded q.mode q.evaluation t w r) (Err e) → (after_loading (started register_accesses q.mode asked) t q.evaluation.steps r w).0 ≡ Err e
  unfolding ◌>>=◌
  loaded_routed t w (Ok u) h = let i = initialized register_accesses q.mode (machine_of t q.evaluation.steps w) in machine_routed i.0 i.1 h
  loaded_routed t w (Err x) h = refused_alike e x (sym h)

  tables_routed : (space : Registers) (osi : List (List ℕ)) (ts : Outcome Tables) → q.question ≡ Route avoid flags → IsRoutedOn (options_of avoid flags) (by_tables q.mode q.evaluation space osi ts) (Err e) → (run_of register_accesses q ts osi space).0 ≡ Err e
  tables_routed space osi (Ok t) question h =
      let l = loaded_over register_accesses q t osi space in
      subst (λ x. (after_loading (started register_accesses q.mode (asks register_accesses x)) t q.evaluation.steps l.0 l.1).0 ≡ Err e) (sym question) (loaded_routed t l.1 l.0 h)
  tables_routed space osi (Err x) question h = refused_alike e x (sym h)

  pub same_run : (text : List ℕ) (said : MachineText) → machine_text text ≡ Ok said → q.question ≡ Route avoid flags → IsRouteAnswer q.mode q.evaluation (options_of avoid flags) text (Err e)
      → (run_of register_accesses q (tables_of said.space.memory said.rsdp) said.osi (registers_of q.evaluation said.space)).0 ≡ Err e
  same_run text said is question h =
      tables_routed (registers_of q.evaluation said.space) said.osi (tables_of said.space.memory said.rsdp) question
      (subst (λ m. IsRoutedOn (options_of avoid flags) m (Err e)) (text_machine q.mode q.evaluation text said is) h)

module _ (q : Asking) (path : List ℕ) (arguments : List Argument) (e : Refusal) where
  abbrev evaluated : MachineState Registers → Outcome (Unit {0}) × MachineState Registers
  evaluated = asks register_accesses (Eval path arguments)

  of_path : (m : MachineState Registers) (x : Outcome (List Seg)) → path_of_text path ≡ x → by_path x (λ p. value_at m p (map given_argument arguments)) ≡ Err e → (evaluated m).0 ≡ Err e
  unfolding evaluates settle go_on ◌>>=◌ value_at
  of_path m (Ok p) is h = rw is h
  of_path m (Err x) is h = rw is h

  machine_evaluated : (i : Outcome (Unit {0})) (m : MachineState Registers) → IsAnsweredOn path arguments (initialized_left m i) (Err e) → (go_on i m (λ _. evaluated)).0 ≡ Err e
  unfolding go_on
  machine_evaluated (Ok u) m h = of_path m (path_of_text path) refl (text_refused m path arguments e h)
  machine_evaluated (Err x) m h = refused_alike e x h

  loaded_evaluated : (t : Tables) (w : State Registers) (r : Outcome (Unit {0})) → IsAnsweredOn path arguments (by_loaded q.mode q.evaluation t w r) (Err e) → (after_loading (started register_accesses q.mode evaluated) t q.evaluation.steps r w).0 ≡ Err e
  unfolding ◌>>=◌
  loaded_evaluated t w (Ok u) h = let i = initialized register_accesses q.mode (machine_of t q.evaluation.steps w) in machine_evaluated i.0 i.1 h
  loaded_evaluated t w (Err x) h = refused_alike e x h

  tables_evaluated : (space : Registers) (osi : List (List ℕ)) (ts : Outcome Tables) → q.question ≡ Eval path arguments → IsAnsweredOn path arguments (by_tables q.mode q.evaluation space osi ts) (Err e) → (run_of register_accesses q ts osi space).0 ≡ Err e
  tables_evaluated space osi (Ok t) question h =
      let l = loaded_over register_accesses q t osi space in
      subst (λ x. (after_loading (started register_accesses q.mode (asks register_accesses x)) t q.evaluation.steps l.0 l.1).0 ≡ Err e) (sym question) (loaded_evaluated t l.1 l.0 h)
  tables_evaluated space osi (Err x) question h = refused_alike e x h

  pub same_evaluation : (text : List ℕ) (said : MachineText) → machine_text text ≡ Ok said → q.question ≡ Eval path arguments → eval_answer q.mode q.evaluation path arguments text ≡ Err e
      → (run_of register_accesses q (tables_of said.space.memory said.rsdp) said.osi (registers_of q.evaluation said.space)).0 ≡ Err e
  same_evaluation text said is question h =
      tables_evaluated (registers_of q.evaluation said.space) said.osi (tables_of said.space.memory said.rsdp) question
      (subst (λ m. IsAnsweredOn path arguments m (Err e)) (text_machine q.mode q.evaluation text said is) (eval_on q.mode q.evaluation path arguments text (Err e) h))
