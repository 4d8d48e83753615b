-- Runs over a space that keeps its last access, beside runs over the space below it.
use Rattle.std.specs.Prelude.{◌≡◌, ℕ, Bool, List, Ok, Err, refl}
use Rattle.std.proofs.Common.{inl, inr, sym, subst, ap, ◌∙◌}
use Rattle.ar_space.specs.Accesses.{Accesses}
use Rattle.ar_space.specs.Change.{go_on, ◌>>=◌}
use Rattle.ar_space.specs.Outcome.{Outcome}
use Rattle.ar_tables.specs.declared.tables.Tables.{Tables}
use Rattle.ar_tables.specs.declared.mode.Mode.{Mode}
use Rattle.aml_world.specs.state.Predefined.{fresh_as}
use Rattle.aml_world.specs.state.State.{State}
use Rattle.acpi_configure.specs.Options.{RunOptions}
use Rattle.acpi_machine.specs.MachineStates.{MachineState, machine_of, sci_of}
use Rattle.acpiroute_shell.specs.declared.arguments.Argument.{Argument}
use Rattle.acpiroute_shell.specs.declared.request.Asking.{Asking}
use Rattle.acpiroute_shell.specs.declared.request.Question.{Question}
use Rattle.acpiroute_shell.specs.declared.request.Question.TheVariants.{Route, Eval}
use Rattle.acpiroute_lib.specs.RunEnds.{options_of, dropped, after_loading, finds, evaluates, asks, started, loaded_over, run_of}
use Rattle.watched_space.specs.Watching.{Watch, watched}
use Rattle.aml_laws.proofs.Together.{SideBySide, Goes, Together, alike, goes_from, none_ended, plain, settle_together, then_together, wrapped_together}
use Rattle.aml_laws.proofs.Levels.{one_profile}
use Rattle.aml_laws.proofs.WorldsTogether.{world_over, worlds}
use Rattle.machine_laws.proofs.MachineShapes.{machine_over, machines}
use Rattle.machine_laws.proofs.MachinesTogether.{loaded_tables_together, initialized_together, evaluated_object_together}
use Rattle.machine_laws.proofs.FoundTogether.{found_by_together}
use Rattle.machine_laws.proofs.SettingsTogether.{settled_unless_together}
use Rattle.acpi_links.specs.Links.{PresentLink}
use Rattle.acpi_configure.specs.Settling.{settled_unless}
use Rattle.recorded_laws.specs.Unwatched.{machine_below}
use Rattle.recorded_laws.proofs.Parting.{Settled}

module _ {S : Type 0} (accesses : Accesses S) where
  -- they never part
  unfoldable watching : SideBySide (watched accesses) accesses
  watching = record {
    InStep = λ w s. w.inner ≡ s;
    Parted = λ w s. ⊥;
    reads = λ w s place width same. inr (ap (λ x. (accesses.reads x place width).0) (sym same), ap (λ x. (accesses.reads x place width).1) same);
    writes = λ w s place width value same. inr (ap (λ x. (accesses.writes x place width value).0) (sym same), ap (λ x. (accesses.writes x place width value).1) same);
    left_reads = λ w s place width p. p;
    left_writes = λ w s place width value p. p;
    right_reads = λ w s place width p. p;
    right_writes = λ w s place width value p. p;
  }

-- ---- what is asked of machines side by side

module _ {S T : Type 0} {accesses : Accesses S} {accesses2 : Accesses T} {side : SideBySide accesses accesses2} where
  finds_together : (o : RunOptions) → Together (alike side) machines (finds accesses o) (finds accesses2 o)
  unfolding ◌>>=◌ go_on
  finds_together o = then_together {m = λ m. (Ok (sci_of m), m)} {n = λ m. (Ok (sci_of m), m)} {k = λ sci. _} {l = λ sci. _} (plain (λ s. refl) (λ s. refl) (λ s t. refl)) (λ sci. found_by_together o sci)

  evaluates_together : (path : List ℕ) (arguments : List Argument) → Together (alike side) machines (evaluates accesses path arguments) (evaluates accesses2 path arguments)
  unfolding evaluates
  evaluates_together path arguments = then_together (settle_together _) (λ p. evaluated_object_together {side = alike side} (λ n. refl) p _)

  asks_together : (q : Question) → Together (alike side) machines (asks accesses q) (asks accesses2 q)
  asks_together (Route avoid flags) = wrapped_together (λ s. s) (λ s. s) (λ s p. dropped p) (λ s p. dropped p) (λ s. refl) (λ s. refl) (λ s t. refl) (λ s p. refl) (λ s q. refl) (λ s u r w t. refl) (λ s p e. absurd (none_ended p.0 e)) (finds_together (options_of avoid flags))
  asks_together (Eval path arguments) = wrapped_together (λ s. s) (λ s. s) (λ s p. dropped p) (λ s p. dropped p) (λ s. refl) (λ s. refl) (λ s t. refl) (λ s p. refl) (λ s q. refl) (λ s u r w t. refl) (λ s p e. absurd (none_ended p.0 e)) (evaluates_together path arguments)

  pub started_together : (mode : Mode) (q : Question) → Together (alike side) machines (started accesses mode (asks accesses q)) (started accesses2 mode (asks accesses2 q))
  started_together mode q = then_together (one_profile side 0 (initialized_together (alike side) (λ n. refl) mode)) (λ u. asks_together q)

-- ---- a run

module _ {S : Type 0} (accesses : Accesses S) (q : Asking) (osi : List (List ℕ)) where
  -- an outcome, and the same beside a space with its last access
  abbrev Same : Outcome (Unit {0}) × Watch S → Outcome (Unit {0}) × S → Type 0
  Same one other = (one.0 ≡ other.0) × (one.1.inner ≡ other.1)

  started_same : (m : MachineState (Watch S)) (s : S) → m.world.space.inner ≡ s → Goes (watching accesses) machines (started (watched accesses) q.mode (asks (watched accesses) q.question) m) (started accesses q.mode (asks accesses q.question) (machine_over m s))
      → let r = started (watched accesses) q.mode (asks (watched accesses) q.question) m in let r2 = started accesses q.mode (asks accesses q.question) (machine_over m s) in Same (r.0, r.1.world.space) (r2.0, r2.1.world.space)
  unfolding watching
  started_same m s i (inl parted) = absurd parted
  started_same m s i (inr (u, same, j)) = (sym (ap (λ p. p.0) same), j ∙ sym (ap (λ p. p.1.world.space) same))

  loaded_same : (t : Tables) (r : Outcome (Unit {0})) (w : State (Watch S)) (s : S) → w.space.inner ≡ s
      → Same (after_loading (started (watched accesses) q.mode (asks (watched accesses) q.question)) t q.evaluation.steps r w) (after_loading (started accesses q.mode (asks accesses q.question)) t q.evaluation.steps r (world_over (λ r. r, λ d. d) w s))
  unfolding watching
  loaded_same t (Ok u) w s i = started_same (machine_of t q.evaluation.steps w) s i (goes_from (watching accesses) machines (started (watched accesses) q.mode (asks (watched accesses) q.question) (machine_of t q.evaluation.steps w)) (started accesses q.mode (asks accesses q.question) (machine_over (machine_of t q.evaluation.steps w) s)) ((started_together {side = watching accesses} q.mode q.question).goes (machine_of t q.evaluation.steps w) s i))
  loaded_same t (Err e) w s i = (refl, i)

  tables_same : (t : Tables) (before : Watch S) (r : Outcome (Unit {0})) (w : State (Watch S)) → Goes (watching accesses) worlds (r, w) (loaded_over accesses q t osi before.inner)
      → let l = loaded_over accesses q t osi before.inner in
      Same (after_loading (started (watched accesses) q.mode (asks (watched accesses) q.question)) t q.evaluation.steps r w) (after_loading (started accesses q.mode (asks accesses q.question)) t q.evaluation.steps l.0 l.1)
  unfolding watching
  tables_same t before r w (inl parted) = absurd parted
  tables_same t before r w (inr (u, same, j)) =
      subst (λ (l : Outcome (Unit {0}) × State S). Same (after_loading (started (watched accesses) q.mode (asks (watched accesses) q.question)) t q.evaluation.steps r w) (after_loading (started accesses q.mode (asks accesses q.question)) t q.evaluation.steps l.0 l.1)) (sym same)
      (loaded_same t r w u j)

  pub watched_run : (tables : Outcome Tables) (before : Watch S) → Same (run_of (watched accesses) q tables osi before) (run_of accesses q tables osi before.inner)
  unfolding watching
  watched_run (Ok t) before =
      tables_same t before (loaded_over (watched accesses) q t osi before).0 (loaded_over (watched accesses) q t osi before).1
      (goes_from (watching accesses) worlds (loaded_over (watched accesses) q t osi before) (loaded_over accesses q t osi before.inner) ((one_profile (watching accesses) 0 (loaded_tables_together (alike (watching accesses)) (λ n. refl) t q.evaluation.steps osi)).goes (fresh_as q.evaluation.settings t.width osi before) before.inner refl))
  watched_run (Err e) before = (refl, refl)

-- ---- links that are set and read

module _ {S : Type 0} (accesses : Accesses S) (dry : Bool) (links : List PresentLink) (choice : List ℕ) where
  abbrev SameMachine : Settled × MachineState (Watch S) → Settled × MachineState S → Type 0
  SameMachine one other = (one.0 ≡ other.0) × (machine_below one.1 ≡ other.1)

  settled_same : (p : Settled × MachineState (Watch S)) (q : Settled × MachineState S) → Goes (watching accesses) machines p q → SameMachine p q
  unfolding watching
  settled_same p q (inl parted) = absurd parted
  settled_same p q (inr (u, same, j)) = (sym (ap (λ x. x.0) same), ap (λ t. machine_over p.1 t) j ∙ sym (ap (λ x. x.1) same))

  pub watched_settings : (m : MachineState (Watch S)) → SameMachine (settled_unless (watched accesses) dry links choice m) (settled_unless accesses dry links choice (machine_below m))
  unfolding watching
  watched_settings m =
      settled_same (settled_unless (watched accesses) dry links choice m) (settled_unless accesses dry links choice (machine_below m))
      (goes_from (watching accesses) machines (settled_unless (watched accesses) dry links choice m) (settled_unless accesses dry links choice (machine_below m)) ((settled_unless_together {side = watching accesses} dry links choice).goes m m.world.space.inner refl))
