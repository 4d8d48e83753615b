-- A run over a register space, and any run over another one that was in step with it: at their ends the spaces have parted, or are in step
-- with something still.
use Rattle.std.specs.Prelude.{◌≡◌, ◌⊎◌, ℕ, Bool, List, Ok, Err, refl}
use Rattle.std.proofs.Common.{inl, inr, sym, subst, ap, ◌∙◌}
use Rattle.ar_space.specs.declared.refusal.Refusal.{Refusal}
use Rattle.ar_space.specs.Accesses.{Accesses}
use Rattle.ar_space.specs.Outcome.{Outcome}
use Rattle.ar_tables.specs.declared.tables.Tables.{Tables}
use Rattle.aml_world.specs.state.State.{State}
use Rattle.aml_world.specs.state.Predefined.{fresh_as}
use Rattle.acpi_machine.specs.Calls.{initialized}
use Rattle.acpi_machine.specs.MachineStates.{MachineState, machine_of, sci_of}
use Rattle.acpi_links.specs.Gatherings.{Gathering, gathered}
use Rattle.acpi_configure.specs.Configured.{Solves, IsReport, report_of, with_settings}
use Rattle.acpi_configure.specs.ForKernels.{told_if, IsReportFor}
use Rattle.acpi_configure.specs.Settling.{settled_unless}
use Rattle.route_solve.specs.Problems.{RoutingProblem, RoutingAnswer}
use Rattle.route_report.specs.Reports.{RoutingReport}
use Rattle.recorded_route.specs.declared.settings.Settings.{Settings}
use Rattle.recorded_route.specs.Runs.{Description, options_of, IsConfigured, IsConfiguredIf, IsStarted, IsMachineRun, IsLoadedRun, IsRunOver, IsDescribedRun, world_over as first_world}
use Rattle.aml_laws.proofs.Together.{SideBySide, Goes, alike, goes_from}
use Rattle.aml_laws.proofs.WorldsTogether.{world_over, worlds}
use Rattle.aml_laws.proofs.Levels.{one_profile}
use Rattle.machine_laws.proofs.MachineShapes.{machine_over, machines}
use Rattle.machine_laws.proofs.MachinesTogether.{loaded_tables_together, initialized_together}
use Rattle.machine_laws.proofs.LinksTogether.{gathered_together}
use Rattle.machine_laws.proofs.SettingsTogether.{settled_unless_together}
use Rattle.recorded_laws.proofs.Parting.{Settled, settled_left, settled_right, configured_if_left, configured_if_right, loaded_run_left, loaded_run_right}
use Rattle.recorded_laws.proofs.PlainReports.{plain_report}
use Rattle.recorded_laws.proofs.TellingTogether.{told_left, told_right, told_if_together}

abbrev pub Meet : {S T : Type 0} {accesses : Accesses S} {accesses2 : Accesses T} → SideBySide accesses accesses2 → S → T → Type 0
Meet {T = T} side s t = side.Parted s t ⊎ ((u : T) × side.InStep s u)

module _ {S T : Type 0} {accesses : Accesses S} {accesses2 : Accesses T} (side : SideBySide accesses accesses2) where
  goes_meet : {A : Type 0} (p : Outcome A × MachineState S) (q : Outcome A × MachineState T) → Goes side machines p q → Meet side p.1.world.space q.1.world.space
  goes_meet p q (inl parted) = inl parted
  goes_meet p q (inr (u, same, i)) = inr (u, i)

  both_go : {A : Type 0} (p p2 : Outcome A × MachineState S) (q q2 : Outcome A × MachineState T) → p ≡ p2 → q ≡ q2 → Goes side machines p q → Goes side machines p2 q2
  both_go p p2 q q2 e f g = subst (λ (x : Outcome _ × MachineState S). Goes side machines x q2) e (subst (λ (y : Outcome _ × MachineState T). Goes side machines p y) f g)

  both_meet : {A : Type 0} (p p2 : Outcome A × MachineState S) (q q2 : Outcome A × MachineState T) → p ≡ p2 → q ≡ q2 → Goes side machines p q → Meet side p2.1.world.space q2.1.world.space
  both_meet p p2 q q2 e f g = subst (λ (x : Outcome _ × MachineState S). Meet side x.1.world.space q2.1.world.space) e (subst (λ (y : Outcome _ × MachineState T). Meet side p.1.world.space y.1.world.space) f (goes_meet p q g))

  module _ (settings : Settings) (avoid : List ℕ) where
    module _ (one_answer : (problem : RoutingProblem) (one other : RoutingAnswer) → Solves problem one → Solves problem other → one ≡ other) where
      -- ---- two runs

      -- reports without lines for a kernel: the spaces have parted, or the reports are one, and the machines in step
      settled_go : (m after : MachineState S) (report report2 : RoutingReport) (t u : T) (after2 : MachineState T) (is : IsReport accesses settings.dry avoid m after report) (is2 : IsReport accesses2 settings.dry avoid (machine_over m t) after2 report2)
          → ◌≡◌ {A = Outcome Gathering × MachineState T} (Ok is.found, machine_over is.chosen_in u) (Ok is2.found, is2.chosen_in) → is.answer ≡ is2.answer
          → Goes side machines (Ok is.settings, after) (Ok is2.settings, after2) → Goes side machines (Ok report, after) (Ok report2, after2)
      settled_go m after report report2 t u after2 is is2 both answer (inl parted) = inl parted
      settled_go m after report report2 t u after2 is is2 both answer (inr (v, same, i)) =
          let found : is.found ≡ is2.found = cc (ap (λ (x : Outcome Gathering × MachineState T). x.0) both) in
          let chosen : machine_over is.chosen_in u ≡ is2.chosen_in = ap (λ (x : Outcome Gathering × MachineState T). x.1) both in
          let settings_are : is2.settings ≡ is.settings = cc (ap (λ (x : Settled × MachineState T). x.0) same) in
          let left : after2 ≡ machine_over after v = ap (λ (x : Settled × MachineState T). x.1) same in
          let lines : with_settings (report_of is2.chosen_in (sci_of (machine_over m t)) avoid is2.found is2.answer) is2.settings ≡ with_settings (report_of is.chosen_in (sci_of m) avoid is.found is.answer) is.settings = rw (← chosen, ← found, ← answer, settings_are) refl in
          let reports : report2 ≡ report = is2.lines ∙ (lines ∙ sym is.lines) in
          inr (v, rw (reports, left) refl, i)

      reports_go : (m after : MachineState S) (report report2 : RoutingReport) (t : T) (after2 : MachineState T) (is : IsReport accesses settings.dry avoid m after report) (is2 : IsReport accesses2 settings.dry avoid (machine_over m t) after2 report2)
          → Goes side machines (Ok is.found, is.chosen_in) (gathered accesses2 avoid (machine_over m t)) → Goes side machines (Ok report, after) (Ok report2, after2)
      reports_go m after report report2 t after2 is is2 (inl parted) =
          let chosen = subst (λ (x : Outcome Gathering × MachineState T). side.Parted is.chosen_in.world.space x.1.world.space) is2.is_found parted in
          inl (settled_left side settings avoid is.found.links is.answer.choice is.chosen_in after (Ok is.settings) after2.world.space is.is_settled
          (settled_right side settings avoid is2.found.links is2.answer.choice is2.chosen_in after2 (Ok is2.settings) is.chosen_in.world.space is2.is_settled chosen))
      reports_go m after report report2 t after2 is is2 (inr (u, same, i)) =
          let both = sym same ∙ is2.is_found in
          let found : is.found ≡ is2.found = cc (ap (λ (x : Outcome Gathering × MachineState T). x.0) both) in
          let chosen : machine_over is.chosen_in u ≡ is2.chosen_in = ap (λ (x : Outcome Gathering × MachineState T). x.1) both in
          let answer : is.answer ≡ is2.answer = one_answer is.found.problem is.answer is2.answer is.solves (subst (λ (f : Gathering). Solves f.problem is2.answer) (sym found) is2.solves) in
          let settled : settled_unless accesses2 settings.dry is.found.links is.answer.choice (machine_over is.chosen_in u) ≡ settled_unless accesses2 settings.dry is2.found.links is2.answer.choice is2.chosen_in = rw (chosen, found, answer) refl in
          settled_go m after report report2 t u after2 is is2 both answer
          (both_go _ (Ok is.settings, after) _ (Ok is2.settings, after2) is.is_settled (settled ∙ is2.is_settled) (goes_from side machines _ _ ((settled_unless_together {side = side} settings.dry is.found.links is.answer.choice).goes is.chosen_in u i)))

      -- what is told behind them
      told_meet : (kernel : Bool) (plain plain2 report report2 : RoutingReport) (configured after : MachineState S) (configured2 after2 : MachineState T) → told_if accesses kernel plain configured ≡ (Ok report, after)
          → told_if accesses2 kernel plain2 configured2 ≡ (Ok report2, after2) → Goes side machines (Ok plain, configured) (Ok plain2, configured2) → Meet side after.world.space after2.world.space
      told_meet kernel plain plain2 report report2 configured after configured2 after2 told told2 (inl parted) =
          inl (told_left side kernel plain report configured after after2.world.space told (told_right side kernel plain2 report2 configured2 after2 configured.world.space told2 parted))
      told_meet kernel plain plain2 report report2 configured after configured2 after2 told told2 (inr (u, same, i)) =
          let reports : plain ≡ plain2 = cc (ap (λ (x : Outcome RoutingReport × MachineState T). x.0) (sym same)) in
          let over : machine_over configured u ≡ configured2 = ap (λ (x : Outcome RoutingReport × MachineState T). x.1) (sym same) in
          let here : told_if accesses2 kernel plain (machine_over configured u) ≡ told_if accesses2 kernel plain2 configured2 = rw (reports, over) refl in
          both_meet _ (Ok report, after) _ (Ok report2, after2) told (here ∙ told2) (goes_from side machines _ _ ((told_if_together {side = side} kernel plain).goes configured u i))

      reports_meet : (m after : MachineState S) (report report2 : RoutingReport) (t : T) (after2 : MachineState T) (is : IsReportFor accesses (options_of settings avoid) m after report) → IsReportFor accesses2 (options_of settings avoid) (machine_over m t) after2 report2
          → Goes side machines (gathered accesses avoid m) (gathered accesses2 avoid (machine_over m t)) → Meet side after.world.space after2.world.space
      reports_meet m after report report2 t after2 is is2 goes =
          let plain = plain_report accesses settings avoid m after report is in
          let plain2 = plain_report accesses2 settings avoid (machine_over m t) after2 report2 is2 in
          told_meet settings.kernel is.plain is2.plain report report2 is.configured after is2.configured after2 is.is_told is2.is_told
          (reports_go m is.configured is.plain is2.plain t is2.configured plain plain2 (subst (λ (x : Outcome Gathering × MachineState S). Goes side machines x (gathered accesses2 avoid (machine_over m t))) plain.is_found goes))

      -- a report beside a refusal: the spaces have parted while all was gathered
      report_beside : (m after : MachineState S) (report : RoutingReport) (e : Refusal) (t : T) (after2 : MachineState T) (is : IsReport accesses settings.dry avoid m after report) → gathered accesses2 avoid (machine_over m t) ≡ (Err e, after2)
          → Goes side machines (Ok is.found, is.chosen_in) (gathered accesses2 avoid (machine_over m t)) → side.Parted after.world.space after2.world.space
      report_beside m after report e t after2 is is2 (inl parted) =
          settled_left side settings avoid is.found.links is.answer.choice is.chosen_in after (Ok is.settings) after2.world.space is.is_settled (subst (λ (x : Outcome Gathering × MachineState T). side.Parted is.chosen_in.world.space x.1.world.space) is2 parted)
      report_beside m after report e t after2 is is2 (inr (u, same, i)) = absurd (cc (ap (λ (x : Outcome Gathering × MachineState T). x.0) (sym same ∙ is2)))

      refused_beside : (m after : MachineState S) (report : RoutingReport) (e : Refusal) (t : T) (after2 : MachineState T) (is : IsReportFor accesses (options_of settings avoid) m after report) → gathered accesses2 avoid (machine_over m t) ≡ (Err e, after2)
          → Goes side machines (gathered accesses avoid m) (gathered accesses2 avoid (machine_over m t)) → Meet side after.world.space after2.world.space
      refused_beside m after report e t after2 is is2 goes =
          let plain = plain_report accesses settings avoid m after report is in
          inl (told_left side settings.kernel is.plain report is.configured after after2.world.space is.is_told
          (report_beside m is.configured is.plain e t after2 plain is2 (subst (λ (x : Outcome Gathering × MachineState S). Goes side machines x (gathered accesses2 avoid (machine_over m t))) plain.is_found goes)))

      beside_refused : (m after : MachineState S) (e : Refusal) (report : RoutingReport) (t : T) (after2 : MachineState T) → IsReportFor accesses2 (options_of settings avoid) (machine_over m t) after2 report
          → Goes side machines (Err e, after) (gathered accesses2 avoid (machine_over m t)) → Meet side after.world.space after2.world.space
      beside_refused m after e report t after2 is2 (inl parted) =
          let plain2 = plain_report accesses2 settings avoid (machine_over m t) after2 report is2 in
          inl (told_right side settings.kernel is2.plain report is2.configured after2 after.world.space is2.is_told
          (settled_right side settings avoid plain2.found.links plain2.answer.choice plain2.chosen_in is2.configured (Ok plain2.settings) after.world.space plain2.is_settled (subst (λ (x : Outcome Gathering × MachineState T). side.Parted after.world.space x.1.world.space) plain2.is_found parted)))
      beside_refused m after e report t after2 is2 (inr (u, same, i)) = inr (u, i)

      configured_meet : (m after : MachineState S) (outcome : Outcome RoutingReport) (t : T) (outcome2 : Outcome RoutingReport) (after2 : MachineState T) → IsConfigured accesses settings avoid m outcome after
          → IsConfigured accesses2 settings avoid (machine_over m t) outcome2 after2 → side.InStep m.world.space t → Meet side after.world.space after2.world.space
      configured_meet m after (Ok report) t (Ok report2) after2 is is2 i =
          reports_meet m after report report2 t after2 is is2 (goes_from side machines _ _ ((gathered_together {side = alike side} (λ n. refl) (inl refl) avoid).goes m t i))
      configured_meet m after (Ok report) t (Err e) after2 is is2 i =
          refused_beside m after report e t after2 is is2 (goes_from side machines _ _ ((gathered_together {side = alike side} (λ n. refl) (inl refl) avoid).goes m t i))
      configured_meet m after (Err e) t (Ok report2) after2 is is2 i =
          beside_refused m after e report2 t after2 is2 (subst (λ (x : Outcome Gathering × MachineState S). Goes side machines x (gathered accesses2 avoid (machine_over m t))) is (goes_from side machines _ _ ((gathered_together {side = alike side} (λ n. refl) (inl refl) avoid).goes m t i)))
      configured_meet m after (Err e) t (Err e2) after2 is is2 i = both_meet _ (Err e, after) _ (Err e2, after2) is is2 (goes_from side machines _ _ ((gathered_together {side = alike side} (λ n. refl) (inl refl) avoid).goes m t i))

      configured_if_meet : (r : Outcome (Unit {0})) (m after : MachineState S) (outcome : Outcome RoutingReport) (t : T) (outcome2 : Outcome RoutingReport) (after2 : MachineState T) → IsConfiguredIf accesses settings avoid r m outcome after
          → IsConfiguredIf accesses2 settings avoid r (machine_over m t) outcome2 after2 → side.InStep m.world.space t → Meet side after.world.space after2.world.space
      configured_if_meet (Ok u) m after outcome t outcome2 after2 is is2 i = configured_meet m after outcome t outcome2 after2 is is2 i
      configured_if_meet (Err e) m after outcome t outcome2 after2 is is2 i = inr (t, subst (λ (x : MachineState S). side.InStep x.world.space t) (sym is.1) i)

      started_meet : (m after : MachineState S) (outcome : Outcome RoutingReport) (t : T) (outcome2 : Outcome RoutingReport) (after2 : MachineState T) → IsStarted accesses settings avoid m outcome after
          → IsStarted accesses2 settings avoid (machine_over m t) outcome2 after2 → Goes side machines (initialized accesses settings.mode m) (initialized accesses2 settings.mode (machine_over m t)) → Meet side after.world.space after2.world.space
      started_meet m after outcome t outcome2 after2 is is2 (inl parted) =
          inl (configured_if_left side settings avoid (initialized accesses settings.mode m).0 (initialized accesses settings.mode m).1 after outcome after2.world.space is
          (configured_if_right side settings avoid (initialized accesses2 settings.mode (machine_over m t)).0 (initialized accesses2 settings.mode (machine_over m t)).1 after2 outcome2 (initialized accesses settings.mode m).1.world.space is2 parted))
      started_meet m after outcome t outcome2 after2 is is2 (inr (u, same, i)) =
          configured_if_meet (initialized accesses settings.mode m).0 (initialized accesses settings.mode m).1 after outcome u outcome2 after2 is
          (subst (λ (q : Outcome (Unit {0}) × MachineState T). IsConfiguredIf accesses2 settings avoid q.0 q.1 outcome2 after2) same is2) i

      machine_runs_meet : (m : MachineState S) (outcome : Outcome RoutingReport) (space : S) (t : T) (outcome2 : Outcome RoutingReport) (space2 : T) → IsMachineRun accesses settings avoid m outcome space
          → IsMachineRun accesses2 settings avoid (machine_over m t) outcome2 space2 → side.InStep m.world.space t → Meet side space space2
      machine_runs_meet m outcome space t outcome2 space2 is is2 i =
          subst (λ s. Meet side s space2) is.is_space (subst (λ v. Meet side is.after.world.space v) is2.is_space
          (started_meet m is.after outcome t outcome2 is2.after is.is_started is2.is_started (goes_from side machines _ _ ((one_profile side 0 (initialized_together (alike side) (λ n. refl) settings.mode)).goes m t i))))

      loaded_runs_meet : (tables : Tables) (r : Outcome (Unit {0})) (w : State S) (outcome : Outcome RoutingReport) (space : S) (t : T) (outcome2 : Outcome RoutingReport) (space2 : T) → IsLoadedRun accesses settings avoid tables r w outcome space
          → IsLoadedRun accesses2 settings avoid tables r (world_over (λ r. r, λ d. d) w t) outcome2 space2 → side.InStep w.space t → Meet side space space2
      loaded_runs_meet tables (Ok u) w outcome space t outcome2 space2 is is2 i = machine_runs_meet (machine_of tables settings.steps w) outcome space t outcome2 space2 is is2 i
      loaded_runs_meet tables (Err e) w outcome space t outcome2 space2 is is2 i = inr (t, subst (λ s. side.InStep s t) is.1 i)

      runs_over_meet : (d : Description) (before : S) (outcome : Outcome RoutingReport) (space : S) (t : T) (outcome2 : Outcome RoutingReport) (space2 : T) → IsRunOver accesses settings avoid d before outcome space
          → IsRunOver accesses2 settings avoid d t outcome2 space2 → Goes side worlds (first_world accesses settings avoid d before) (first_world accesses2 settings avoid d t) → Meet side space space2
      runs_over_meet d before outcome space t outcome2 space2 is is2 (inl parted) =
          inl (loaded_run_left side settings avoid d.0 (first_world accesses settings avoid d before).0 (first_world accesses settings avoid d before).1 outcome space space2 is
          (loaded_run_right side settings avoid d.0 (first_world accesses2 settings avoid d t).0 (first_world accesses2 settings avoid d t).1 outcome2 space2 (first_world accesses settings avoid d before).1.space is2 parted))
      runs_over_meet d before outcome space t outcome2 space2 is is2 (inr (u, same, i)) =
          loaded_runs_meet d.0 (first_world accesses settings avoid d before).0 (first_world accesses settings avoid d before).1 outcome space u outcome2 space2 is
          (subst (λ (q : Outcome (Unit {0}) × State T). IsLoadedRun accesses2 settings avoid d.0 q.0 q.1 outcome2 space2) same is2) i

      pub described_runs_meet : (d : Outcome Description) (before : S) (outcome : Outcome RoutingReport) (space : S) (t : T) (outcome2 : Outcome RoutingReport) (space2 : T) → IsDescribedRun accesses settings avoid d before outcome space
          → IsDescribedRun accesses2 settings avoid d t outcome2 space2 → side.InStep before t → Meet side space space2
      described_runs_meet (Ok d) before outcome space t outcome2 space2 is is2 i =
          runs_over_meet d before outcome space t outcome2 space2 is is2 (goes_from side worlds _ _ ((one_profile side 0 (loaded_tables_together (alike side) (λ n. refl) d.0 settings.steps d.1)).goes (fresh_as settings.evaluation d.0.width d.1 before) t i))
      described_runs_meet (Err e) before outcome space t outcome2 space2 is is2 i = inr (t, subst (λ s. side.InStep s t) is.1 i)
