-- Runs over two register spaces that are in step.
use Rattle.std.specs.Prelude.{◌≡◌, ℕ, List, Ok, Err, refl}
use Rattle.std.proofs.Common.{inl, inr, sym, subst, ap}
use Rattle.ar_space.specs.declared.refusal.Refusal.{Refusal}
use Rattle.ar_space.specs.Accesses.{Accesses}
use Rattle.ar_space.specs.Outcome.{Outcome}
use Rattle.ar_tables.specs.declared.tables.Tables.{Tables}
use Rattle.aml_world.specs.state.State.{State}
use Rattle.aml_world.specs.state.Predefined.{fresh_as}
use Rattle.acpi_machine.specs.Calls.{initialized}
use Rattle.acpi_machine.specs.MachineStates.{MachineState, machine_of}
use Rattle.acpi_links.specs.Gatherings.{Gathering, gathered}
use Rattle.acpi_configure.specs.Configured.{IsReport}
use Rattle.acpi_configure.specs.ForKernels.{told_if, IsReportFor}
use Rattle.route_report.specs.Reports.{RoutingReport}
use Rattle.recorded_route.specs.declared.settings.Settings.{Settings}
use Rattle.recorded_route.specs.Runs.{Description, described, options_of, IsConfigured, IsConfiguredIf, IsStarted, IsMachineRun, IsLoadedRun, IsRunOver, IsDescribedRun, IsRun, world_over as first_world}
use Rattle.aml_laws.proofs.Together.{SideBySide, Goes, alike, goes_from}
use Rattle.aml_laws.proofs.WorldsTogether.{world_over, worlds}
use Rattle.aml_laws.proofs.Levels.{one_profile}
use Rattle.machine_laws.proofs.MachineShapes.{machine_over, machines}
use Rattle.machine_laws.proofs.MachinesTogether.{loaded_tables_together, initialized_together}
use Rattle.machine_laws.proofs.LinksTogether.{gathered_together}
use Rattle.machine_laws.proofs.ReportsCarried.{Carried, report_carried}
use Rattle.recorded_laws.proofs.Parting.{configured_if_left, loaded_run_left}
use Rattle.recorded_laws.proofs.PlainReports.{plain_report, report_behind}
use Rattle.recorded_laws.proofs.TellingTogether.{told_left, told_if_together}

module _ {S T : Type 0} {accesses : Accesses S} {accesses2 : Accesses T} (side : SideBySide accesses accesses2) (settings : Settings) (avoid : List ℕ) where
  -- ---- a run is the same over a space that is in step with that of another

  refusal_carried : (m after : MachineState S) (e : Refusal) (t : T) → Goes side machines (Err e, after) (gathered accesses2 avoid (machine_over m t)) → Carried side after.world.space (λ v. gathered accesses2 avoid (machine_over m t) ≡ (Err e, machine_over after v))
  refusal_carried m after e t (inl parted) = inl (_, parted)
  refusal_carried m after e t (inr (u, same, i)) = inr (u, same, i)

  told_carried : (m after : MachineState S) (report : RoutingReport) (t u : T) (is : IsReportFor accesses (options_of settings avoid) m after report) → IsReport accesses2 settings.dry avoid (machine_over m t) (machine_over is.configured u) is.plain
      → Goes side machines (Ok report, after) (told_if accesses2 settings.kernel is.plain (machine_over is.configured u)) → Carried side after.world.space (λ v. IsReportFor accesses2 (options_of settings avoid) (machine_over m t) (machine_over after v) report)
  told_carried m after report t u is plain (inl parted) = inl (_, parted)
  told_carried m after report t u is plain (inr (v, same, i)) = inr (v, report_behind accesses2 settings avoid (machine_over m t) (machine_over is.configured u) (machine_over after v) is.plain report plain same is.readable is.claims, i)

  plain_carried : (m after : MachineState S) (report : RoutingReport) (t : T) (is : IsReportFor accesses (options_of settings avoid) m after report)
      → Carried side is.configured.world.space (λ v. IsReport accesses2 settings.dry avoid (machine_over m t) (machine_over is.configured v) is.plain) → Carried side after.world.space (λ v. IsReportFor accesses2 (options_of settings avoid) (machine_over m t) (machine_over after v) report)
  plain_carried m after report t is (inl (u, parted)) = inl (u, told_left side settings.kernel is.plain report is.configured after u is.is_told parted)
  plain_carried m after report t is (inr (u, plain, i)) =
      told_carried m after report t u is plain
      (subst (λ (x : Outcome RoutingReport × MachineState S). Goes side machines x (told_if accesses2 settings.kernel is.plain (machine_over is.configured u))) is.is_told
      (goes_from side machines _ _ ((told_if_together {side = side} settings.kernel is.plain).goes is.configured u i)))

  configured_carried : (m after : MachineState S) (outcome : Outcome RoutingReport) (t : T) → IsConfigured accesses settings avoid m outcome after → side.InStep m.world.space t
      → Carried side after.world.space (λ v. IsConfigured accesses2 settings avoid (machine_over m t) outcome (machine_over after v))
  configured_carried m after (Ok report) t is i =
      let plain = plain_report accesses settings avoid m after report is in
      plain_carried m after report t is
      (report_carried side settings.dry avoid m is.configured is.plain t plain
      (subst (λ (x : Outcome Gathering × MachineState S). Goes side machines x (gathered accesses2 avoid (machine_over m t))) plain.is_found (goes_from side machines _ _ ((gathered_together {side = alike side} (λ n. refl) (inl refl) avoid).goes m t i))))
  configured_carried m after (Err e) t is i =
      refusal_carried m after e t (subst (λ (x : Outcome Gathering × MachineState S). Goes side machines x (gathered accesses2 avoid (machine_over m t))) is (goes_from side machines _ _ ((gathered_together {side = alike side} (λ n. refl) (inl refl) avoid).goes m t i)))

  -- the machine after initializing, over both spaces
  ready_carried : (r : Outcome (Unit {0})) (m after : MachineState S) (outcome : Outcome RoutingReport) (t : T) → IsConfiguredIf accesses settings avoid r m outcome after → side.InStep m.world.space t
      → Carried side after.world.space (λ v. IsConfiguredIf accesses2 settings avoid r (machine_over m t) outcome (machine_over after v))
  ready_carried (Ok u) m after outcome t is i = configured_carried m after outcome t is i
  ready_carried (Err e) m after outcome t is i = inr (t, (is.0, ap (λ (x : MachineState S). machine_over x t) is.1), subst (λ (x : MachineState S). side.InStep x.world.space t) (sym is.1) i)

  started_carried : (m after : MachineState S) (outcome : Outcome RoutingReport) (t : T) → IsStarted accesses settings avoid m outcome after → Goes side machines (initialized accesses settings.mode m) (initialized accesses2 settings.mode (machine_over m t))
      → Carried side after.world.space (λ v. IsStarted accesses2 settings avoid (machine_over m t) outcome (machine_over after v))
  started_carried m after outcome t is (inl parted) = inl (_, configured_if_left side settings avoid (initialized accesses settings.mode m).0 (initialized accesses settings.mode m).1 after outcome _ is parted)
  started_carried m after outcome t is (inr (u, same, i)) =
      subst (λ (q : Outcome (Unit {0}) × MachineState T). Carried side after.world.space (λ v. IsConfiguredIf accesses2 settings avoid q.0 q.1 outcome (machine_over after v))) (sym same)
      (ready_carried (initialized accesses settings.mode m).0 (initialized accesses settings.mode m).1 after outcome u is i)

  machine_run_of : (m after : MachineState S) (outcome : Outcome RoutingReport) (space : S) (t : T) → after.world.space ≡ space → Carried side after.world.space (λ v. IsStarted accesses2 settings avoid (machine_over m t) outcome (machine_over after v))
      → Carried side space (λ v. IsMachineRun accesses2 settings avoid (machine_over m t) outcome v)
  machine_run_of m after outcome space t at (inl (u, parted)) = inl (u, subst (λ s. side.Parted s u) at parted)
  machine_run_of m after outcome space t at (inr (u, is, i)) = inr (u, record { after = machine_over after u; is_started = is; is_space = refl }, subst (λ s. side.InStep s u) at i)

  machine_run_carried : (m : MachineState S) (outcome : Outcome RoutingReport) (space : S) (t : T) → IsMachineRun accesses settings avoid m outcome space → side.InStep m.world.space t
      → Carried side space (λ v. IsMachineRun accesses2 settings avoid (machine_over m t) outcome v)
  machine_run_carried m outcome space t is i = machine_run_of m is.after outcome space t is.is_space (started_carried m is.after outcome t is.is_started (goes_from side machines _ _ ((one_profile side 0 (initialized_together (alike side) (λ n. refl) settings.mode)).goes m t i)))

  loaded_run_carried : (tables : Tables) (r : Outcome (Unit {0})) (w : State S) (outcome : Outcome RoutingReport) (space : S) (t : T) → IsLoadedRun accesses settings avoid tables r w outcome space → side.InStep w.space t
      → Carried side space (λ v. IsLoadedRun accesses2 settings avoid tables r (world_over (λ r. r, λ d. d) w t) outcome v)
  loaded_run_carried tables (Ok u) w outcome space t is i = machine_run_carried (machine_of tables settings.steps w) outcome space t is i
  loaded_run_carried tables (Err e) w outcome space t is i = inr (t, (is.0, refl), subst (λ s. side.InStep s t) is.1 i)

  run_over_goes : (d : Description) (before : S) (outcome : Outcome RoutingReport) (space : S) (t : T) → IsRunOver accesses settings avoid d before outcome space → Goes side worlds (first_world accesses settings avoid d before) (first_world accesses2 settings avoid d t)
      → Carried side space (λ v. IsRunOver accesses2 settings avoid d t outcome v)
  run_over_goes d before outcome space t is (inl parted) = inl (_, loaded_run_left side settings avoid d.0 (first_world accesses settings avoid d before).0 (first_world accesses settings avoid d before).1 outcome space _ is parted)
  run_over_goes d before outcome space t is (inr (u, same, i)) =
      subst (λ (q : Outcome (Unit {0}) × State T). Carried side space (λ v. IsLoadedRun accesses2 settings avoid d.0 q.0 q.1 outcome v)) (sym same)
      (loaded_run_carried d.0 (first_world accesses settings avoid d before).0 (first_world accesses settings avoid d before).1 outcome space u is i)

  pub described_run_carried : (d : Outcome Description) (before : S) (outcome : Outcome RoutingReport) (space : S) (t : T) → IsDescribedRun accesses settings avoid d before outcome space → side.InStep before t
      → Carried side space (λ v. IsDescribedRun accesses2 settings avoid d t outcome v)
  described_run_carried (Ok d) before outcome space t is i = run_over_goes d before outcome space t is (goes_from side worlds _ _ ((one_profile side 0 (loaded_tables_together (alike side) (λ n. refl) d.0 settings.steps d.1)).goes (fresh_as settings.evaluation d.0.width d.1 before) t i))
  described_run_carried (Err e) before outcome space t is i = inr (t, (is.0, refl), subst (λ s. side.InStep s t) is.1 i)

  pub run_carried : (text : List ℕ) (before : S) (outcome : Outcome RoutingReport) (space : S) (t : T) → IsRun accesses settings avoid text before outcome space → side.InStep before t
      → Carried side space (λ v. IsRun accesses2 settings avoid text t outcome v)
  run_carried text before outcome space t is i = described_run_carried (described text) before outcome space t is i
