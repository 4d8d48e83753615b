-- Spaces that have parted stay so to the end of a run, over either of them.
use Rattle.std.specs.Prelude.{◌≡◌, ℕ, List, Ok, Err}
use Rattle.std.proofs.Common.{inl, refl, sym, subst}
use Rattle.ar_space.specs.Accesses.{Accesses}
use Rattle.ar_space.specs.Outcome.{Outcome}
use Rattle.ar_tables.specs.declared.tables.Tables.{Tables}
use Rattle.aml_world.specs.state.State.{State}
use Rattle.acpi_machine.specs.Calls.{initialized}
use Rattle.acpi_machine.specs.MachineStates.{MachineState, machine_of}
use Rattle.acpi_links.specs.Gatherings.{Gathering}
use Rattle.acpi_links.specs.Links.{PresentLink}
use Rattle.acpi_configure.specs.Configured.{IsReport}
use Rattle.acpi_configure.specs.Settling.{settled_unless}
use Rattle.route_report.specs.declared.report.SetLine.{SetLine}
use Rattle.route_report.specs.Reports.{RoutingReport, ReportedAfter}
use Rattle.recorded_route.specs.declared.settings.Settings.{Settings}
use Rattle.recorded_route.specs.Runs.{IsConfigured, IsConfiguredIf, IsMachineRun, IsLoadedRun}
use Rattle.aml_laws.proofs.Together.{SideBySide, alike}
use Rattle.machine_laws.proofs.MachinesTogether.{initialized_together}
use Rattle.machine_laws.proofs.LinksTogether.{gathered_together}
use Rattle.machine_laws.proofs.SettingsTogether.{settled_unless_together}
use Rattle.recorded_laws.proofs.PlainReports.{plain_report}
use Rattle.recorded_laws.proofs.TellingTogether.{told_left, told_right}

abbrev pub Settled : Type 0
Settled = Outcome (List SetLine × List ReportedAfter)

module _ {S T : Type 0} {accesses : Accesses S} {accesses2 : Accesses T} (side : SideBySide accesses accesses2) (settings : Settings) (avoid : List ℕ) where
  pub settled_left : (links : List PresentLink) (ns : List ℕ) (m after : MachineState S) (r : Settled) (t : T) → settled_unless accesses settings.dry links ns m ≡ (r, after) → side.Parted m.world.space t → side.Parted after.world.space t
  settled_left links ns m after r t is p = subst (λ (x : Settled × MachineState S). side.Parted x.1.world.space t) is ((settled_unless_together {side = side} settings.dry links ns).left_parted m t p)

  pub settled_right : (links : List PresentLink) (ns : List ℕ) (m after : MachineState T) (r : Settled) (s : S) → settled_unless accesses2 settings.dry links ns m ≡ (r, after) → side.Parted s m.world.space → side.Parted s after.world.space
  settled_right links ns m after r s is p = subst (λ (x : Settled × MachineState T). side.Parted s x.1.world.space) is ((settled_unless_together {side = side} settings.dry links ns).right_parted s m p)

  report_left : (m after : MachineState S) (report : RoutingReport) (t : T) → IsReport accesses settings.dry avoid m after report → side.Parted m.world.space t → side.Parted after.world.space t
  report_left m after report t is p =
      settled_left is.found.links is.answer.choice is.chosen_in after (Ok is.settings) t is.is_settled (subst (λ (x : Outcome Gathering × MachineState S). side.Parted x.1.world.space t) is.is_found ((gathered_together {side = alike side} (λ n. refl) (inl refl) avoid).left_parted m t p))

  report_right : (m after : MachineState T) (report : RoutingReport) (s : S) → IsReport accesses2 settings.dry avoid m after report → side.Parted s m.world.space → side.Parted s after.world.space
  report_right m after report s is p =
      settled_right is.found.links is.answer.choice is.chosen_in after (Ok is.settings) s is.is_settled (subst (λ (x : Outcome Gathering × MachineState T). side.Parted s x.1.world.space) is.is_found ((gathered_together {side = alike side} (λ n. refl) (inl refl) avoid).right_parted s m p))

  pub configured_left : (m after : MachineState S) (outcome : Outcome RoutingReport) (t : T) → IsConfigured accesses settings avoid m outcome after → side.Parted m.world.space t → side.Parted after.world.space t
  configured_left m after (Ok report) t is p = told_left side settings.kernel is.plain report is.configured after t is.is_told (report_left m is.configured is.plain t (plain_report accesses settings avoid m after report is) p)
  configured_left m after (Err e) t is p = subst (λ (x : Outcome Gathering × MachineState S). side.Parted x.1.world.space t) is ((gathered_together {side = alike side} (λ n. refl) (inl refl) avoid).left_parted m t p)

  pub configured_right : (m after : MachineState T) (outcome : Outcome RoutingReport) (s : S) → IsConfigured accesses2 settings avoid m outcome after → side.Parted s m.world.space → side.Parted s after.world.space
  configured_right m after (Ok report) s is p = told_right side settings.kernel is.plain report is.configured after s is.is_told (report_right m is.configured is.plain s (plain_report accesses2 settings avoid m after report is) p)
  configured_right m after (Err e) s is p = subst (λ (x : Outcome Gathering × MachineState T). side.Parted s x.1.world.space) is ((gathered_together {side = alike side} (λ n. refl) (inl refl) avoid).right_parted s m p)

  pub configured_if_left : (r : Outcome (Unit {0})) (m after : MachineState S) (outcome : Outcome RoutingReport) (t : T) → IsConfiguredIf accesses settings avoid r m outcome after → side.Parted m.world.space t → side.Parted after.world.space t
  configured_if_left (Ok u) m after outcome t is p = configured_left m after outcome t is p
  configured_if_left (Err e) m after outcome t is p = subst (λ (x : MachineState S). side.Parted x.world.space t) (sym is.1) p

  pub configured_if_right : (r : Outcome (Unit {0})) (m after : MachineState T) (outcome : Outcome RoutingReport) (s : S) → IsConfiguredIf accesses2 settings avoid r m outcome after → side.Parted s m.world.space → side.Parted s after.world.space
  configured_if_right (Ok u) m after outcome s is p = configured_right m after outcome s is p
  configured_if_right (Err e) m after outcome s is p = subst (λ (x : MachineState T). side.Parted s x.world.space) (sym is.1) p

  pub machine_run_left : (m : MachineState S) (outcome : Outcome RoutingReport) (space : S) (t : T) → IsMachineRun accesses settings avoid m outcome space → side.Parted m.world.space t → side.Parted space t
  machine_run_left m outcome space t is p =
      subst (λ s. side.Parted s t) is.is_space (configured_if_left (initialized accesses settings.mode m).0 (initialized accesses settings.mode m).1 is.after outcome t is.is_started ((initialized_together (alike side) (λ n. refl) settings.mode).left_parted m t p))

  pub machine_run_right : (m : MachineState T) (outcome : Outcome RoutingReport) (space : T) (s : S) → IsMachineRun accesses2 settings avoid m outcome space → side.Parted s m.world.space → side.Parted s space
  machine_run_right m outcome space s is p =
      subst (λ t. side.Parted s t) is.is_space (configured_if_right (initialized accesses2 settings.mode m).0 (initialized accesses2 settings.mode m).1 is.after outcome s is.is_started ((initialized_together (alike side) (λ n. refl) settings.mode).right_parted s m p))

  pub loaded_run_left : (tables : Tables) (r : Outcome (Unit {0})) (w : State S) (outcome : Outcome RoutingReport) (space : S) (t : T) → IsLoadedRun accesses settings avoid tables r w outcome space → side.Parted w.space t → side.Parted space t
  loaded_run_left tables (Ok u) w outcome space t is p = machine_run_left (machine_of tables settings.steps w) outcome space t is p
  loaded_run_left tables (Err e) w outcome space t is p = subst (λ s. side.Parted s t) is.1 p

  pub loaded_run_right : (tables : Tables) (r : Outcome (Unit {0})) (w : State T) (outcome : Outcome RoutingReport) (space : T) (s : S) → IsLoadedRun accesses2 settings avoid tables r w outcome space → side.Parted s w.space → side.Parted s space
  loaded_run_right tables (Ok u) w outcome space s is p = machine_run_right (machine_of tables settings.steps w) outcome space s is p
  loaded_run_right tables (Err e) w outcome space s is p = subst (λ t. side.Parted s t) is.1 p
