-- Runs in the core profile that leave nothing out are runs in the wide one.
use Rattle.std.specs.Prelude.{◌≡◌, ◌⊎◌, ℕ, List, Ok, Err}
use Rattle.std.proofs.Common.{inl, inr, sym, subst, ap, ◌∙◌}
use Rattle.ar_space.specs.declared.refusal.Refusal.{Refusal}
use Rattle.ar_space.specs.Accesses.{Accesses}
use Rattle.ar_space.specs.Outcome.{Outcome}
use Rattle.ar_tables.specs.declared.tables.Tables.{Tables}
use Rattle.aml_world.specs.state.State.{State}
use Rattle.aml_world.specs.state.Predefined.{fresh_as}
use Rattle.aml_laws.specs.Widened.{widened, IsLeftOutAt}
use Rattle.acpi_machine.specs.Calls.{initialized}
use Rattle.acpi_machine.specs.MachineStates.{MachineState, machine_of}
use Rattle.acpi_links.specs.Gatherings.{Gathering, gathered}
use Rattle.route_report.specs.Reports.{RoutingReport}
use Rattle.recorded_route.specs.declared.settings.Settings.{Settings}
use Rattle.recorded_route.specs.Runs.{Description, options_of, IsConfigured, IsConfiguredIf, IsMachineRun, IsLoadedRun, IsDescribedRun, world_over}
use Rattle.machine_laws.specs.Widened.{machine_widened, call_widened, Withheld, IsWithheld}
use Rattle.machine_laws.proofs.MachinesWidened.{tables_widened, initialization_widened, gathering_widened}
use Rattle.machine_laws.proofs.TellingWidened.{report_for_kernels_widened}
use Rattle.recorded_laws.specs.Widened.{settings_widened, IsLeftOrPassed, LeavesNothingOut}

-- a run that was refused for what the core profile leaves out, or the wide one passes over, leaves something out
left_out_by : (outcome : Outcome RoutingReport) (e : Refusal) → outcome ≡ Err e → IsLeftOrPassed e → LeavesNothingOut outcome → ⊥
left_out_by outcome e is out whole = (subst (λ (x : Outcome RoutingReport). LeavesNothingOut x) is whole) out

module _ {S : Type 0} (accesses : Accesses S) (settings : Settings) (avoid : List ℕ) where
  refusal_widened : (e : Refusal) (m after : MachineState S) → gathered accesses avoid m ≡ (Err e, after) → (Withheld e → ⊥) → IsWithheld (gathered accesses avoid m).0 ⊎ (gathered accesses avoid (machine_widened m) ≡ call_widened (gathered accesses avoid m))
      → gathered accesses avoid (machine_widened m) ≡ (Err e, machine_widened after)
  refusal_widened e m after is apart (inl out) = absurd (apart (subst (λ (x : Outcome Gathering × MachineState S). IsWithheld x.0) is out))
  refusal_widened e m after is apart (inr same) = same ∙ ap (λ (x : Outcome Gathering × MachineState S). call_widened x) is

  configured_widened : (outcome : Outcome RoutingReport) (m after : MachineState S) → LeavesNothingOut outcome → IsConfigured accesses settings avoid m outcome after → IsConfigured accesses (settings_widened settings) avoid (machine_widened m) outcome (machine_widened after)
  configured_widened (Ok report) m after whole is = report_for_kernels_widened accesses (options_of settings avoid) m after report whole is
  configured_widened (Err e) m after whole is = refusal_widened e m after is (λ out. whole (inl out)) (gathering_widened accesses avoid m)

  ready_widened : (r : Outcome (Unit {0})) (m after : MachineState S) (outcome : Outcome RoutingReport) → LeavesNothingOut outcome → IsConfiguredIf accesses settings avoid r m outcome after
      → IsConfiguredIf accesses (settings_widened settings) avoid r (machine_widened m) outcome (machine_widened after)
  ready_widened (Ok u) m after outcome whole is = configured_widened outcome m after whole is
  ready_widened (Err e) m after outcome whole is = (is.0, ap (λ (x : MachineState S). machine_widened x) is.1)

  -- initializing that was refused for a term leaves something out
  not_ready : (r : Outcome (Unit {0})) (m after : MachineState S) (outcome : Outcome RoutingReport) → LeavesNothingOut outcome → IsConfiguredIf accesses settings avoid r m outcome after → IsLeftOutAt 0 r → ⊥
  not_ready (Ok u) m after outcome whole is (inl out) = out
  not_ready (Ok u) m after outcome whole is (inr out) = out.1
  not_ready (Err e) m after outcome whole is (inl out) = left_out_by outcome e is.0 (inl (inl out)) whole
  not_ready (Err e) m after outcome whole is (inr out) = left_out_by outcome e is.0 (inr out.1) whole

  started_by : (m after : MachineState S) (outcome : Outcome RoutingReport) (p q : Outcome (Unit {0}) × MachineState S) → LeavesNothingOut outcome → IsConfiguredIf accesses settings avoid p.0 p.1 outcome after → IsLeftOutAt 0 p.0 ⊎ (q ≡ call_widened p)
      → IsConfiguredIf accesses (settings_widened settings) avoid q.0 q.1 outcome (machine_widened after)
  started_by m after outcome p q whole is (inl out) = absurd (not_ready p.0 p.1 after outcome whole is out)
  started_by m after outcome p q whole is (inr same) =
      subst (λ (x : Outcome (Unit {0}) × MachineState S). IsConfiguredIf accesses (settings_widened settings) avoid x.0 x.1 outcome (machine_widened after)) (sym same) (ready_widened p.0 p.1 after outcome whole is)

  machine_run_widened : (m : MachineState S) (outcome : Outcome RoutingReport) (space : S) → LeavesNothingOut outcome → IsMachineRun accesses settings avoid m outcome space → IsMachineRun accesses (settings_widened settings) avoid (machine_widened m) outcome space
  machine_run_widened m outcome space whole is = record {
    after = machine_widened is.after;
    is_started = started_by m is.after outcome (initialized accesses settings.mode m) (initialized accesses settings.mode (machine_widened m)) whole is.is_started (initialization_widened accesses settings.mode m);
    is_space = is.is_space;
  }

  loaded_run_widened : (tables : Tables) (r : Outcome (Unit {0})) (w : State S) (outcome : Outcome RoutingReport) (space : S) → LeavesNothingOut outcome → IsLoadedRun accesses settings avoid tables r w outcome space
      → IsLoadedRun accesses (settings_widened settings) avoid tables r (widened w) outcome space
  loaded_run_widened tables (Ok u) w outcome space whole is = machine_run_widened (machine_of tables settings.steps w) outcome space whole is
  loaded_run_widened tables (Err e) w outcome space whole is = is

  -- nor does loading
  not_loaded : (tables : Tables) (r : Outcome (Unit {0})) (w : State S) (outcome : Outcome RoutingReport) (space : S) → LeavesNothingOut outcome → IsLoadedRun accesses settings avoid tables r w outcome space → IsLeftOutAt 0 r → ⊥
  not_loaded tables (Ok u) w outcome space whole is (inl out) = out
  not_loaded tables (Ok u) w outcome space whole is (inr out) = out.1
  not_loaded tables (Err e) w outcome space whole is (inl out) = left_out_by outcome e is.0 (inl (inl out)) whole
  not_loaded tables (Err e) w outcome space whole is (inr out) = left_out_by outcome e is.0 (inr out.1) whole

  run_by : (tables : Tables) (p q : Outcome (Unit {0}) × State S) (outcome : Outcome RoutingReport) (space : S) → LeavesNothingOut outcome → IsLoadedRun accesses settings avoid tables p.0 p.1 outcome space → IsLeftOutAt 0 p.0 ⊎ (q ≡ (p.0, widened p.1))
      → IsLoadedRun accesses (settings_widened settings) avoid tables q.0 q.1 outcome space
  run_by tables p q outcome space whole is (inl out) = absurd (not_loaded tables p.0 p.1 outcome space whole is out)
  run_by tables p q outcome space whole is (inr same) =
      subst (λ (x : Outcome (Unit {0}) × State S). IsLoadedRun accesses (settings_widened settings) avoid tables x.0 x.1 outcome space) (sym same) (loaded_run_widened tables p.0 p.1 outcome space whole is)

  pub described_run_widened : (space : S) (description : Outcome Description) (outcome : Outcome RoutingReport) (left : S) → LeavesNothingOut outcome → IsDescribedRun accesses settings avoid description space outcome left
      → IsDescribedRun accesses (settings_widened settings) avoid description space outcome left
  described_run_widened space (Ok d) outcome left whole is =
      run_by d.0 (world_over accesses settings avoid d space) (world_over accesses (settings_widened settings) avoid d space) outcome left whole is (tables_widened accesses d.0 settings.steps d.1 (fresh_as settings.evaluation d.0.width d.1 space))
  described_run_widened space (Err e) outcome left whole is = is
