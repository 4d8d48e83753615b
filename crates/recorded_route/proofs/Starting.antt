-- A machine that is initialized, and configured.
use Rattle.std.proofs.Common.{◌≡◌, ◌≢◌, ◌∙◌, ap, refl}
use Rattle.std.specs.Prelude.{ℕ, false, List, Option, Ok, Err, IfOk, IfErr, IsErr, IsErrAnd}
use Rattle.ar_space.specs.declared.refusal.Refusal.{Refusal}
use Rattle.ar_space.specs.declared.refusal.Refusal.TheVariants.{OutOfMemory}
use Rattle.ar_space.specs.Accesses.{Accesses}
use Rattle.ar_space.specs.Change.{Does, give, settle, go_on, ◌>>=◌}
use Rattle.ar_space.specs.Outcome.{Outcome, NotMemory}
use Rattle.acpi_machine.specs.Calls.{initialized}
use Rattle.acpi_machine.specs.MachineStates.{MachineState, sci_of}
use Rattle.acpi_links.specs.Gatherings.{Gathering, gathered}
use Rattle.acpi_configure.specs.ForKernels.{IsReportFor}
use Rattle.acpi_configure.specs.Others.{others_asked}
use Rattle.acpi_configure.specs.WithOptions.{Findings, found_by}
use Rattle.route_report.specs.Reports.{RoutingReport}
use Rattle.recorded_route.specs.declared.settings.Settings.{Settings}
use Rattle.recorded_route.specs.Runs.{options_of, IsConfigured, IsStarted}

module _ {S : Type 0} (accesses : Accesses S) (settings : Settings) (avoid : List ℕ) where
  -- where no device is spared, nothing is refused but by gathering
  refused_first : (x : Outcome Gathering) (t after : MachineState S) (e : Refusal)
      → go_on {B = Findings} x t (λ first. others_asked accesses false first.links >>= (λ asked. settle (Ok first) >>= (λ g. give (record { asked = asked; gathering = g })))) ≡ (Err e, after) → ◌≡◌ {A = Outcome Gathering × MachineState S} (x, t) (Err e, after)
  unfolding others_asked give settle ◌>>=◌ go_on
  refused_first (Ok g) t after e is = absurd (cc (ap (λ (p : Outcome Findings × MachineState S). p.0) is))
  refused_first (Err x) t after e is =
      let same : x ≡ e = cc (ap (λ (p : Outcome Findings × MachineState S). p.0) is) in
      let left : t ≡ after = ap (λ (p : Outcome Findings × MachineState S). p.1) is in
      rw (same, left) refl

  refused_gathering : (sci : Option ℕ) (m after : MachineState S) (e : Refusal) → found_by accesses (options_of settings avoid) sci m ≡ (Err e, after) → gathered accesses avoid m ≡ (Err e, after)
  unfolding found_by ◌>>=◌
  refused_gathering sci m after e is = refused_first (gathered accesses avoid m).0 (gathered accesses avoid m).1 after e is

  configured : (m after : MachineState S) (r : Outcome RoutingReport) → IfOk r (λ report. IsReportFor accesses (options_of settings avoid) m after report)
      → IfErr r (λ e. e ≢ OutOfMemory → found_by accesses (options_of settings avoid) (sci_of m) m ≡ (Err e, after)) → NotMemory r → IsConfigured accesses settings avoid m r after
  configured m after (Ok report) is refused ne = is
  configured m after (Err e) is refused ne = refused_gathering (sci_of m) m after e (refused ne)

  pub ready : (m mid after : MachineState S) (r : Outcome RoutingReport) → Does (Ok tt) mid (initialized accesses settings.mode) m → IfOk r (λ report. IsReportFor accesses (options_of settings avoid) mid after report)
      → IfErr r (λ e. e ≢ OutOfMemory → found_by accesses (options_of settings avoid) (sci_of mid) mid ≡ (Err e, after)) → NotMemory r → IsStarted accesses settings avoid m r after
  ready m mid after r d is refused ne = rw (d.is tt) (configured mid after r is refused ne)

  pub not_ready : {e : Refusal} (m after : MachineState S) (r : Outcome RoutingReport) → Does {A = Unit {0}} (Err e) after (initialized accesses settings.mode) m → IsErr r × IsErrAnd r (λ x. x ≡ e) → NotMemory r → IsStarted accesses settings avoid m r after
  not_ready m after (Ok report) d i ne = absurd (cc i.0)
  not_ready {e = e} m after (Err x) d i ne = let same : x ≡ e = i.1 in rw (d.is (λ q. ne (same ∙ q))) (rw same refl, refl)

pub ruleset starting = (ready, not_ready)
