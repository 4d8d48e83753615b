-- A run without options.
use Rattle.std.proofs.Common.{◌≡◌, ◌∙◌, ap, sym, refl, ℕ, Bool, List, Option, Ok, Err, []}
use Rattle.ar_space.specs.Accesses.{Accesses}
use Rattle.ar_space.specs.Outcome.{Outcome}
use Rattle.ar_space.specs.Change.{give, settle, go_on, ◌>>=◌}
use Rattle.acpi_machine.specs.MachineStates.{MachineState, sci_of}
use Rattle.acpi_links.specs.Gatherings.{Gathering, gathered}
use Rattle.route_report.specs.Reports.{RoutingReport}
use Rattle.route_check.specs.Claims.{RoutingClaim}
use Rattle.acpi_configure.specs.Configured.{IsReport}
use Rattle.acpi_configure.specs.ForKernels.{told_if, IsReportFor}
use Rattle.acpi_configure.specs.Options.{plain}
use Rattle.acpi_configure.specs.Others.{others_asked}
use Rattle.acpi_configure.specs.WithOptions.{Findings, found_by, IsReportWith}

module _ {S : Type 0} (accesses : Accesses S) (dry : Bool) (avoid : List ℕ) (sci : Option ℕ) where
  -- what gathering found, with no device that was asked
  pub bare : Outcome Gathering → Outcome Findings
  bare (Ok g) = Ok (record { asked = []; gathering = g })
  bare (Err e) = Err e

  pub found_bare : (before : MachineState S) → found_by accesses (plain dry avoid) sci before ≡ (bare (gathered accesses avoid before).0, (gathered accesses avoid before).1)
  unfolding found_by others_asked give settle ◌>>=◌ go_on bare
  found_bare before = by (gathered accesses avoid before).0 (gathered accesses avoid before).1
    where
      by : (x : Outcome Gathering) (t : MachineState S) → go_on x t (λ first. others_asked accesses (plain dry avoid).spare first.links >>= (λ asked. settle (Ok first) >>= (λ g. give (record { asked = asked; gathering = g })))) ≡ (bare x, t)
      by (Ok g) t = refl
      by (Err e) t = refl

  gathered_first : (x : Outcome Gathering) (t m : MachineState S) (f : Findings) → ◌≡◌ {A = Outcome Findings × MachineState S} (bare x, t) (Ok f, m) → ◌≡◌ {A = Outcome Gathering × MachineState S} (x, t) (Ok f.gathering, m)
  unfolding bare
  gathered_first (Ok g) t m f is =
      let same : ◌≡◌ {A = Findings} (record { asked = []; gathering = g }) f = cc (ap (λ (p : Outcome Findings × MachineState S). p.0) is) in
      let left : t ≡ m = ap (λ (p : Outcome Findings × MachineState S). p.1) is in
      rw (left, ← same) refl
  gathered_first (Err e) t m f is = absurd (cc (ap (λ (p : Outcome Findings × MachineState S). p.0) is))

  pub found_gathered : (before m : MachineState S) (f : Findings) → found_by accesses (plain dry avoid) sci before ≡ (Ok f, m) → gathered accesses avoid before ≡ (Ok f.gathering, m)
  found_gathered before m f is = gathered_first (gathered accesses avoid before).0 (gathered accesses avoid before).1 m f (sym (found_bare before) ∙ is)

  pub gathered_found : (before m : MachineState S) (g : Gathering) → gathered accesses avoid before ≡ (Ok g, m) → found_by accesses (plain dry avoid) sci before ≡ (Ok (record { asked = []; gathering = g }), m)
  unfolding bare
  gathered_found before m g is = found_bare before ∙ ap (λ (x : Outcome Gathering × MachineState S). (bare x.0, x.1)) is

module _ {S : Type 0} (accesses : Accesses S) (dry : Bool) (avoid : List ℕ) (before after : MachineState S) (r : RoutingReport) where
  pub as_configured : IsReportWith accesses (plain dry avoid) before after r → IsReport accesses dry avoid before after r
  as_configured is = record {
    found = is.found.gathering;
    chosen_in = is.chosen_in;
    is_found = found_gathered accesses dry avoid (sci_of before) before is.chosen_in is.found is.is_found;
    answer = is.answer;
    solves = is.chosen;
    settings = is.settings;
    is_settled = is.is_settled;
    lines = is.lines;
    readable = is.readable;
    claims = is.claims;
    valid = is.holds.valid;
    paths = is.paths;
    offers = is.offers;
    counts = is.counts;
  }

  pub as_without : IsReport accesses dry avoid before after r → IsReportWith accesses (plain dry avoid) before after r
  as_without is = record {
    found = record { asked = []; gathering = is.found };
    chosen_in = is.chosen_in;
    is_found = gathered_found accesses dry avoid (sci_of before) before is.chosen_in is.found is.is_found;
    answer = is.answer;
    chosen = is.solves;
    settings = is.settings;
    is_settled = is.is_settled;
    lines = is.lines;
    readable = is.readable;
    claims = is.claims;
    holds = record { valid = is.valid; shared = λ e. absurd (cc (sym (ap (λ (c : RoutingClaim). c.spread) is.claims) ∙ e)) };
    paths = is.paths;
    offers = is.offers;
    counts = is.counts;
  }

  -- no kernel wants lines
  pub told_configured : IsReportFor accesses (plain dry avoid) before after r → IsReport accesses dry avoid before after r
  unfolding told_if give
  told_configured is =
      let told : ◌≡◌ {A = Outcome RoutingReport × MachineState S} (Ok is.plain, is.configured) (Ok r, after) = is.is_told in
      let report : is.plain ≡ r = cc (ap (λ (x : Outcome RoutingReport × MachineState S). x.0) told) in
      let left : is.configured ≡ after = ap (λ (x : Outcome RoutingReport × MachineState S). x.1) told in
      as_configured (rw (← report, ← left) is.is_plain)

  pub told_without : IsReport accesses dry avoid before after r → IsReportFor accesses (plain dry avoid) before after r
  unfolding told_if give
  told_without is = record { plain = r; configured = after; is_plain = as_without is; is_told = refl; readable = is.readable; claims = refl }
