-- A report over a register space is one over each space that is in step with it.
use Rattle.std.specs.Prelude.{◌≡◌, ◌⊎◌, ℕ, List, Bool, Ok, refl}
use Rattle.std.proofs.Common.{inl, inr, sym, subst}
use Rattle.ar_space.specs.Accesses.{Accesses}
use Rattle.ar_space.specs.Outcome.{Outcome}
use Rattle.aml_laws.specs.Noted.{WithNotes, noted}
use Rattle.aml_laws.proofs.Together.{SideBySide, Goes, alike, goes_from}
use Rattle.aml_laws.proofs.Noting.{noting}
use Rattle.acpi_machine.specs.MachineStates.{MachineState}
use Rattle.acpi_links.specs.Gatherings.{Gathering, gathered}
use Rattle.acpi_links.specs.Links.{PresentLink}
use Rattle.acpi_configure.specs.Configured.{IsReport}
use Rattle.acpi_configure.specs.Settling.{settled_unless}
use Rattle.route_report.specs.declared.report.SetLine.{SetLine}
use Rattle.route_report.specs.Reports.{RoutingReport, ReportedAfter}
use Rattle.machine_laws.specs.Notes.{machine_without_notes}
use Rattle.machine_laws.proofs.MachineNoting.{machine_back}
use Rattle.machine_laws.proofs.MachineShapes.{machine_over, machines}
use Rattle.machine_laws.proofs.LinksTogether.{gathered_together}
use Rattle.machine_laws.proofs.SettingsTogether.{settled_unless_together}

-- what came of setting links, and what they are set to then
abbrev Settled : Type 0
Settled = Outcome (List SetLine × List ReportedAfter)

-- the spaces have parted, or the same is so over the other space, and they are in step
abbrev pub Carried : {S T : Type 0} {accesses : Accesses S} {accesses2 : Accesses T} → SideBySide accesses accesses2 → S → (T → Type 0) → Type 0
Carried {T = T} side s is = ((t : T) × side.Parted s t) ⊎ ((t : T) × is t × side.InStep s t)

module _ {S T : Type 0} {accesses : Accesses S} {accesses2 : Accesses T} (side : SideBySide accesses accesses2) (dry : Bool) (avoid : List ℕ) where
  parted_by_settling : (links : List PresentLink) (ns : List ℕ) (m after : MachineState S) (r : Settled) (t : T) → settled_unless accesses dry links ns m ≡ (r, after) → side.Parted m.world.space t → side.Parted after.world.space t
  parted_by_settling links ns m after r t is p = subst (λ (x : Settled × MachineState S). side.Parted x.1.world.space t) is ((settled_unless_together {side = side} dry links ns).left_parted m t p)

  settled_carried : (m after : MachineState S) (report : RoutingReport) (t u : T) (is : IsReport accesses dry avoid m after report) → gathered accesses2 avoid (machine_over m t) ≡ (Ok is.found, machine_over is.chosen_in u)
      → Goes side machines (Ok is.settings, after) (settled_unless accesses2 dry is.found.links is.answer.choice (machine_over is.chosen_in u))
      → Carried side after.world.space (λ v. IsReport accesses2 dry avoid (machine_over m t) (machine_over after v) report)
  settled_carried m after report t u is found (inl parted) = inl (_, parted)
  settled_carried m after report t u is found (inr (v, same, i)) = inr (
    v,
    record {
      found = is.found;
      chosen_in = machine_over is.chosen_in u;
      is_found = found;
      answer = is.answer;
      solves = is.solves;
      settings = is.settings;
      is_settled = same;
      lines = is.lines;
      readable = is.readable;
      claims = is.claims;
      valid = is.valid;
      paths = is.paths;
      offers = is.offers;
      counts = is.counts;
    },
    i,
  )

  pub report_carried : (m after : MachineState S) (report : RoutingReport) (t : T) (is : IsReport accesses dry avoid m after report) → Goes side machines (Ok is.found, is.chosen_in) (gathered accesses2 avoid (machine_over m t))
      → Carried side after.world.space (λ v. IsReport accesses2 dry avoid (machine_over m t) (machine_over after v) report)
  report_carried m after report t is (inl parted) =
      let u = (gathered accesses2 avoid (machine_over m t)).1.world.space in
      inl (u, parted_by_settling is.found.links is.answer.choice is.chosen_in after (Ok is.settings) u is.is_settled parted)
  report_carried m after report t is (inr (u, same, i)) =
      settled_carried m after report t u is same
      (subst (λ (x : Settled × MachineState S). Goes side machines x (settled_unless accesses2 dry is.found.links is.answer.choice (machine_over is.chosen_in u))) is.is_settled
      (goes_from side machines _ _ ((settled_unless_together {side = side} dry is.found.links is.answer.choice).goes is.chosen_in u i)))

-- ---- over a space with notes

module _ {S : Type 0} (accesses : Accesses S) (dry : Bool) (avoid : List ℕ) where
  with_notes : (before : MachineState (WithNotes S)) (after : MachineState S) (report : RoutingReport) → Carried (noting accesses) after.world.space (λ v. IsReport (noted accesses) dry avoid before (machine_over after v) report)
      → (left : MachineState (WithNotes S)) × (after ≡ machine_without_notes left) × IsReport (noted accesses) dry avoid before left report
  unfolding noting
  with_notes before after report (inl (t, parted)) = absurd parted
  with_notes before after report (inr (t, is, i)) = (machine_over after t, sym (machine_back accesses after t i), is)

  pub report_noted : (before : MachineState (WithNotes S)) (after : MachineState S) (report : RoutingReport) → IsReport accesses dry avoid (machine_without_notes before) after report
      → (left : MachineState (WithNotes S)) × (after ≡ machine_without_notes left) × IsReport (noted accesses) dry avoid before left report
  unfolding noting
  report_noted before after report is =
      with_notes before after report (report_carried (noting accesses) dry avoid (machine_without_notes before) after report before.world.space is
      (subst (λ (x : Outcome Gathering × MachineState S). Goes (noting accesses) machines x (gathered (noted accesses) avoid before)) is.is_found
      (goes_from (noting accesses) machines _ _ ((gathered_together {side = alike (noting accesses)} (λ n. refl) (inl refl) avoid).goes (machine_without_notes before) before.world.space refl))))
