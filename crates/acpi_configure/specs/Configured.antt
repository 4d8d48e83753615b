-- The report of a run.
use Rattle.std.specs.Prelude.{◌≡◌, ℕ, Bool, List, [], Option, None, map, Ok}
use Rattle.ar_space.specs.Accesses.{Accesses}
use Rattle.acpi_machine.specs.MachineStates.{MachineState, sci_of}
use Rattle.acpi_resources.specs.Numbers.{set_of}
use Rattle.acpi_links.specs.Gatherings.{Gathering, gathered}
use Rattle.acpi_links.specs.Problems.{pin_counts}
use Rattle.route_model.specs.Links.{offers_of, paths_of}
use Rattle.route_model.specs.Routing.{busiest, wired_to, IsFirstLeast}
use Rattle.route_solve.specs.Problems.{RoutingProblem, RoutingAnswer}
use Rattle.route_solve.specs.Shown.{Shown}
use Rattle.route_check.specs.Claimed.{gives_of, paths_at, bound_for, claim_of}
use Rattle.route_check.specs.Claims.{RoutingClaim}
use Rattle.route_check.specs.Valid.{Valid, effective_offers, effective_counts}
use Rattle.route_report.specs.Readable.{IsReadable, claim_of_report}
use Rattle.route_report.specs.Reports.{RoutingReport}
use Rattle.route_report.specs.declared.report.SetLine.{SetLine}
use Rattle.route_report.specs.Reports.{ReportedAfter}
use Rattle.acpi_configure.specs.Lines.{io_apics_of, overrides_of, row_of, whole_offer, pin_line}
use Rattle.acpi_configure.specs.Settling.{settled_unless}

-- the first of the assignments whose busiest interrupt serves the fewest sources, and the set that shows why none is less
-- busy; a problem has no other such answer
pub record Solves (p : RoutingProblem) (a : RoutingAnswer) : Type 0 where
  pub first_least : IsFirstLeast (offers_of p.links) p.wired a.choice
  pub busiest_is : busiest p.wired a.choice ≡ a.busiest
  pub shown : Shown (offers_of p.links) p.wired a.busiest a.links a.interrupts

-- what is claimed of an answer to what was gathered: the links with all that they offer, the pins, and beside them the source of the
-- System Control Interrupt and the interrupts that are avoided, ascending and each once
abbrev pub claim_of_answer : Option ℕ → List ℕ → Gathering → RoutingAnswer → RoutingClaim
claim_of_answer sci avoid g a = claim_of (map whole_offer g.links) (pin_counts g.pins) sci (set_of avoid) a.choice a.busiest a.links a.interrupts

-- the lines of a machine, of the source of the System Control Interrupt and the interrupts that are avoided, of what was gathered, and
-- of an answer to its problem
abbrev pub report_of : {S : Type 0} → MachineState S → Option ℕ → List ℕ → Gathering → RoutingAnswer → RoutingReport
report_of s sci avoid g a = record {
  mode = s.mode;
  io_apics = io_apics_of s.tables.madt;
  overrides = overrides_of s.tables.madt;
  sci = sci;
  avoid = set_of avoid;
  options = None;
  links = map row_of g.links;
  wired = pin_counts g.pins;
  pins = map (pin_line (gives_of g.problem.links a.choice)) g.pins;
  gives = gives_of g.problem.links a.choice;
  busiest = a.busiest;
  bound = bound_for a.busiest (record { links = paths_at g.problem.links a.links; interrupts = a.interrupts });
  sets = [];
  afters = [];
}

-- with what came of setting the links, and what they are set to then
abbrev pub with_settings : RoutingReport → List SetLine × List ReportedAfter → RoutingReport
with_settings r x = record r { sets = x.0; afters = x.1 }

-- What is reported of a machine: what gathering found, the answer to the problem of that, in which no link offers an interrupt that is
-- avoided, and, unless no link is to be set, what came of setting each present link to its interrupt of the answer, which leaves the
-- machine as it is after. The report's text can be read back, what that claims is just the answer to what was found, and the claim is
-- valid: its links, the interrupts that each may be given, and the sources that are wired to each interrupt are those of the problem.
pub record IsReport {S : Type 0} (accesses : Accesses S) (dry : Bool) (avoid : List ℕ) (before after : MachineState S) (r : RoutingReport) : Type 0 where
  pub found : Gathering
  pub chosen_in : MachineState S
  pub is_found : gathered accesses avoid before ≡ (Ok found, chosen_in)
  pub answer : RoutingAnswer
  pub solves : Solves found.problem answer
  pub settings : List SetLine × List ReportedAfter
  pub is_settled : settled_unless accesses dry found.links answer.choice chosen_in ≡ (Ok settings, after)
  pub lines : r ≡ with_settings (report_of chosen_in (sci_of before) avoid found answer) settings
  pub readable : IsReadable r
  pub claims : claim_of_report r ≡ claim_of_answer (sci_of before) avoid found answer
  pub valid : Valid (claim_of_report r)
  pub paths : paths_of (claim_of_report r).links ≡ paths_of found.problem.links
  pub offers : map (effective_offers (claim_of_report r)) (claim_of_report r).links ≡ offers_of found.problem.links
  pub counts : (i : ℕ) → wired_to (effective_counts (claim_of_report r)) i ≡ wired_to found.problem.wired i
