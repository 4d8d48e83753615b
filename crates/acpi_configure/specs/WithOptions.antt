-- The report of a run with options.
use Rattle.std.specs.Prelude.{◌≡◌, ℕ, Bool, true, false, List, Option, map, Ok}
use Rattle.ar_space.specs.Accesses.{Accesses}
use Rattle.ar_space.specs.Outcome.{Outcome}
use Rattle.ar_space.specs.Change.{Change, give, settle, ◌>>=◌}
use Rattle.acpi_machine.specs.MachineStates.{MachineState, sci_of}
use Rattle.acpi_resources.specs.Numbers.{set_of}
use Rattle.acpi_links.specs.Gatherings.{Gathering, gathered}
use Rattle.acpi_links.specs.Problems.{pin_counts}
use Rattle.acpi_links.specs.Sparing.{avoiding}
use Rattle.route_model.specs.Links.{offers_of, paths_of}
use Rattle.route_model.specs.Routing.{wired_to}
use Rattle.route_solve.specs.Problems.{RoutingAnswer}
use Rattle.route_check.specs.Claimed.{claim_of}
use Rattle.route_check.specs.Claims.{RoutingClaim}
use Rattle.route_check.specs.Shared.{Holds}
use Rattle.route_check.specs.Valid.{effective_offers, effective_counts}
use Rattle.route_report.specs.declared.report.SetLine.{SetLine}
use Rattle.route_report.specs.Ordered.{barred_by}
use Rattle.route_report.specs.Readable.{IsReadable, claim_of_report, spared_by}
use Rattle.route_report.specs.Reports.{ReportedAfter, ReportedOptions, RoutingReport}
use Rattle.acpi_configure.specs.Configured.{report_of, with_settings}
use Rattle.acpi_configure.specs.Chosen.{IsChosen}
use Rattle.acpi_configure.specs.Lines.{whole_offer}
use Rattle.acpi_configure.specs.Options.{RunOptions}
use Rattle.acpi_configure.specs.Others.{others_asked, barred_if, options_if}
use Rattle.acpi_configure.specs.Settling.{settled_unless}

-- what was found: the devices that were asked, with what each of them said, and what gathering found, with the problem that is left
pub record Findings : Type 0 where
  pub asked : List ReportedAfter
  pub gathering : Gathering

-- where devices are spared, no link offers an interrupt that is barred
abbrev pub narrowed : Bool → List ℕ → Option ℕ → Gathering → Outcome Gathering
narrowed true barred sci g = avoiding barred sci g
narrowed false barred sci g = Ok g

-- accesses: what the register space makes of them
module _ {S : Type 0} (accesses : Accesses S) where
  -- first the links, then the other devices; sci: the source of the System Control Interrupt, if it has one
  unfoldable pub found_by : RunOptions → Option ℕ → Change (MachineState S) Findings
  found_by o sci = do
    first ← gathered accesses o.avoid
    asked ← others_asked accesses o.spare first.links
    gathering ← settle (narrowed o.spare (barred_if o.spare o.avoid asked) sci first)
    give (record { asked = asked; gathering = gathering })

-- a report with what options add
abbrev pub with_options : RoutingReport → Option ReportedOptions → RoutingReport
with_options r o = record r { options = o }

abbrev pub all_lines : {S : Type 0} → RunOptions → MachineState S → Option ℕ → Findings → RoutingAnswer → RoutingReport
all_lines o s sci found a = with_options (report_of s sci o.avoid found.gathering a) (options_if o.spare o.spread found.asked)

-- what is claimed of an answer: the links with all that they offer, the pins, and beside them the source of the System Control Interrupt
-- and the interrupts that no link is given, ascending and each once
abbrev pub claim_with : RunOptions → Option ℕ → Findings → RoutingAnswer → RoutingClaim
claim_with o sci found a = record (claim_of (map whole_offer found.gathering.links) (pin_counts found.gathering.pins) sci (barred_by (set_of o.avoid) (spared_by (options_if o.spare o.spread found.asked))) a.choice a.busiest a.links a.interrupts) { spread = o.spread }

-- What is reported of a machine where these are the options: what was found, where devices are spared no link offering what they have; the
-- answer to that problem; and, unless no link is to be set, what came of setting each present link to its interrupt of the answer, which
-- leaves the machine as it is after. The report's text can be read back, what that claims is just the answer to what was found, and the
-- claim holds: it is valid, and where links are to share interrupts as little as they can, they do. Its links, the interrupts that each may be given, and the sources that are wired to each interrupt are those
-- of the problem.
pub record IsReportWith {S : Type 0} (accesses : Accesses S) (o : RunOptions) (before after : MachineState S) (r : RoutingReport) : Type 0 where
  pub found : Findings
  pub chosen_in : MachineState S
  pub is_found : found_by accesses o (sci_of before) before ≡ (Ok found, chosen_in)
  pub answer : RoutingAnswer
  pub chosen : IsChosen o.spread found.gathering.problem answer
  pub settings : List SetLine × List ReportedAfter
  pub is_settled : settled_unless accesses o.dry found.gathering.links answer.choice chosen_in ≡ (Ok settings, after)
  pub lines : r ≡ with_settings (all_lines o chosen_in (sci_of before) found answer) settings
  pub readable : IsReadable r
  pub claims : claim_of_report r ≡ claim_with o (sci_of before) found answer
  pub holds : Holds (claim_of_report r)
  pub paths : paths_of (claim_of_report r).links ≡ paths_of found.gathering.problem.links
  pub offers : map (effective_offers (claim_of_report r)) (claim_of_report r).links ≡ offers_of found.gathering.problem.links
  pub counts : (i : ℕ) → wired_to (effective_counts (claim_of_report r)) i ≡ wired_to found.gathering.problem.wired i

-- What is found and chosen for a machine where these are the options, before a link is set: the machine is this one then.
pub record IsChoice {S : Type 0} (accesses : Accesses S) (o : RunOptions) (before after : MachineState S) (g : Gathering) (a : RoutingAnswer) : Type 0 where
  pub found : Findings
  pub is_found : found_by accesses o (sci_of before) before ≡ (Ok found, after)
  pub is_gathering : found.gathering ≡ g
  pub chosen : IsChosen o.spread g.problem a
