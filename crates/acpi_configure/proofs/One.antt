-- A problem has one answer, and a machine one report.
use Rattle.std.proofs.Common.{◌≡◌, ◌∙◌, ap, sym, subst, refl, ℕ, Bool, false, List, Ok}
use Rattle.ar_space.specs.Accesses.{Accesses}
use Rattle.ar_space.specs.Outcome.{Outcome}
use Rattle.acpi_machine.specs.MachineStates.{MachineState, sci_of}
use Rattle.acpi_links.specs.Gatherings.{Gathering, gathered}
use Rattle.route_model.specs.Links.{offers_of}
use Rattle.route_model.specs.Routing.{busiest, IsFirstLeast}
use Rattle.route_solve.specs.Problems.{RoutingProblem, RoutingAnswer}
use Rattle.route_solve.specs.Shown.{Shown}
use Rattle.route_report.specs.Reports.{RoutingReport, ReportedAfter}
use Rattle.route_report.specs.declared.report.SetLine.{SetLine}
use Rattle.acpi_configure.specs.Settling.{settled_unless}
use Rattle.acpi_configure.specs.Chosen.{IsChosen}
use Rattle.acpi_configure.specs.Configured.{Solves, report_of, with_settings, IsReport}
use Rattle.acpi_configure.specs.ForKernels.{told_if, IsReportFor}
use Rattle.acpi_configure.specs.Options.{RunOptions}
use Rattle.acpi_configure.specs.WithOptions.{Findings, all_lines, IsReportWith}

pub one_answer : ((offers : List (List ℕ)) (wired : List (ℕ × ℕ)) (a b : List ℕ) → IsFirstLeast offers wired a → IsFirstLeast offers wired b → a ≡ b)
    → ((offers : List (List ℕ)) (wired : List (ℕ × ℕ)) (k : ℕ) (s t u v : List ℕ) → Shown offers wired k s t → Shown offers wired k u v → (s ≡ u) × (t ≡ v))
    → (problem : RoutingProblem) (one other : RoutingAnswer) → Solves problem one → Solves problem other → one ≡ other
one_answer one_choice one_set p a b sa sb =
    let offers = offers_of p.links in
    let choice = one_choice offers p.wired a.choice b.choice sa.first_least sb.first_least in
    let k : a.busiest ≡ b.busiest = sym sa.busiest_is ∙ (ap (λ ns. busiest p.wired ns) choice ∙ sb.busiest_is) in
    let set = one_set offers p.wired a.busiest a.links a.interrupts b.links b.interrupts sa.shown (subst (λ n. Shown offers p.wired n b.links b.interrupts) (sym k) sb.shown) in
    ap (λ ns. record a { choice = ns }) choice
    ∙ (ap (λ n. record { choice = b.choice; busiest = n; links = a.links; interrupts = a.interrupts }) k
    ∙ (ap (λ ns. record { choice = b.choice; busiest = b.busiest; links = ns; interrupts = a.interrupts }) set.0
    ∙ ap (λ ns. record { choice = b.choice; busiest = b.busiest; links = b.links; interrupts = ns }) set.1))

pub one_report : {S : Type 0} → ((problem : RoutingProblem) (one other : RoutingAnswer) → Solves problem one → Solves problem other → one ≡ other)
    → (accesses : Accesses S) (dry : Bool) (avoid : List ℕ) (before after left : MachineState S) (one other : RoutingReport) → IsReport accesses dry avoid before after one → IsReport accesses dry avoid before left other
    → (one ≡ other) × (after ≡ left)
one_report {S} law accesses dry avoid before after left one other p q =
    let both = sym p.is_found ∙ q.is_found in
    let found : p.found ≡ q.found = cc (ap (λ (x : Outcome Gathering × MachineState S). x.0) both) in
    let middle : p.chosen_in ≡ q.chosen_in = ap (λ (x : Outcome Gathering × MachineState S). x.1) both in
    let answer : p.answer ≡ q.answer = law p.found.problem p.answer q.answer p.solves (subst (λ (f : Gathering). Solves f.problem q.answer) (sym found) q.solves) in
    let run : settled_unless accesses dry p.found.links p.answer.choice p.chosen_in ≡ settled_unless accesses dry q.found.links q.answer.choice q.chosen_in = rw (middle, found, answer) refl in
    let ends = sym p.is_settled ∙ (run ∙ q.is_settled) in
    let settings : p.settings ≡ q.settings = cc (ap (λ (x : Outcome (List SetLine × List ReportedAfter) × MachineState S). x.0) ends) in
    let reports : with_settings (report_of p.chosen_in (sci_of before) avoid p.found p.answer) p.settings ≡ with_settings (report_of q.chosen_in (sci_of before) avoid q.found q.answer) q.settings = rw (middle, found, answer, settings) refl in
    (p.lines ∙ (reports ∙ sym q.lines), ap (λ (x : Outcome (List SetLine × List ReportedAfter) × MachineState S). x.1) ends)

-- the same with options, where it isn't left open which of several answers is chosen
pub one_with : {S : Type 0} → ((problem : RoutingProblem) (one other : RoutingAnswer) → Solves problem one → Solves problem other → one ≡ other)
    → (accesses : Accesses S) (o : RunOptions) (before after left : MachineState S) (one other : RoutingReport) → o.spread ≡ false → IsReportWith accesses o before after one → IsReportWith accesses o before left other
    → (one ≡ other) × (after ≡ left)
one_with {S} law accesses o before after left one other first p q =
    let both = sym p.is_found ∙ q.is_found in
    let found : p.found ≡ q.found = cc (ap (λ (x : Outcome Findings × MachineState S). x.0) both) in
    let middle : p.chosen_in ≡ q.chosen_in = ap (λ (x : Outcome Findings × MachineState S). x.1) both in
    let here : Solves p.found.gathering.problem p.answer = subst (λ (b : Bool). IsChosen b p.found.gathering.problem p.answer) first p.chosen in
    let there : Solves q.found.gathering.problem q.answer = subst (λ (b : Bool). IsChosen b q.found.gathering.problem q.answer) first q.chosen in
    let answer : p.answer ≡ q.answer = law p.found.gathering.problem p.answer q.answer here (subst (λ (f : Findings). Solves f.gathering.problem q.answer) (sym found) there) in
    let run : settled_unless accesses o.dry p.found.gathering.links p.answer.choice p.chosen_in ≡ settled_unless accesses o.dry q.found.gathering.links q.answer.choice q.chosen_in = rw (middle, found, answer) refl in
    let ends = sym p.is_settled ∙ (run ∙ q.is_settled) in
    let settings : p.settings ≡ q.settings = cc (ap (λ (x : Outcome (List SetLine × List ReportedAfter) × MachineState S). x.0) ends) in
    let reports : with_settings (all_lines o p.chosen_in (sci_of before) p.found p.answer) p.settings ≡ with_settings (all_lines o q.chosen_in (sci_of before) q.found q.answer) q.settings = rw (middle, found, answer, settings) refl in
    (p.lines ∙ (reports ∙ sym q.lines), ap (λ (x : Outcome (List SetLine × List ReportedAfter) × MachineState S). x.1) ends)

-- the same with what is told to a kernel
pub one_told : {S : Type 0} → ((problem : RoutingProblem) (one other : RoutingAnswer) → Solves problem one → Solves problem other → one ≡ other)
    → (accesses : Accesses S) (o : RunOptions) (before after left : MachineState S) (one other : RoutingReport) → o.spread ≡ false → IsReportFor accesses o before after one → IsReportFor accesses o before left other
    → (one ≡ other) × (after ≡ left)
one_told {S} law accesses o before after left one other first p q =
    let same = one_with law accesses o before p.configured q.configured p.plain q.plain first p.is_plain q.is_plain in
    let told : told_if accesses o.kernel p.plain p.configured ≡ told_if accesses o.kernel q.plain q.configured = rw (same.0, same.1) refl in
    let ends = sym p.is_told ∙ (told ∙ q.is_told) in
    (cc (ap (λ (x : Outcome RoutingReport × MachineState S). x.0) ends), ap (λ (x : Outcome RoutingReport × MachineState S). x.1) ends)
