-- What is reported, and what is refused.
use Rattle.std.proofs.Common.{◌≡◌, ◌≢◌, ◌<◌, ◌≤◌, ℕ, Bool, false, length, map, List, [], Option, None, Ok, Err, ◌∙◌, sym, ap, subst}
use Rattle.std.specs.Prelude.{All, IsErr, IsErrAnd, IfOk, IfErr}
use Rattle.ar_space.specs.declared.refusal.Refusal.{Refusal}
use Rattle.ar_space.specs.declared.refusal.Refusal.TheVariants.{OutOfMemory}
use Rattle.ar_space.specs.Accesses.{Accesses}
use Rattle.ar_space.specs.Outcome.{Outcome, Answers}
use Rattle.ar_space.specs.Change.{Does}
use Rattle.acpi_machine.specs.MachineStates.{MachineState, sci_of}
use Rattle.acpi_links.specs.Gatherings.{Gathering, gathered}
use Rattle.acpi_links.specs.Problems.{pin_counts, problem_of}
use Rattle.route_model.specs.Links.{offers_of}
use Rattle.route_model.specs.Routing.{busiest, IsFirstLeast}
use Rattle.route_solve.specs.Fits.{Fits}
use Rattle.route_solve.specs.Problems.{RoutingProblem, RoutingAnswer}
use Rattle.route_solve.specs.Shown.{Shown}
use Rattle.route_report.specs.Reports.{RoutingReport}
use Rattle.route_report.specs.Readable.{IsReadable, IsReadableOffer, claim_of_report}
use Rattle.std.proofs.lemmas.List.Elements.{All-nil}
use Rattle.acpi_configure.specs.Lines.{row_of}
use Rattle.acpi_configure.proofs.Barring.{set_alike, barred_alike, rule_said, some_spared}
use Rattle.acpi_configure.proofs.Claims.{Bounded, Laws, claims_answer, is_readable, is_valid, it_holds, same_links, same_offered, same_counts}
use Rattle.acpi_configure.proofs.Fitting.{solved_fits, chosen_fits, chosen_shares}
use Rattle.route_report.specs.declared.report.SetLine.{SetLine}
use Rattle.route_report.specs.Reports.{ReportedAfter, SparedDevice}
use Rattle.acpi_configure.specs.Settling.{settled_unless}
use Rattle.acpi_configure.specs.Chosen.{IsChosen}
use Rattle.acpi_configure.specs.Configured.{Solves, report_of, with_settings, IsReport}
use Rattle.acpi_configure.specs.Options.{RunOptions}
use Rattle.acpi_configure.specs.Others.{barred_if, options_if}
use Rattle.acpi_configure.specs.WithOptions.{Findings, found_by, all_lines, claim_with, IsReportWith}

pub solved : (p : RoutingProblem) (a : RoutingAnswer) → IsFirstLeast (offers_of p.links) p.wired a.choice → busiest p.wired a.choice ≡ a.busiest
    → Shown (offers_of p.links) p.wired a.busiest a.links a.interrupts → Solves p a
solved p a l b s = record { first_least = l; busiest_is = b; shown = s }

-- the settings are told beside the lines that stand already
pub told : (report known : RoutingReport) (x : List SetLine × List ReportedAfter) → Answers (Ok report) (Ok known) → with_settings report x ≡ with_settings known x
told report known x h = let same : known ≡ report = cc (h.is tt) in ap (λ (q : RoutingReport). with_settings q x) (sym same)

pub offers_told : (report known : RoutingReport) → Answers (Ok report) (Ok known) → All (λ l. IsReadableOffer l.offers) report.links → All (λ l. IsReadableOffer l.offers) known.links
offers_told report known h all = let same : known ≡ report = cc (h.is tt) in rw same all

-- want of memory is no refusal that a definition gives
pub memory : (P : Refusal → Type 0) (e : Refusal) (r : Outcome RoutingReport) → e ≡ OutOfMemory → IsErr r × IsErrAnd r (λ x. x ≡ e) → IfErr r (λ refusal. refusal ≢ OutOfMemory → P refusal)
memory P e (Ok x) h i = absurd (cc i.0)
memory P e (Err x) h i = λ ne. absurd (ne (i.1 ∙ h))

with_readable : (r : RoutingReport) (x : List SetLine × List ReportedAfter) → IsReadable r → IsReadable (with_settings r x)
with_readable r x h = record { few_links = h.few_links; few_wired = h.few_wired; offers = h.offers; avoid = h.avoid; spared = h.spared }

module _ {S : Type 0} (accesses : Accesses S) (avoid : List ℕ) (before after : MachineState S) where
  pub reported : (laws : Laws) (dry : Bool) (g : Gathering) (a : RoutingAnswer) (middle : MachineState S) (x : List SetLine × List ReportedAfter) (sci : Option ℕ) (r : RoutingReport)
      → Does (Ok g) middle (gathered accesses avoid) before → g.problem ≡ problem_of avoid (sci_of before) g.links g.pins → Fits g.problem → length (pin_counts g.pins) ≤ 4096
      → All (λ l. IsReadableOffer l.offers) (map row_of g.links) → Solves g.problem a → Bounded g.problem a
      → Does (Ok x) after (settled_unless accesses dry g.links a.choice) middle → r ≡ with_settings (report_of middle sci avoid g a) x → sci ≡ sci_of before → IsReport accesses dry avoid before after r
  reported laws dry g a middle x sci r d posed fits few offers s bound settled made shown =
      let is : r ≡ with_settings (report_of middle (sci_of before) avoid g a) x = made ∙ ap (λ (n : Option ℕ). with_settings (report_of middle n avoid g a) x) shown in
      record {
        found = g;
        chosen_in = middle;
        is_found = d.is tt;
        answer = a;
        solves = s;
        settings = x;
        is_settled = settled.is tt;
        lines = is;
        readable = rw is (with_readable _ x (is_readable middle (sci_of before) avoid avoid None g a posed (set_alike avoid) laws fits few offers (All-nil (λ (s : SparedDevice). 0 < length s.interrupts))));
        claims = rw is (claims_answer middle (sci_of before) avoid avoid None g a posed (set_alike avoid) laws fits (solved_fits g.problem a s));
        valid = rw is (is_valid middle (sci_of before) avoid avoid None g a posed (set_alike avoid) laws fits (solved_fits g.problem a s) bound);
        paths = rw is (same_links middle (sci_of before) avoid avoid None g a posed (set_alike avoid) laws fits (solved_fits g.problem a s));
        offers = rw is (same_offered middle (sci_of before) avoid avoid None g a posed (set_alike avoid) laws fits (solved_fits g.problem a s));
        counts = λ i. rw is (same_counts middle (sci_of before) avoid avoid None g a posed (set_alike avoid) laws fits (solved_fits g.problem a s) i);
      }

-- ---- with options

module _ {S : Type 0} (accesses : Accesses S) (o : RunOptions) (before after : MachineState S) where
  pub reported_with : (laws : Laws) (f : Findings) (a : RoutingAnswer) (middle : MachineState S) (x : List SetLine × List ReportedAfter) (sci : Option ℕ) (r : RoutingReport)
      → sci ≡ sci_of before → Does (Ok f) middle (found_by accesses o sci) before → f.gathering.problem ≡ problem_of (barred_if o.spare o.avoid f.asked) sci f.gathering.links f.gathering.pins → Fits f.gathering.problem → length (pin_counts f.gathering.pins) ≤ 4096
      → (o.spare ≡ false → f.asked ≡ []) → All (λ l. IsReadableOffer l.offers) (map row_of f.gathering.links) → IsChosen o.spread f.gathering.problem a → Bounded f.gathering.problem a
      → Does (Ok x) after (settled_unless accesses o.dry f.gathering.links a.choice) middle → r ≡ with_settings (all_lines o middle sci f a) x → IsReportWith accesses o before after r
  reported_with laws f a middle x sci r shown d posed fits few unasked offers chosen bound settled made =
      let g = f.gathering in
      let opt = options_if o.spare o.spread f.asked in
      let bar = barred_if o.spare o.avoid f.asked in
      let alike = barred_alike o.spare o.spread o.avoid f.asked unasked in
      let s = chosen_fits o.spread g.problem a chosen in
      let said = rule_said o.spare o.spread f.asked in
      let the_claims = claims_answer middle sci o.avoid bar opt g a posed alike laws fits s in
      record {
        found = f;
        chosen_in = middle;
        is_found = subst (λ (n : Option ℕ). found_by accesses o n before ≡ (Ok f, middle)) shown (d.is tt);
        answer = a;
        chosen = chosen;
        settings = x;
        is_settled = settled.is tt;
        lines = subst (λ (n : Option ℕ). r ≡ with_settings (all_lines o middle n f a) x) shown made;
        readable = rw made (with_readable _ x (is_readable middle sci o.avoid bar opt g a posed alike laws fits few offers (some_spared o.spare o.spread f.asked)));
        claims = subst (λ (n : Option ℕ). claim_of_report r ≡ claim_with o n f a) shown (ap claim_of_report made ∙ (the_claims ∙ ap (λ (b : Bool). record (claim_with o sci f a) { spread = b }) said));
        holds = rw made (it_holds middle sci o.avoid bar opt g a posed alike laws fits s bound (λ e. chosen_shares o.spread g.problem a chosen (sym said ∙ e)));
        paths = rw made (same_links middle sci o.avoid bar opt g a posed alike laws fits s);
        offers = rw made (same_offered middle sci o.avoid bar opt g a posed alike laws fits s);
        counts = λ i. rw made (same_counts middle sci o.avoid bar opt g a posed alike laws fits s i);
      }
