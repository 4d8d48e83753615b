-- Where devices are spared, no link is given an interrupt that one of them has.
use Rattle.std.proofs.Common.{◌≡◌, ◌∙◌, ap, sym, subst, refl, ℕ, zero, suc, ◌<◌, ◌⊎◌, inl, inr, Bool, true, false, List, [], ◌∷◌, ◌++◌, length, map, Option, Some, None, arith}
use Rattle.std.specs.Prelude.{Contains}
use Rattle.std.specs.List.{AllZip, slice_index_or, filter_map}
use Rattle.std.proofs.lemmas.Bool.{false≢true}
use Rattle.std.proofs.lemmas.List.Elements.{Contains-append_left, Contains-append_right}
use Rattle.ar_space.specs.Accesses.{Accesses}
use Rattle.aml_path.specs.declared.segment.Seg.{Seg}
use Rattle.acpi_machine.specs.MachineStates.{MachineState}
use Rattle.acpi_resources.specs.Numbers.{set_of}
use Rattle.route_model.specs.Avoided.{is_avoided, without}
use Rattle.route_model.specs.Links.{OfferingLink, offers_of}
use Rattle.route_model.specs.Routing.{IsAssignment}
use Rattle.route_model.proofs.Filtered.{contains_any}
use Rattle.route_model.proofs.NotAvoided.{left_from}
use Rattle.route_check.specs.Claimed.{gives_of}
use Rattle.route_check.specs.Claims.{RoutingClaim}
use Rattle.route_check.specs.Valid.{effective_offers}
use Rattle.route_report.specs.Ordered.{barred, barred_by}
use Rattle.route_report.specs.Readable.{spared_numbers, spared_by, claim_of_report}
use Rattle.route_report.specs.Reports.{AfterState, Now, ReportedAfter, ReportedOptions, RoutingReport}
use Rattle.route_report.proofs.Barred.{barred_has}
use Rattle.acpi_configure.specs.Options.{RunOptions}
use Rattle.acpi_configure.specs.Others.{numbers_at, numbers_in, spared_line, options_if}
use Rattle.acpi_configure.specs.WithOptions.{IsReportWith}
use Rattle.acpi_configure.proofs.Barring.{spared_all}
use Rattle.acpi_configure.proofs.Fitting.{chosen_fits}

pub first_or_behind : {X : Type 0} (x n : X) (xs : List X) → Contains (x ∷ xs) n → (x ≡ n) ⊎ Contains xs n
first_or_behind {X} x n xs c = at c.0 c.1 c.2
  where
    at : (k : ℕ) → k < length (x ∷ xs) → slice_index_or (x ∷ xs) k n ≡ n → (x ≡ n) ⊎ Contains xs n
    at zero h e = inl e
    at (suc k) h e = inr (k, omega arith, e)

pub no_element : {X : Type 0} (x : X) → Contains [] x → ⊥
no_element x c = absurd (let h = c.1 in omega arith)

-- what a link is given isn't among those that are barred
not_barred : (bar : List ℕ) (links named : List OfferingLink) (ns : List ℕ) (give : List Seg × ℕ) → AllZip Contains (map (λ (l : OfferingLink). without bar l.offers) links) ns → Contains (gives_of named ns) give → is_avoided bar give.1 ≡ false
not_barred bar links [] ns give h c = absurd (no_element give c)
not_barred bar links (l ∷ ls) [] give h c = absurd (no_element give c)
not_barred bar [] (l ∷ ls) (n ∷ ns) give h c = absurd h
not_barred bar (k ∷ ks) (l ∷ ls) (n ∷ ns) give h c = elim (first_or_behind (l.path, n) give (gives_of ls ns) c) [
  | inl e ↦ subst (λ (g : List Seg × ℕ). is_avoided bar g.1 ≡ false) e (left_from bar k.offers n h.0).1
  | inr d ↦ not_barred bar ks ls ns give h.1 d
]

-- what a device has is among those of all of them
had : (asked : List ReportedAfter) (line : ReportedAfter) (n : ℕ) → Contains asked line → Contains (numbers_at line.state) n → Contains (numbers_in asked) n
unfolding numbers_in
had [] line n c d = absurd (no_element line c)
had (first ∷ rest) line n c d = elim (first_or_behind first line rest c) [
  | inl e ↦ Contains-append_left (numbers_at first.state) (numbers_in rest) n (subst (λ (l : ReportedAfter). Contains (numbers_at l.state) n) (sym e) d)
  | inr b ↦ Contains-append_right (numbers_at first.state) (numbers_in rest) n (had rest line n b d)
]

had_barred : (avoid : List ℕ) (spare spread : Bool) (asked : List ReportedAfter) (n : ℕ) → spare ≡ true → Contains (numbers_in asked) n → Contains (barred_by avoid (spared_by (options_if spare spread asked))) n
had_barred avoid false spread asked n e c = absurd (cc e)
had_barred avoid true spread asked n e c =
    barred_has avoid (spared_numbers (filter_map spared_line asked)) n (Contains-append_right avoid (spared_numbers (filter_map spared_line asked)) n (subst (λ (ns : List ℕ). Contains ns n) (sym (spared_all asked)) c))

module _ {S : Type 0} (accesses : Accesses S) (o : RunOptions) (before after : MachineState S) (r : RoutingReport) (is : IsReportWith accesses o before after r) where
  pub not_given : (line : ReportedAfter) (interrupts : List ℕ) (give : List Seg × ℕ) → o.spare ≡ true → Contains is.found.asked line → line.state ≡ Now (Some interrupts) → Contains r.gives give → Contains interrupts give.1 → ⊥
  not_given line interrupts give spare asked says given has =
      let g = is.found.gathering in
      let c = claim_of_report r in
      let assigned = (chosen_fits o.spread g.problem is.answer is.chosen).offered in
      let left : IsAssignment (map (λ (l : OfferingLink). without c.avoid l.offers) c.links) is.answer.choice = subst (λ offers. IsAssignment offers is.answer.choice) (sym is.offers) assigned in
      let gives : Contains (gives_of g.problem.links is.answer.choice) give = subst (λ (q : RoutingReport). Contains q.gives give) is.lines given in
      let out : is_avoided c.avoid give.1 ≡ false = not_barred c.avoid c.links g.problem.links is.answer.choice give left gives in
      let own : Contains (numbers_at line.state) give.1 = subst (λ (s : AfterState). Contains (numbers_at s) give.1) (sym says) has in
      let within = had_barred (set_of o.avoid) o.spare o.spread is.found.asked give.1 spare (had is.found.asked line give.1 asked own) in
      let same : barred_by (set_of o.avoid) (spared_by (options_if o.spare o.spread is.found.asked)) ≡ c.avoid = sym (ap (λ (q : RoutingReport). (claim_of_report q).avoid) is.lines) in
      false≢true (sym out ∙ contains_any give.1 c.avoid (subst (λ (ns : List ℕ). Contains ns give.1) same within))
