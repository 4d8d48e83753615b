-- A report that is made in the core profile, and tells of nothing that it leaves out, is one of the wide profile.
use Rattle.std.specs.Prelude.{◌≡◌, ℕ, List, [], ◌∷◌, Bool, true, false, Option, Some, None, Ok, Err, Contains, refl}
use Rattle.std.specs.List.{filter_map, cons_option}
use Rattle.std.proofs.Common.{inl, inr, sym, subst, ap, ◌∙◌}
use Rattle.ar_space.specs.Accesses.{Accesses}
use Rattle.ar_space.specs.Outcome.{Outcome}
use Rattle.ar_space.specs.Change.{Change, give, settle, go_on, ◌>>=◌}
use Rattle.aml_path.specs.declared.segment.Seg.{Seg}
use Rattle.acpi_machine.specs.MachineStates.{MachineState, sci_of}
use Rattle.acpi_links.specs.Gatherings.{Gathering, gathered}
use Rattle.acpi_links.specs.Links.{PresentLink}
use Rattle.acpi_configure.specs.Configured.{IsReport}
use Rattle.acpi_configure.specs.Options.{RunOptions}
use Rattle.acpi_configure.specs.Others.{other_devices, device_asked, others_asked, barred_if, unread_at, unread_line, options_if}
use Rattle.acpi_links.specs.Devices.{devices}
use Rattle.acpi_configure.specs.Settling.{settled_unless}
use Rattle.acpi_configure.specs.WithOptions.{Findings, narrowed, found_by, IsReportWith}
use Rattle.route_report.specs.declared.report.SetLine.{SetLine}
use Rattle.route_report.specs.declared.report.UnreadLine.{UnreadLine}
use Rattle.route_report.specs.Readable.{unread_devices}
use Rattle.route_report.specs.Reports.{AfterState, Now, Refused, ReportedAfter, RoutingReport}
use Rattle.machine_laws.specs.Widened.{machine_widened, call_widened, IsWithheld, IsNumberLeftOut, IsUnread, TellsNothingLeftOut}
use Rattle.machine_laws.proofs.MachinesWidened.{gathering_widened}
use Rattle.machine_laws.proofs.LinesWidened.{Among, has_first, has_behind, among_contains, OrRefused, Widens, then_widens, stays_bad, SetBad, AfterBad, SettingsBad, device_asked_widens, lines_widen, settled_unless_widens}

-- ---- what is found

-- what other devices were asked matters where they are spared
abbrev AskedBad : Bool → List ReportedAfter → Type 0
AskedBad true asked = Among AfterBad asked
AskedBad false asked = ⊥

abbrev FoundBad : Bool → Findings → Type 0
FoundBad spare found = AskedBad spare found.asked

module _ {S : Type 0} (accesses : Accesses S) (o : RunOptions) (sci : Option ℕ) where
  found_of : List ReportedAfter → Gathering → Change (MachineState S) Findings
  found_of asked g = give (record { asked = asked; gathering = g })

  narrowed_by : Gathering → List ReportedAfter → Change (MachineState S) Findings
  narrowed_by first asked = settle (narrowed o.spare (barred_if o.spare o.avoid asked) sci first) >>= found_of asked

  others_widen : (spare : Bool) (links : List PresentLink) (s : MachineState S) → Widens (OrRefused (AskedBad spare)) (others_asked accesses spare links) s
  unfolding others_asked other_devices devices
  others_widen true links s = lines_widen AfterBad (device_asked accesses) (device_asked_widens accesses) (other_devices links s) [] s
  others_widen false links s = inr refl

  asked_stays : (first : Gathering) (r : Outcome (List ReportedAfter)) (s : MachineState S) → OrRefused (AskedBad o.spare) r → OrRefused (FoundBad o.spare) (go_on r s (narrowed_by first)).0
  unfolding narrowed_by found_of settle give go_on ◌>>=◌
  asked_stays first (Ok asked) s bad = stays_bad (FoundBad o.spare) (found_of asked) (λ g t. bad) (narrowed o.spare (barred_if o.spare o.avoid asked) sci first) s
  asked_stays first (Err e) s bad = tt

  found_widens : (asked : List ReportedAfter) (g : Gathering) (s : MachineState S) → Widens (OrRefused (FoundBad o.spare)) (found_of asked g) s
  unfolding found_of give
  found_widens asked g s = inr refl

  narrowed_widens : (first : Gathering) (asked : List ReportedAfter) (s : MachineState S) → Widens (OrRefused (FoundBad o.spare)) (narrowed_by first asked) s
  unfolding narrowed_by settle
  narrowed_widens first asked s =
      then_widens (λ r. ⊥) (OrRefused (FoundBad o.spare)) (found_of asked) (λ r t h. absurd h) (found_widens asked) (settle (narrowed o.spare (barred_if o.spare o.avoid asked) sci first)) s (inr refl)

  behind_links : Gathering → Change (MachineState S) Findings
  behind_links first = others_asked accesses o.spare first.links >>= narrowed_by first

  links_widen : (first : Gathering) (s : MachineState S) → Widens (OrRefused (FoundBad o.spare)) (behind_links first) s
  unfolding behind_links
  links_widen first s =
      then_widens (OrRefused (AskedBad o.spare)) (OrRefused (FoundBad o.spare)) (narrowed_by first) (asked_stays first) (narrowed_widens first) (others_asked accesses o.spare first.links) s (others_widen o.spare first.links s)

  refusal_stays : (r : Outcome Gathering) (s : MachineState S) → IsWithheld r → OrRefused (FoundBad o.spare) (go_on r s behind_links).0
  unfolding go_on
  refusal_stays (Ok g) s h = absurd h
  refusal_stays (Err e) s h = tt

  found_by_widens : (s : MachineState S) → Widens (OrRefused (FoundBad o.spare)) (found_by accesses o sci) s
  unfolding found_by behind_links narrowed_by found_of
  found_by_widens s = then_widens (λ r. IsWithheld r) (OrRefused (FoundBad o.spare)) behind_links refusal_stays links_widen (gathered accesses o.avoid) s (gathering_widened accesses o.avoid s)

-- ---- what a report tells

unread_kept : (o : Option UnreadLine) (rest : List UnreadLine) (line : UnreadLine) → Contains rest line → Contains (cons_option o rest) line
unread_kept None rest line c = c
unread_kept (Some first) rest line c = has_behind first line rest c

unread_first : (path : List Seg) (state : AfterState) (rest : List UnreadLine) → IsUnread state → (line : UnreadLine) × Contains (cons_option (unread_at path state) rest) line × IsNumberLeftOut line.refusal
unread_first path (Now now) rest h = absurd h
unread_first path (Refused n) rest h = let line : UnreadLine = record { device = path; refusal = n } in (line, has_first line rest, h)

unread_among : (asked : List ReportedAfter) → Among AfterBad asked → (line : UnreadLine) × Contains (filter_map unread_line asked) line × IsNumberLeftOut line.refusal
unread_among [] h = absurd h
unread_among (line ∷ lines) (inl bad) = unread_first line.path line.state (filter_map unread_line lines) bad
unread_among (line ∷ lines) (inr h) = let found = unread_among lines h in (found.0, unread_kept (unread_line line) (filter_map unread_line lines) found.0 found.1, found.2)

none_asked : (spare spread : Bool) (asked : List ReportedAfter) → ((line : UnreadLine) → Contains (unread_devices (options_if spare spread asked)) line → IsNumberLeftOut line.refusal → ⊥) → AskedBad spare asked → ⊥
none_asked true spread asked none bad = let found = unread_among asked bad in none found.0 found.1 found.2
none_asked false spread asked none bad = bad

module _ (r : RoutingReport) (none : TellsNothingLeftOut r) (settings : List SetLine × List ReportedAfter) (sets : r.sets ≡ settings.0) (afters : r.afters ≡ settings.1) where
  none_settled : SettingsBad settings → ⊥
  none_settled (inl bad) = let found = among_contains SetBad settings.0 bad in none.sets found.0 (subst (λ (lines : List SetLine). Contains lines found.0) (sym sets) found.1) found.2
  none_settled (inr bad) = let found = among_contains AfterBad settings.1 bad in none.afters found.0 (subst (λ (lines : List ReportedAfter). Contains lines found.0) (sym afters) found.1) found.2

-- a call that came out well comes to the same
pub same_widened : {S A : Type 0} (Bad : Outcome A → Type 0) (m : Change (MachineState S) A) (s t : MachineState S) (a : A) → m s ≡ (Ok a, t) → (Bad (Ok a) → ⊥) → Widens Bad m s → m (machine_widened s) ≡ (Ok a, machine_widened t)
same_widened Bad m s t a is none (inl bad) = absurd (none (subst (λ (p : Outcome _ × MachineState _). Bad p.0) is bad))
same_widened Bad m s t a is none (inr same) = same ∙ ap (λ (p : Outcome _ × MachineState _). call_widened p) is

module _ {S : Type 0} (accesses : Accesses S) where
  pub report_widened : (dry : Bool) (avoid : List ℕ) (before after : MachineState S) (r : RoutingReport) → TellsNothingLeftOut r → IsReport accesses dry avoid before after r → IsReport accesses dry avoid (machine_widened before) (machine_widened after) r
  report_widened dry avoid before after r none is = record {
    found = is.found;
    chosen_in = machine_widened is.chosen_in;
    is_found = same_widened (λ x. IsWithheld x) (gathered accesses avoid) before is.chosen_in is.found is.is_found (λ h. h) (gathering_widened accesses avoid before);
    answer = is.answer;
    solves = is.solves;
    settings = is.settings;
    is_settled = same_widened (OrRefused SettingsBad) (settled_unless accesses dry is.found.links is.answer.choice) is.chosen_in after is.settings is.is_settled
        (none_settled r none is.settings (ap (λ (x : RoutingReport). x.sets) is.lines) (ap (λ (x : RoutingReport). x.afters) is.lines)) (settled_unless_widens accesses dry is.found.links is.answer.choice is.chosen_in);
    lines = is.lines;
    readable = is.readable;
    claims = is.claims;
    valid = is.valid;
    paths = is.paths;
    offers = is.offers;
    counts = is.counts;
  }

  none_unread : (o : RunOptions) (before after : MachineState S) (r : RoutingReport) → TellsNothingLeftOut r → (is : IsReportWith accesses o before after r) → FoundBad o.spare is.found → ⊥
  none_unread o before after r none is =
      none_asked o.spare o.spread is.found.asked (λ line c. none.unread line (subst (λ x. Contains (unread_devices x) line) (sym (ap (λ (x : RoutingReport). x.options) is.lines)) c))

  pub report_with_options_widened : (o : RunOptions) (before after : MachineState S) (r : RoutingReport) → TellsNothingLeftOut r → IsReportWith accesses o before after r → IsReportWith accesses o (machine_widened before) (machine_widened after) r
  report_with_options_widened o before after r none is = record {
    found = is.found;
    chosen_in = machine_widened is.chosen_in;
    is_found = same_widened (OrRefused (FoundBad o.spare)) (found_by accesses o (sci_of before)) before is.chosen_in is.found is.is_found (none_unread o before after r none is) (found_by_widens accesses o (sci_of before) before);
    answer = is.answer;
    chosen = is.chosen;
    settings = is.settings;
    is_settled = same_widened (OrRefused SettingsBad) (settled_unless accesses o.dry is.found.gathering.links is.answer.choice) is.chosen_in after is.settings is.is_settled
        (none_settled r none is.settings (ap (λ (x : RoutingReport). x.sets) is.lines) (ap (λ (x : RoutingReport). x.afters) is.lines)) (settled_unless_widens accesses o.dry is.found.gathering.links is.answer.choice is.chosen_in);
    lines = is.lines;
    readable = is.readable;
    claims = is.claims;
    holds = is.holds;
    paths = is.paths;
    offers = is.offers;
    counts = is.counts;
  }

pub ruleset widening_reports = (report_widened, report_with_options_widened)
