-- Where links are set, and read again, each line of the report tells of the accesses of its own call.
use Rattle.std.specs.Prelude.{◌≡◌, ℕ, List, [], ◌∷◌, ◌++◌, Bool, true, false, Ok, if◌then◌else◌, refl}
use Rattle.std.proofs.Common.{append-nil, append_assoc, sym, subst, ap, ◌∙◌}
use Rattle.ar_space.specs.Accesses.{Accesses}
use Rattle.ar_space.specs.Outcome.{Outcome}
use Rattle.ar_space.specs.Change.{Change, give, go_on, ◌>>=◌}
use Rattle.recorded_space.specs.declared.exchange.Exchange.{Exchange}
use Rattle.aml_laws.specs.Noted.{WithNotes, noted, TellsNotes}
use Rattle.acpi_machine.specs.MachineStates.{MachineState}
use Rattle.acpi_links.specs.Folds.{folded}
use Rattle.acpi_links.specs.Gatherings.{Gathering}
use Rattle.acpi_links.specs.Links.{PresentLink}
use Rattle.acpi_links.specs.Resources.{current_resources}
use Rattle.acpi_links.specs.Settings.{resources_set}
use Rattle.acpi_configure.specs.Settling.{attempted, set_told, state_told, link_set, links_set, link_read, links_read, settled, settled_unless}
use Rattle.acpi_configure.specs.Configured.{IsReport}
use Rattle.route_report.specs.declared.report.SetLine.{SetLine}
use Rattle.route_report.specs.Reports.{ReportedAfter, RoutingReport}
use Rattle.machine_laws.specs.ReportedNotes.{SetTells, AfterTells, setting_calls, reading_calls, LineTells, EachTells, ReportTells}
use Rattle.machine_laws.proofs.NumbersTold.{set_tells, state_tells}
use Rattle.machine_laws.proofs.MachineNotes.{notes_of_setting, notes_of_current, notes_of_gathering}

-- ---- lines one after another

module _ {S L : Type 0} (tells : L → List Exchange → Type 0) where
  -- what makes lines behind those that are done, by these calls
  pub record MakesLines (calls : List (Change (MachineState (WithNotes S)) L)) (done : List L) (before : MachineState (WithNotes S)) (came : Outcome (List L) × MachineState (WithNotes S)) : Type 0 where
    pub lines : List L
    pub is : came.0 ≡ Ok (done ++ lines)
    pub told : EachTells tells calls lines before came.1

  pub no_lines : (done : List L) (s : MachineState (WithNotes S)) → MakesLines [] done s (Ok done, s)
  no_lines done s = record { lines = []; is = ap Ok (sym (append-nil done)); told = refl }

  joined : (call : Change (MachineState (WithNotes S)) L) (calls : List (Change (MachineState (WithNotes S)) L)) (done : List L) (before : MachineState (WithNotes S)) (line : L) (all : Outcome (List L) × MachineState (WithNotes S)) → LineTells tells call before line
      → MakesLines calls (done ++ line ∷ []) (call before).1 all → MakesLines (call ∷ calls) done before all
  joined call calls done before line all one rest = record { lines = line ∷ rest.lines; is = rest.is ∙ ap Ok (append_assoc done (line ∷ []) rest.lines); told = (one, rest.told) }

  pub then_lines : (call : Change (MachineState (WithNotes S)) L) (calls : List (Change (MachineState (WithNotes S)) L)) (done : List L) (before : MachineState (WithNotes S)) (k : L → Change (MachineState (WithNotes S)) (List L)) (line : L) → LineTells tells call before line
      → MakesLines calls (done ++ line ∷ []) (call before).1 (k line (call before).1) → MakesLines (call ∷ calls) done before (go_on (call before).0 (call before).1 k)
  unfolding go_on
  then_lines call calls done before k line one rest = subst (λ (r : Outcome L). MakesLines (call ∷ calls) done before (go_on r (call before).1 k)) (sym one.is) (joined call calls done before line _ one rest)

module _ {S : Type 0} (accesses : Accesses S) where
  -- ---- one line

  line_set : PresentLink → ℕ → MachineState (WithNotes S) → SetLine
  line_set link n s = record { path = link.0; outcome = set_told (resources_set (noted accesses) link.0 link.1 n s).0 }

  set_line : (link : PresentLink) (n : ℕ) (s : MachineState (WithNotes S)) → LineTells SetTells (link_set (noted accesses) link n) s (line_set link n s)
  unfolding link_set attempted ◌>>=◌ go_on give line_set
  set_line link n s =
      let came = resources_set (noted accesses) link.0 link.1 n s in
      let notes = notes_of_setting accesses link.0 link.1 n s in
      record { own = notes.made; is = refl; are = notes.are; told = set_tells came.0 notes.made notes.told }

  pub set_line_told : (link : PresentLink) (n : ℕ) (s : MachineState (WithNotes S)) → (line : SetLine) × LineTells SetTells (link_set (noted accesses) link n) s line
  set_line_told link n s = (line_set link n s, set_line link n s)

  line_read : PresentLink → MachineState (WithNotes S) → ReportedAfter
  line_read link s = record { path = link.0; state = state_told (current_resources (noted accesses) link.0 s).0 }

  read_line : (link : PresentLink) (s : MachineState (WithNotes S)) → LineTells AfterTells (link_read (noted accesses) link) s (line_read link s)
  unfolding link_read attempted ◌>>=◌ go_on give line_read
  read_line link s =
      let came = current_resources (noted accesses) link.0 s in
      let notes = notes_of_current accesses link.0 s in
      record { own = notes.made; is = refl; are = notes.are; told = state_tells came.0 notes.made notes.told }

  pub read_line_told : (link : PresentLink) (s : MachineState (WithNotes S)) → (line : ReportedAfter) × LineTells AfterTells (link_read (noted accesses) link) s line
  read_line_told link s = (line_read link s, read_line link s)

  -- ---- all lines

  set_lines : (links : List PresentLink) (ns : List ℕ) (done : List SetLine) (s : MachineState (WithNotes S)) → MakesLines SetTells (setting_calls (noted accesses) links ns) done s (links_set (noted accesses) links ns done s)
  unfolding links_set give ◌>>=◌
  set_lines [] ns done s = no_lines SetTells done s
  set_lines (link ∷ links) [] done s = no_lines SetTells done s
  set_lines (link ∷ links) (n ∷ ns) done s =
      then_lines SetTells (link_set (noted accesses) link n) (setting_calls (noted accesses) links ns) done s _ (line_set link n s) (set_line link n s) (set_lines links ns (done ++ line_set link n s ∷ []) (link_set (noted accesses) link n s).1)

  read_lines : (links : List PresentLink) (done : List ReportedAfter) (s : MachineState (WithNotes S)) → MakesLines AfterTells (reading_calls (noted accesses) links) done s (folded (λ done line. done ++ line ∷ []) (link_read (noted accesses)) links done s)
  unfolding folded give ◌>>=◌
  read_lines [] done s = no_lines AfterTells done s
  read_lines (link ∷ links) done s =
      then_lines AfterTells (link_read (noted accesses) link) (reading_calls (noted accesses) links) done s _ (line_read link s) (read_line link s) (read_lines links (done ++ line_read link s ∷ []) (link_read (noted accesses) link s).1)

  -- ---- setting all links, and reading them

  record SettingTold (dry : Bool) (links : List PresentLink) (ns : List ℕ) (before : MachineState (WithNotes S)) (came : Outcome (List SetLine × List ReportedAfter) × MachineState (WithNotes S)) : Type 0 where
    settings : List SetLine × List ReportedAfter
    set_in : MachineState (WithNotes S)
    is : came.0 ≡ Ok settings
    sets : EachTells SetTells (if dry then [] else setting_calls (noted accesses) links ns) settings.0 before set_in
    afters : EachTells AfterTells (if dry then [] else reading_calls (noted accesses) links) settings.1 set_in came.1

  then_read : (links : List PresentLink) (ns : List ℕ) (before : MachineState (WithNotes S)) (came : Outcome (List SetLine) × MachineState (WithNotes S)) → MakesLines SetTells (setting_calls (noted accesses) links ns) [] before came
      → SettingTold false links ns before (go_on came.0 came.1 (λ sets. links_read (noted accesses) links >>= (λ afters. give (sets, afters))))
  unfolding go_on ◌>>=◌ give
  then_read links ns before came first =
      let second = read_lines links [] came.1 in
      let read = links_read (noted accesses) links came.1 in
      subst (λ (r : Outcome (List SetLine)). SettingTold false links ns before (go_on r came.1 (λ sets. links_read (noted accesses) links >>= (λ afters. give (sets, afters))))) (sym first.is)
      (subst (λ (r : Outcome (List ReportedAfter)). SettingTold false links ns before (go_on r read.1 (λ afters. give (first.lines, afters)))) (sym second.is)
      (record { settings = (first.lines, second.lines); set_in = came.1; is = refl; sets = first.told; afters = second.told }))

  settling_told : (dry : Bool) (links : List PresentLink) (ns : List ℕ) (s : MachineState (WithNotes S)) → SettingTold dry links ns s (settled_unless (noted accesses) dry links ns s)
  unfolding settled_unless settled give ◌>>=◌
  settling_told true links ns s = record { settings = ([], []); set_in = s; is = refl; sets = refl; afters = refl }
  settling_told false links ns s = then_read links ns s (links_set (noted accesses) links ns [] s) (set_lines links ns [] s)

  -- ---- the report

  pub report_told : (dry : Bool) (avoid : List ℕ) (before after : MachineState (WithNotes S)) (report : RoutingReport) (is : IsReport (noted accesses) dry avoid before after report) → ReportTells accesses is
  report_told dry avoid before after report is =
      let set : SettingTold dry is.found.links is.answer.choice is.chosen_in (Ok is.settings, after) = subst (λ (x : Outcome (List SetLine × List ReportedAfter) × MachineState (WithNotes S)). SettingTold dry is.found.links is.answer.choice is.chosen_in x) is.is_settled (settling_told dry is.found.links is.answer.choice is.chosen_in) in
      let same : set.settings ≡ is.settings = cc set.is in
      record {
        gathering = subst (λ (x : Outcome Gathering × MachineState (WithNotes S)). TellsNotes x.0 before.world.space x.1.world.space) is.is_found (notes_of_gathering accesses avoid before);
        set_in = set.set_in;
        sets = subst (λ (lines : List SetLine). EachTells SetTells (if dry then [] else setting_calls (noted accesses) is.found.links is.answer.choice) lines is.chosen_in set.set_in) (ap (λ x. x.0) same ∙ ap (λ (r : RoutingReport). r.sets) (sym is.lines)) set.sets;
        afters = subst (λ (lines : List ReportedAfter). EachTells AfterTells (if dry then [] else reading_calls (noted accesses) is.found.links) lines set.set_in after) (ap (λ x. x.1) same ∙ ap (λ (r : RoutingReport). r.afters) (sym is.lines)) set.afters;
      }
