-- Lines of a report, made in the core profile and in the wide one.
use Rattle.std.specs.Prelude.{◌≡◌, ◌⊎◌, ℕ, List, [], ◌∷◌, ◌++◌, Bool, true, false, Option, Ok, Err, Contains, refl}
use Rattle.std.proofs.Common.{inl, inr, arith, sym, subst, ap}
use Rattle.std.proofs.lemmas.List.Elements.{Contains-append_right}
use Rattle.ar_space.specs.Accesses.{Accesses}
use Rattle.ar_space.specs.Outcome.{Outcome}
use Rattle.ar_space.specs.Change.{Change, give, go_on, ◌>>=◌}
use Rattle.aml_path.specs.declared.segment.Seg.{Seg}
use Rattle.aml_laws.specs.Widened.{IsLeftOut}
use Rattle.acpi_machine.specs.MachineStates.{MachineState}
use Rattle.acpi_links.specs.Folds.{folded}
use Rattle.acpi_links.specs.Links.{PresentLink}
use Rattle.acpi_links.specs.Resources.{current_resources}
use Rattle.acpi_links.specs.Settings.{resources_set}
use Rattle.acpi_configure.specs.Others.{device_resources, device_asked}
use Rattle.acpi_configure.specs.Settling.{attempted, set_told, state_told, link_set, links_set, link_read, links_read, settled, settled_unless}
use Rattle.route_report.specs.declared.report.SetLine.{SetLine}
use Rattle.route_report.specs.Reports.{ReportedAfter}
use Rattle.machine_laws.specs.Widened.{machine_widened, call_widened, IsUnset, IsUnread}
use Rattle.machine_laws.proofs.MachinesWidened.{current_widened, setting_widened, device_widened}

-- ---- lines among others

-- some line of a list is bad
abbrev pub Among : {L : Type 0} → (L → Type 0) → List L → Type 0
Among Bad [] = ⊥
Among Bad (line ∷ lines) = Bad line ⊎ Among Bad lines

pub has_first : {L : Type 0} (line : L) (lines : List L) → Contains (line ∷ lines) line
has_first line lines = (0, omega arith, refl)

pub has_behind : {L : Type 0} (first line : L) (lines : List L) → Contains lines line → Contains (first ∷ lines) line
has_behind first line lines c = Contains-append_right (first ∷ []) lines line c

module _ {L : Type 0} (Bad : L → Type 0) where
  among_more : (lines : List L) (line : L) → Among Bad lines → Among Bad (lines ++ line ∷ [])
  among_more [] line h = absurd h
  among_more (first ∷ lines) line (inl bad) = inl bad
  among_more (first ∷ lines) line (inr h) = inr (among_more lines line h)

  among_last : (lines : List L) (line : L) → Bad line → Among Bad (lines ++ line ∷ [])
  among_last [] line bad = inl bad
  among_last (first ∷ lines) line bad = inr (among_last lines line bad)

  pub among_contains : (lines : List L) → Among Bad lines → (line : L) × Contains lines line × Bad line
  among_contains [] h = absurd h
  among_contains (line ∷ lines) (inl bad) = (line, has_first line lines, bad)
  among_contains (line ∷ lines) (inr h) = let found = among_contains lines h in (found.0, has_behind line found.0 lines found.1, found.2)

-- ---- calls of which one comes after the other

-- what is bad of a value; a refusal is bad
abbrev pub OrRefused : {A : Type 0} → (A → Type 0) → Outcome A → Type 0
OrRefused Bad (Ok a) = Bad a
OrRefused Bad (Err e) = Unit {0}

-- a call comes out badly, or in the wide profile as well
abbrev pub Widens : {S A : Type 0} → (Outcome A → Type 0) → Change (MachineState S) A → MachineState S → Type 0
Widens Bad m s = Bad (m s).0 ⊎ (m (machine_widened s) ≡ call_widened (m s))

module _ {S A B : Type 0} (First : Outcome A → Type 0) (Bad : Outcome B → Type 0) (k : A → Change (MachineState S) B) (kept : (r : Outcome A) (s : MachineState S) → First r → Bad (go_on r s k).0) (h : (a : A) (s : MachineState S) → Widens Bad (k a) s) where
  pub went_on_widens : (r : Outcome A) (s : MachineState S) → Bad (go_on r s k).0 ⊎ (go_on r (machine_widened s) k ≡ call_widened (go_on r s k))
  unfolding go_on
  went_on_widens (Ok a) s = h a s
  went_on_widens (Err e) s = inr refl

  went_widens : (p q : Outcome A × MachineState S) → First p.0 ⊎ (q ≡ call_widened p) → Bad (go_on p.0 p.1 k).0 ⊎ (go_on q.0 q.1 k ≡ call_widened (go_on p.0 p.1 k))
  went_widens p q (inl bad) = inl (kept p.0 p.1 bad)
  went_widens p q (inr same) = subst (λ (x : Outcome A × MachineState S). Bad (go_on p.0 p.1 k).0 ⊎ (go_on x.0 x.1 k ≡ call_widened (go_on p.0 p.1 k))) (sym same) (went_on_widens p.0 p.1)

  pub then_widens : (m : Change (MachineState S) A) (s : MachineState S) → Widens First m s → Widens Bad (m >>= k) s
  unfolding ◌>>=◌
  then_widens m s f = went_widens (m s) (m (machine_widened s)) f

-- what is bad already stays so, whatever comes after it
pub stays_bad : {S A B : Type 0} (Bad : B → Type 0) (k : A → Change (MachineState S) B) → ((a : A) (s : MachineState S) → OrRefused Bad (k a s).0) → (r : Outcome A) (s : MachineState S) → OrRefused Bad (go_on r s k).0
unfolding go_on
stays_bad Bad k h (Ok a) s = h a s
stays_bad Bad k h (Err e) s = tt

-- ---- one line

module _ {S A L : Type 0} (Bad : L → Type 0) (tell : Outcome A → L) (told : (r : Outcome A) → IsLeftOut r → Bad (tell r)) where
  pub line_widens : (p q : Outcome A × MachineState S) → IsLeftOut p.0 ⊎ (q ≡ call_widened p) → Bad (tell p.0) ⊎ (◌≡◌ {A = Outcome L × MachineState S} (Ok (tell q.0), q.1) (Ok (tell p.0), machine_widened p.1))
  line_widens p q (inl out) = inl (told p.0 out)
  line_widens p q (inr same) = inr (ap (λ (x : Outcome A × MachineState S). (Ok (tell x.0), x.1)) same)

abbrev pub SetBad : SetLine → Type 0
SetBad line = IsUnset line.outcome

abbrev pub AfterBad : ReportedAfter → Type 0
AfterBad line = IsUnread line.state

unset_told : (r : Outcome Bool) → IsLeftOut r → IsUnset (set_told r)
unset_told (Ok done) h = absurd h
unset_told (Err e) h = (e, h, refl)

unread_told : (r : Outcome (Option (List ℕ))) → IsLeftOut r → IsUnread (state_told r)
unread_told (Ok now) h = absurd h
unread_told (Err e) h = (e, h, refl)

module _ {S : Type 0} (accesses : Accesses S) where
  link_set_widens : (link : PresentLink) (n : ℕ) (s : MachineState S) → Widens (OrRefused SetBad) (link_set accesses link n) s
  unfolding link_set attempted give go_on ◌>>=◌
  link_set_widens link n s =
      line_widens SetBad (λ r. record { path = link.0; outcome = set_told r }) (λ r h. unset_told r h) (resources_set accesses link.0 link.1 n s) (resources_set accesses link.0 link.1 n (machine_widened s)) (setting_widened accesses link.0 link.1 n s)

  link_read_widens : (link : PresentLink) (s : MachineState S) → Widens (OrRefused AfterBad) (link_read accesses link) s
  unfolding link_read attempted give go_on ◌>>=◌
  link_read_widens link s =
      line_widens AfterBad (λ r. record { path = link.0; state = state_told r }) (λ r h. unread_told r h) (current_resources accesses link.0 s) (current_resources accesses link.0 (machine_widened s)) (current_widened accesses link.0 s)

  pub device_asked_widens : (device : List Seg) (s : MachineState S) → Widens (OrRefused AfterBad) (device_asked accesses device) s
  unfolding device_asked attempted give go_on ◌>>=◌
  device_asked_widens device s =
      line_widens AfterBad (λ r. record { path = device; state = state_told r }) (λ r h. unread_told r h) (device_resources accesses device s) (device_resources accesses device (machine_widened s)) (device_widened accesses device s)

-- ---- lines one after another

module _ {S A L : Type 0} (Bad : L → Type 0) (ask : A → Change (MachineState S) L) where
  lines_of : List A → List L → Change (MachineState S) (List L)
  lines_of xs done = folded (λ done line. done ++ line ∷ []) ask xs done

  lines_stay : (xs : List A) (done : List L) (s : MachineState S) → Among Bad done → OrRefused (Among Bad) (lines_of xs done s).0
  unfolding lines_of folded give ◌>>=◌
  lines_stay [] done s bad = bad
  lines_stay (x ∷ xs) done s bad = stays_bad (Among Bad) (λ line. lines_of xs (done ++ line ∷ [])) (λ line t. lines_stay xs (done ++ line ∷ []) t (among_more Bad done line bad)) (ask x s).0 (ask x s).1

  line_stays : (xs : List A) (done : List L) (r : Outcome L) (s : MachineState S) → OrRefused Bad r → OrRefused (Among Bad) (go_on r s (λ line. lines_of xs (done ++ line ∷ []))).0
  unfolding go_on
  line_stays xs done (Ok line) s bad = lines_stay xs (done ++ line ∷ []) s (among_last Bad done line bad)
  line_stays xs done (Err e) s bad = tt

  pub lines_widen : ((x : A) (s : MachineState S) → Widens (OrRefused Bad) (ask x) s) → (xs : List A) (done : List L) (s : MachineState S) → Widens (OrRefused (Among Bad)) (folded (λ done line. done ++ line ∷ []) ask xs done) s
  unfolding lines_of folded give
  lines_widen h [] done s = inr refl
  lines_widen h (x ∷ xs) done s = then_widens (OrRefused Bad) (OrRefused (Among Bad)) (λ line. lines_of xs (done ++ line ∷ [])) (line_stays xs done) (λ line t. lines_widen h xs (done ++ line ∷ []) t) (ask x) s (h x s)

-- ---- setting links, and reading them

-- what is bad of the lines of both
abbrev pub SettingsBad : List SetLine × List ReportedAfter → Type 0
SettingsBad lines = Among SetBad lines.0 ⊎ Among AfterBad lines.1

module _ {S : Type 0} (accesses : Accesses S) where
  sets_stay : (links : List PresentLink) (ns : List ℕ) (done : List SetLine) (s : MachineState S) → Among SetBad done → OrRefused (Among SetBad) (links_set accesses links ns done s).0
  unfolding links_set give ◌>>=◌
  sets_stay [] ns done s bad = bad
  sets_stay (link ∷ links) [] done s bad = bad
  sets_stay (link ∷ links) (n ∷ ns) done s bad =
      stays_bad (Among SetBad) (λ line. links_set accesses links ns (done ++ line ∷ [])) (λ line t. sets_stay links ns (done ++ line ∷ []) t (among_more SetBad done line bad)) (link_set accesses link n s).0 (link_set accesses link n s).1

  set_stays : (links : List PresentLink) (ns : List ℕ) (done : List SetLine) (r : Outcome SetLine) (s : MachineState S) → OrRefused SetBad r → OrRefused (Among SetBad) (go_on r s (λ line. links_set accesses links ns (done ++ line ∷ []))).0
  unfolding go_on
  set_stays links ns done (Ok line) s bad = sets_stay links ns (done ++ line ∷ []) s (among_last SetBad done line bad)
  set_stays links ns done (Err e) s bad = tt

  sets_widen : (links : List PresentLink) (ns : List ℕ) (done : List SetLine) (s : MachineState S) → Widens (OrRefused (Among SetBad)) (links_set accesses links ns done) s
  unfolding links_set give
  sets_widen [] ns done s = inr refl
  sets_widen (link ∷ links) [] done s = inr refl
  sets_widen (link ∷ links) (n ∷ ns) done s =
      then_widens (OrRefused SetBad) (OrRefused (Among SetBad)) (λ line. links_set accesses links ns (done ++ line ∷ [])) (set_stays links ns done) (λ line t. sets_widen links ns (done ++ line ∷ []) t) (link_set accesses link n) s (link_set_widens accesses link n s)

  -- behind lines `set`, which are bad or not, those that are read
  with_sets : List SetLine → List ReportedAfter → Change (MachineState S) (List SetLine × List ReportedAfter)
  with_sets sets afters = give (sets, afters)

  sets_behind : (links : List PresentLink) (r : Outcome (List SetLine)) (s : MachineState S) → OrRefused (Among SetBad) r → OrRefused SettingsBad (go_on r s (λ sets. links_read accesses links >>= with_sets sets)).0
  unfolding go_on ◌>>=◌ with_sets give
  sets_behind links (Ok sets) s bad = stays_bad SettingsBad (with_sets sets) (λ afters t. inl bad) (links_read accesses links s).0 (links_read accesses links s).1
  sets_behind links (Err e) s bad = tt

  afters_behind : (sets : List SetLine) (r : Outcome (List ReportedAfter)) (s : MachineState S) → OrRefused (Among AfterBad) r → OrRefused SettingsBad (go_on r s (with_sets sets)).0
  unfolding go_on with_sets give
  afters_behind sets (Ok afters) s bad = inr bad
  afters_behind sets (Err e) s bad = tt

  given_widens : (sets : List SetLine) (afters : List ReportedAfter) (s : MachineState S) → Widens (OrRefused SettingsBad) (with_sets sets afters) s
  unfolding with_sets give
  given_widens sets afters s = inr refl

  reads_widen : (links : List PresentLink) (sets : List SetLine) (s : MachineState S) → Widens (OrRefused SettingsBad) (links_read accesses links >>= with_sets sets) s
  reads_widen links sets s =
      then_widens (OrRefused (Among AfterBad)) (OrRefused SettingsBad) (with_sets sets) (afters_behind sets) (given_widens sets) (links_read accesses links) s (lines_widen AfterBad (link_read accesses) (link_read_widens accesses) links [] s)

  settled_widens : (links : List PresentLink) (ns : List ℕ) (s : MachineState S) → Widens (OrRefused SettingsBad) (settled accesses links ns) s
  unfolding settled with_sets
  settled_widens links ns s =
      then_widens (OrRefused (Among SetBad)) (OrRefused SettingsBad) (λ sets. links_read accesses links >>= with_sets sets) (sets_behind links) (reads_widen links) (links_set accesses links ns []) s (sets_widen links ns [] s)

  pub settled_unless_widens : (dry : Bool) (links : List PresentLink) (ns : List ℕ) (s : MachineState S) → Widens (OrRefused SettingsBad) (settled_unless accesses dry links ns) s
  unfolding settled_unless give
  settled_unless_widens true links ns s = inr refl
  settled_unless_widens false links ns s = settled_widens links ns s
