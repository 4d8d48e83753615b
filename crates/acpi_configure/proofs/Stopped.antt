-- Where the calls that set links and read them stop.
use Rattle.std.proofs.Common.{◌≡◌, ℕ, zero, suc, ◌<◌, List, [], ◌∷◌, length, get_or, Bool, false, Option, Ok, refl, subst, arith}
use Rattle.std.specs.Prelude.{zip}
use Rattle.ar_space.specs.Accesses.{Accesses}
use Rattle.ar_space.specs.Outcome.{Outcome}
use Rattle.ar_space.specs.Change.{Change, Does}
use Rattle.acpi_machine.specs.MachineStates.{MachineState, sci_of}
use Rattle.acpi_machine.specs.Stops.{AllOrNone}
use Rattle.acpi_machine.proofs.Stopping.{made_as, made_given, stops_first, stops_next}
use Rattle.acpi_links.specs.Links.{PresentLink}
use Rattle.acpi_links.specs.Resources.{current_resources}
use Rattle.acpi_links.specs.Settings.{resources_set}
use Rattle.acpi_links.specs.Gatherings.{Gathering, gathered}
use Rattle.acpi_links.specs.Stops.{StopsInGathering}
use Rattle.route_solve.specs.Problems.{RoutingAnswer}
use Rattle.acpi_configure.specs.Chosen.{IsChosen}
use Rattle.acpi_configure.specs.Configured.{Solves}
use Rattle.acpi_configure.specs.Options.{RunOptions}
use Rattle.route_report.specs.declared.report.SetLine.{SetLine}
use Rattle.route_report.specs.Reports.{ReportedAfter}
use Rattle.acpi_configure.specs.Settling.{attempted, set_told, state_told, link_set, link_read, settled_unless}
use Rattle.acpi_configure.specs.Stops.{StopsInSettling, StopsInRun, StopsInOthers, StopsInFinding, StopsInRunWith}
use Rattle.acpi_configure.specs.WithOptions.{Findings, found_by}

pub attempt_made : {S A B : Type 0} {s t : MachineState S} (tell : Outcome A → B) (m : Change (MachineState S) A) → AllOrNone m s t → AllOrNone (attempted tell m) s t
unfolding attempted
attempt_made tell m h = made_as m (attempted tell m) refl h

module _ {S : Type 0} (accesses : Accesses S) {s t : MachineState S} where
  pub link_set_made : (link : PresentLink) (n : ℕ) → AllOrNone (attempted set_told (resources_set accesses link.0 link.1 n)) s t → AllOrNone (link_set accesses link n) s t
  unfolding link_set
  link_set_made link n h = made_given (attempted set_told (resources_set accesses link.0 link.1 n)) _ h

  pub link_read_made : (link : PresentLink) → AllOrNone (attempted state_told (current_resources accesses link.0)) s t → AllOrNone (link_read accesses link) s t
  unfolding link_read
  link_read_made link h = made_given (attempted state_told (current_resources accesses link.0)) _ h

  pub unless_dry : (dry : Bool) (links : List PresentLink) (ns : List ℕ) → dry ≡ false → StopsInSettling accesses false links ns s t → StopsInSettling accesses dry links ns s t
  unless_dry dry links ns is h = rw is h

-- ---- links and interrupts side by side

module _ {A B : Type 0} where
  pub zip_within : (xs : List A) (ys : List B) (i : ℕ) → i < length xs → i < length ys → i < length (zip xs ys)
  zip_within [] ys i l m = l
  zip_within (x ∷ xs) [] i l m = m
  zip_within (x ∷ xs) (y ∷ ys) zero l m = omega arith
  zip_within (x ∷ xs) (y ∷ ys) (suc i) l m = let h = zip_within xs ys i (omega arith) (omega arith) in omega arith

  pub zip_item : (xs : List A) (ys : List B) (i : ℕ) (d : A) (e : B) (f : A × B) → i < length xs → i < length ys → get_or (zip xs ys) i f ≡ (get_or xs i d, get_or ys i e)
  zip_item [] ys i d e f l m = absurd (omega arith)
  zip_item (x ∷ xs) [] i d e f l m = absurd (omega arith)
  zip_item (x ∷ xs) (y ∷ ys) zero d e f l m = refl
  zip_item (x ∷ xs) (y ∷ ys) (suc i) d e f l m = zip_item xs ys i d e f (omega arith) (omega arith)

pub pair_at : (ls : List PresentLink) (ns : List ℕ) (i : ℕ) (l : PresentLink) → i < length ls → i < length ns → l ≡ get_or ls i l → (l, get_or ns i 0) ≡ get_or (zip ls ns) i (l, get_or ns i 0)
pair_at ls ns i l within there at = rw (zip_item ls ns i l 0 (l, get_or ns i 0) within there, ← at) refl

-- ---- a run

module _ {S : Type 0} (accesses : Accesses S) (avoid : List ℕ) (s t u : MachineState S) where
  pub behind_answer : (dry : Bool) (found : Gathering) (answer : RoutingAnswer) → Does (Ok found) t (gathered accesses avoid) s → Solves found.problem answer
      → StopsInSettling accesses dry found.links answer.choice t u → StopsInRun accesses dry avoid s u
  behind_answer dry found answer d solves h = stops_next d (record { answer = answer; solves = solves; settling = h })

module _ {S : Type 0} (accesses : Accesses S) (o : RunOptions) (s t u : MachineState S) where
  pub behind_choice : (sci : Option ℕ) (found : Findings) (answer : RoutingAnswer) → sci ≡ sci_of s → Does (Ok found) t (found_by accesses o sci) s → IsChosen o.spread found.gathering.problem answer
      → StopsInSettling accesses o.dry found.gathering.links answer.choice t u → StopsInRunWith accesses o s u
  behind_choice sci found answer e d chosen h =
      let at : Does (Ok found) t (found_by accesses o (sci_of s)) s = subst (λ (n : Option ℕ). Does (Ok found) t (found_by accesses o n) s) e d in
      stops_next at (record { answer = answer; chosen = chosen; settling = h })

  -- the devices are asked in the machine that gathering left
  pub behind_links : (avoid : List ℕ) (spare : Bool) (first : Gathering) (links : List PresentLink) → o.avoid ≡ avoid → o.spare ≡ spare → links ≡ first.links
      → Does (Ok first) t (gathered accesses avoid) s → StopsInOthers accesses spare links t u → StopsInFinding accesses o s u
  behind_links avoid spare first links ea es el d h = rw (ea, es) (stops_next d (subst (λ (ls : List PresentLink). StopsInOthers accesses spare ls t u) el h))

module _ {S : Type 0} (accesses : Accesses S) where
  pub in_links : {s t : MachineState S} (o : RunOptions) (avoid : List ℕ) → o.avoid ≡ avoid → StopsInGathering accesses avoid s t → StopsInFinding accesses o s t
  in_links o avoid ea h = rw ea (stops_first h)

  -- the same of links and of a dryness that are known by other names
  pub stops_as : (s t : MachineState S) (dry same : Bool) (g also : Gathering) (ns : List ℕ) → dry ≡ same → g ≡ also → StopsInSettling accesses dry g.links ns s t → StopsInSettling accesses same also.links ns s t
  stops_as s t dry same g also ns e f h =
      subst (λ (b : Bool). StopsInSettling accesses b also.links ns s t) e (subst (λ (x : Gathering). StopsInSettling accesses dry x.links ns s t) f h)

  pub does_as : {r : Outcome (List SetLine × List ReportedAfter)} {s t : MachineState S} (dry same : Bool) (g also : Gathering) (ns : List ℕ) → dry ≡ same → g ≡ also
      → Does r t (settled_unless accesses dry g.links ns) s → Does r t (settled_unless accesses same also.links ns) s
  does_as {r} {s} {t} dry same g also ns e f h =
      subst (λ (b : Bool). Does r t (settled_unless accesses b also.links ns) s) e (subst (λ (x : Gathering). Does r t (settled_unless accesses dry x.links ns) s) f h)
