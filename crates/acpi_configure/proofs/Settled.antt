-- Links one after another, each set or read, with what came of it told.
use Rattle.std.specs.Prelude.{◌≡◌, ◌≢◌, ◌<◌, ◌≤◌, ◌+◌, ℕ, zero, suc, List, [], ◌∷◌, ◌++◌, length, drop, map, get_or, Contains, Option, Ok, Err, IsErr, IsErrAnd, refl}
use Rattle.std.specs.List.{AllZip}
use Rattle.std.proofs.Common.{◌∙◌, ap, sym, subst, arith, drop-cons, add-one}
use Rattle.std.proofs.lemmas.List.{drop_all, get_or-map, length-map}
use Rattle.ar_space.specs.declared.refusal.Refusal.{Refusal}
use Rattle.ar_space.specs.declared.refusal.Refusal.TheVariants.{OutOfMemory}
use Rattle.ar_space.specs.Accesses.{Accesses}
use Rattle.ar_space.specs.Outcome.{Outcome, NotMemory, Answers, seen}
use Rattle.ar_space.specs.Change.{Change, Does, Same, give, ◌>>=◌}
use Rattle.ar_space.proofs.Changes.{does_ok, does_err, changing}
use Rattle.acpi_machine.specs.MachineStates.{MachineState}
use Rattle.acpi_links.specs.Links.{PresentLink}
use Rattle.route_model.specs.Links.{OfferingLink, offers_of}
use Rattle.route_model.proofs.NotAvoided.{left_from}
use Rattle.acpi_links.specs.Gatherings.{Gathering}
use Rattle.acpi_links.specs.Problems.{offering, problem_of}
use Rattle.route_solve.specs.Problems.{RoutingProblem, RoutingAnswer}
use Rattle.acpi_configure.proofs.Fitting.{Fitting}
use Rattle.acpi_configure.proofs.Placed.{chosen_for_each}
use Rattle.route_report.specs.declared.report.SetLine.{SetLine}
use Rattle.acpi_configure.specs.Settling.{attempted, link_set, links_set}

-- ---- what is attempted is told, but for want of memory

plain : {A B : Type 0} (r : Outcome A) (t : Outcome B) → (r ≡ Err OutOfMemory → t ≡ Err OutOfMemory) → NotMemory t → NotMemory r
plain (Ok a) t h ne = tt
plain (Err e) t h ne = λ is. subst NotMemory (h (ap Err is)) ne refl

pub does_attempted : {S A B : Type 0} {s s1 : S} (tell : Outcome A → B) (m : Change S A) (r : Outcome A) (t : Outcome B) → Does r s1 m s → (NotMemory r → Answers t (Ok (tell r))) → (r ≡ Err OutOfMemory → t ≡ Err OutOfMemory)
    → Does t s1 (attempted tell m) s
unfolding attempted
does_attempted {s1 = s1} tell m r t d told memory = record { is = λ ne. let n = plain r t memory ne in rw (d.is n) (ap (λ x. (x, s1)) ((told n).is ne)) }

-- ---- links and interrupts side by side

module _ {S : Type 0} (accesses : Accesses S) {m : Change (MachineState S) (List SetLine)} {start here : MachineState S} where
  pub same_pair : (ls : List PresentLink) (ns : List ℕ) (done : List SetLine) (i : ℕ) (l : PresentLink) → Same m start (links_set accesses (drop i ls) (drop i ns) done) here → i < length ls → i < length ns
      → l ≡ get_or ls i l → Same m start (link_set accesses l (get_or ns i 0) >>= (λ line. links_set accesses (drop (i + 1) ls) (drop (i + 1) ns) (done ++ line ∷ []))) here
  unfolding links_set
  same_pair ls ns done i l h k j at = record { is = h.is ∙ rw (drop-cons ls i l k, drop-cons ns i 0 j, ← at, add-one) refl }

  pub same_pushed : (ls : List PresentLink) (ns : List ℕ) (done more : List SetLine) → Same m start (links_set accesses ls ns done) here → more ≡ done → Same m start (links_set accesses ls ns more) here
  same_pushed ls ns done more h e = rw e h

  pub pairs_end : {r : List SetLine} (ls : List PresentLink) (ns : List ℕ) (done : List SetLine) (i : ℕ) → Same m start (links_set accesses (drop i ls) (drop i ns) done) here → length ls ≤ i → r ≡ done → Does (Ok r) here m start
  unfolding links_set give
  pairs_end ls ns done i h l e = record { is = λ _. h.is ∙ rw (drop_all i ls l, e) refl }

-- ---- each link offers what it is given

zip_at : (xs : List (List ℕ)) (ns : List ℕ) (i : ℕ) (d : List ℕ) (e : ℕ) → AllZip Contains xs ns → i < length xs → Contains (get_or xs i d) (get_or ns i e)
zip_at [] ns i d e h l = absurd (omega arith)
zip_at (x ∷ xs) [] i d e h l = absurd h
zip_at (x ∷ xs) (n ∷ ns) zero d e h l = h.0
zip_at (x ∷ xs) (n ∷ ns) (suc i) d e h l = zip_at xs ns i d e h.1 (omega arith)

pub offered_at : (links : List PresentLink) (ns : List ℕ) (i : ℕ) (d : PresentLink) (e : ℕ) → AllZip Contains (map (λ (l : PresentLink). l.1.numbers) links) ns → i < length links → Contains (get_or links i d).1.numbers (get_or ns i e)
offered_at links ns i d e h l =
    let there : i < length (map (λ (l : PresentLink). l.1.numbers) links) = (let k = length-map links (λ (l : PresentLink). l.1.numbers) in omega arith) in
    subst (λ xs. Contains xs (get_or ns i e)) (get_or-map (λ (l : PresentLink). l.1.numbers) links i d d.1.numbers l) (zip_at (map (λ (l : PresentLink). l.1.numbers) links) ns i d.1.numbers e h there)

-- what is left of an offer is offered
left_each : (avoid : List ℕ) (links : List PresentLink) (ns : List ℕ) → AllZip Contains (offers_of (map (offering avoid) links)) ns → AllZip Contains (map (λ (l : PresentLink). l.1.numbers) links) ns
left_each avoid [] [] h = h
left_each avoid [] (n ∷ ns) h = h
left_each avoid (l ∷ ls) [] h = h
left_each avoid (l ∷ ls) (n ∷ ns) h = ((left_from avoid l.1.numbers n h.0).0, left_each avoid ls ns h.1)

module _ (avoid : List ℕ) (sci : Option ℕ) (g : Gathering) (a : RoutingAnswer) where
  posed_links : g.problem ≡ problem_of avoid sci g.links g.pins → g.problem.links ≡ map (offering avoid) g.links
  unfolding problem_of
  posed_links posed = ap (λ (p : RoutingProblem). p.links) posed

  pub offered_each : g.problem ≡ problem_of avoid sci g.links g.pins → Fitting g.problem a → AllZip Contains (map (λ (l : PresentLink). l.1.numbers) g.links) a.choice
  offered_each posed s = left_each avoid g.links a.choice (subst (λ xs. AllZip Contains xs a.choice) (ap offers_of (posed_links posed)) s.offered)

  pub chosen_each : g.problem ≡ problem_of avoid sci g.links g.pins → Fitting g.problem a → length a.choice ≡ length g.links
  chosen_each posed s = chosen_for_each g.problem a s ∙ ap (λ (ls : List OfferingLink). length ls) (posed_links posed) ∙ length-map g.links (offering avoid)
