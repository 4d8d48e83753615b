-- The claim that is made of an assignment and its bound is valid.
use Rattle.std.proofs.Common.{◌≡◌, ℕ, zero, suc, ◌<◌, Bool, true, false, List, [], ◌∷◌, ◌++◌, Option, length, map, refl, sym, ◌∙◌, ap, subst, arith, get_or, inl, inr}
use Rattle.std.specs.Prelude.{◌⊎◌, Contains, All, if◌then◌else◌}
use Rattle.std.specs.Ordering.{is_eq}
use Rattle.std.specs.List.Sorted.{IsStrictlyIncreasing, IsStrictlySortedBy}
use Rattle.std.proofs.lemmas.Bool.{true≢false, cases_order}
use Rattle.std.proofs.lemmas.List.{length-map, get_or-map}
use Rattle.std.proofs.lemmas.List.Elements.{Contains-get_or}
use Rattle.std.proofs.lemmas.List.Kept.{AllPairs-from_increasing}
use Rattle.std.proofs.lemmas.Map.Keys.{Less-from_sorted}
use Rattle.aml_path.specs.declared.segment.Seg.{Seg}
use Rattle.aml_path.specs.Paths.{path_cmp, path_eq}
use Rattle.route_model.specs.Avoided.{without}
use Rattle.route_model.specs.Links.{OfferingLink, paths_of}
use Rattle.route_model.specs.Routing.{busiest, IsAssignment}
use Rattle.route_model.specs.Placement.{Offers}
use Rattle.route_model.specs.Bound.{IsDistinct, IsLowerBound}
use Rattle.route_model.proofs.Paths.{path_tells}
use Rattle.route_model.proofs.Assignments.{length_assignment, assignment_at}
use Rattle.route_check.specs.Valid.{keys_of, given_to, effective_offers, sci_counts, effective_counts, choice_of, Valid}
use Rattle.route_check.specs.Claimed.{gives_of, paths_at, claim_of}

distinct_paths : (ps : List (List Seg)) → IsStrictlySortedBy path_cmp ps → IsDistinct ps
distinct_paths ps up i j d lt b e = true≢false (sym (path_tells.itself (get_or ps j d)) ∙ (ap (λ p. path_eq p (get_or ps j d)) (sym e) ∙ ap is_eq (Less-from_sorted path_cmp ps i j d up lt b)))

distinct_numbers : (xs : List ℕ) → IsStrictlyIncreasing xs → IsDistinct xs
distinct_numbers xs up i j d lt b e = let f = AllPairs-from_increasing xs up i j d lt b in absurd (omega arith)

-- what stands at two places is the same only if the places are
same_place : (ps : List (List Seg)) → IsDistinct ps → (a b : ℕ) → a < length ps → b < length ps → get_or ps a [] ≡ get_or ps b [] → a ≡ b
same_place ps distinct a b ha hb e = go (cases_order a b)
  where
    go : (a ≡ b) ⊎ ((a < b) ⊎ (b < a)) → a ≡ b
    go (inl is) = is
    go (inr (inl less)) = absurd (distinct a b [] less hb e)
    go (inr (inr more)) = absurd (distinct b a [] more ha (sym e))

distinct_at : (ps : List (List Seg)) (places : List ℕ) → IsDistinct ps → IsDistinct places → ((l : ℕ) → Contains places l → l < length ps) → IsDistinct (map (λ l. get_or ps l []) places)
distinct_at ps places distinct apart known i j d lt b e =
    let f = λ (l : ℕ). get_or ps l [] in
    let long = length-map places f in
    let bi : i < length places = omega arith in
    let bj : j < length places = omega arith in
    let at = sym (get_or-map f places i 0 d bi) ∙ (e ∙ get_or-map f places j 0 d bj) in
    apart i j 0 lt bj (same_place ps distinct (get_or places i 0) (get_or places j 0) (known _ (Contains-get_or places i 0 bi)) (known _ (Contains-get_or places j 0 bj)) at)

contains_mapped : {X K : Type 0} (f : X → K) (xs : List X) (i : ℕ) (d : X) → i < length xs → Contains (map f xs) (f (get_or xs i d))
contains_mapped f xs i d b = let l = length-map xs f in (i, omega arith, get_or-map f xs i d (f (get_or xs i d)) b)

-- the gives are those of the links, in their order
keys_given : (links : List OfferingLink) (choice : List ℕ) → length links ≡ length choice → keys_of (gives_of links choice) ≡ paths_of links
keys_given [] choice e = refl
keys_given (l ∷ ls) [] e = absurd (omega arith)
keys_given (l ∷ ls) (n ∷ ns) e = ap (λ (ps : List (List Seg)). l.path ∷ ps) (keys_given ls ns (omega arith))

skipped : (p : List Seg) (n : ℕ) (gives : List (List Seg × ℕ)) (links : List OfferingLink) → ((i : ℕ) → i < length (paths_of links) → p ≡ get_or (paths_of links) i [] → ⊥) → choice_of links ((p, n) ∷ gives) ≡ choice_of links gives
skipped p n gives [] fresh = refl
skipped p n gives (l ∷ ls) fresh = ap (λ (m : ℕ). m ∷ choice_of ls ((p, n) ∷ gives)) (go (path_eq p l.path) refl) ∙ ap (λ (ms : List ℕ). given_to gives l.path ∷ ms) (skipped p n gives ls (λ i b. fresh (suc i) (omega arith)))
  where
    go : (same : Bool) → path_eq p l.path ≡ same → given_to ((p, n) ∷ gives) l.path ≡ given_to gives l.path
    go true e = absurd (fresh 0 (omega arith) (path_tells.sound p l.path e))
    go false e = ap (λ b. if b then n else given_to gives l.path) e

pub choice_given : (links : List OfferingLink) (choice : List ℕ) → IsDistinct (paths_of links) → length links ≡ length choice → choice_of links (gives_of links choice) ≡ choice
choice_given [] [] d e = refl
choice_given [] (n ∷ ns) d e = absurd (omega arith)
choice_given (l ∷ ls) [] d e = absurd (omega arith)
choice_given (l ∷ ls) (n ∷ ns) d e =
    ap (λ (b : Bool). (if b then n else given_to (gives_of ls ns) l.path) ∷ choice_of ls ((l.path, n) ∷ gives_of ls ns)) (path_tells.itself l.path)
    ∙ ap (λ (ms : List ℕ). n ∷ ms) (skipped l.path n (gives_of ls ns) ls (λ i b. d 0 (suc i) [] (omega arith) (omega arith))
    ∙ choice_given ls ns (λ i j d' lt b. d (suc i) (suc j) d' (omega arith) (omega arith)) (omega arith))

module _ (offered : OfferingLink → List ℕ) (links : List OfferingLink) (counts : List (ℕ × ℕ)) (choice : List ℕ) (distinct : IsDistinct (paths_of links)) (assigned : IsAssignment (map offered links) choice) where
  same_length : length links ≡ length choice
  same_length = let a = length_assignment (map offered links) choice assigned in let b = length-map links offered in omega arith

  keys : keys_of (gives_of links choice) ≡ paths_of links
  keys = keys_given links choice same_length

  given_is : choice_of links (gives_of links choice) ≡ choice
  given_is = choice_given links choice distinct same_length

  all_given : All (λ l. Contains (keys_of (gives_of links choice)) l.path) links
  all_given i d b = let P : List (List Seg) → Type 0 = λ ps. Contains ps (get_or links i d).path in subst P (sym keys) (contains_mapped (λ (l : OfferingLink). l.path) links i d b)

  all_known : All (λ g. Contains (paths_of links) g.0) (gives_of links choice)
  all_known i d b = let P : List (List Seg) → Type 0 = λ ps. Contains ps (get_or (gives_of links choice) i d).0 in subst P keys (contains_mapped (λ (g : List Seg × ℕ). g.0) (gives_of links choice) i d b)

  all_offered : All (λ l. Contains (offered l) (given_to (gives_of links choice) l.path)) links
  all_offered i d b =
      let f = λ (l : OfferingLink). given_to (gives_of links choice) l.path in
      let at : get_or choice i 0 ≡ f (get_or links i d) = ap (λ (ns : List ℕ). get_or ns i 0) (sym given_is) ∙ get_or-map f links i d 0 b in
      let offers = get_or-map offered links i d [] b in
      let long = same_length in
      let P : List ℕ → Type 0 = λ os. Contains os (get_or choice i 0) in
      let Q : ℕ → Type 0 = λ n. Contains (offered (get_or links i d)) n in
      subst Q at (subst P offers (assignment_at (map offered links) choice i assigned (omega arith)))

  module _ (places interrupts : List ℕ) (k : ℕ) (bound : IsLowerBound (map offered links) counts k places interrupts) where
    known : (l : ℕ) → Contains places l → l < length (paths_of links)
    known l c =
        let a = bound.known l c in
        let b = length-map links offered in
        let e = length-map links (λ (x : OfferingLink). x.path) in
        omega arith

    set_distinct : IsDistinct (paths_at links places)
    set_distinct = distinct_at (paths_of links) places distinct bound.distinct_links known

    set_known : All (Contains (paths_of links)) (paths_at links places)
    set_known i d b =
        let f = λ (l : ℕ). get_or (paths_of links) l [] in
        let long = length-map places f in
        let bi : i < length places = omega arith in
        let at = get_or-map f places i 0 d bi in
        subst (Contains (paths_of links)) (sym at) (Contains-get_or (paths_of links) (get_or places i 0) [] (known _ (Contains-get_or places i 0 bi)))

    inside : All (λ l. Contains (paths_at links places) l.path → All (Contains interrupts) (offered l)) links
    inside i d b c j e bj =
        let f = λ (l : ℕ). get_or (paths_of links) l [] in
        let long = length-map places f in
        let cb = c.1 in
        let bm : c.0 < length places = omega arith in
        let p = get_or places c.0 0 in
        let there = Contains-get_or places c.0 0 bm in
        let at = sym (get_or-map f places c.0 0 (get_or links i d).path bm) ∙ c.2 in
        let path = get_or-map (λ (l : OfferingLink). l.path) links i d [] b in
        let paths = length-map links (λ (l : OfferingLink). l.path) in
        let is : i ≡ p = same_place (paths_of links) distinct i p (omega arith) (known p there) (path ∙ sym at) in
        let offers = get_or-map offered links i d [] b in
        let n = get_or (offered (get_or links i d)) j e in
        let P : List ℕ → Type 0 = λ os. Contains os n in
        let Q : ℕ → Type 0 = λ l. Offers (map offered links) l n in
        bound.inside p n there (subst Q is (subst P (sym offers) (Contains-get_or (offered (get_or links i d)) j e bj)))

pub valid : (links : List OfferingLink) (wired : List (ℕ × ℕ)) (sci : Option ℕ) (avoid choice : List ℕ) (k : ℕ) (places interrupts : List ℕ) → let claim = claim_of links wired sci avoid choice k places interrupts in let offers = map (effective_offers claim) links in let counts = effective_counts claim in IsStrictlySortedBy path_cmp (paths_of links) → IsStrictlyIncreasing (map (λ w. w.0) wired) → IsAssignment offers choice → busiest counts choice ≡ k → (k ≡ 0) ⊎ IsLowerBound offers counts k places interrupts → Valid claim
valid links wired sci avoid choice zero places interrupts in_order ascending assigned busy bound =
    let offered = λ (l : OfferingLink). without avoid l.offers in
    let counts = sci_counts sci ++ wired in
    let distinct = distinct_paths (paths_of links) in_order in
    let keys_are = keys offered links counts choice distinct assigned in
    record {
      none_repeated = record {
        links = distinct;
        gives = rw keys_are distinct;
        wired = distinct_numbers (keys_of wired) ascending;
        set = λ i j d lt b e. omega arith;
        interrupts = λ i j d lt b e. omega arith;
      };
      none_missing = record {
        given = all_given offered links counts choice distinct assigned;
        known = all_known offered links counts choice distinct assigned;
        set_known = λ i d b. absurd (omega arith);
      };
      all_offered = all_offered offered links counts choice distinct assigned;
      busiest_right = ap (busiest counts) (given_is offered links counts choice distinct assigned) ∙ busy;
      bound = inl refl;
    }
valid links wired sci avoid choice (suc m) places interrupts in_order ascending assigned busy (inl none) = absurd (omega arith)
valid links wired sci avoid choice (suc m) places interrupts in_order ascending assigned busy (inr bound) =
    let offered = λ (l : OfferingLink). without avoid l.offers in
    let counts = sci_counts sci ++ wired in
    let distinct = distinct_paths (paths_of links) in_order in
    let keys_are = keys offered links counts choice distinct assigned in
    record {
      none_repeated = record {
        links = distinct;
        gives = rw keys_are distinct;
        wired = distinct_numbers (keys_of wired) ascending;
        set = set_distinct offered links counts choice distinct assigned places interrupts (suc m) bound;
        interrupts = bound.distinct_interrupts;
      };
      none_missing = record {
        given = all_given offered links counts choice distinct assigned;
        known = all_known offered links counts choice distinct assigned;
        set_known = set_known offered links counts choice distinct assigned places interrupts (suc m) bound;
      };
      all_offered = all_offered offered links counts choice distinct assigned;
      busiest_right = ap (busiest counts) (given_is offered links counts choice distinct assigned) ∙ busy;
      bound = inr (bound.some, inside offered links counts choice distinct assigned places interrupts (suc m) bound, rw (length-map places (λ (l : ℕ). get_or (paths_of links) l [])) bound.crowded);
    }
