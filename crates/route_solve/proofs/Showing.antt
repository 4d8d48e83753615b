use Rattle.std.proofs.Common.{◌≡◌, ℕ, zero, suc, ◌+◌, ◌-◌, ◌*◌, ◌<◌, ◌≤◌, Bool, true, List, [], ◌∷◌, length, refl, sym, ◌∙◌, ap, subst, arith, get_or, take, inl, inr}
use Rattle.std.specs.Prelude.{◌⊎◌, ◌==◌, Contains, filter, sum_by}
use Rattle.std.specs.List.{range_with_len}
use Rattle.std.specs.List.Sorted.{IsStrictlyIncreasing}
use Rattle.std.proofs.lemmas.List.Elements.{Contains-get_or}
use Rattle.std.proofs.lemmas.List.Sums.{sum_by-cons}
use Rattle.std.proofs.lemmas.List.Kept.{AllPairs-from_increasing, IsStrictlyIncreasing-filter}
use Rattle.std.proofs.lemmas.Bool.{false≢true, eqb-true, eq-eqb, cases_lt}
use Rattle.route_model.specs.Routing.{wired_to}
use Rattle.route_model.specs.Bound.{IsDistinct, IsLowerBound}
use Rattle.route_model.specs.Placement.{is_reached, Offers}
use Rattle.route_solve.specs.Room.{room_of}
use Rattle.route_solve.specs.Floor.{IsFloor}
use Rattle.route_solve.specs.Certificate.{IsCertificate}
use Rattle.route_solve.specs.Shown.{IsCrowdedSet, Shown}
use Rattle.route_solve.specs.Marks.{HasAll, places_from, is_offered_by}
use Rattle.route_solve.specs.Shown.Shown.{Wired, Crowded}
use Rattle.route_solve.proofs.Filtered.{any_contains, in_filter, passes, places_are, range_ascends, offered_from, offered_to, here}
use Rattle.route_solve.proofs.Sets.{place_is_marked, marked_is_place, set_is, count_of_set}

distinct : (xs : List ℕ) → IsStrictlyIncreasing xs → IsDistinct xs
distinct xs up i j d lt b e = let f = AllPairs-from_increasing xs up i j d lt b in absurd (omega arith)

module _ (offers : List (List ℕ)) (wired : List (ℕ × ℕ)) (numbers : List ℕ) (up : IsStrictlyIncreasing numbers) (all : HasAll offers wired numbers) where
  -- the first of the interrupts with so many wired sources
  pub wired_set : (k : ℕ) → 0 < k → IsFloor wired k → Shown offers wired k [] (take 1 (filter (λ n. wired_to wired n == k) numbers)) × IsLowerBound offers wired k [] (take 1 (filter (λ n. wired_to wired n == k) numbers))
  wired_set k positive (inl e) = absurd (omega arith)
  wired_set k positive (inr at) = go busy (IsStrictlyIncreasing-filter (λ n. wired_to wired n == k) numbers up) (λ i e. in_filter (λ n. wired_to wired n == k) numbers i (any_contains i numbers (all.sources i (omega arith))) (eq-eqb (wired_to wired i) k e)) (λ i c. eqb-true (wired_to wired i) k (passes (λ n. wired_to wired n == k) numbers i c))
    where
      busy : List ℕ
      busy = filter (λ n. wired_to wired n == k) numbers

      go : (busy : List ℕ) → IsStrictlyIncreasing busy → ((i : ℕ) → wired_to wired i ≡ k → Contains busy i) → ((i : ℕ) → Contains busy i → wired_to wired i ≡ k) → Shown offers wired k [] (take 1 busy) × IsLowerBound offers wired k [] (take 1 busy)
      go [] ascending has is = absurd (let c = has at.0 at.1 in let b = c.1 in omega arith)
      go (x ∷ xs) ascending has is =
          let e : wired_to wired x ≡ k = is x (here x x xs refl) in
          let s = sum_by-cons (wired_to wired) x [] in (
            Wired positive e (λ j below same. first j below (has j same)),
            record {
              some = omega arith;
              distinct_links = λ i j d lt b f. omega arith;
              distinct_interrupts = λ i j d lt b f. omega arith;
              known = λ l c. absurd (let b = c.1 in omega arith);
              inside = λ l n c o. absurd (let b = c.1 in omega arith);
              crowded = omega arith;
            },
          )
        where
          first : (j : ℕ) → j < x → Contains (x ∷ xs) j → ⊥
          first j below (zero, b, e) = omega arith
          first j below (suc m, b, e) = let f = AllPairs-from_increasing (x ∷ xs) ascending 0 (suc m) j (omega arith) b in omega arith

  -- the marked links, and what they offer
  pub crowded_set : (k : ℕ) (marks : List Bool) → length marks ≡ length offers → ((i : ℕ) → wired_to wired i ≤ k) → ((l : ℕ) → l < length offers → 0 < length (get_or offers l [])) → IsCertificate offers (room_of k wired []) marks → Shown offers wired (k + 1) (filter (is_reached marks) (range_with_len 0 (length offers))) (filter (is_offered_by offers marks) numbers) × IsLowerBound offers wired (k + 1) (filter (is_reached marks) (range_with_len 0 (length offers))) (filter (is_offered_by offers marks) numbers)
  crowded_set k marks long below offered cert =
      let P = λ (links : List ℕ). Shown offers wired (k + 1) links shown × IsLowerBound offers wired (k + 1) links shown in
      let counted : IsLowerBound offers wired (k + 1) (places_from 0 marks) shown = record {
        some = some;
        distinct_links = distinct (places_from 0 marks) links_up;
        distinct_interrupts = distinct shown shown_up;
        known = λ l c. let m = marked l c in known l m (cases_lt cert.last l);
        inside = λ l n c o. in_shown l n (marked l c) o;
        crowded = crowded;
      } in
      subst P (sym places) (Crowded k (λ i e. let b = below i in omega arith) crowded_is, counted)
    where
      shown : List ℕ
      shown = filter (is_offered_by offers marks) numbers

      shown_up : IsStrictlyIncreasing (filter (is_offered_by offers marks) numbers)
      shown_up = IsStrictlyIncreasing-filter (is_offered_by offers marks) numbers up

      places : filter (is_reached marks) (range_with_len 0 (length offers)) ≡ places_from 0 marks
      places = ap (λ n. filter (is_reached marks) (range_with_len 0 n)) (sym long) ∙ places_are (is_reached marks) 0 marks (λ m. let z : 0 + m ≡ m = omega arith in ap (is_reached marks) z)

      links_up : IsStrictlyIncreasing (places_from 0 marks)
      links_up = subst IsStrictlyIncreasing places (IsStrictlyIncreasing-filter (is_reached marks) (range_with_len 0 (length offers)) (range_ascends (length offers)))

      marked : (l : ℕ) → Contains (places_from 0 marks) l → is_reached marks l ≡ true
      marked l c = let w = place_is_marked 0 marks c.0 c.1 l in let e : w.0 ≡ l = let f = w.1 in let g = c.2 in omega arith in subst (λ k. is_reached marks k ≡ true) e w.2

      placed : (l : ℕ) → is_reached marks l ≡ true → Contains (places_from 0 marks) l
      placed l r = let z : 0 + l ≡ l = omega arith in subst (Contains (places_from 0 marks)) z (marked_is_place 0 marks l r)

      in_shown : (l n : ℕ) → is_reached marks l ≡ true → Offers offers l n → Contains (filter (is_offered_by offers marks) numbers) n
      in_shown l n r o = in_filter (is_offered_by offers marks) numbers n (any_contains n numbers (all.offered l n o)) (offered_to offers marks n l r o)

      crowded : ((k + 1) - 1) * length (filter (is_offered_by offers marks) numbers) < length (places_from 0 marks) + sum_by (wired_to wired) (filter (is_offered_by offers marks) numbers)
      crowded =
          let z : (k + 1) - 1 ≡ k = omega arith in
          rw z (count_of_set offers wired k marks shown cert long shown_up (λ n c. offered_from offers marks n (passes (is_offered_by offers marks) numbers n c)))

      known : (l : ℕ) → is_reached marks l ≡ true → (cert.last < l) ⊎ (l ≤ cert.last) → l < length offers
      known l r (inl past) = absurd (false≢true (sym (cert.beyond l past) ∙ r))
      known l r (inr b) = let within = cert.within in omega arith

      crowded_is : IsCrowdedSet offers (room_of k wired []) (places_from 0 marks) (filter (is_offered_by offers marks) numbers)
      crowded_is = set_is offers wired k marks shown cert shown_up (λ n. (λ c. let w = offered_from offers marks n (passes (is_offered_by offers marks) numbers n c) in (w.0, placed w.0 w.1, w.2), λ w. in_shown w.0 n (marked w.0 w.1) w.2)) links_up

      some : 0 < length (filter (is_offered_by offers marks) numbers)
      some =
          let last = cert.last in
          let c = in_shown last (get_or (get_or offers last []) 0 0) cert.stuck.begins (Contains-get_or (get_or offers last []) 0 0 (offered last cert.within)) in
          let b = c.1 in
          omega arith
