use Rattle.std.proofs.Common.{◌≡◌, ℕ, zero, suc, ◌+◌, ◌*◌, ◌<◌, ◌≤◌, Bool, true, false, List, [], ◌∷◌, length, refl, sym, ◌∙◌, ap, subst, arith, Option, Some, None, get_or, take, inl, inr}
use Rattle.std.specs.Prelude.{count_by, sum_by, ◌⊎◌, ◌==◌, ◌↔◌, Contains}
use Rattle.std.specs.List.Sorted.{IsStrictlyIncreasing}
use Rattle.std.proofs.lemmas.List.{get_or-take, length-take, get_or_default}
use Rattle.std.proofs.lemmas.List.Sums.{sum_by-cons, sum_by-take-le}
use Rattle.std.proofs.lemmas.List.Kept.{AllPairs-from_increasing}
use Rattle.std.proofs.lemmas.Bool.{cases_lt, false≢true, true≢false, eqb-true}
use Rattle.route_model.specs.Routing.{wired_to}
use Rattle.route_model.specs.Placement.{is_at, place_of, is_reached, Offers, taken, CanPlaceBut}
use Rattle.route_model.specs.Bound.{IsDistinct}
use Rattle.route_model.proofs.Counting.{one_if, count_cons}
use Rattle.route_model.proofs.Hall.{no_place, no_place_but, count_pointwise_less, zero_or_more, counted_somewhere}
use Rattle.route_model.proofs.Bounds.{among, among_contains, contains_among, count_once, nat_tells}
use Rattle.route_solve.specs.Room.{room_of}
use Rattle.route_solve.specs.Certificate.{IsCertificate}
use Rattle.route_solve.specs.Shown.{IsCrowdedSet}
use Rattle.route_solve.specs.Marks.{places_from}

-- whether a link stands at one of some interrupts
abbrev seen : List ℕ → Option ℕ → Bool
seen ts None = false
seen ts (Some n) = among (λ x y. x == y) nat_tells ts n

at_none : (ts : List ℕ) → sum_by (λ n. one_if (is_at n None)) ts ≡ 0
at_none [] = refl
at_none (t ∷ ts) = let ih = at_none ts in omega (arith, sum_by-cons (λ n. one_if (is_at n None)) t ts)

-- a number among distinct ones is there once
at_once : (m : ℕ) (ts : List ℕ) → IsDistinct ts → sum_by (λ n. one_if (is_at n (Some m))) ts ≤ one_if (among (λ x y. x == y) nat_tells ts m)
at_once m ts d = go (among (λ x y. x == y) nat_tells ts m) refl (zero_or_more (count_by (λ n. m == n) ts))
  where
    go : (b : Bool) → among (λ x y. x == y) nat_tells ts m ≡ b → (count_by (λ n. m == n) ts ≡ 0) ⊎ (0 < count_by (λ n. m == n) ts) → count_by (λ n. m == n) ts ≤ one_if b
    go true e c = count_once (λ x y. x == y) nat_tells m ts d
    go false e (inl none) = omega arith
    go false e (inr more) =
        let w = counted_somewhere (λ n. m == n) m ts more in
        absurd (true≢false (sym (contains_among (λ x y. x == y) nat_tells ts w.0 m w.1 (sym (eqb-true m (get_or ts w.0 m) w.2))) ∙ e))

taken_sum_cons : (o : Option ℕ) (p : List (Option ℕ)) (ts : List ℕ) → sum_by (taken (o ∷ p)) ts ≡ sum_by (λ n. one_if (is_at n o)) ts + sum_by (taken p) ts
taken_sum_cons o p [] = omega arith
taken_sum_cons o p (t ∷ ts) = let ih = taken_sum_cons o p ts in omega (arith, sum_by-cons (taken (o ∷ p)) t ts, sum_by-cons (taken p) t ts, sum_by-cons (λ n. one_if (is_at n o)) t ts, count_cons (is_at t) o p)

-- the links at distinct interrupts, counted interrupt by interrupt
taken_sum : (p : List (Option ℕ)) (ts : List ℕ) → IsDistinct ts → sum_by (taken p) ts ≤ count_by (seen ts) p
taken_sum [] ts d = none ts
  where
    none : (ts : List ℕ) → sum_by (taken []) ts ≤ 0
    none [] = omega arith
    none (t ∷ ts) = let ih = none ts in omega (arith, sum_by-cons (taken []) t ts)
taken_sum (o ∷ p) ts d = let ih = taken_sum p ts d in let c = taken_sum_cons o p ts in let e = count_cons (seen ts) o p in go o ih c e
  where
    go : (o : Option ℕ) → sum_by (taken p) ts ≤ count_by (seen ts) p → sum_by (taken (o ∷ p)) ts ≡ sum_by (λ n. one_if (is_at n o)) ts + sum_by (taken p) ts → count_by (seen ts) (o ∷ p) ≡ one_if (seen ts o) + count_by (seen ts) p → sum_by (taken (o ∷ p)) ts ≤ count_by (seen ts) (o ∷ p)
    go None ih c e = let n = at_none ts in omega arith
    go (Some m) ih c e = let n = at_once m ts d in omega arith

-- each interrupt is full
all_full : (level : ℕ) (wired : List (ℕ × ℕ)) (p : List (Option ℕ)) (ts : List ℕ) → ((k : ℕ) → k < length ts → room_of level wired [] (get_or ts k 0) ≤ taken p (get_or ts k 0)) → level * length ts ≤ sum_by (wired_to wired) ts + sum_by (taken p) ts
all_full level wired p [] h = omega arith
all_full level wired p (t ∷ ts) h =
    let a = h 0 (omega arith) in
    let ih = all_full level wired p ts (λ k b. h (suc k) (omega arith)) in
    let c = sum_by-cons (wired_to wired) t ts in
    let d = sum_by-cons (taken p) t ts in
    omega arith

-- the places of the marks: how many, which, and in what order
pub length-places : (i : ℕ) (bs : List Bool) → length (places_from i bs) ≡ count_by (λ b. b) bs
length-places i [] = refl
length-places i (true ∷ bs) = let ih = length-places (i + 1) bs in omega (arith, count_cons (λ b. b) true bs)
length-places i (false ∷ bs) = let ih = length-places (i + 1) bs in omega (arith, count_cons (λ b. b) false bs)

pub place_is_marked : (i : ℕ) (bs : List Bool) (k : ℕ) → k < length (places_from i bs) → (d : ℕ) → (m : ℕ) × (get_or (places_from i bs) k d ≡ i + m) × (is_reached bs m ≡ true)
place_is_marked i [] k b d = absurd (omega arith)
place_is_marked i (true ∷ bs) zero b d = (0, omega arith, refl)
place_is_marked i (true ∷ bs) (suc k) b d = let w = place_is_marked (i + 1) bs k (omega arith) d in (suc w.0, omega (arith, w.1), w.2)
place_is_marked i (false ∷ bs) k b d = let w = place_is_marked (i + 1) bs k b d in (suc w.0, omega (arith, w.1), w.2)

pub marked_is_place : (i : ℕ) (bs : List Bool) (m : ℕ) → is_reached bs m ≡ true → Contains (places_from i bs) (i + m)
marked_is_place i [] m h = absurd (false≢true h)
marked_is_place i (true ∷ bs) zero h = (0, omega arith, omega arith)
marked_is_place i (true ∷ bs) (suc m) h = let w = marked_is_place (i + 1) bs m h in let e : (i + 1) + m ≡ i + suc m = omega arith in (suc w.0, omega (arith, w.1), subst (λ n. get_or (places_from (i + 1) bs) w.0 n ≡ n) e w.2)
marked_is_place i (false ∷ bs) zero h = absurd (false≢true h)
marked_is_place i (false ∷ bs) (suc m) h = let w = marked_is_place (i + 1) bs m h in let e : (i + 1) + m ≡ i + suc m = omega arith in (w.0, w.1, subst (λ n. get_or (places_from (i + 1) bs) w.0 n ≡ n) e w.2)

-- The set of a certificate has a count that is too large for its interrupts.
pub count_of_set : (offers : List (List ℕ)) (wired : List (ℕ × ℕ)) (level : ℕ) (reached : List Bool) (interrupts : List ℕ) → IsCertificate offers (room_of level wired []) reached → length reached ≡ length offers → IsStrictlyIncreasing interrupts → ((n : ℕ) → Contains interrupts n → (l : ℕ) × (is_reached reached l ≡ true) × Offers offers l n) → level * length interrupts < length (places_from 0 reached) + sum_by (wired_to wired) interrupts
count_of_set offers wired level reached interrupts cert long ascending offered =
    let full = all_full level wired p interrupts (λ k b. let w = there (get_or interrupts k 0) (k, b, get_or_default interrupts k (get_or interrupts k 0) 0 b) in cert.stuck.full w.0 (get_or interrupts k 0) w.1 w.2) in
    let sum = taken_sum p interrupts (λ i j d lt b e. let f = AllPairs-from_increasing interrupts ascending i j d lt b in absurd (omega arith)) in
    let cut = length-take (cert.last + 1) offers in
    let cut2 = length-take (cert.last + 1) reached in
    let same = cert.is_placed.same_length in
    let within = cert.within in
    let less : count_by (seen interrupts) p < count_by (λ b. b) (take (cert.last + 1) reached) =
    count_pointwise_less (seen interrupts) (λ b. b) None false p (take (cert.last + 1) reached) cert.last (omega arith) (ap (seen interrupts) cert.stuck.unplaced)
    (get_or-take (cert.last + 1) reached cert.last false (omega arith) ∙ cert.stuck.begins) (omega arith)
    (λ k b h. marked k b (place_of p k) refl h) in
    let part = sum_by-take-le (λ b. one_if b) reached (cert.last + 1) in
    let places = length-places 0 reached in
    omega arith
  where
    p : List (Option ℕ)
    p = cert.placed

    there : (n : ℕ) → Contains interrupts n → (l : ℕ) × (is_reached reached l ≡ true) × Offers (take (cert.last + 1) offers) l n
    there n c = go (offered n c) (cases_lt (offered n c).0 (cert.last + 1))
      where
        go : (w : (l : ℕ) × (is_reached reached l ≡ true) × Offers offers l n) → (w.0 < cert.last + 1) ⊎ (cert.last + 1 ≤ w.0) → (l : ℕ) × (is_reached reached l ≡ true) × Offers (take (cert.last + 1) offers) l n
        go w (inl b) = (w.0, w.1, subst (λ (o : List ℕ). Contains o n) (sym (get_or-take (cert.last + 1) offers w.0 [] b)) w.2)
        go w (inr past) = absurd (true≢false (sym w.1 ∙ cert.beyond w.0 (omega arith)))

    marked : (k : ℕ) → k < length p → (o : Option ℕ) → place_of p k ≡ o → seen interrupts o ≡ true → is_reached (take (cert.last + 1) reached) k ≡ true
    marked k b None e h = absurd (false≢true h)
    marked k b (Some n) e h =
        let w = there n (among_contains (λ x y. x == y) nat_tells interrupts n h) in
        let cut = length-take (cert.last + 1) offers in
        let same = cert.is_placed.same_length in
        get_or-take (cert.last + 1) reached k false (omega arith) ∙ cert.stuck.holders w.0 k n w.1 w.2 e

-- The marks of a certificate, and all that those links offer, are the set that is to be shown.
pub set_is : (offers : List (List ℕ)) (wired : List (ℕ × ℕ)) (level : ℕ) (reached : List Bool) (interrupts : List ℕ) → IsCertificate offers (room_of level wired []) reached → IsStrictlyIncreasing interrupts → ((n : ℕ) → Contains interrupts n ↔ ((l : ℕ) × Contains (places_from 0 reached) l × Offers offers l n)) → IsStrictlyIncreasing (places_from 0 reached) → IsCrowdedSet offers (room_of level wired []) (places_from 0 reached) interrupts
set_is offers wired level reached interrupts cert ascending offered links_ascend =
    record {
      last = cert.last;
      within = cert.within;
      before = cert.before;
      not_all = λ c. no_place (take m offers) room cert.placed reached cert.last cert.stuck c cert.is_placed.same_length;
      is_link = λ l. (λ c. let r = is_marked l c in (upto l r (cases_lt cert.last l), cert.spared l r), λ h. found l h.1 (is_reached reached l) refl);
      is_interrupt = offered;
      links_ascend = links_ascend;
      interrupts_ascend = ascending;
    }
  where
    m : ℕ
    m = cert.last + 1

    room : ℕ → ℕ
    room = room_of level wired []

    is_marked : (l : ℕ) → Contains (places_from 0 reached) l → is_reached reached l ≡ true
    is_marked l c = let w = place_is_marked 0 reached c.0 c.1 l in let e : w.0 ≡ l = let f = w.1 in let g = c.2 in omega arith in subst (λ k. is_reached reached k ≡ true) e w.2

    upto : (l : ℕ) → is_reached reached l ≡ true → (cert.last < l) ⊎ (l ≤ cert.last) → l ≤ cert.last
    upto l r (inl past) = absurd (true≢false (sym r ∙ cert.beyond l past))
    upto l r (inr b) = b

    found : (l : ℕ) → CanPlaceBut (take (cert.last + 1) offers) (room_of level wired []) l → (b : Bool) → is_reached reached l ≡ b → Contains (places_from 0 reached) l
    found l h true e = let z : 0 + l ≡ l = omega arith in subst (Contains (places_from 0 reached)) z (marked_is_place 0 reached l e)
    found l h false e = absurd (no_place_but (take (cert.last + 1) offers) (room_of level wired []) cert.placed reached cert.last cert.stuck l e h cert.is_placed.same_length)
