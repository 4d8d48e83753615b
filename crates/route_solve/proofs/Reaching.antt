-- One more link in the queue of a search, and what a search from a place on adds.
use Rattle.std.proofs.Common.{◌≡◌, ◌≢◌, ℕ, ◌+◌, ◌<◌, ◌≤◌, Bool, true, false, cond, List, [], ◌∷◌, suc, length, refl, sym, ◌∙◌, ap, subst, arith, Option, Some, set, inl, inr, length-set, get_or-set_same, get_or-set_other}
use Rattle.std.specs.Prelude.{count_by, ◌⊎◌, not, is_some, IsSome}
use Rattle.std.proofs.lemmas.Bool.{cases_eq, cases_lt, true≢false}
use Rattle.std.proofs.lemmas.List.Sums.{sum_by-set}
use Rattle.route_model.proofs.Counting.{one_if, count_yes}
use Rattle.route_model.specs.Placement.{place_of, is_reached, Offers}
use Rattle.route_solve.specs.Capacities.{at}
use Rattle.route_solve.specs.Levels.{IsTrail, IsQueue, IsKept, IsLonger, IsClosed, AreClosed, AreDone}

pub some_is : {m n : ℕ} → Some m ≡ Some n → m ≡ n
some_is e = cc

pub kept_set : (reached : List Bool) (j : ℕ) → j < length reached → IsKept reached (set reached j true)
kept_set reached j b k h = go (cases_eq k j)
  where
    go : (k ≡ j) ⊎ (k ≡ j → ⊥) → is_reached (set reached j true) k ≡ true
    go (inl e) = ap (is_reached (set reached j true)) e ∙ get_or-set_same reached j true false b
    go (inr ne) = get_or-set_other reached j k true false ne ∙ h

-- one more is marked
pub one_more : (reached : List Bool) (j : ℕ) → j < length reached → is_reached reached j ≡ false → count_by not (set reached j true) + 1 ≡ count_by not reached
one_more reached j b fresh =
    let e = sum_by-set (λ r. cond (not r) 1 0) reached j true false b in
    let f : one_if (not (is_reached reached j)) ≡ 1 = ap (λ r. one_if (not r)) fresh in
    omega arith

module _ (offers : List (List ℕ)) (p : List (Option ℕ)) (low : ℕ) (queue : List ℕ) (tail : ℕ) (reached : List Bool) (j i : ℕ) (trail : IsTrail offers p low queue tail) (q : IsQueue reached queue tail) (same : length reached ≡ length p) (lq : length queue ≡ length p) (bj : j < length p) (fresh : is_reached reached j ≡ false) where
  pub tail_fits : tail < length p
  tail_fits = let e = one_more reached j (omega arith) fresh in omega (arith, q.counted)

  pub at_new : at (set queue tail j) tail ≡ j
  at_new = get_or-set_same queue tail j 0 (let b = tail_fits in omega arith)

  pub at_old : (k : ℕ) → k < tail → at (set queue tail j) k ≡ at queue k
  at_old k b = get_or-set_other queue tail k j 0 (λ e. absurd (omega arith))

  -- at each place of the longer queue
  at_each : (P : ℕ → Type 0) → ((k : ℕ) → k < tail → P k) → P tail → (k : ℕ) → k < tail + 1 → P k
  at_each P below here k b = go (cases_lt k tail)
    where
      go : (k < tail) ⊎ (tail ≤ k) → P k
      go (inl lt) = below k lt
      go (inr past) = let e : tail ≡ k = omega arith in subst P e here

  pub queue_more : IsQueue (set reached j true) (set queue tail j) (tail + 1)
  queue_more =
      record {
        marked = at_each (λ k. is_reached (set reached j true) (at (set queue tail j) k) ≡ true) (λ k b. rw (at_old k b) (kept_set reached j (omega arith) (at queue k) (q.marked k b))) (rw at_new (get_or-set_same reached j true false (omega arith)));
        listed = λ l r. go l r (cases_eq l j);
        counted = let e = one_more reached j (omega arith) fresh in let f = length-set reached j true in omega (arith, q.counted);
      }
    where
      go : (l : ℕ) → is_reached (set reached j true) l ≡ true → (l ≡ j) ⊎ (l ≡ j → ⊥) → (k : ℕ) × (k < tail + 1) × (at (set queue tail j) k ≡ l)
      go l r (inl e) = (tail, omega arith, at_new ∙ sym e)
      go l r (inr ne) = let w = q.listed l (sym (get_or-set_other reached j l true false ne) ∙ r) in (w.0, omega (arith, w.1), at_old w.0 w.1 ∙ w.2)

  pub longer_more : IsLonger queue tail (set queue tail j) (tail + 1)
  longer_more = record { longer = omega arith; kept = at_old }

  pub held_more : (first : ℕ) → ((k : ℕ) → first ≤ k → k < tail → place_of p (at queue k) ≡ Some i) → place_of p j ≡ Some i → (k : ℕ) → first ≤ k → k < tail + 1 → place_of p (at (set queue tail j) k) ≡ Some i
  held_more first old h k le b = at_each (λ m. first ≤ m → place_of p (at (set queue tail j) m) ≡ Some i) (λ m bm lm. ap (place_of p) (at_old m bm) ∙ old m lm bm) (λ _. ap (place_of p) at_new ∙ h) k b le

  module _ (le : low ≤ j) (link : (x : ℕ) → place_of p j ≡ Some x → (k : ℕ) × (k < tail) × Offers offers (at queue k) x) where
    pub trail_more : IsTrail offers p low (set queue tail j) (tail + 1)
    trail_more =
        record {
          known = at_each (λ k. at (set queue tail j) k < length p) (λ k b. rw (at_old k b) (trail.known k b)) (rw at_new bj);
          movable = at_each (λ k. low ≤ at (set queue tail j) k) (λ k b. rw (at_old k b) (trail.movable k b)) (rw at_new le);
          once = λ a k lt b. once a k lt b (cases_lt k tail);
          linked = λ k x b h. linked k x h (cases_lt k tail) b;
        }
      where
        once : (a k : ℕ) → a < k → k < tail + 1 → (k < tail) ⊎ (tail ≤ k) → at (set queue tail j) a ≢ at (set queue tail j) k
        once a k lt b (inl before) e = trail.once a k lt before (sym (at_old a (omega arith)) ∙ (e ∙ at_old k before))
        once a k lt b (inr past) e =
            let is : k ≡ tail = omega arith in
            let f : at queue a ≡ j = sym (at_old a (omega arith)) ∙ (e ∙ (ap (at (set queue tail j)) is ∙ at_new)) in
            true≢false (sym (q.marked a (omega arith)) ∙ (ap (is_reached reached) f ∙ fresh))

        linked : (k x : ℕ) → place_of p (at (set queue tail j) k) ≡ Some x → (k < tail) ⊎ (tail ≤ k) → k < tail + 1 → (m : ℕ) × (m < k) × Offers offers (at (set queue tail j) m) x
        linked k x h (inl before) b =
            let w = trail.linked k x before (ap (place_of p) (sym (at_old k before)) ∙ h) in
            let less = w.1 in
            (w.0, less, subst (λ l. Offers offers l x) (sym (at_old w.0 (omega arith))) w.2)
        linked k x h (inr past) b =
            let is : k ≡ tail = omega arith in
            let w = link x (ap (place_of p) (sym (ap (at (set queue tail j)) is ∙ at_new)) ∙ h) in
            let less = w.1 in
            (w.0, omega arith, subst (λ l. Offers offers l x) (sym (at_old w.0 less)) w.2)

-- longer and longer
pub longer_itself : (queue : List ℕ) (tail : ℕ) → IsLonger queue tail queue tail
longer_itself queue tail = record { longer = omega arith; kept = λ k b. refl }

pub longer_still : (queue : List ℕ) (tail : ℕ) (queue1 : List ℕ) (tail1 : ℕ) (queue2 : List ℕ) (tail2 : ℕ) → IsLonger queue tail queue1 tail1 → IsLonger queue1 tail1 queue2 tail2 → IsLonger queue tail queue2 tail2
longer_still queue tail queue1 tail1 queue2 tail2 a b =
    let la = a.longer in
    let lb = b.longer in
    record { longer = omega arith; kept = λ k bk. b.kept k (omega arith) ∙ a.kept k bk }

-- more is reached, and what was closed stays so
pub closed_kept : (room : ℕ → ℕ) (p : List (Option ℕ)) (low : ℕ) (reached reached' : List Bool) (i : ℕ) → IsKept reached reached' → IsClosed room p low reached i → IsClosed room p low reached' i
closed_kept room p low reached reached' i kept c = record { full = c.full; holders = λ j le h. kept j (c.holders j le h) }

pub closed_more : (room : ℕ → ℕ) (p : List (Option ℕ)) (low : ℕ) (reached reached' seen : List Bool) (i : ℕ) → i < length seen → IsKept reached reached' → AreClosed room p low reached seen → IsClosed room p low reached' i → AreClosed room p low reached' (set seen i true)
closed_more room p low reached reached' seen i b kept old new k h = go (cases_eq k i)
  where
    go : (k ≡ i) ⊎ (k ≡ i → ⊥) → IsClosed room p low reached' k
    go (inl e) = subst (IsClosed room p low reached') (sym e) new
    go (inr ne) = closed_kept room p low reached reached' k kept (old k (sym (get_or-set_other seen i k true false ne) ∙ h))

-- what was done stays so
pub done_kept : (offers : List (List ℕ)) (seen seen' : List Bool) (queue queue' : List ℕ) (start end : ℕ) → IsKept seen seen' → ((k : ℕ) → k < end → at queue' k ≡ at queue k) → AreDone offers seen queue start end → AreDone offers seen' queue' start end
done_kept offers seen seen' queue queue' start end kept same done k i le b o = kept i (done k i le b (subst (λ l. Offers offers l i) (same k b) o))

pub done_more : (offers : List (List ℕ)) (seen : List Bool) (queue : List ℕ) (start end : ℕ) → AreDone offers seen queue start end → ((i : ℕ) → Offers offers (at queue end) i → is_reached seen i ≡ true) → AreDone offers seen queue start (end + 1)
done_more offers seen queue start end done here k i le b o = go (cases_lt k end)
  where
    go : (k < end) ⊎ (end ≤ k) → is_reached seen i ≡ true
    go (inl before) = done k i le before o
    go (inr past) = let e : k ≡ end = omega arith in here i (subst (λ m. Offers offers (at queue m) i) e o)

pub marked_now : (reached : List Bool) (j : ℕ) → j < length reached → is_reached (set reached j true) j ≡ true
marked_now reached j b = get_or-set_same reached j true false b

-- what the links of the queue hold, as it grows
pub held_still : (p : List (Option ℕ)) (queue : List ℕ) (tail : ℕ) (queue1 : List ℕ) (tail1 : ℕ) (first : ℕ) → first ≤ tail → IsLonger queue tail queue1 tail1 → ((k : ℕ) → first ≤ k → k < tail → IsSome (place_of p (at queue k))) → ((k : ℕ) → tail ≤ k → k < tail1 → IsSome (place_of p (at queue1 k))) → (k : ℕ) → first ≤ k → k < tail1 → IsSome (place_of p (at queue1 k))
held_still p queue tail queue1 tail1 first le longer old new k a b = go (cases_lt k tail)
  where
    go : (k < tail) ⊎ (tail ≤ k) → IsSome (place_of p (at queue1 k))
    go (inl before) = ap (λ l. is_some (place_of p l)) (longer.kept k before) ∙ old k a before
    go (inr past) = new k past b

-- an empty queue
pub trail_none : (offers : List (List ℕ)) (p : List (Option ℕ)) (low : ℕ) (queue : List ℕ) → IsTrail offers p low queue 0
trail_none offers p low queue = record { known = λ k b. absurd (omega arith); movable = λ k b. absurd (omega arith); once = λ j k lt b. absurd (omega arith); linked = λ k i b h. absurd (omega arith) }

pub all_left : (reached : List Bool) → ((k : ℕ) → is_reached reached k ≡ false) → count_by not reached ≡ length reached
all_left [] none = refl
all_left (b ∷ bs) none = let ih = all_left bs (λ k. none (suc k)) in let c = count_yes not b bs (ap not (none 0)) in omega arith

pub queue_none : (reached : List Bool) (queue : List ℕ) → ((k : ℕ) → is_reached reached k ≡ false) → IsQueue reached queue 0
queue_none reached queue none = record {
  marked = λ k b. absurd (omega arith);
  listed = λ l r. absurd (true≢false (sym r ∙ none l));
  counted = let e = all_left reached none in omega arith;
}
