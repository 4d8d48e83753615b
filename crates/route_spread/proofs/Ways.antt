-- For any links on interrupts there is a certificate that the loads are least as a whole, or links can be moved so that they are less
-- uneven.
use Rattle.std.proofs.Common.{◌≡◌, ◌≢◌, ℕ, zero, suc, ◌+◌, ◌-◌, ◌<◌, ◌≤◌, Bool, true, false, cond, List, [], ◌∷◌, length, set, replicate, refl, sym, ◌∙◌, ap, arith, get_or, get_or-set_same, get_or-set_other, inl, inr}
use Rattle.std.specs.Prelude.{◌⊎◌, ◌==◌, Contains, count_by}
use Rattle.std.proofs.lemmas.Bool.{false≢true, cases_eq, cases_lt, eq-eqb}
use Rattle.std.proofs.lemmas.List.{length-set, get_or-replicate, length-replicate}
use Rattle.route_model.specs.Placement.{Offers}
use Rattle.route_model.proofs.Counting.{one_if, count_cons}
use Rattle.route_spread.specs.Marks.{at, is_raised, height_at, IsNew, AreRaised, AreLevelled, ArePlaced, IsWay, IsShifted}
use Rattle.route_spread.proofs.Found.{none_raised}
use Rattle.route_spread.proofs.Turns.{no_lower}
use Rattle.route_spread.proofs.Turned.{IsChainedByTurns, IsHighest, IsMarking, IsMovingByTurns, marking_more, marking_none, levelled_all, none_waits, moving_none, moving_more, earlier_turn, shifted_last_turn}

-- the highest of the links whose turn has not come, if there is one
record IsHighestBelow (choice loads : List ℕ) (raised : List Bool) (turn : List ℕ) (bound l : ℕ) : Type 0 where
  within : l < bound
  waits : at turn l ≡ length turn
  top : (k : ℕ) → k < bound → at turn k ≡ length turn → height_at loads raised (at choice k) ≤ height_at loads raised (at choice l)

highest_below : (choice loads : List ℕ) (raised : List Bool) (turn : List ℕ) (bound : ℕ) → ((k : ℕ) → k < bound → at turn k ≢ length turn) ⊎ ((l : ℕ) × IsHighestBelow choice loads raised turn bound l)
highest_below choice loads raised turn zero = inl (λ k b e. omega arith)
highest_below choice loads raised turn (suc n) = go (highest_below choice loads raised turn n) (cases_eq (at turn n) (length turn))
  where
    Answer : Type 0
    Answer = ((k : ℕ) → k < suc n → at turn k ≢ length turn) ⊎ ((l : ℕ) × IsHighestBelow choice loads raised turn (suc n) l)

    last : (k : ℕ) → k < suc n → (k ≢ n) → k < n
    last k b ne = omega arith

    height : ℕ → ℕ
    height k = height_at loads raised (at choice k)

    go : ((k : ℕ) → k < n → at turn k ≢ length turn) ⊎ ((l : ℕ) × IsHighestBelow choice loads raised turn n l) → (at turn n ≡ length turn) ⊎ (at turn n ≢ length turn) → ((k : ℕ) → k < suc n → at turn k ≢ length turn) ⊎ ((l : ℕ) × IsHighestBelow choice loads raised turn (suc n) l)
    go (inl none) (inr ne) = inl (λ k b. one k b (cases_eq k n))
      where
        one : (k : ℕ) → k < suc n → (k ≡ n) ⊎ (k ≢ n) → at turn k ≢ length turn
        one k b (inl e) f = ne (sym (ap (at turn) e) ∙ f)
        one k b (inr o) f = none k (omega arith) f
    go (inl none) (inl waits) = inr (n, record { within = omega arith; waits = waits; top = λ k b e. one k b e (cases_eq k n) })
      where
        one : (k : ℕ) → k < suc n → at turn k ≡ length turn → (k ≡ n) ⊎ (k ≢ n) → height_at loads raised (at choice k) ≤ height_at loads raised (at choice n)
        one k b e (inl is) = let f : height_at loads raised (at choice k) ≡ height_at loads raised (at choice n) = ap (λ j. height_at loads raised (at choice j)) is in omega arith
        one k b e (inr o) = absurd (none k (omega arith) e)
    go (inr (l, h)) (inr ne) = inr (l, record { within = let w = h.within in omega arith; waits = h.waits; top = λ k b e. one k b e (cases_eq k n) })
      where
        one : (k : ℕ) → k < suc n → at turn k ≡ length turn → (k ≡ n) ⊎ (k ≢ n) → height_at loads raised (at choice k) ≤ height_at loads raised (at choice l)
        one k b e (inl is) = absurd (ne (sym (ap (at turn) is) ∙ e))
        one k b e (inr o) = h.top k (omega arith) e
    go (inr (l, h)) (inl waits) = two (cases_lt (height_at loads raised (at choice l)) (height_at loads raised (at choice n)))
      where
        two : (height_at loads raised (at choice l) < height_at loads raised (at choice n)) ⊎ (height_at loads raised (at choice n) ≤ height_at loads raised (at choice l)) → ((k : ℕ) → k < suc n → at turn k ≢ length turn) ⊎ ((m : ℕ) × IsHighestBelow choice loads raised turn (suc n) m)
        two (inl less) = inr (n, record { within = omega arith; waits = waits; top = λ k b e. one k b e (cases_eq k n) })
          where
            one : (k : ℕ) → k < suc n → at turn k ≡ length turn → (k ≡ n) ⊎ (k ≢ n) → height_at loads raised (at choice k) ≤ height_at loads raised (at choice n)
            one k b e (inl is) = let f : height_at loads raised (at choice k) ≡ height_at loads raised (at choice n) = ap (λ j. height_at loads raised (at choice j)) is in omega arith
            one k b e (inr o) = let t = h.top k (omega arith) e in omega arith
        two (inr ge) = inr (l, record { within = let w = h.within in omega arith; waits = h.waits; top = λ k b e. one k b e (cases_eq k n) })
          where
            one : (k : ℕ) → k < suc n → at turn k ≡ length turn → (k ≡ n) ⊎ (k ≢ n) → height_at loads raised (at choice k) ≤ height_at loads raised (at choice l)
            one k b e (inl is) = let f : height_at loads raised (at choice k) ≡ height_at loads raised (at choice n) = ap (λ j. height_at loads raised (at choice j)) is in omega arith
            one k b e (inr o) = h.top k (omega arith) e

highest_open : (choice loads : List ℕ) (raised : List Bool) (turn : List ℕ) → ((k : ℕ) → k < length choice → at turn k ≢ length turn) ⊎ ((l : ℕ) × IsHighest choice loads raised turn l)
highest_open choice loads raised turn = go (highest_below choice loads raised turn (length choice))
  where
    go : ((k : ℕ) → k < length choice → at turn k ≢ length turn) ⊎ ((l : ℕ) × IsHighestBelow choice loads raised turn (length choice) l) → ((k : ℕ) → k < length choice → at turn k ≢ length turn) ⊎ ((l : ℕ) × IsHighest choice loads raised turn l)
    go (inl none) = inl none
    go (inr (l, h)) = inr (l, record { within = h.within; waits = h.waits; top = h.top })

-- some interrupts are raised to the height of a link
record AllRaised (loads : List ℕ) (before : List Bool) (from : List ℕ) (link top : ℕ) (os : List ℕ) (after : List Bool) (from' : List ℕ) : Type 0 where
  only : AreRaised loads before after from from' link top (λ x. Contains os x)
  raised_up : (x : ℕ) → Contains os x → top ≤ height_at loads after x
  raised_long : length after ≡ length before
  from_long : length from' ≡ length from

abbrev Raises : (loads : List ℕ) (before : List Bool) (from : List ℕ) (link top : ℕ) (os : List ℕ) → Type 0
Raises loads before from link top os = (after : List Bool) × (from' : List ℕ) × AllRaised loads before from link top os after from'

contains_cons : (o : ℕ) (os : List ℕ) (x : ℕ) → Contains (o ∷ os) x → (o ≡ x) ⊎ Contains os x
contains_cons o os x c = go c.0 c.1 c.2
  where
    go : (i : ℕ) → i < length (o ∷ os) → get_or (o ∷ os) i x ≡ x → (o ≡ x) ⊎ Contains os x
    go zero b e = inl e
    go (suc i) b e = inr (i, omega arith, e)

pub contains_more : (o : ℕ) (os : List ℕ) (x : ℕ) → Contains os x → Contains (o ∷ os) x
contains_more o os x c = (suc c.0, let b = c.1 in omega arith, c.2)

-- one interrupt is raised, then others
composed : (loads : List ℕ) (before mid after : List Bool) (from from' from'' : List ℕ) (link top o : ℕ) (os : List ℕ) → AreRaised loads before mid from from' link top (λ x. x ≡ o) → AreRaised loads mid after from' from'' link top (λ x. Contains os x) → AreRaised loads before after from from'' link top (λ x. Contains (o ∷ os) x)
composed loads before mid after from from' from'' link top o os one others = record {
  kept = λ x h. others.kept x (one.kept x h);
  same = λ x h. others.same x (one.kept x h) ∙ one.same x h;
  new = λ x h. go x (others.new x h);
}
  where
    low : (x : ℕ) → is_raised mid x ≡ false → (b : Bool) → is_raised before x ≡ b → is_raised before x ≡ false
    low x m true e = absurd (false≢true (sym m ∙ one.kept x e))
    low x m false e = e

    second : (x : ℕ) → is_raised mid x ≡ true → (is_raised before x ≡ true) ⊎ ((x ≡ o) × IsNew loads before from' link top x) → (is_raised before x ≡ true) ⊎ (Contains (o ∷ os) x × IsNew loads before from'' link top x)
    second x m (inl old) = inl old
    second x m (inr n) = inr ((0, omega arith, sym n.0), record { low = n.1.low; noted = others.same x m ∙ n.1.noted; below = n.1.below })

    go : (x : ℕ) → (is_raised mid x ≡ true) ⊎ (Contains os x × IsNew loads mid from'' link top x) → (is_raised before x ≡ true) ⊎ (Contains (o ∷ os) x × IsNew loads before from'' link top x)
    go x (inl m) = second x m (one.new x m)
    go x (inr n) = inr (contains_more o os x n.0, record { low = low x n.1.low (is_raised before x) refl; noted = n.1.noted; below = n.1.below })

abbrev Far : (loads : List ℕ) (top : ℕ) (os : List ℕ) → Type 0
Far loads top os = (x : ℕ) × Contains os x × (at loads x + 2 ≤ top)

abbrev Rest : (loads : List ℕ) (link top : ℕ) (os : List ℕ) → Type 0
Rest loads link top os = (mid : List Bool) (from' : List ℕ) → ((x : ℕ) → Contains os x → (x < length mid) × (x < length from')) → Far loads top os ⊎ Raises loads mid from' link top os

-- one interrupt is raised, then the rest
raise_cons : (loads : List ℕ) (link top o : ℕ) (os : List ℕ) (before : List Bool) (from : List ℕ) → ((x : ℕ) → Contains (o ∷ os) x → (x < length before) × (x < length from)) → Rest loads link top os → Far loads top (o ∷ os) ⊎ Raises loads before from link top (o ∷ os)
raise_cons loads link top o os before from known rest = go (cases_lt (at loads o + 1) top) (cases_lt (at loads o) top) (is_raised before o) refl
  where
    here : Contains (o ∷ os) o
    here = (0, omega arith, refl)

    then : (mid : List Bool) (from' : List ℕ) → AreRaised loads before mid from from' link top (λ x. x ≡ o) → top ≤ height_at loads mid o → length mid ≡ length before → length from' ≡ length from → Far loads top (o ∷ os) ⊎ Raises loads before from link top (o ∷ os)
    then mid from' one high lm lf = more (rest mid from' (λ x c. let k = known x (contains_more o os x c) in let a = k.0 in let b = k.1 in (omega arith, omega arith)))
      where
        more : Far loads top os ⊎ Raises loads mid from' link top os → Far loads top (o ∷ os) ⊎ Raises loads before from link top (o ∷ os)
        more (inl f) = inl (f.0, contains_more o os f.0 f.1, f.2)
        more (inr l) = inr (
          l.0,
          l.1,
          record {
            only = composed loads before mid l.0 from from' l.1 link top o os one l.2.only;
            raised_up = λ x c. each x (contains_cons o os x c);
            raised_long = l.2.raised_long ∙ lm;
            from_long = l.2.from_long ∙ lf;
          },
        )
          where
            each : (x : ℕ) → (o ≡ x) ⊎ Contains os x → top ≤ height_at loads l.0 x
            each x (inl e) = let u = no_lower loads mid l.0 from' l.1 link top (λ y. Contains os y) l.2.only o in let f : height_at loads l.0 x ≡ height_at loads l.0 o = ap (height_at loads l.0) (sym e) in omega arith
            each x (inr c) = l.2.raised_up x c

    same_one : AreRaised loads before before from from link top (λ x. x ≡ o)
    same_one = record { kept = λ x h. h; same = λ x h. refl; new = λ x h. inl h }

    raise_one : (at loads o < top) → (top ≤ at loads o + 1) → is_raised before o ≡ false → AreRaised loads before (set before o true) from (set from o link) link top (λ x. x ≡ o)
    raise_one less near low = record { kept = λ x h. kept x h (cases_eq x o); same = λ x h. same x h (cases_eq x o); new = λ x h. new x h (cases_eq x o) }
      where
        kept : (x : ℕ) → is_raised before x ≡ true → (x ≡ o) ⊎ (x ≢ o) → is_raised (set before o true) x ≡ true
        kept x h (inl e) = ap (is_raised (set before o true)) e ∙ get_or-set_same before o true false (known o here).0
        kept x h (inr ne) = get_or-set_other before o x true false ne ∙ h

        same : (x : ℕ) → is_raised before x ≡ true → (x ≡ o) ⊎ (x ≢ o) → at (set from o link) x ≡ at from x
        same x h (inl e) = absurd (false≢true (sym low ∙ (ap (is_raised before) (sym e) ∙ h)))
        same x h (inr ne) = get_or-set_other from o x link 0 ne

        new : (x : ℕ) → is_raised (set before o true) x ≡ true → (x ≡ o) ⊎ (x ≢ o) → (is_raised before x ≡ true) ⊎ ((x ≡ o) × IsNew loads before (set from o link) link top x)
        new x h (inl e) = inr (
          e,
          record {
            low = ap (is_raised before) e ∙ low;
            noted = ap (at (set from o link)) e ∙ get_or-set_same from o link 0 (known o here).1;
            below = let f : at loads x ≡ at loads o = ap (at loads) e in omega arith;
          },
        )
        new x h (inr ne) = inl (sym (get_or-set_other before o x true false ne) ∙ h)

    go : (at loads o + 1 < top) ⊎ (top ≤ at loads o + 1) → (at loads o < top) ⊎ (top ≤ at loads o) → (b : Bool) → is_raised before o ≡ b → Far loads top (o ∷ os) ⊎ Raises loads before from link top (o ∷ os)
    go (inl far) h b e = inl (o, here, omega arith)
    go (inr near) (inr high) b e = then before from same_one (cond_more (at loads o) (is_raised before o)) refl refl
      where
        cond_more : (n : ℕ) (b : Bool) → top ≤ at loads o + cond b 1 0
        cond_more n true = omega arith
        cond_more n false = omega arith
    go (inr near) (inl less) true e = then before from same_one (let h = ap (λ b. at loads o + cond b 1 0) e in omega arith) refl refl
    go (inr near) (inl less) false e = then (set before o true) (set from o link) (raise_one less near e) (let h = ap (λ b. at loads o + cond b 1 0) (get_or-set_same before o true false (known o here).0) in omega arith) (length-set before o true) (length-set from o link)

-- what a link offers is raised to its height, or lower by two at least
raise_all : (loads : List ℕ) (link top : ℕ) (os : List ℕ) (before : List Bool) (from : List ℕ) → ((x : ℕ) → Contains os x → (x < length before) × (x < length from)) → Far loads top os ⊎ Raises loads before from link top os
raise_all loads link top [] before from known = inr (
  before,
  from,
  record {
    only = record { kept = λ x h. h; same = λ x h. refl; new = λ x h. inl h };
    raised_up = λ x c. absurd (let b = c.1 in omega arith);
    raised_long = refl;
    from_long = refl;
  },
)
raise_all loads link top (o ∷ os) before from known = raise_cons loads link top o os before from known (λ mid from' k. raise_all loads link top os mid from' k)

-- a marking comes to an end: no link offers an interrupt that is lower, or there is a way
record IsFound (places : List (List ℕ)) (choice loads : List ℕ) (raised : List Bool) (from turn : List ℕ) (link target : ℕ) : Type 0 where
  way : IsWay places choice loads raised link target
  chained : IsChainedByTurns places choice loads raised from turn
  raised_long : length raised ≡ length loads

abbrev Marked : (places : List (List ℕ)) (choice loads : List ℕ) → Type 0
Marked places choice loads = ((raised : List Bool) × AreLevelled places choice loads raised) ⊎ ((raised : List Bool) × (from : List ℕ) × (turn : List ℕ) × (link : ℕ) × (target : ℕ) × IsFound places choice loads raised from turn link target)

count_same : (m n : ℕ) → count_by (λ x. x == n) (replicate m n) ≡ m
count_same zero n = refl
count_same (suc m) n = let c = count_cons (λ x. x == n) n (replicate m n) in let e = ap one_if (eq-eqb n n refl) in let ih = count_same m n in omega arith

module _ (places : List (List ℕ)) (choice loads : List ℕ) (below : (l x : ℕ) → Offers places l x → x < length loads) where
  abbrev Next : ℕ → Type 0
  Next t = (raised : List Bool) (from turn : List ℕ) → length turn ≡ length choice → length raised ≡ length loads → length from ≡ length loads → IsMarking places choice loads raised from turn t → Marked places choice loads

  mark_step : (t : ℕ) (raised : List Bool) (from turn : List ℕ) → length turn ≡ length choice → length raised ≡ length loads → length from ≡ length loads → t < length choice → IsMarking places choice loads raised from turn t → Next (t + 1) → Marked places choice loads
  mark_step t raised from turn lt lr lf soon marking next = go (highest_open choice loads raised turn)
    where
      go : ((k : ℕ) → k < length choice → at turn k ≢ length turn) ⊎ ((l : ℕ) × IsHighest choice loads raised turn l) → Marked places choice loads
      go (inl none) = inl (raised, levelled_all places choice loads raised from turn t marking none)
      go (inr h) = raised_up (raise_all loads h.0 (height_at loads raised (at choice h.0)) (get_or places h.0 []) raised from (λ x c. let b = below h.0 x c in (omega arith, omega arith)))
        where
          raised_up : Far loads (height_at loads raised (at choice h.0)) (get_or places h.0 []) ⊎ Raises loads raised from h.0 (height_at loads raised (at choice h.0)) (get_or places h.0 []) → Marked places choice loads
          raised_up (inl far) = inr (raised, from, turn, h.0, far.0, record { way = record { within = h.1.within; offered = far.1; lower = far.2 }; chained = marking.chained; raised_long = lr })
          raised_up (inr more) = next more.0 more.1 (set turn h.0 t) (length-set turn h.0 t ∙ lt) (more.2.raised_long ∙ lr) (more.2.from_long ∙ lf) (marking_more places choice loads raised more.0 from more.1 turn t h.0 lt soon marking h.1 more.2.only more.2.raised_up)

  mark : (d t : ℕ) (raised : List Bool) (from turn : List ℕ) → t + d ≡ length choice → length turn ≡ length choice → length raised ≡ length loads → length from ≡ length loads → IsMarking places choice loads raised from turn t → Marked places choice loads
  mark zero t raised from turn e lt lr lf marking = inl (raised, levelled_all places choice loads raised from turn t marking (none_waits places choice loads raised from turn t lt marking (omega arith)))
  mark (suc d) t raised from turn e lt lr lf marking = mark_step t raised from turn lt lr lf (omega arith) marking (λ r f u a b c m. mark d (t + 1) r f u (omega arith) a b c m)

  marked : Marked places choice loads
  marked =
      let n = length choice in
      let turns = length-replicate (length choice) (length choice) in
      mark (length choice) 0 (replicate (length loads) false) (replicate (length loads) 0) (replicate (length choice) (length choice)) (omega arith) turns (length-replicate (length loads) false) (length-replicate (length loads) 0)
      (marking_none places choice loads (replicate (length loads) false) (replicate (length loads) 0) (replicate (length choice) (length choice)) turns (none_raised (length loads)) (λ k b. get_or-replicate (length choice) k (length choice) 0 (omega arith) ∙ sym turns) (rw turns (count_same (length choice) (length choice))))

-- links are moved along a way
module _ (places : List (List ℕ)) (start loads : List ℕ) (raised : List Bool) (from turn : List ℕ) (target : ℕ) (chained : IsChainedByTurns places start loads raised from turn) (below : (l x : ℕ) → Offers places l x → x < length loads) (bt : target < length loads) where
  abbrev Then : ℕ → Type 0
  Then fuel = (choice : List ℕ) (link to : ℕ) → at turn link < fuel → length choice ≡ length start → IsMovingByTurns places start choice loads raised turn target link to → (choice' : List ℕ) × (loads' : List ℕ) × (length choice' ≡ length start) × (length loads' ≡ length loads) × IsShifted places start choice' loads loads'

  shift_step : (fuel : ℕ) → Then fuel → Then (fuel + 1)
  shift_step fuel rest choice link to less long moving = go (is_raised raised (at choice link)) refl
    where
      go : (b : Bool) → is_raised raised (at choice link) ≡ b → (choice' : List ℕ) × (loads' : List ℕ) × (length choice' ≡ length start) × (length loads' ≡ length loads) × IsShifted places start choice' loads loads'
      go true up = rest (set choice link to) (at from (at choice link)) (at choice link) (let e = earlier_turn places start choice loads raised from turn target link to long chained moving up in omega arith) (length-set choice link to ∙ long) (moving_more places start choice loads raised from turn target link to long chained moving up)
      go false down = (set choice link to, set (set loads (at choice link) (at loads (at choice link) - 1)) target (at loads target + 1), length-set choice link to ∙ long, length-set (set loads (at choice link) (at loads (at choice link) - 1)) target (at loads target + 1) ∙ length-set loads (at choice link) (at loads (at choice link) - 1), shifted_last_turn places start choice loads raised from turn target link to long bt (below link (at choice link) (moving.placed link moving.within)) moving down chained)

  shift : (fuel : ℕ) → Then fuel
  shift zero choice link to less long moving = absurd (omega arith)
  shift (suc fuel) choice link to less long moving = shift_step fuel (shift fuel) choice link to (omega arith) long moving

abbrev Moved : (places : List (List ℕ)) (choice loads : List ℕ) → Type 0
Moved places choice loads = (choice' : List ℕ) × (loads' : List ℕ) × (length choice' ≡ length choice) × (length loads' ≡ length loads) × IsShifted places choice choice' loads loads'

pub levelled_or_moved : (places : List (List ℕ)) (choice loads : List ℕ) → ((l x : ℕ) → Offers places l x → x < length loads) → ArePlaced places choice → ((raised : List Bool) × AreLevelled places choice loads raised) ⊎ ((choice' : List ℕ) × (loads' : List ℕ) × (length choice' ≡ length choice) × (length loads' ≡ length loads) × IsShifted places choice choice' loads loads')
levelled_or_moved places choice loads below placed = go (marked places choice loads below)
  where
    go : Marked places choice loads → ((raised : List Bool) × AreLevelled places choice loads raised) ⊎ ((choice' : List ℕ) × (loads' : List ℕ) × (length choice' ≡ length choice) × (length loads' ≡ length loads) × IsShifted places choice choice' loads loads')
    go (inl l) = inl l
    go (inr (raised, from, turn, link, target, found)) = inr (shift places choice loads raised from turn target found.chained below (below link target found.way.offered) (at turn link + 1) choice link target (omega arith) refl (moving_none places choice loads raised turn target link placed found.way))
