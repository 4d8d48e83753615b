-- A marking in which each link has its own turn, as a proof that there is always a way or a certificate.
use Rattle.std.proofs.Common.{◌≡◌, ◌≢◌, ℕ, ◌+◌, ◌-◌, ◌<◌, ◌≤◌, Bool, true, false, cond, List, [], length, set, refl, sym, ◌∙◌, ap, subst, arith, get_or, get_or-set_same, get_or-set_other, inl, inr}
use Rattle.std.specs.Prelude.{◌⊎◌, ◌==◌, Contains, count_by}
use Rattle.std.proofs.lemmas.Bool.{false≢true, cases_eq, eq-eqb, ne_eqb}
use Rattle.std.proofs.lemmas.List.{length-set}
use Rattle.std.proofs.lemmas.List.Sums.{sum_by-set, get_or-le-sum_by}
use Rattle.route_model.specs.Routing.{given}
use Rattle.route_model.specs.Placement.{Offers}
use Rattle.route_model.proofs.Counting.{one_if}
use Rattle.route_spread.specs.Marks.{at, is_raised, height_at, IsNew, AreRaised, AreLevelled, ArePlaced, IsWay, IsShifted}
use Rattle.route_spread.proofs.Turns.{new_below, no_lower, still, within_top}
use Rattle.route_spread.proofs.Moves.{given_set, placed_set, shifted}

-- Why each interrupt is raised: a link offers it that stands as high at least, and whose turn was before that of all links there.
pub record IsChainedByTurns (places : List (List ℕ)) (choice loads : List ℕ) (raised : List Bool) (from turn : List ℕ) : Type 0 where
  pub linked : (x : ℕ) → is_raised raised x ≡ true → at from x < length choice
  pub offered : (x : ℕ) → is_raised raised x ≡ true → Offers places (at from x) x
  pub higher : (x : ℕ) → is_raised raised x ≡ true → at loads x + 1 ≤ height_at loads raised (at choice (at from x))
  pub before : (x k : ℕ) → is_raised raised x ≡ true → k < length choice → at choice k ≡ x → at turn (at from x) < at turn k

pub record IsHighest (choice loads : List ℕ) (raised : List Bool) (turn : List ℕ) (l : ℕ) : Type 0 where
  pub within : l < length choice
  pub waits : at turn l ≡ length turn
  pub top : (k : ℕ) → k < length choice → at turn k ≡ length turn → height_at loads raised (at choice k) ≤ height_at loads raised (at choice l)

pub record IsMarking (places : List (List ℕ)) (choice loads : List ℕ) (raised : List Bool) (from turn : List ℕ) (t : ℕ) : Type 0 where
  pub earlier : (k : ℕ) → k < length choice → at turn k ≢ length turn → at turn k < t
  pub counted : t + count_by (λ x. x == length turn) turn ≡ length turn
  pub highest : (d u : ℕ) → d < length choice → u < length choice → at turn d ≢ length turn → at turn u ≡ length turn → height_at loads raised (at choice u) ≤ height_at loads raised (at choice d)
  pub levelled : (l i : ℕ) → l < length choice → at turn l ≢ length turn → Offers places l i → height_at loads raised (at choice l) ≤ height_at loads raised i
  pub chained : IsChainedByTurns places choice loads raised from turn

pub record IsMovingByTurns (places : List (List ℕ)) (start choice loads : List ℕ) (raised : List Bool) (turn : List ℕ) (target link to : ℕ) : Type 0 where
  pub within : link < length choice
  pub same : (k : ℕ) → k < length choice → at turn k ≤ at turn link → at choice k ≡ at start k
  pub placed : ArePlaced places choice
  pub next : Offers places link to
  pub moved : (x : ℕ) → given choice x + cond (to == x) 1 0 ≡ given start x + cond (target == x) 1 0
  pub high : at loads target + 2 ≤ height_at loads raised (at choice link)

module _ (places : List (List ℕ)) (choice loads : List ℕ) (before after : List Bool) (from from' turn : List ℕ) (t l : ℕ) (long : length turn ≡ length choice) (soon : t < length choice) (marking : IsMarking places choice loads before from turn t) (highest : IsHighest choice loads before turn l) (raised : AreRaised loads before after from from' l (height_at loads before (at choice l)) (λ x. Contains (get_or places l []) x)) where
  turn' : List ℕ
  turn' = set turn l t

  abbrev top : ℕ
  top = height_at loads before (at choice l)

  turn_here : at (set turn l t) l ≡ t
  turn_here = let w = highest.within in get_or-set_same turn l t 0 (omega arith)

  turn_other : (k : ℕ) → k ≢ l → at (set turn l t) k ≡ at turn k
  turn_other k ne = get_or-set_other turn l k t 0 ne

  turns : length (set turn l t) ≡ length turn
  turns = length-set turn l t

  -- a link whose turn has come: this one, or one before
  came : (k : ℕ) → at (set turn l t) k ≢ length turn → (k ≡ l) ⊎ (at turn k ≢ length turn)
  came k ne = go (cases_eq k l)
    where
      go : (k ≡ l) ⊎ (k ≢ l) → (k ≡ l) ⊎ (at turn k ≢ length turn)
      go (inl e) = inl e
      go (inr other) = inr (λ e. ne (turn_other k other ∙ e))

  -- one whose turn has not come
  waits : (k : ℕ) → at (set turn l t) k ≡ length turn → at turn k ≡ length turn
  waits k e = go (cases_eq k l)
    where
      go : (k ≡ l) ⊎ (k ≢ l) → at turn k ≡ length turn
      go (inl is) = absurd (let h = turn_here in let f : at (set turn l t) k ≡ at (set turn l t) l = ap (at (set turn l t)) is in omega arith)
      go (inr other) = sym (turn_other k other) ∙ e

  chained_old : (x : ℕ) → is_raised before x ≡ true → (at from' x < length choice) × Offers places (at from' x) x × (at loads x + 1 ≤ height_at loads after (at choice (at from' x))) × ((k : ℕ) → k < length choice → at choice k ≡ x → at (set turn l t) (at from' x) < at (set turn l t) k)
  chained_old x was =
      let same = raised.same x was in
      let linked = marking.chained.linked x was in
      let offered = marking.chained.offered x was in
      let higher = marking.chained.higher x was in
      let up = no_lower loads before after from from' l top (λ y. Contains (get_or places l []) y) raised (at choice (at from x)) in
      rw same (linked, offered, omega arith, order)
    where
      order : (k : ℕ) → k < length choice → at choice k ≡ x → at (set turn l t) (at from x) < at (set turn l t) k
      order k b e = go (cases_eq (at from x) l) (cases_eq k l) (cases_eq (at turn k) (length turn))
        where
          less : at turn (at from x) < at turn k
          less = marking.chained.before x k was b e

          go : (at from x ≡ l) ⊎ (at from x ≢ l) → (k ≡ l) ⊎ (k ≢ l) → (at turn k ≡ length turn) ⊎ (at turn k ≢ length turn) → at (set turn l t) (at from x) < at (set turn l t) k
          go (inl is) other (inl f) = absurd (let w = highest.waits in let m = less in let g = ap (at turn) is in omega arith)
          go (inl is) other (inr f) = absurd (let w = highest.waits in let m = less in let g = ap (at turn) is in let h = marking.earlier k b f in omega arith)
          go (inr ne) (inr other) f = let m = less in let g = turn_other (at from x) ne in let h = turn_other k other in omega arith
          go (inr ne) (inl is) f =
              let m = less in
              let w = highest.waits in
              let g = turn_other (at from x) ne in
              let kl = ap (at turn) is in
              let h = ap (at (set turn l t)) is ∙ turn_here in
              let early = marking.earlier (at from x) (marking.chained.linked x was) (λ z. absurd (omega arith)) in
              omega arith

  chained_new : (x : ℕ) → Contains (get_or places l []) x → IsNew loads before from' l top x → (at from' x < length choice) × Offers places (at from' x) x × (at loads x + 1 ≤ height_at loads after (at choice (at from' x))) × ((k : ℕ) → k < length choice → at choice k ≡ x → at (set turn l t) (at from' x) < at (set turn l t) k)
  chained_new x among new =
      let noted = new.noted in
      let below = new.below in
      let up = no_lower loads before after from from' l top (λ y. Contains (get_or places l []) y) raised (at choice l) in
      rw noted (highest.within, among, omega arith, order)
    where
      low : height_at loads before x + 1 ≡ top
      low = new_below loads before after from from' l top (λ y. Contains (get_or places l []) y) raised x new

      order : (k : ℕ) → k < length choice → at choice k ≡ x → at (set turn l t) l < at (set turn l t) k
      order k b e = go (cases_eq k l) (cases_eq (at turn k) (length turn))
        where
          here : height_at loads before (at choice k) ≡ height_at loads before x
          here = ap (height_at loads before) e

          go : (k ≡ l) ⊎ (k ≢ l) → (at turn k ≡ length turn) ⊎ (at turn k ≢ length turn) → at (set turn l t) l < at (set turn l t) k
          go (inl is) f = absurd (let h = here in let w = low in let g : height_at loads before (at choice k) ≡ top = ap (λ j. height_at loads before (at choice j)) is in omega arith)
          go (inr other) (inl f) = let h = turn_here in let g = turn_other k other in omega arith
          go (inr other) (inr f) = absurd (let h = here in let w = low in let m = marking.highest k l b highest.within f highest.waits in omega arith)

  chained_at : (x : ℕ) → is_raised after x ≡ true → (at from' x < length choice) × Offers places (at from' x) x × (at loads x + 1 ≤ height_at loads after (at choice (at from' x))) × ((k : ℕ) → k < length choice → at choice k ≡ x → at (set turn l t) (at from' x) < at (set turn l t) k)
  chained_at x h = go (raised.new x h)
    where
      go : (is_raised before x ≡ true) ⊎ (Contains (get_or places l []) x × IsNew loads before from' l top x) → (at from' x < length choice) × Offers places (at from' x) x × (at loads x + 1 ≤ height_at loads after (at choice (at from' x))) × ((k : ℕ) → k < length choice → at choice k ≡ x → at (set turn l t) (at from' x) < at (set turn l t) k)
      go (inl old) = chained_old x old
      go (inr new) = chained_new x new.0 new.1

  pub chained_more : IsChainedByTurns places choice loads after from' (set turn l t)
  chained_more = record {
    linked = λ x h. (chained_at x h).0;
    offered = λ x h. (chained_at x h).1;
    higher = λ x h. (chained_at x h).2;
    before = λ x k h b e. (chained_at x h).3 k b e;
  }

  -- the link itself stands as high as before
  pub way_there : (i : ℕ) → Contains (get_or places l []) i → at loads i + 2 ≤ top → IsWay places choice loads after l i
  way_there i offered far =
      let up = no_lower loads before after from from' l top (λ y. Contains (get_or places l []) y) raised (at choice l) in
      record { within = highest.within; offered = offered; lower = omega arith }

  counted_less : t + 1 + count_by (λ x. x == length turn) (set turn l t) ≡ length turn
  counted_less =
      let w = highest.within in
      let s = sum_by-set (λ x. cond (x == length turn) 1 0) turn l t 0 (omega arith) in
      let yes = ap one_if (eq-eqb (at turn l) (length turn) highest.waits) in
      let no = ap one_if (ne_eqb t (length turn) (λ e. omega arith)) in
      let c = marking.counted in
      omega arith

  pub marking_more : ((i : ℕ) → Contains (get_or places l []) i → top ≤ height_at loads after i) → IsMarking places choice loads after from' (set turn l t) (t + 1)
  marking_more done = record {
    earlier = λ k b ne. earlier k b (λ e. ne (e ∙ sym turns));
    counted = let c = counted_less in rw turns c;
    highest = λ d u bd bu ne e. highest_more d u bd bu (came d (λ f. ne (f ∙ sym turns))) (waits u (e ∙ turns));
    levelled = λ k i b ne o. levelled_more k i b (came k (λ f. ne (f ∙ sym turns))) o;
    chained = chained_more;
  }
    where
      earlier : (k : ℕ) → k < length choice → at (set turn l t) k ≢ length turn → at (set turn l t) k < t + 1
      earlier k b ne = go (cases_eq k l)
        where
          go : (k ≡ l) ⊎ (k ≢ l) → at (set turn l t) k < t + 1
          go (inl is) = let h = ap (at (set turn l t)) is ∙ turn_here in omega arith
          go (inr other) = let f = turn_other k other in let m = marking.earlier k b (λ e. ne (f ∙ e)) in omega arith

      highest_more : (d u : ℕ) → d < length choice → u < length choice → (d ≡ l) ⊎ (at turn d ≢ length turn) → at turn u ≡ length turn → height_at loads after (at choice u) ≤ height_at loads after (at choice d)
      highest_more d u bd bu which e = go which
        where
          low : height_at loads after (at choice u) ≤ top
          low = within_top loads before after from from' l top (λ y. Contains (get_or places l []) y) raised (at choice u) (highest.top u bu e)

          up : (x : ℕ) → height_at loads before x ≤ height_at loads after x
          up = no_lower loads before after from from' l top (λ y. Contains (get_or places l []) y) raised

          go : (d ≡ l) ⊎ (at turn d ≢ length turn) → height_at loads after (at choice u) ≤ height_at loads after (at choice d)
          go (inl is) = let a = low in let b = up (at choice l) in rw is (omega arith)
          go (inr ne) = let a = low in let b = up (at choice d) in let m = marking.highest d l bd highest.within ne highest.waits in omega arith

      levelled_more : (k i : ℕ) → k < length choice → (k ≡ l) ⊎ (at turn k ≢ length turn) → Offers places k i → height_at loads after (at choice k) ≤ height_at loads after i
      levelled_more k i b (inl is) o =
          let low = within_top loads before after from from' l top (λ y. Contains (get_or places l []) y) raised (at choice l) (omega arith) in
          let d = done i (subst (λ (j : ℕ). Offers places j i) is o) in
          rw is (omega arith)
      levelled_more k i b (inr ne) o =
          let m = marking.highest k l b highest.within ne highest.waits in
          let s = still loads before after from from' l top (λ y. Contains (get_or places l []) y) raised (at choice k) m in
          let v = marking.levelled k i b ne o in
          let up = no_lower loads before after from from' l top (λ y. Contains (get_or places l []) y) raised i in
          omega arith

-- nothing is marked
pub marking_none : (places : List (List ℕ)) (choice loads : List ℕ) (raised : List Bool) (from turn : List ℕ) → length turn ≡ length choice → ((x : ℕ) → is_raised raised x ≡ false) → ((k : ℕ) → k < length turn → at turn k ≡ length turn) → count_by (λ x. x == length turn) turn ≡ length turn → IsMarking places choice loads raised from turn 0
marking_none places choice loads raised from turn long none all whole = record {
  earlier = λ k b ne. absurd (ne (all k (omega arith)));
  counted = omega (arith, whole);
  highest = λ d u bd bu ne e. absurd (ne (all d (omega arith)));
  levelled = λ k i b ne o. absurd (ne (all k (omega arith)));
  chained = record {
    linked = λ x h. absurd (false≢true (sym (none x) ∙ h));
    offered = λ x h. absurd (false≢true (sym (none x) ∙ h));
    higher = λ x h. absurd (false≢true (sym (none x) ∙ h));
    before = λ x k h b e. absurd (false≢true (sym (none x) ∙ h));
  };
}

-- no link waits: no link offers an interrupt that is lower
pub levelled_all : (places : List (List ℕ)) (choice loads : List ℕ) (raised : List Bool) (from turn : List ℕ) (t : ℕ) → IsMarking places choice loads raised from turn t → ((k : ℕ) → k < length choice → at turn k ≢ length turn) → AreLevelled places choice loads raised
levelled_all places choice loads raised from turn t marking none l i b o = marking.levelled l i b (none l b) o

-- after as many turns as links none waits
pub none_waits : (places : List (List ℕ)) (choice loads : List ℕ) (raised : List Bool) (from turn : List ℕ) (t : ℕ) → length turn ≡ length choice → IsMarking places choice loads raised from turn t → length choice ≤ t → (k : ℕ) → k < length choice → at turn k ≢ length turn
none_waits places choice loads raised from turn t long marking whole k b e =
    let one = get_or-le-sum_by (λ x. cond (x == length turn) 1 0) turn k 0 (omega arith) in
    let yes = ap one_if (eq-eqb (at turn k) (length turn) e) in
    let c = marking.counted in
    omega arith

pub moving_none : (places : List (List ℕ)) (choice loads : List ℕ) (raised : List Bool) (turn : List ℕ) (target link : ℕ) → ArePlaced places choice → IsWay places choice loads raised link target → IsMovingByTurns places choice choice loads raised turn target link target
moving_none places choice loads raised turn target link placed way = record {
  within = way.within;
  same = λ k b le. refl;
  placed = placed;
  next = way.offered;
  moved = λ x. refl;
  high = way.lower;
}

module _ (places : List (List ℕ)) (start choice loads : List ℕ) (raised : List Bool) (from turn : List ℕ) (target link to : ℕ) (long : length choice ≡ length start) (chained : IsChainedByTurns places start loads raised from turn) (moving : IsMovingByTurns places start choice loads raised turn target link to) where
  -- the interrupt that the link leaves is the one that it began with
  pub leaves : at choice link ≡ at start link
  leaves = moving.same link moving.within (omega arith)

  pub moved_on : (x : ℕ) → given (set choice link to) x + one_if (at choice link == x) ≡ given start x + one_if (target == x)
  moved_on x = let s = given_set choice link to x moving.within in let m = moving.moved x in omega arith

  pub earlier_turn : is_raised raised (at choice link) ≡ true → at turn (at from (at choice link)) < at turn link
  earlier_turn up = chained.before (at choice link) link up (let w = moving.within in omega arith) (sym leaves)

  pub moving_more : is_raised raised (at choice link) ≡ true → IsMovingByTurns places start (set choice link to) loads raised turn target (at from (at choice link)) (at choice link)
  moving_more up = record {
    within = let w = linked in omega (arith, length-set choice link to);
    same = same;
    placed = placed_set places choice link to moving.within moving.next moving.placed;
    next = chained.offered (at choice link) up;
    moved = moved_on;
    high =
        let h = moving.high in
        let g = chained.higher (at choice link) up in
        let r = ap (λ b. at loads (at choice link) + cond b 1 0) up in
        let e = ap (height_at loads raised) there in
        omega arith;
  }
    where
      linked : at from (at choice link) < length choice
      linked = let w = chained.linked (at choice link) up in omega arith

      other : (k : ℕ) → at turn k ≤ at turn (at from (at choice link)) → k ≢ link
      other k le e = let m = earlier_turn up in let f = ap (at turn) e in omega arith

      same : (k : ℕ) → k < length (set choice link to) → at turn k ≤ at turn (at from (at choice link)) → at (set choice link to) k ≡ at start k
      same k b le = get_or-set_other choice link k to 0 (other k le) ∙ moving.same k (omega (arith, length-set choice link to)) (let m = earlier_turn up in omega arith)

      there : at (set choice link to) (at from (at choice link)) ≡ at start (at from (at choice link))
      there = same (at from (at choice link)) (omega (arith, length-set choice link to, linked)) (omega arith)

-- the last link of a way moves
pub shifted_last_turn : (places : List (List ℕ)) (start choice loads : List ℕ) (raised : List Bool) (from turn : List ℕ) (target link to : ℕ) → length choice ≡ length start → target < length loads → at choice link < length loads → IsMovingByTurns places start choice loads raised turn target link to → is_raised raised (at choice link) ≡ false → IsChainedByTurns places start loads raised from turn → IsShifted places start (set choice link to) loads (set (set loads (at choice link) (at loads (at choice link) - 1)) target (at loads target + 1))
shifted_last_turn places start choice loads raised from turn target link to long bt br moving down chained =
    let h = moving.high in
    let r = ap (λ b. at loads (at choice link) + cond b 1 0) down in
    shifted loads (at choice link) target br bt (omega arith) places start (set choice link to)
    (placed_set places choice link to moving.within moving.next moving.placed)
    (moved_on places start choice loads raised from turn target link to long chained moving)
