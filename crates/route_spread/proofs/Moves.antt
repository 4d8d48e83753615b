-- Links are moved along a way, from its target back.
use Rattle.std.proofs.Common.{◌≡◌, ◌≢◌, ℕ, ◌+◌, ◌-◌, ◌*◌, ◌<◌, ◌≤◌, Bool, true, false, cond, List, length, set, refl, sym, ◌∙◌, ap, subst, arith, get_or-set_same, get_or-set_other, inl, inr}
use Rattle.std.specs.Prelude.{◌⊎◌, ◌==◌, sum_by}
use Rattle.std.proofs.lemmas.Bool.{cases_eq, eq-eqb, ne_eqb}
use Rattle.std.proofs.lemmas.List.{length-set}
use Rattle.std.proofs.lemmas.List.Sums.{sum_by-set}
use Rattle.route_model.specs.Routing.{given}
use Rattle.route_model.specs.Placement.{Offers}
use Rattle.route_model.proofs.Counting.{one_if}
use Rattle.route_spread.specs.Marks.{at, is_raised, height_at, IsChained, IsWay, ArePlaced, AreKept, HasLess, IsSameOrLess, IsShifted, IsMoving}

-- a link is given another interrupt
pub given_set : (a : List ℕ) (l i x : ℕ) → l < length a → given (set a l i) x + one_if (at a l == x) ≡ given a x + one_if (i == x)
given_set a l i x b = sum_by-set (λ n. cond (n == x) 1 0) a l i 0 b

pub placed_set : (places : List (List ℕ)) (a : List ℕ) (l i : ℕ) → l < length a → Offers places l i → ArePlaced places a → ArePlaced places (set a l i)
placed_set places a l i b o placed k bk = go (cases_eq k l)
  where
    go : (k ≡ l) ⊎ (k ≢ l) → Offers places k (at (set a l i) k)
    go (inl e) = let h = get_or-set_same a l i 0 b in rw (e, h) o
    go (inr ne) = let h = get_or-set_other a l k i 0 ne in rw h (placed k (let e = length-set a l i in omega arith))

pub moving_none : (places : List (List ℕ)) (choice loads : List ℕ) (raised : List Bool) (ranks : List ℕ) (target link : ℕ) → ArePlaced places choice → IsWay places choice loads raised link target → IsMoving places choice choice loads raised ranks target link target
moving_none places choice loads raised ranks target link placed way = record {
  within = way.within;
  same = λ k b le. refl;
  placed = placed;
  next = way.offered;
  moved = λ x. refl;
  high = way.lower;
}

module _ (places : List (List ℕ)) (start choice loads : List ℕ) (raised : List Bool) (from ranks : List ℕ) (target link to : ℕ) (long : length choice ≡ length start) (chained : IsChained places start loads raised from ranks) (moving : IsMoving places start choice loads raised ranks target link to) where
  -- the interrupt that the link leaves is the one that it began with
  pub leaves : at choice link ≡ at start link
  leaves = moving.same link moving.within (omega arith)

  pub moved_on : (x : ℕ) → given (set choice link to) x + one_if (at choice link == x) ≡ given start x + one_if (target == x)
  moved_on x = let s = given_set choice link to x moving.within in let m = moving.moved x in omega arith

  pub earlier_rank : is_raised raised (at choice link) ≡ true → at ranks (at start (at from (at choice link))) < at ranks (at start link)
  earlier_rank up = let b = chained.before (at choice link) up in let e = ap (at ranks) leaves in omega arith

  pub moving_more : is_raised raised (at choice link) ≡ true → IsMoving places start (set choice link to) loads raised ranks target (at from (at choice link)) (at choice link)
  moving_more up = record {
    within = let w = linked in omega (arith, length-set choice link to);
    same = same;
    placed = placed_set places choice link to moving.within moving.next moving.placed;
    next = chained.offered (at choice link) up;
    moved = moved_on;
    high =
        let h = moving.high in
        let g = chained.higher (at choice link) up in
        let r = ap (λ b. at loads (at choice link) + cond b 1 0) up in
        let e = ap (height_at loads raised) there in
        omega arith;
  }
    where
      linked : at from (at choice link) < length choice
      linked = let w = chained.linked (at choice link) up in omega arith

      other : (k : ℕ) → at ranks (at start k) ≤ at ranks (at start (at from (at choice link))) → k ≢ link
      other k le e = let m = earlier_rank up in let f = ap (λ j. at ranks (at start j)) e in omega arith

      same : (k : ℕ) → k < length (set choice link to) → at ranks (at start k) ≤ at ranks (at start (at from (at choice link))) → at (set choice link to) k ≡ at start k
      same k b le = get_or-set_other choice link k to 0 (other k le) ∙ moving.same k (omega (arith, length-set choice link to)) (let m = earlier_rank up in omega arith)

      there : at (set choice link to) (at from (at choice link)) ≡ at start (at from (at choice link))
      there = same (at from (at choice link)) (omega (arith, length-set choice link to, linked)) (omega arith)

square_far : (y d : ℕ) → (y + 1 + d) * (y + 1 + d) + (y + 1) * (y + 1) < (y + 2 + d) * (y + 2 + d) + y * y
square_far y d = omega arith

-- less uneven numbers have less squares
square_less : (x y : ℕ) → y + 2 ≤ x → (x - 1) * (x - 1) + (y + 1) * (y + 1) < x * x + y * y
square_less x y h =
    let d = x - (y + 2) in
    let is : x ≡ y + 2 + (x - (y + 2)) = omega arith in
    let less : x - 1 ≡ y + 1 + (x - (y + 2)) = omega arith in
    let far = square_far y (x - (y + 2)) in
    rw less (subst (λ (z : ℕ). (y + 1 + (x - (y + 2))) * (y + 1 + (x - (y + 2))) + (y + 1) * (y + 1) < z * z + y * y) (sym is) far)

-- The last link moves: the interrupt that it leaves loses one source, and the target gains one.
module _ (loads : List ℕ) (root target : ℕ) (br : root < length loads) (bt : target < length loads) (far : at loads target + 2 ≤ at loads root) where
  abbrev pub after : List ℕ
  after = set (set loads root (at loads root - 1)) target (at loads target + 1)

  apart : target ≢ root
  apart e = let f = ap (at loads) e in omega arith

  long : length (set loads root (at loads root - 1)) ≡ length loads
  long = length-set loads root (at loads root - 1)

  between : at (set loads root (at loads root - 1)) target ≡ at loads target
  between = get_or-set_other loads root target (at loads root - 1) 0 apart

  at_target : at after target ≡ at loads target + 1
  at_target = get_or-set_same (set loads root (at loads root - 1)) target (at loads target + 1) 0 (omega (arith, long))

  at_root : at after root ≡ at loads root - 1
  at_root = get_or-set_other (set loads root (at loads root - 1)) target root (at loads target + 1) 0 (λ e. apart (sym e)) ∙ get_or-set_same loads root (at loads root - 1) 0 br

  at_other : (x : ℕ) → x ≢ root → x ≢ target → at after x ≡ at loads x
  at_other x nr nt = get_or-set_other (set loads root (at loads root - 1)) target x (at loads target + 1) 0 nt ∙ get_or-set_other loads root x (at loads root - 1) 0 nr

  summed : (f : ℕ → ℕ) → sum_by f after + f (at loads target) + f (at loads root) ≡ sum_by f loads + f (at loads root - 1) + f (at loads target + 1)
  summed f =
      let one = sum_by-set f loads root (at loads root - 1) 0 br in
      let two = sum_by-set f (set loads root (at loads root - 1)) target (at loads target + 1) 0 (omega (arith, long)) in
      let b = ap f between in
      omega arith

  cheaper : sum_by (λ x. x * x) after < sum_by (λ x. x * x) loads
  cheaper =
      let s = summed (λ x. x * x) in
      let q = square_less (at loads root) (at loads target) far in
      omega arith

  some_less : HasLess loads after
  some_less = let s = summed (λ x. x - (at loads root - 1)) in record { above = at loads root - 1; less = omega (arith, s) }

  no_more : (k : ℕ) → sum_by (λ x. x - k) after ≤ sum_by (λ x. x - k) loads
  no_more k = let s = summed (λ x. x - k) in omega (arith, s)

  bounded : (c : ℕ) → ((x : ℕ) → at loads x ≤ c) → (x : ℕ) → at after x ≤ c
  bounded c h x = go (cases_eq x target) (cases_eq x root)
    where
      go : (x ≡ target) ⊎ (x ≢ target) → (x ≡ root) ⊎ (x ≢ root) → at after x ≤ c
      go (inl e) r = let a = at_target in let b = h root in let f : at after x ≡ at after target = ap (at after) e in omega arith
      go (inr nt) (inl e) = let a = at_root in let b = h root in let f : at after x ≡ at after root = ap (at after) e in omega arith
      go (inr nt) (inr nr) = let a = at_other x nr nt in let b = h x in omega arith

  kept : (start choice : List ℕ) → ((x : ℕ) → given choice x + one_if (root == x) ≡ given start x + one_if (target == x)) → AreKept start choice loads after
  kept start choice moved x bx = go (cases_eq x target) (cases_eq x root)
    where
      go : (x ≡ target) ⊎ (x ≢ target) → (x ≡ root) ⊎ (x ≢ root) → at after x + given start x ≡ at loads x + given choice x
      go (inl e) (inl f) = absurd (apart (sym e ∙ f))
      go (inl e) (inr nr) =
          let a = at_target in
          let f : at after x ≡ at after target = ap (at after) e in
          let g : at loads x ≡ at loads target = ap (at loads) e in
          let m = moved x in
          let yes = ap one_if (eq-eqb target x (sym e)) in
          let no = ap one_if (ne_eqb root x (λ z. nr (sym z))) in
          omega arith
      go (inr nt) (inl e) =
          let a = at_root in
          let f : at after x ≡ at after root = ap (at after) e in
          let g : at loads x ≡ at loads root = ap (at loads) e in
          let m = moved x in
          let yes = ap one_if (eq-eqb root x (sym e)) in
          let no = ap one_if (ne_eqb target x (λ z. nt (sym z))) in
          omega arith
      go (inr nt) (inr nr) =
          let a = at_other x nr nt in
          let m = moved x in
          let no = ap one_if (ne_eqb root x (λ z. nr (sym z))) in
          let none = ap one_if (ne_eqb target x (λ z. nt (sym z))) in
          omega arith

  pub shifted : (places : List (List ℕ)) (start choice : List ℕ) → ArePlaced places choice → ((x : ℕ) → given choice x + one_if (root == x) ≡ given start x + one_if (target == x)) → IsShifted places start choice loads after
  shifted places start choice placed moved = record {
    placed = placed;
    kept = kept start choice moved;
    cheaper = cheaper;
    some_less = some_less;
    no_more = no_more;
    bounded = bounded;
  }

-- the last link of a way moves
pub shifted_last : (places : List (List ℕ)) (start choice loads : List ℕ) (raised : List Bool) (from ranks : List ℕ) (target link to : ℕ) → length choice ≡ length start → target < length loads → at choice link < length loads → IsMoving places start choice loads raised ranks target link to → is_raised raised (at choice link) ≡ false → IsChained places start loads raised from ranks → IsShifted places start (set choice link to) loads (set (set loads (at choice link) (at loads (at choice link) - 1)) target (at loads target + 1))
shifted_last places start choice loads raised from ranks target link to long bt br moving down chained =
    let h = moving.high in
    let r = ap (λ b. at loads (at choice link) + cond b 1 0) down in
    shifted loads (at choice link) target br bt (omega arith) places start (set choice link to)
    (placed_set places choice link to moving.within moving.next moving.placed)
    (moved_on places start choice loads raised from ranks target link to long chained moving)

-- once links were moved, the loads stay less uneven
pub less_still : (places : List (List ℕ)) (choice choice' choice'' loads loads' loads'' : List ℕ) → IsSameOrLess choice choice' loads loads' → IsShifted places choice' choice'' loads' loads'' → IsSameOrLess choice choice'' loads loads''
less_still places choice choice' choice'' loads loads' loads'' (inl same) shifted = inr (subst (λ (xs : List ℕ). HasLess xs loads'') same.1 shifted.some_less)
less_still places choice choice' choice'' loads loads' loads'' (inr more) shifted = inr (record { above = more.above; less = let a = more.less in let b = shifted.no_more more.above in omega arith })

-- the interrupt of the link and the link for which it was raised, by other names
pub moving_step : (places : List (List ℕ)) (start choice loads : List ℕ) (raised : List Bool) (from ranks : List ℕ) (target link to interrupt next : ℕ) → length choice ≡ length start → IsChained places start loads raised from ranks → IsMoving places start choice loads raised ranks target link to → interrupt ≡ at choice link → next ≡ at from interrupt → is_raised raised (at choice link) ≡ true → IsMoving places start (set choice link to) loads raised ranks target next interrupt
moving_step places start choice loads raised from ranks target link to interrupt next long chained moving ei en up = rw (en, ei) (moving_more places start choice loads raised from ranks target link to long chained moving up)

pub nearer : (places : List (List ℕ)) (start choice loads : List ℕ) (raised : List Bool) (from ranks : List ℕ) (target link to interrupt next : ℕ) → length choice ≡ length start → IsChained places start loads raised from ranks → IsMoving places start choice loads raised ranks target link to → interrupt ≡ at choice link → next ≡ at from interrupt → is_raised raised (at choice link) ≡ true → at ranks (at (set choice link to) next) < at ranks (at choice link)
nearer places start choice loads raised from ranks target link to interrupt next long chained moving ei en up =
    let step = moving_step places start choice loads raised from ranks target link to interrupt next long chained moving ei en up in
    let same = step.same next step.within (omega arith) in
    let e : at ranks (at (set choice link to) next) ≡ at ranks (at start next) = ap (at ranks) same in
    let f : at ranks (at start next) ≡ at ranks (at start (at from (at choice link))) = ap (λ j. at ranks (at start j)) (en ∙ ap (at from) ei) in
    let g : at ranks (at choice link) ≡ at ranks (at start link) = ap (at ranks) (leaves places start choice loads raised from ranks target link to long chained moving) in
    let r = earlier_rank places start choice loads raised from ranks target link to long chained moving up in
    omega arith

-- the last link of a way moves, and the loads change as the code counts them
pub shifted_end : (places : List (List ℕ)) (start choice loads : List ℕ) (raised : List Bool) (from ranks : List ℕ) (target link to root taken has : ℕ) → length choice ≡ length start → target < length loads → at choice link < length loads → IsMoving places start choice loads raised ranks target link to → is_raised raised (at choice link) ≡ false → IsChained places start loads raised from ranks → root ≡ at choice link → taken ≡ at loads root → has ≡ at (set loads root (taken - 1)) target → IsShifted places start (set choice link to) loads (set (set loads root (taken - 1)) target (has + 1))
shifted_end places start choice loads raised from ranks target link to root taken has long bt br moving down chained er et eh = rw eg (rw et (rw er (shifted_last places start choice loads raised from ranks target link to long bt br moving down chained)))
  where
    far : at loads target + 2 ≤ at loads root
    far = let h = moving.high in let r = ap (λ b. at loads (at choice link) + cond b 1 0) down in let e = ap (at loads) er in omega arith

    eg : has ≡ at loads target
    eg = eh ∙ get_or-set_other loads root target (taken - 1) 0 (λ e. absurd (let f = ap (at loads) e in let g = far in omega arith))

-- the target is lower than the interrupt that loses a source
pub target_low : (places : List (List ℕ)) (start choice loads : List ℕ) (raised : List Bool) (ranks : List ℕ) (target link to root : ℕ) → IsMoving places start choice loads raised ranks target link to → is_raised raised (at choice link) ≡ false → root ≡ at choice link → at loads target + 2 ≤ at loads root
target_low places start choice loads raised ranks target link to root moving down er = let h = moving.high in let r = ap (λ b. at loads (at choice link) + cond b 1 0) down in let e = ap (at loads) er in omega arith
