-- What raising interrupts does to their heights, and how far a marking comes by it.
use Rattle.std.proofs.Common.{◌≡◌, ◌≢◌, ℕ, ◌+◌, ◌<◌, ◌≤◌, Bool, true, false, cond, List, [], length, sym, ◌∙◌, ap, arith, get_or, inl, inr, refl}
use Rattle.std.specs.Prelude.{◌⊎◌, Contains}
use Rattle.std.proofs.lemmas.Bool.{false≢true, cases_eq, cases_lt, cases_order}
use Rattle.route_model.specs.Placement.{Offers}
use Rattle.route_spread.specs.Marks.{at, is_raised, height_at, IsNew, AreRaised, IsChained, AreLevelled, IsWay, IsArranged, IsBetween, IsLater, IsListed, IsMarked}

module _ (loads : List ℕ) (before after : List Bool) (from from' : List ℕ) (link top : ℕ) (Among : ℕ → Type 0) (raised : AreRaised loads before after from from' link top Among) where
  -- an interrupt stays as high as it was, or is raised to the top
  pub same_or_new : (x : ℕ) → (height_at loads after x ≡ height_at loads before x) ⊎ (Among x × IsNew loads before from' link top x × (height_at loads after x ≡ top))
  same_or_new x = go (is_raised after x) (is_raised before x) refl refl
    where
      go : (s t : Bool) → is_raised after x ≡ s → is_raised before x ≡ t → (height_at loads after x ≡ height_at loads before x) ⊎ (Among x × IsNew loads before from' link top x × (height_at loads after x ≡ top))
      go true true e f = inl (ap (λ b. at loads x + cond b 1 0) (e ∙ sym f))
      go false false e f = inl (ap (λ b. at loads x + cond b 1 0) (e ∙ sym f))
      go false true e f = absurd (false≢true (sym e ∙ raised.kept x f))
      go true false e f = new (raised.new x e)
        where
          new : (is_raised before x ≡ true) ⊎ (Among x × IsNew loads before from' link top x) → (height_at loads after x ≡ height_at loads before x) ⊎ (Among x × IsNew loads before from' link top x × (height_at loads after x ≡ top))
          new (inl old) = absurd (false≢true (sym f ∙ old))
          new (inr n) = let h = ap (λ b. at loads x + cond b 1 0) e in let b = n.1.below in inr (n.0, n.1, omega arith)

  pub new_below : (x : ℕ) → IsNew loads before from' link top x → height_at loads before x + 1 ≡ top
  new_below x n = let h = ap (λ b. at loads x + cond b 1 0) n.low in let b = n.below in omega arith

  pub no_lower : (x : ℕ) → height_at loads before x ≤ height_at loads after x
  no_lower x = go (same_or_new x)
    where
      go : (height_at loads after x ≡ height_at loads before x) ⊎ (Among x × IsNew loads before from' link top x × (height_at loads after x ≡ top)) → height_at loads before x ≤ height_at loads after x
      go (inl e) = omega arith
      go (inr n) = let b = new_below x n.1 in let e = n.2 in omega arith

  -- what was as high as the top stays
  pub still : (x : ℕ) → top ≤ height_at loads before x → height_at loads after x ≡ height_at loads before x
  still x high = go (same_or_new x)
    where
      go : (height_at loads after x ≡ height_at loads before x) ⊎ (Among x × IsNew loads before from' link top x × (height_at loads after x ≡ top)) → height_at loads after x ≡ height_at loads before x
      go (inl e) = e
      go (inr n) = absurd (let b = new_below x n.1 in omega arith)

  -- what was no higher than the top is no higher
  pub within_top : (x : ℕ) → height_at loads before x ≤ top → height_at loads after x ≤ top
  within_top x low = go (same_or_new x)
    where
      go : (height_at loads after x ≡ height_at loads before x) ⊎ (Among x × IsNew loads before from' link top x × (height_at loads after x ≡ top)) → height_at loads after x ≤ top
      go (inl e) = omega arith
      go (inr n) = let e = n.2 in omega arith

-- A link has raised what it offers.
module _ (places : List (List ℕ)) (choice loads : List ℕ) (before after : List Bool) (from from' interrupts interrupts' ranks ranks' : List ℕ) (high high' top i l : ℕ) (known : (k : ℕ) → k < length choice → at choice k < length ranks) (below : (k x : ℕ) → Offers places k x → x < length ranks) (same_length : length ranks' ≡ length ranks) (arranged : IsArranged loads before interrupts ranks high top) (arranged' : IsArranged loads after interrupts' ranks' high' top) (later : IsLater high high' ranks ranks') (passed : i < high) (marked : IsMarked places choice loads before from ranks high i l) (bl : l < length choice) (here : at ranks (at choice l) ≡ i) (is_top : height_at loads before (at choice l) ≡ top) (raised : AreRaised loads before after from from' l top (λ x. Contains (get_or places l []) x)) where
  -- what is raised anew was lower than the top
  new_behind : (x : ℕ) → x < length ranks → IsNew loads before from' l top x → high ≤ at ranks x
  new_behind x b n = go (cases_lt (at ranks x) high)
    where
      go : (at ranks x < high) ⊎ (high ≤ at ranks x) → high ≤ at ranks x
      go (inl less) = absurd (let h = arranged.above x b less in let f = new_below loads before after from from' l top (λ y. Contains (get_or places l []) y) raised x n in omega arith)
      go (inr more) = more

  up : (x : ℕ) → height_at loads before x ≤ height_at loads after x
  up = no_lower loads before after from from' l top (λ y. Contains (get_or places l []) y) raised

  -- an interrupt that was as high as the top keeps its height and its rank
  kept_height : (x : ℕ) → x < length ranks → at ranks x < high → height_at loads after x ≡ height_at loads before x
  kept_height x b less = still loads before after from from' l top (λ y. Contains (get_or places l []) y) raised x (arranged.above x b less)

  -- raised interrupts are among the first
  raised_early : (x : ℕ) → is_raised after x ≡ true → (x < length ranks') × (at ranks' x < high')
  raised_early x r = go (raised.new x r)
    where
      go : (is_raised before x ≡ true) ⊎ (Contains (get_or places l []) x × IsNew loads before from' l top x) → (x < length ranks') × (at ranks' x < high')
      go (inl old) = let e = marked.early x old in let s = later.still x e.0 e.1 in let m = later.more in let z = same_length in let lt = e.1 in let b = e.0 in (omega arith, omega arith)
      go (inr new) = (let b = below l x new.0 in let z = same_length in omega arith, early (cases_lt (at ranks' x) high'))
        where
          early : (at ranks' x < high') ⊎ (high' ≤ at ranks' x) → at ranks' x < high'
          early (inl less) = less
          early (inr more) = absurd (let b : x < length ranks' = (let b = below l x new.0 in let z = same_length in omega arith) in let h = arranged'.below x b more in let f = ap (λ b. at loads x + cond b 1 0) r in let g = new.1.below in omega arith)

  abbrev Chain : ℕ → Type 0
  Chain x = (at from' x < length choice) × Offers places (at from' x) x × (at loads x + 1 ≤ height_at loads after (at choice (at from' x))) × (at ranks' (at choice (at from' x)) < at ranks' x)

  chained_old : (x : ℕ) → is_raised before x ≡ true → Chain x
  chained_old x was =
      let same = raised.same x was in
      let c = marked.chained in
      let linked = c.linked x was in
      let offered = c.offered x was in
      let higher = c.higher x was in
      let first = c.before x was in
      let e = marked.early x was in
      let sx = later.still x e.0 e.1 in
      let rank_less : at ranks (at choice (at from x)) < high = (let lt = e.1 in omega arith) in
      let sy = later.still (at choice (at from x)) (known (at from x) linked) rank_less in
      let u = up (at choice (at from x)) in
      rw same (linked, offered, omega arith, omega arith)

  chained_new : (x : ℕ) → Contains (get_or places l []) x → IsNew loads before from' l top x → Chain x
  chained_new x among new =
      let noted = new.noted in
      let low = new.below in
      let b = below l x among in
      let u = up (at choice l) in
      let far = new_behind x b new in
      let sx = later.behind x b far in
      let sy = later.still (at choice l) (known l bl) (omega arith) in
      rw noted (bl, among, omega arith, omega arith)

  chain_at : (x : ℕ) → is_raised after x ≡ true → Chain x
  chain_at x h = go (raised.new x h)
    where
      go : (is_raised before x ≡ true) ⊎ (Contains (get_or places l []) x × IsNew loads before from' l top x) → Chain x
      go (inl old) = chained_old x old
      go (inr new) = chained_new x new.0 new.1

  pub chained_more : IsChained places choice loads after from' ranks'
  chained_more = record {
    linked = λ x h. (chain_at x h).0;
    offered = λ x h. (chain_at x h).1;
    higher = λ x h. (chain_at x h).2;
    before = λ x h. (chain_at x h).3;
  }

  -- the link itself stands as high as before
  pub way_there : (x : ℕ) → Contains (get_or places l []) x → at loads x + 2 ≤ top → IsWay places choice loads after l x
  way_there x offered far = let u = up (at choice l) in record { within = bl; offered = offered; lower = omega arith }

  -- the interrupts up to this one keep their ranks
  rank_back : (k : ℕ) → k < length choice → at ranks' (at choice k) ≤ i → at ranks' (at choice k) ≡ at ranks (at choice k)
  rank_back k b le = go (cases_lt (at ranks (at choice k)) high)
    where
      go : (at ranks (at choice k) < high) ⊎ (high ≤ at ranks (at choice k)) → at ranks' (at choice k) ≡ at ranks (at choice k)
      go (inl less) = later.still (at choice k) (known k b) less
      go (inr more) = absurd (let s = later.behind (at choice k) (known k b) more in omega arith)

  pub here_still : at ranks' (at choice l) ≡ i
  here_still = later.still (at choice l) (known l bl) (omega arith) ∙ here

  pub top_still : height_at loads after (at choice l) ≡ top
  top_still = kept_height (at choice l) (known l bl) (omega arith) ∙ is_top

  -- all that the link offers is as high: the next link of the interrupt comes next
  pub marked_more : ((x : ℕ) → Contains (get_or places l []) x → top ≤ height_at loads after x) → (next : ℕ) → l < next → ((k : ℕ) → l < k → k < next → k < length choice → at choice k ≢ at choice l) → (one : (x y : ℕ) → x < length ranks → y < length ranks → at ranks x ≡ at ranks y → x ≡ y) → IsMarked places choice loads after from' ranks' high' i next
  marked_more done next after_l none one = record {
    chained = chained_more;
    early = raised_early;
    levelled = levelled_more;
  }
    where
      levelled_more : (k x : ℕ) → k < length choice → at ranks' (at choice k) ≤ i → (at ranks' (at choice k) ≡ i → k < next) → Offers places k x → height_at loads after (at choice k) ≤ height_at loads after x
      levelled_more k x b le before_next o = go (cases_order k l)
        where
          back : at ranks' (at choice k) ≡ at ranks (at choice k)
          back = rank_back k b le

          old : (at ranks (at choice k) ≡ i → k < l) → height_at loads after (at choice k) ≤ height_at loads after x
          old h =
              let m = marked.levelled k x b (let e = back in omega arith) h o in
              let s = kept_height (at choice k) (known k b) (let e = back in omega arith) in
              let u = up x in
              omega arith

          go : (k ≡ l) ⊎ ((k < l) ⊎ (l < k)) → height_at loads after (at choice k) ≤ height_at loads after x
          go (inl is) =
              let d = done x (rw (sym is) o) in
              let t = top_still in
              let e : height_at loads after (at choice k) ≡ height_at loads after (at choice l) = ap (λ (j : ℕ). height_at loads after (at choice j)) is in
              omega arith
          go (inr (inl less)) = old (λ e. less)
          go (inr (inr more)) = old (λ e. absurd (none k more (before_next (back ∙ e)) b (one (at choice k) (at choice l) (known k b) (known l bl) (e ∙ sym here))))

-- the first link of the next interrupt
pub marked_begins : (places : List (List ℕ)) (choice loads : List ℕ) (raised raised' : List Bool) (from from' ranks ranks' : List ℕ) (high high' i first : ℕ) → raised' ≡ raised → from' ≡ from → ranks' ≡ ranks → high ≤ high' → IsMarked places choice loads raised from ranks high i 0 → ((k : ℕ) → k < length choice → at ranks (at choice k) ≡ i → first ≤ k) → IsMarked places choice loads raised' from' ranks' high' i first
marked_begins places choice loads raised raised' from from' ranks ranks' high high' i first er ef ek more marked none = rw (er, ef, ek) record {
  chained = marked.chained;
  early = λ x h. let e = marked.early x h in (e.0, let l = e.1 in omega arith);
  levelled = λ k x b le before_first o. marked.levelled k x b le (λ e. absurd (let f = before_first e in let n = none k b e in omega arith)) o;
}

-- no link of the interrupt is left: the next interrupt comes
pub marked_past : (places : List (List ℕ)) (choice loads : List ℕ) (raised : List Bool) (from ranks : List ℕ) (high i l : ℕ) → length choice ≤ l → IsMarked places choice loads raised from ranks high i l → IsMarked places choice loads raised from ranks high (i + 1) 0
marked_past places choice loads raised from ranks high i l past marked = record {
  chained = marked.chained;
  early = marked.early;
  levelled = λ k x b le nothing o. marked.levelled k x b (within k le nothing (cases_eq (at ranks (at choice k)) (i + 1))) (λ e. omega arith) o;
}
  where
    within : (k : ℕ) → at ranks (at choice k) ≤ i + 1 → (at ranks (at choice k) ≡ i + 1 → k < 0) → (at ranks (at choice k) ≡ i + 1) ⊎ (at ranks (at choice k) ≢ i + 1) → at ranks (at choice k) ≤ i
    within k le nothing (inl e) = absurd (let f = nothing e in omega arith)
    within k le nothing (inr ne) = omega arith

pub between_past : (loads : List ℕ) (raised : List Bool) (interrupts ranks : List ℕ) (high top i x : ℕ) → IsArranged loads raised interrupts ranks high top → i < high → x < length ranks → at ranks x ≡ i → height_at loads raised x ≡ top → IsBetween loads raised interrupts ranks high (i + 1)
between_past loads raised interrupts ranks high top i x arranged passed bx here is = record {
  listed = arranged.listed;
  falling = arranged.falling;
  begun = omega arith;
  even = λ y z by bz less more. let a = arranged.above y by less in let f = arranged.falling x z bx bz (omega arith) in omega arith;
}

-- nothing is marked
pub marked_none : (places : List (List ℕ)) (choice loads : List ℕ) (raised : List Bool) (from ranks : List ℕ) (high : ℕ) → ((x : ℕ) → is_raised raised x ≡ false) → IsMarked places choice loads raised from ranks high 0 0
marked_none places choice loads raised from ranks high none = record {
  chained = record {
    linked = λ x h. absurd (false≢true (sym (none x) ∙ h));
    offered = λ x h. absurd (false≢true (sym (none x) ∙ h));
    higher = λ x h. absurd (false≢true (sym (none x) ∙ h));
    before = λ x h. absurd (false≢true (sym (none x) ∙ h));
  };
  early = λ x h. absurd (false≢true (sym (none x) ∙ h));
  levelled = λ k x b le nothing o. absurd (let f = nothing (omega arith) in omega arith);
}

pub between_none : (loads : List ℕ) (raised : List Bool) (interrupts ranks : List ℕ) → IsListed interrupts ranks → ((x : ℕ) → is_raised raised x ≡ false) → ((i j : ℕ) → i ≤ j → j < length interrupts → at loads (at interrupts j) ≤ at loads (at interrupts i)) → IsBetween loads raised interrupts ranks 0 0
between_none loads raised interrupts ranks listed none falling = record {
  listed = listed;
  falling = λ x y bx by le.
      let l = listed.long in
      let f = falling (at ranks x) (at ranks y) le (listed.rank y (omega arith)) in
      let ex : at loads (at interrupts (at ranks x)) ≡ at loads x = ap (at loads) (listed.there x (omega arith)) in
      let ey : at loads (at interrupts (at ranks y)) ≡ at loads y = ap (at loads) (listed.there y (omega arith)) in
      let hx = ap (λ b. at loads x + cond b 1 0) (none x) in
      let hy = ap (λ b. at loads y + cond b 1 0) (none y) in
      omega arith;
  begun = omega arith;
  even = λ x y bx by less more. absurd (omega arith);
}

-- the links of all interrupts are marked: no link offers an interrupt that is lower
pub levelled_all : (places : List (List ℕ)) (choice loads : List ℕ) (raised : List Bool) (from interrupts ranks : List ℕ) (high count : ℕ) → IsListed interrupts ranks → length interrupts ≡ count → ((k : ℕ) → k < length choice → at choice k < count) → IsMarked places choice loads raised from ranks high count 0 → AreLevelled places choice loads raised
levelled_all places choice loads raised from interrupts ranks high count listed long known marked k x b o =
    let r = listed.rank (at choice k) (let n = known k b in omega arith) in
    marked.levelled k x b (omega arith) (λ e. absurd (omega arith)) o
