-- The order of interrupts by their heights, and what raising one of them does to it.
use Rattle.std.proofs.Common.{◌≡◌, ◌≢◌, ℕ, ◌+◌, ◌<◌, ◌≤◌, Bool, List, length, set, sym, ◌∙◌, ap, arith, get_or-set_same, get_or-set_other, inl, inr}
use Rattle.std.specs.Prelude.{◌⊎◌}
use Rattle.std.proofs.lemmas.Bool.{cases_eq, cases_lt}
use Rattle.std.proofs.lemmas.List.{length-set}
use Rattle.route_spread.specs.Marks.{at, height_at, IsListed, IsPromoted, IsArranged, IsBetween}

-- no two interrupts have one rank
pub one_rank : (interrupts ranks : List ℕ) → IsListed interrupts ranks → (x y : ℕ) → x < length ranks → y < length ranks → at ranks x ≡ at ranks y → x ≡ y
one_rank interrupts ranks listed x y bx by e =
    let l = listed.long in
    sym (listed.there x (omega arith)) ∙ ap (at interrupts) e ∙ listed.there y (omega arith)

module _ (interrupts interrupts' ranks ranks' : List ℕ) (i high : ℕ) (listed : IsListed interrupts ranks) (bi : i < length ranks) (first_within : high < length interrupts) (promoted : IsPromoted i high interrupts interrupts' ranks ranks') where
  other : ℕ
  other = at interrupts high

  rank_i : at ranks i < length interrupts
  rank_i = listed.rank i (let l = listed.long in omega arith)

  other_within : at interrupts high < length interrupts
  other_within = listed.known high first_within

  other_rank : at ranks (at interrupts high) ≡ high
  other_rank = listed.ranked high first_within

  pub ranks_long : length ranks' ≡ length ranks
  ranks_long = ap length promoted.ranked ∙ (length-set (set ranks (at interrupts high) (at ranks i)) i high ∙ length-set ranks (at interrupts high) (at ranks i))

  pub interrupts_long : length interrupts' ≡ length interrupts
  interrupts_long = ap length promoted.put ∙ (length-set (set interrupts (at ranks i) (at interrupts high)) high i ∙ length-set interrupts (at ranks i) (at interrupts high))

  -- the new ranks
  pub rank_here : at ranks' i ≡ high
  rank_here = ap (λ (xs : List ℕ). at xs i) promoted.ranked ∙ get_or-set_same (set ranks (at interrupts high) (at ranks i)) i high 0 (let l = length-set ranks (at interrupts high) (at ranks i) in omega arith)

  pub rank_first : at interrupts high ≢ i → at ranks' (at interrupts high) ≡ at ranks i
  rank_first ne = ap (λ (xs : List ℕ). at xs (at interrupts high)) promoted.ranked ∙ (get_or-set_other (set ranks (at interrupts high) (at ranks i)) i (at interrupts high) high 0 ne ∙ get_or-set_same ranks (at interrupts high) (at ranks i) 0 (let w = other_within in let l = listed.long in omega arith))

  pub rank_other : (x : ℕ) → x ≢ i → x ≢ at interrupts high → at ranks' x ≡ at ranks x
  rank_other x ni nf = ap (λ (xs : List ℕ). at xs x) promoted.ranked ∙ (get_or-set_other (set ranks (at interrupts high) (at ranks i)) i x high 0 ni ∙ get_or-set_other ranks (at interrupts high) x (at ranks i) 0 nf)

  at_high : at interrupts' high ≡ i
  at_high = ap (λ (xs : List ℕ). at xs high) promoted.put ∙ get_or-set_same (set interrupts (at ranks i) (at interrupts high)) high i 0 (let l = length-set interrupts (at ranks i) (at interrupts high) in omega arith)

  at_rank : at ranks i ≢ high → at interrupts' (at ranks i) ≡ at interrupts high
  at_rank ne = ap (λ (xs : List ℕ). at xs (at ranks i)) promoted.put ∙ (get_or-set_other (set interrupts (at ranks i) (at interrupts high)) high (at ranks i) i 0 ne ∙ get_or-set_same interrupts (at ranks i) (at interrupts high) 0 rank_i)

  at_other : (j : ℕ) → j ≢ high → j ≢ at ranks i → at interrupts' j ≡ at interrupts j
  at_other j nh nr = ap (λ (xs : List ℕ). at xs j) promoted.put ∙ (get_or-set_other (set interrupts (at ranks i) (at interrupts high)) high j i 0 nh ∙ get_or-set_other interrupts (at ranks i) j (at interrupts high) 0 nr)

  -- the first of the lower ones is this very interrupt exactly where its rank is that
  same_first : at ranks i ≡ high → at interrupts high ≡ i
  same_first e = ap (at interrupts) (sym e) ∙ listed.there i (let l = listed.long in omega arith)

  first_same : at interrupts high ≡ i → at ranks i ≡ high
  first_same e = ap (at ranks) (sym e) ∙ other_rank

  pub promoted_listed : IsListed interrupts' ranks'
  promoted_listed = record {
    long = let a = ranks_long in let b = interrupts_long in let l = listed.long in omega arith;
    known = λ j b. let l = interrupts_long in rw l (known j (omega arith) (cases_eq j high) (cases_eq j (at ranks i)));
    ranked = λ j b. ranked j (let l = interrupts_long in omega arith) (cases_eq j high) (cases_eq j (at ranks i));
    rank = λ x b. let l = interrupts_long in rw l (rank x (omega arith) (cases_eq x i) (cases_eq x (at interrupts high)));
    there = λ x b. there x (let l = interrupts_long in omega arith) (cases_eq x i) (cases_eq x (at interrupts high));
  }
    where
      known : (j : ℕ) → j < length interrupts → (j ≡ high) ⊎ (j ≢ high) → (j ≡ at ranks i) ⊎ (j ≢ at ranks i) → at interrupts' j < length interrupts
      known j b (inl e) r = let h = at_high in let f : at interrupts' j ≡ at interrupts' high = ap (at interrupts') e in let l = listed.long in omega arith
      known j b (inr ne) (inl e) = let f : at interrupts' j ≡ at interrupts' (at ranks i) = ap (at interrupts') e in let h = at_rank (λ z. ne (e ∙ z)) in let w = other_within in omega arith
      known j b (inr ne) (inr nf) = let h = at_other j ne nf in let k = listed.known j b in omega arith

      ranked : (j : ℕ) → j < length interrupts → (j ≡ high) ⊎ (j ≢ high) → (j ≡ at ranks i) ⊎ (j ≢ at ranks i) → at ranks' (at interrupts' j) ≡ j
      ranked j b (inl e) r = ap (at ranks') (ap (at interrupts') e ∙ at_high) ∙ (rank_here ∙ sym e)
      ranked j b (inr ne) (inl e) = ap (at ranks') (ap (at interrupts') e ∙ at_rank (λ z. ne (e ∙ z))) ∙ (rank_first (λ z. ne (e ∙ first_same z)) ∙ sym e)
      ranked j b (inr ne) (inr nf) = ap (at ranks') (at_other j ne nf) ∙ (rank_other (at interrupts j) (λ z. nf (sym (listed.ranked j b) ∙ ap (at ranks) z)) (λ z. ne (sym (listed.ranked j b) ∙ (ap (at ranks) z ∙ other_rank))) ∙ listed.ranked j b)

      rank : (x : ℕ) → x < length interrupts → (x ≡ i) ⊎ (x ≢ i) → (x ≡ at interrupts high) ⊎ (x ≢ at interrupts high) → at ranks' x < length interrupts
      rank x b (inl e) o = let h = rank_here in let f : at ranks' x ≡ at ranks' i = ap (at ranks') e in omega arith
      rank x b (inr ne) (inl e) = let f : at ranks' x ≡ at ranks' (at interrupts high) = ap (at ranks') e in let h = rank_first (λ z. ne (e ∙ z)) in let w = rank_i in omega arith
      rank x b (inr ne) (inr nf) = let h = rank_other x ne nf in let r = listed.rank x b in omega arith

      there : (x : ℕ) → x < length interrupts → (x ≡ i) ⊎ (x ≢ i) → (x ≡ at interrupts high) ⊎ (x ≢ at interrupts high) → at interrupts' (at ranks' x) ≡ x
      there x b (inl e) o = ap (at interrupts') (ap (at ranks') e ∙ rank_here) ∙ (at_high ∙ sym e)
      there x b (inr ne) (inl e) = ap (at interrupts') (ap (at ranks') e ∙ rank_first (λ z. ne (e ∙ z))) ∙ (at_rank (λ z. ne (e ∙ same_first z)) ∙ sym e)
      there x b (inr ne) (inr nf) = ap (at interrupts') (rank_other x ne nf) ∙ (at_other (at ranks x) (λ z. nf (sym (listed.there x b) ∙ ap (at interrupts) z)) (λ z. ne (one_rank interrupts ranks listed x i (let l = listed.long in omega arith) bi z)) ∙ listed.there x b)

  -- an interrupt that is lower by one is raised
  module _ (loads : List ℕ) (before after : List Bool) (top : ℕ) (behind : high ≤ at ranks i) (arranged : IsArranged loads before interrupts ranks high top) (low : height_at loads before i + 1 ≡ top) (raised : height_at loads after i ≡ top) (same : (x : ℕ) → x ≢ i → height_at loads after x ≡ height_at loads before x) where
    -- the first of the lower ones is lower by one too
    first_low : height_at loads before (at interrupts high) + 1 ≡ top
    first_low =
        let l = listed.long in
        let w = other_within in
        let f = arranged.falling (at interrupts high) i (omega arith) bi (let r = other_rank in omega arith) in
        let b = arranged.below (at interrupts high) (omega arith) (let r = other_rank in omega arith) in
        omega arith

    above' : (x : ℕ) → x < length ranks → at ranks' x < high + 1 → (x ≡ i) ⊎ (x ≢ i) → (x ≡ at interrupts high) ⊎ (x ≢ at interrupts high) → top ≤ height_at loads after x
    above' x b le (inl e) o = let f : height_at loads after x ≡ height_at loads after i = ap (height_at loads after) e in omega arith
    above' x b le (inr ne) (inl e) = absurd (ne (e ∙ same_first (let h = rank_first (λ z. ne (e ∙ z)) in let f : at ranks' x ≡ at ranks' (at interrupts high) = ap (at ranks') e in omega arith)))
    above' x b le (inr ne) (inr nf) =
        let h = rank_other x ne nf in
        let s = same x ne in
        let a = arranged.above x b (less (cases_eq (at ranks x) high)) in
        omega arith
      where
        less : (at ranks x ≡ high) ⊎ (at ranks x ≢ high) → at ranks x < high
        less (inl z) = absurd (nf (sym (listed.there x (let l = listed.long in omega arith)) ∙ ap (at interrupts) z))
        less (inr nz) = let h = rank_other x ne nf in omega arith

    below' : (x : ℕ) → x < length ranks → high + 1 ≤ at ranks' x → (x ≡ i) ⊎ (x ≢ i) → (x ≡ at interrupts high) ⊎ (x ≢ at interrupts high) → height_at loads after x < top
    below' x b le (inl e) o = absurd (let h = rank_here in let f : at ranks' x ≡ at ranks' i = ap (at ranks') e in omega arith)
    below' x b le (inr ne) (inl e) = let s = same x ne in let f : height_at loads before x ≡ height_at loads before (at interrupts high) = ap (height_at loads before) e in let l = first_low in omega arith
    below' x b le (inr ne) (inr nf) = let h = rank_other x ne nf in let s = same x ne in let a = arranged.below x b (omega arith) in omega arith

    falling' : (x y : ℕ) → x < length ranks → y < length ranks → at ranks' x ≤ at ranks' y → (at ranks' x < high + 1) ⊎ (high + 1 ≤ at ranks' x) → (y ≡ i) ⊎ (y ≢ i) → (x ≡ at interrupts high) ⊎ (x ≢ at interrupts high) → (y ≡ at interrupts high) ⊎ (y ≢ at interrupts high) → height_at loads after y ≤ height_at loads after x
    -- the first ones are as high as any that is no higher than the top
    falling' x y bx by le (inl early) (inl e) ox oy =
        let a = above' x bx early (cases_eq x i) (cases_eq x (at interrupts high)) in
        let f : height_at loads after y ≡ height_at loads after i = ap (height_at loads after) e in
        omega arith
    falling' x y bx by le (inl early) (inr ne) ox oy = go (cases_lt (at ranks' y) (high + 1)) (cases_eq x i)
      where
        go : (at ranks' y < high + 1) ⊎ (high + 1 ≤ at ranks' y) → (x ≡ i) ⊎ (x ≢ i) → height_at loads after y ≤ height_at loads after x
        go (inr late) c = let a = above' x bx early (cases_eq x i) (cases_eq x (at interrupts high)) in let b = below' y by late (cases_eq y i) (cases_eq y (at interrupts high)) in omega arith
        go (inl soon) (inl e) = absurd (y_before (cases_eq y (at interrupts high)))
          where
            y_before : (y ≡ at interrupts high) ⊎ (y ≢ at interrupts high) → ⊥
            y_before (inl z) = let h = rank_first (λ w. ne (z ∙ w)) in let f : at ranks' y ≡ at ranks' (at interrupts high) = ap (at ranks') z in ne (z ∙ same_first (omega arith))
            y_before (inr nz) =
                let h = rank_other y ne nz in
                let r = rank_here in
                let f : at ranks' x ≡ at ranks' i = ap (at ranks') e in
                let z : at ranks y ≡ high = omega arith in
                nz (sym (listed.there y (let l = listed.long in omega arith)) ∙ ap (at interrupts) z)
        go (inl soon) (inr nx) = both (cases_eq x (at interrupts high)) (cases_eq y (at interrupts high))
          where
            both : (x ≡ at interrupts high) ⊎ (x ≢ at interrupts high) → (y ≡ at interrupts high) ⊎ (y ≢ at interrupts high) → height_at loads after y ≤ height_at loads after x
            both (inl z) w = absurd (let h = rank_first (λ v. nx (z ∙ v)) in let f : at ranks' x ≡ at ranks' (at interrupts high) = ap (at ranks') z in nx (z ∙ same_first (omega arith)))
            both (inr nz) (inl w) = absurd (let h = rank_first (λ v. ne (w ∙ v)) in let f : at ranks' y ≡ at ranks' (at interrupts high) = ap (at ranks') w in ne (w ∙ same_first (omega arith)))
            both (inr nz) (inr nw) =
                let hx = rank_other x nx nz in
                let hy = rank_other y ne nw in
                let sx = same x nx in
                let sy = same y ne in
                let f = arranged.falling x y bx by (omega arith) in
                omega arith
    falling' x y bx by le (inr late) (inl e) ox oy = absurd (let h = rank_here in let f : at ranks' y ≡ at ranks' i = ap (at ranks') e in omega arith)
    falling' x y bx by le (inr late) (inr ne) ox oy = go (cases_eq x i) ox oy
      where
        go : (x ≡ i) ⊎ (x ≢ i) → (x ≡ at interrupts high) ⊎ (x ≢ at interrupts high) → (y ≡ at interrupts high) ⊎ (y ≢ at interrupts high) → height_at loads after y ≤ height_at loads after x
        go (inl e) a b = absurd (let h = rank_here in let f : at ranks' x ≡ at ranks' i = ap (at ranks') e in omega arith)
        go (inr nx) (inl z) (inl w) = let f : height_at loads after y ≡ height_at loads after x = ap (height_at loads after) (w ∙ sym z) in omega arith
        go (inr nx) (inl z) (inr nw) =
            let hx = rank_first (λ v. nx (z ∙ v)) in
            let fx : at ranks' x ≡ at ranks' (at interrupts high) = ap (at ranks') z in
            let hy = rank_other y ne nw in
            let f = arranged.falling i y bi by (omega arith) in
            let l = first_low in
            let sx = same x nx in
            let sy = same y ne in
            let g : height_at loads before x ≡ height_at loads before (at interrupts high) = ap (height_at loads before) z in
            omega arith
        go (inr nx) (inr nz) (inl w) =
            let hy = rank_first (λ v. ne (w ∙ v)) in
            let fy : at ranks' y ≡ at ranks' (at interrupts high) = ap (at ranks') w in
            let hx = rank_other x nx nz in
            let f = arranged.falling x i bx bi (omega arith) in
            let l = first_low in
            let sx = same x nx in
            let sy = same y ne in
            let g : height_at loads before y ≡ height_at loads before (at interrupts high) = ap (height_at loads before) w in
            omega arith
        go (inr nx) (inr nz) (inr nw) =
            let hx = rank_other x nx nz in
            let hy = rank_other y ne nw in
            let sx = same x nx in
            let sy = same y ne in
            let f = arranged.falling x y bx by (omega arith) in
            omega arith

    pub arranged_more : IsArranged loads after interrupts' ranks' (high + 1) top
    arranged_more =
        let l = ranks_long in
        record {
          listed = promoted_listed;
          falling = λ x y bx by le. falling' x y (omega arith) (omega arith) le (cases_lt (at ranks' x) (high + 1)) (cases_eq y i) (cases_eq x (at interrupts high)) (cases_eq y (at interrupts high));
          above = λ x b le. above' x (omega arith) le (cases_eq x i) (cases_eq x (at interrupts high));
          below = λ x b le. below' x (omega arith) le (cases_eq x i) (cases_eq x (at interrupts high));
        }

-- The interrupts that are as high as the i-th were counted.
module _ (loads : List ℕ) (raised : List Bool) (interrupts ranks : List ℕ) (high i top : ℕ) (between : IsBetween loads raised interrupts ranks high i) (bi : i < length ranks) (is_top : top ≡ height_at loads raised (at interrupts i)) where
  rank_of_i : at ranks (at interrupts i) ≡ i
  rank_of_i = between.listed.ranked i (let l = between.listed.long in omega arith)

  known_i : at interrupts i < length ranks
  known_i = let l = between.listed.long in let k = between.listed.known i (omega arith) in omega arith

  pub counted_first : (x : ℕ) → x < length ranks → at ranks x < high → top ≤ height_at loads raised x
  counted_first x b less = let e = between.even x (at interrupts i) b known_i less (let r = rank_of_i in omega arith) in omega arith

  pub counted_all : (high' : ℕ) → high ≤ high' → ((x : ℕ) → x < length ranks → at ranks x < high' → top ≤ height_at loads raised x) → (high' < length ranks → height_at loads raised (at interrupts high') < top) → IsArranged loads raised interrupts ranks high' top
  counted_all high' more above end = record {
    listed = between.listed;
    falling = between.falling;
    above = above;
    below = λ x b le.
        let l = between.listed.long in
        let r = between.listed.rank x (omega arith) in
        let e = end (omega arith) in
        let k = between.listed.known high' (omega arith) in
        let s = between.listed.ranked high' (omega arith) in
        let f = between.falling (at interrupts high') x (omega arith) b (omega arith) in
        omega arith;
  }

  pub counted_past : (high' : ℕ) → high ≤ high' → (high' < length ranks → height_at loads raised (at interrupts high') < top) → i < high'
  counted_past high' more end = go (cases_lt i high')
    where
      go : (i < high') ⊎ (high' ≤ i) → i < high'
      go (inl less) = less
      go (inr ge) = absurd (let b = between.begun in let e : high' ≡ i = omega arith in let h = end (omega arith) in let f : height_at loads raised (at interrupts high') ≡ height_at loads raised (at interrupts i) = ap (λ (j : ℕ). height_at loads raised (at interrupts j)) e in omega arith)

-- what is lower than the top is not among the first
pub is_behind : (loads : List ℕ) (raised : List Bool) (interrupts ranks : List ℕ) (high top x : ℕ) → IsArranged loads raised interrupts ranks high top → x < length ranks → height_at loads raised x < top → high ≤ at ranks x
is_behind loads raised interrupts ranks high top x arranged b low = go (cases_lt (at ranks x) high)
  where
    go : (at ranks x < high) ⊎ (high ≤ at ranks x) → high ≤ at ranks x
    go (inl first) = absurd (let a = arranged.above x b first in omega arith)
    go (inr later) = later
