-- The links of each interrupt, noted from the last link on.
use Rattle.std.proofs.Common.{◌≡◌, ◌≢◌, ℕ, ◌+◌, ◌<◌, ◌≤◌, List, length, set, sym, ◌∙◌, ap, arith, get_or-set_same, get_or-set_other, inl, inr}
use Rattle.std.specs.Prelude.{◌⊎◌}
use Rattle.std.proofs.lemmas.Bool.{cases_eq}
use Rattle.std.proofs.lemmas.List.{length-set}
use Rattle.route_spread.specs.Marks.{at, AreHolders}

-- the links from one on are noted
pub record IsGathered (choice first next : List ℕ) (from : ℕ) : Type 0 where
  pub within : from ≤ length choice
  pub found : (k : ℕ) → from ≤ k → k < length choice → at first (at choice k) ≤ k
  pub has : (x : ℕ) → x < length first → at first x < length choice → at choice (at first x) ≡ x
  pub later : (x : ℕ) → x < length first → from ≤ at first x
  pub after : (l : ℕ) → from ≤ l → l < length choice → l < at next l
  pub same : (l : ℕ) → from ≤ l → l < length choice → at next l < length choice → at choice (at next l) ≡ at choice l
  pub none : (l k : ℕ) → from ≤ l → l < k → k < length choice → at choice k ≡ at choice l → at next l ≤ k

pub gathered_all : (choice first next : List ℕ) → IsGathered choice first next 0 → AreHolders choice first next
gathered_all choice first next g = record {
  found = λ k b. g.found k (omega arith) b;
  has = g.has;
  after = λ l b. g.after l (omega arith) b;
  same = λ l b. g.same l (omega arith) b;
  none = λ l k less b e. g.none l k (omega arith) less b e;
}

pub gathered_none : (choice first next : List ℕ) → ((x : ℕ) → x < length first → at first x ≡ length choice) → IsGathered choice first next (length choice)
gathered_none choice first next filled = record {
  within = omega arith;
  found = λ k le b. absurd (omega arith);
  has = λ x b less. absurd (let f = filled x b in omega arith);
  later = λ x b. let f = filled x b in omega arith;
  after = λ l le b. absurd (omega arith);
  same = λ l le b less. absurd (omega arith);
  none = λ l k le less b e. absurd (omega arith);
}

-- the link before them is noted
module _ (choice first next : List ℕ) (link : ℕ) (b : link < length choice) (known : at choice link < length first) (long : length next ≡ length choice) (g : IsGathered choice first next (link + 1)) where
  first' : List ℕ
  first' = set first (at choice link) link

  first_here : at (set first (at choice link) link) (at choice link) ≡ link
  first_here = get_or-set_same first (at choice link) link 0 known

  first_other : (x : ℕ) → x ≢ at choice link → at (set first (at choice link) link) x ≡ at first x
  first_other x ne = get_or-set_other first (at choice link) x link 0 ne

  next_here : at (set next link (at first (at choice link))) link ≡ at first (at choice link)
  next_here = get_or-set_same next link (at first (at choice link)) 0 (omega arith)

  next_other : (l : ℕ) → l ≢ link → at (set next link (at first (at choice link))) l ≡ at next l
  next_other l ne = get_or-set_other next link l (at first (at choice link)) 0 ne

  first_long : length (set first (at choice link) link) ≡ length first
  first_long = length-set first (at choice link) link

  pub gathered_more : IsGathered choice (set first (at choice link) link) (set next link (at first (at choice link))) link
  gathered_more = record {
    within = omega arith;
    found = λ k le bk. found k le bk (cases_eq k link) (cases_eq (at choice k) (at choice link));
    has = λ x bx less. has x (let f = first_long in omega arith) less (cases_eq x (at choice link));
    later = λ x bx. later x (let f = first_long in omega arith) (cases_eq x (at choice link));
    after = λ l le bl. after l le bl (cases_eq l link);
    same = λ l le bl less. same l le bl less (cases_eq l link);
    none = λ l k le less bk e. none l k le less bk e (cases_eq l link);
  }
    where
      found : (k : ℕ) → link ≤ k → k < length choice → (k ≡ link) ⊎ (k ≢ link) → (at choice k ≡ at choice link) ⊎ (at choice k ≢ at choice link) → at (set first (at choice link) link) (at choice k) ≤ k
      found k le bk s (inl e) = let h = first_here in let f : at (set first (at choice link) link) (at choice k) ≡ at (set first (at choice link) link) (at choice link) = ap (at (set first (at choice link) link)) e in omega arith
      found k le bk (inl z) (inr ne) = absurd (ne (ap (at choice) z))
      found k le bk (inr nz) (inr ne) = let h = first_other (at choice k) ne in let f = g.found k (omega arith) bk in omega arith

      has : (x : ℕ) → x < length first → at (set first (at choice link) link) x < length choice → (x ≡ at choice link) ⊎ (x ≢ at choice link) → at choice (at (set first (at choice link) link) x) ≡ x
      has x bx less (inl e) = ap (at choice) (ap (at (set first (at choice link) link)) e ∙ first_here) ∙ sym e
      has x bx less (inr ne) = ap (at choice) (first_other x ne) ∙ g.has x bx (let h = first_other x ne in omega arith)

      later : (x : ℕ) → x < length first → (x ≡ at choice link) ⊎ (x ≢ at choice link) → link ≤ at (set first (at choice link) link) x
      later x bx (inl e) = let h = first_here in let f : at (set first (at choice link) link) x ≡ at (set first (at choice link) link) (at choice link) = ap (at (set first (at choice link) link)) e in omega arith
      later x bx (inr ne) = let h = first_other x ne in let l = g.later x bx in omega arith

      after : (l : ℕ) → link ≤ l → l < length choice → (l ≡ link) ⊎ (l ≢ link) → l < at (set next link (at first (at choice link))) l
      after l le bl (inl e) = let h = next_here in let f : at (set next link (at first (at choice link))) l ≡ at (set next link (at first (at choice link))) link = ap (at (set next link (at first (at choice link)))) e in let w = g.later (at choice link) known in omega arith
      after l le bl (inr ne) = let h = next_other l ne in let a = g.after l (omega arith) bl in omega arith

      same : (l : ℕ) → link ≤ l → l < length choice → at (set next link (at first (at choice link))) l < length choice → (l ≡ link) ⊎ (l ≢ link) → at choice (at (set next link (at first (at choice link))) l) ≡ at choice l
      same l le bl less (inl e) =
          let f : at (set next link (at first (at choice link))) l ≡ at first (at choice link) = ap (at (set next link (at first (at choice link)))) e ∙ next_here in
          ap (at choice) f ∙ (g.has (at choice link) known (omega arith) ∙ sym (ap (at choice) e))
      same l le bl less (inr ne) = ap (at choice) (next_other l ne) ∙ g.same l (omega arith) bl (let h = next_other l ne in omega arith)

      none : (l k : ℕ) → link ≤ l → l < k → k < length choice → at choice k ≡ at choice l → (l ≡ link) ⊎ (l ≢ link) → at (set next link (at first (at choice link))) l ≤ k
      none l k le less bk e (inl z) =
          let f : at (set next link (at first (at choice link))) l ≡ at first (at choice link) = ap (at (set next link (at first (at choice link)))) z ∙ next_here in
          let h = g.found k (omega arith) bk in
          let w : at first (at choice k) ≡ at first (at choice link) = ap (at first) (e ∙ ap (at choice) z) in
          omega arith
      none l k le less bk e (inr ne) = let h = next_other l ne in let n = g.none l k (omega arith) less bk e in omega arith
