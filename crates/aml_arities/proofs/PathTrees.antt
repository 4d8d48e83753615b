-- Paths by number.
use Rattle.std.proofs.Common.{◌≡◌, ℕ, zero, suc, ◌+◌, ◌<◌, ◌≤◌, Bool, true, false, cond, List, [], ◌∷◌, ◌++◌, length, get_or, take, drop, ◌⊎◌, inl, inr, Option, Some, None, refl, ap, sym, subst, ◌∙◌, arith, add-one, append_assoc, append-nil, rules, length-append}
use Rattle.std.specs.Prelude.{option_and_then, option_map, if◌then◌else◌}
use Rattle.std.specs.List.{slice_get}
use Rattle.std.proofs.lemmas.List.{length_push, get_or_push, get_or_append_left, take_more, drop_more, take-append-drop}
use Rattle.std.proofs.lemmas.Bool.{cases_eq}
use Rattle.std.specs.declared.cmp.Ordering.{Ordering}
use Rattle.std.specs.declared.cmp.Ordering.TheVariants.{Less, Equal, Greater}
use Rattle.std.specs.Ordering.{nat_cmp, eq_by_cmp, is_eq, ordering_then}
use Rattle.std.specs.Cmp.{IsTotalOrder, eq_by_cmp_equiv, nat_cmp_total, then_total, on_total}
use Rattle.std.specs.Cmp.Rules.{comparing}
use Rattle.std.specs.FinMap.{IsAntisymmetric, slice_cmp-IsAntisymmetric, nat_cmp-IsAntisymmetric}
use Rattle.aml_path.specs.declared.segment.Seg.{Seg}
use Rattle.aml_path.specs.Segments.{seg_cmp}
use Rattle.aml_path.proofs.Segments.{seg_cmp_exact}
use Rattle.aml_path.specs.Paths.{path_cmp, path_eq}
use Rattle.aml_arities.specs.PathTree.{Step, step_cmp, Children, down, path_by, grown, paths_of, own, Linked, number_of, Distinct, Kept}

-- ---- only equal paths tie, and only equal steps

seg_total : IsTotalOrder seg_cmp
seg_total = search (comparing, rules) depth 9

path_total : IsTotalOrder path_cmp
path_total = search (comparing, rules) depth 9

step_total : IsTotalOrder step_cmp
step_total = then_total (on_total (λ (t : ℕ × Seg). t.0) nat_cmp_total) (on_total (λ (t : ℕ × Seg). t.1) seg_total)

only_equal : IsAntisymmetric path_cmp
only_equal = slice_cmp-IsAntisymmetric seg_cmp_exact

pub tied : (p q : List Seg) → path_eq p q ≡ true → p ≡ q
tied p q e = only_equal p q (search (rules, e))

pub itself : (p : List Seg) → path_eq p p ≡ true
itself p = (eq_by_cmp_equiv path_total).refl p

both_equal : (a b : Ordering) → is_eq (ordering_then a b) ≡ true → (a ≡ Equal) × (b ≡ Equal)
both_equal Less b is = absurd (cc is)
both_equal Equal Less is = absurd (cc is)
both_equal Equal Equal is = (refl, refl)
both_equal Equal Greater is = absurd (cc is)
both_equal Greater b is = absurd (cc is)

same_step : (p q : ℕ) (s t : Seg) → eq_by_cmp step_cmp (p, s) (q, t) ≡ true → (p ≡ q) × (s ≡ t)
same_step p q s t is = let e = both_equal (nat_cmp p q) (seg_cmp s t) is in (nat_cmp-IsAntisymmetric p q e.0, seg_cmp_exact s t e.1)

step_itself : (p : ℕ) (s : Seg) → eq_by_cmp step_cmp (p, s) (p, s) ≡ true
step_itself p s = (eq_by_cmp_equiv step_total).refl (p, s)

-- ---- numbers of paths

number_later : (p q : List Seg) (ps : List (List Seg)) (n : ℕ) (o : Option ℕ) → option_map (λ k. k + 1) o ≡ Some n → ((k : ℕ) → o ≡ Some k → (k < length ps) × (get_or ps k [] ≡ q))
    → (n < suc (length ps)) × (get_or (p ∷ ps) n [] ≡ q)
number_later p q ps n None is more = absurd (cc is)
number_later p q ps n (Some k) is more =
    let e : k + 1 ≡ n = cc is in
    let h = more k refl in
    let at : get_or (p ∷ ps) (k + 1) [] ≡ q = rw add-one h.1 in
    (omega (arith, h.0, e), ap (λ j. get_or (p ∷ ps) j []) (sym e) ∙ at)

number_by : (p q : List Seg) (ps : List (List Seg)) (n : ℕ) (b : Bool) → path_eq p q ≡ b → (if b then Some 0 else option_map (λ k. k + 1) (number_of q ps)) ≡ Some n
    → ((k : ℕ) → number_of q ps ≡ Some k → (k < length ps) × (get_or ps k [] ≡ q)) → (n < suc (length ps)) × (get_or (p ∷ ps) n [] ≡ q)
number_by p q ps n true e is more =
    let z : 0 ≡ n = cc is in
    (omega (arith, z), ap (λ j. get_or (p ∷ ps) j []) (sym z) ∙ tied p q e)
number_by p q ps n false e is more = number_later p q ps n (number_of q ps) is more

-- the path with a number
pub number_is : (q : List Seg) (ps : List (List Seg)) (n : ℕ) → number_of q ps ≡ Some n → (n < length ps) × (get_or ps n [] ≡ q)
number_is q [] n is = absurd (cc is)
number_is q (p ∷ ps) n is = number_by p q ps n (path_eq p q) refl is (number_is q ps)

kept_by : (b : Bool) (n : ℕ) (o r : Option ℕ) → ((k : ℕ) → o ≡ Some k → r ≡ Some k) → (if b then Some 0 else option_map (λ k. k + 1) o) ≡ Some n → (if b then Some 0 else option_map (λ k. k + 1) r) ≡ Some n
kept_by true n o r h is = is
kept_by false n None r h is = absurd (cc is)
kept_by false n (Some k) r h is = ap (option_map (λ k. k + 1)) (h k refl) ∙ is

pub number_kept : (q : List Seg) (ps more : List (List Seg)) (n : ℕ) → number_of q ps ≡ Some n → number_of q (ps ++ more) ≡ Some n
number_kept q [] more n is = absurd (cc is)
number_kept q (p ∷ ps) more n is = kept_by (path_eq p q) n (number_of q ps) (number_of q (ps ++ more)) (number_kept q ps more) is

back_by : (b : Bool) (n m : ℕ) (o r : Option ℕ) → n < suc m → ((k : ℕ) → k < m → o ≡ Some k → r ≡ Some k) → (if b then Some 0 else option_map (λ k. k + 1) o) ≡ Some n → (if b then Some 0 else option_map (λ k. k + 1) r) ≡ Some n
back_by true n m o r lt h is = is
back_by false n m None r lt h is = absurd (cc is)
back_by false n m (Some k) r lt h is = let e : k + 1 ≡ n = cc is in ap (option_map (λ k. k + 1)) (h k (omega (arith, lt, e)) refl) ∙ is

pub number_back : (q : List Seg) (ps more : List (List Seg)) (n : ℕ) → n < length ps → number_of q (ps ++ more) ≡ Some n → number_of q ps ≡ Some n
number_back q [] more n lt is = absurd (omega (arith, lt))
number_back q (p ∷ ps) more n lt is = back_by (path_eq p q) n (length ps) (number_of q (ps ++ more)) (number_of q ps) lt (λ k. number_back q ps more k) is

none_by : (b : Bool) (o : Option ℕ) → (if b then Some 0 else option_map (λ k. k + 1) o) ≡ None → (b ≡ false) × (o ≡ None)
none_by true o is = absurd (cc is)
none_by false None is = (refl, refl)
none_by false (Some k) is = absurd (cc is)

-- a path of the list has a number
pub number_none : (q : List Seg) (ps : List (List Seg)) (n : ℕ) → number_of q ps ≡ None → n < length ps → get_or ps n [] ≡ q → ⊥
number_none q [] n none lt at = omega (arith, lt)
number_none q (p ∷ ps) zero none lt at = let h = none_by (path_eq p q) (number_of q ps) none in cc (sym h.0 ∙ ap (path_eq p) (sym at) ∙ itself p)
number_none q (p ∷ ps) (suc n) none lt at = number_none q ps n (none_by (path_eq p q) (number_of q ps) none).1 (omega (arith, lt)) at

-- ---- the paths of steps

grown_first : (ps : List (List Seg)) (xs : List Step) (n : ℕ) → n < length ps → get_or (grown ps xs) n [] ≡ get_or ps n []
grown_first ps [] n lt = refl
grown_first ps (x ∷ xs) n lt =
    grown_first (ps ++ path_by ps x ∷ []) xs n (omega (arith, lt, length_push ps (path_by ps x)))
    ∙ get_or_append_left ps (path_by ps x ∷ []) [] n lt

grown_length : (ps : List (List Seg)) (xs : List Step) → length (grown ps xs) ≡ length ps + length xs
grown_length ps [] = omega arith
grown_length ps (x ∷ xs) = omega (arith, grown_length (ps ++ path_by ps x ∷ []) xs, length_push ps (path_by ps x))

grown_push : (ps : List (List Seg)) (xs ys : List Step) → grown ps (xs ++ ys) ≡ grown (grown ps xs) ys
grown_push ps [] ys = refl
grown_push ps (x ∷ xs) ys = grown_push (ps ++ path_by ps x ∷ []) xs ys

grown_step : (ps : List (List Seg)) (xs : List Step) (k p : ℕ) (s : Seg) → slice_get xs k ≡ Some (p, s) → p < length ps + k → get_or (grown ps xs) (length ps + k) [] ≡ get_or (grown ps xs) p [] ++ s ∷ []
grown_step ps [] k p s at lt = absurd (cc at)
grown_step ps (x ∷ xs) zero p s at lt =
    let e : x ≡ (p, s) = cc at in
    let more = ps ++ path_by ps x ∷ [] in
    let long : length more ≡ length ps + 1 = length_push ps (path_by ps x) in
    grown_first more xs (length ps + 0) (omega (arith, long))
    ∙ get_or_push ps (path_by ps x) [] (length ps + 0) (omega arith)
    ∙ ap (path_by ps) e
    ∙ ap (λ (l : List Seg). l ++ s ∷ []) (sym (grown_first more xs p (omega (arith, lt, long)) ∙ get_or_append_left ps (path_by ps x ∷ []) [] p (omega (arith, lt))))
grown_step ps (x ∷ xs) (suc k) p s at lt =
    let more = ps ++ path_by ps x ∷ [] in
    let long : length more ≡ length ps + 1 = length_push ps (path_by ps x) in
    ap (λ n. get_or (grown more xs) n []) (omega (arith, long)) ∙ grown_step more xs k p s at (omega (arith, lt, long))

pub many_paths : (steps : List Step) → length (paths_of steps) ≡ length steps + 1
unfolding paths_of
many_paths steps = omega (arith, grown_length ([] ∷ []) steps)

pub root_first : (steps : List Step) → get_or (paths_of steps) 0 [] ≡ []
unfolding paths_of
root_first steps = grown_first ([] ∷ []) steps 0 (omega arith)

pub push_paths : (steps : List Step) (x : Step) → paths_of (steps ++ x ∷ []) ≡ paths_of steps ++ path_by (paths_of steps) x ∷ []
unfolding paths_of
push_paths steps x = grown_push ([] ∷ []) steps (x ∷ [])

got : (xs : List Step) (k : ℕ) → k < length xs → (x : Step) × (slice_get xs k ≡ Some x)
got [] k lt = absurd (omega (arith, lt))
got (x ∷ xs) zero lt = (x, refl)
got (x ∷ xs) (suc k) lt = got xs k (omega (arith, lt))

got_within : (xs : List Step) (k : ℕ) (x : Step) → slice_get xs k ≡ Some x → k < length xs
got_within [] k x at = absurd (cc at)
got_within (y ∷ xs) zero x at = omega arith
got_within (y ∷ xs) (suc k) x at = let lt = got_within xs k x at in omega (arith, lt)

own_within : (steps : List Step) (n : ℕ) (x : Step) → own steps n ≡ Some x → n < length steps + 1
own_within steps zero x at = absurd (cc at)
own_within steps (suc k) x at = let lt = got_within steps k x at in omega (arith, lt)

own_path : (steps : List Step) (n p : ℕ) (s : Seg) → own steps n ≡ Some (p, s) → p < n → get_or (paths_of steps) n [] ≡ get_or (paths_of steps) p [] ++ s ∷ []
unfolding paths_of
own_path steps zero p s at lt = absurd (cc at)
own_path steps (suc k) p s at lt = ap (λ n. get_or (grown ([] ∷ []) steps) n []) (omega arith) ∙ grown_step ([] ∷ []) steps k p s at (omega (arith, lt))

pub step_path : (steps : List Step) (k p : ℕ) (s : Seg) → slice_get steps k ≡ Some (p, s) → p ≤ k → get_or (paths_of steps) (k + 1) [] ≡ get_or (paths_of steps) p [] ++ s ∷ []
step_path steps k p s at le = ap (λ n. get_or (paths_of steps) n []) (add-one k) ∙ own_path steps (suc k) p s at (omega (arith, le))

-- ---- going down

down_append : (child : Children) (n : ℕ) (p q : List Seg) → down child n (p ++ q) ≡ option_and_then (λ k. down child k q) (down child n p)
down_append child n [] q = refl
down_append child n (s ∷ ss) q = by (child n s) (λ k. down_append child k ss q)
  where
    by : (o : Option ℕ) → ((k : ℕ) → down child k (ss ++ q) ≡ option_and_then (λ j. down child j q) (down child k ss))
        → option_and_then (λ k. down child k (ss ++ q)) o ≡ option_and_then (λ k. down child k q) (option_and_then (λ k. down child k ss) o)
    by None more = refl
    by (Some k) more = more k

itself_through : (o : Option ℕ) → option_and_then (λ k. Some k) o ≡ o
itself_through None = refl
itself_through (Some k) = refl

module _ (steps : List Step) (child : Children) (linked : Linked steps child) where
  abbrev paths : List (List Seg)
  paths = paths_of steps

  root_within : 0 < length paths
  root_within = omega (arith, many_paths steps)

  reached : (a : ℕ) (q : List Seg) (n : ℕ) → a < length paths → down child a q ≡ Some n → (n < length paths) × (get_or paths n [] ≡ get_or paths a [] ++ q)
  reached a [] n lt is =
      let same : a ≡ n = cc is in
      (omega (arith, lt, same), ap (λ k. get_or paths k []) (sym same) ∙ sym (append-nil (get_or paths a [])))
  reached a (s ∷ ss) n lt is = by (child a s) refl is (λ k. reached k ss n)
    where
      by : (o : Option ℕ) → child a s ≡ o → option_and_then (λ k. down child k ss) o ≡ Some n
          → ((k : ℕ) → k < length paths → down child k ss ≡ Some n → (n < length paths) × (get_or paths n [] ≡ get_or paths k [] ++ ss))
          → (n < length paths) × (get_or paths n [] ≡ get_or paths a [] ++ s ∷ ss)
      by None at is more = absurd (cc is)
      by (Some k) at is more =
          let mine = linked.there a s k at in
          let within : k < length paths = omega (arith, own_within steps k (a, s) mine, many_paths steps) in
          let rest = more k within is in
          (rest.0, rest.1 ∙ ap (λ (l : List Seg). l ++ ss) (own_path steps k a s mine (linked.before k a s mine)) ∙ append_assoc (get_or paths a []) (s ∷ []) ss)

  found_at : (b n : ℕ) → n < b → n < length paths → down child 0 (get_or paths n []) ≡ Some n
  found_at zero n lt within = absurd (omega (arith, lt))
  found_at (suc b) zero lt within = ap (down child 0) (root_first steps)
  found_at (suc b) (suc k) lt within =
      let x = got steps k (omega (arith, within, many_paths steps)) in
      let p = x.0.0 in
      let s = x.0.1 in
      let low = linked.before (suc k) p s x.1 in
      ap (down child 0) (own_path steps (suc k) p s x.1 low)
      ∙ down_append child 0 (get_or paths p []) (s ∷ [])
      ∙ ap (option_and_then (λ j. down child j (s ∷ []))) (found_at b p (omega (arith, low, lt)) (omega (arith, low, within)))
      ∙ ap (option_and_then (λ j. Some j)) (linked.up (suc k) p s x.1)

  none_down : (q : List Seg) → number_of q paths ≡ None → (o : Option ℕ) → down child 0 q ≡ o → o ≡ None
  none_down q none None is = refl
  none_down q none (Some n) is =
      let h = reached 0 q n root_within is in
      absurd (number_none q paths n none h.0 (h.1 ∙ ap (λ (l : List Seg). l ++ q) (root_first steps)))

  -- the node that a path leads to has its number
  pub down_is : (q : List Seg) → down child 0 q ≡ number_of q paths
  down_is q = by (number_of q paths) refl
    where
      by : (o : Option ℕ) → number_of q paths ≡ o → down child 0 q ≡ o
      by None none = none_down q none (down child 0 q) refl
      by (Some n) is = let h = number_is q paths n is in ap (down child 0) (sym h.1) ∙ found_at (n + 1) n (omega arith) h.0

  pub distinct : Distinct paths
  distinct n lt = sym (down_is (get_or paths n [])) ∙ found_at (n + 1) n (omega arith) lt

  pub root_number : number_of [] paths ≡ Some 0
  root_number = sym (down_is [])

  from_node : (parent : ℕ) (rest : List Seg) → parent < length paths → number_of (get_or paths parent [] ++ rest) paths ≡ down child parent rest
  from_node parent rest lt =
      sym (down_is (get_or paths parent [] ++ rest))
      ∙ down_append child 0 (get_or paths parent []) rest
      ∙ ap (option_and_then (λ k. down child k rest)) (found_at (parent + 1) parent (omega arith) lt)

  pub child_is : (parent : ℕ) (s : Seg) → parent < length paths → child parent s ≡ number_of (get_or paths parent [] ++ s ∷ []) paths
  child_is parent s lt = sym (from_node parent (s ∷ []) lt ∙ itself_through (child parent s))

  pub none_deeper : (parent : ℕ) (s : Seg) (rest : List Seg) → parent < length paths → child parent s ≡ None → number_of (get_or paths parent [] ++ s ∷ rest) paths ≡ None
  none_deeper parent s rest lt none = from_node parent (s ∷ rest) lt ∙ ap (option_and_then (λ k. down child k rest)) none

-- ---- one step more

got_push : (xs : List Step) (x y : Step) (k : ℕ) → slice_get (xs ++ x ∷ []) k ≡ Some y → (slice_get xs k ≡ Some y) ⊎ ((k ≡ length xs) × (x ≡ y))
got_push [] x y zero at = let e : x ≡ y = cc at in inr (refl, e)
got_push [] x y (suc k) at = absurd (cc at)
got_push (z ∷ xs) x y zero at = inl at
got_push (z ∷ xs) x y (suc k) at = elim (got_push xs x y k at) [
  | inl e ↦ inl e
  | inr e ↦ inr (ap suc e.0, e.1)
]

got_kept : (xs : List Step) (x y : Step) (k : ℕ) → slice_get xs k ≡ Some y → slice_get (xs ++ x ∷ []) k ≡ Some y
got_kept [] x y k at = absurd (cc at)
got_kept (z ∷ xs) x y zero at = at
got_kept (z ∷ xs) x y (suc k) at = got_kept xs x y k at

got_last : (xs : List Step) (x : Step) → slice_get (xs ++ x ∷ []) (length xs) ≡ Some x
got_last [] x = refl
got_last (z ∷ xs) x = got_last xs x

own_push : (steps : List Step) (x y : Step) (n : ℕ) → own (steps ++ x ∷ []) n ≡ Some y → (own steps n ≡ Some y) ⊎ ((n ≡ length steps + 1) × (x ≡ y))
own_push steps x y zero at = absurd (cc at)
own_push steps x y (suc k) at = elim (got_push steps x y k at) [
  | inl e ↦ inl e
  | inr e ↦ let same = e.0 in inr (omega (arith, same), e.1)
]

own_kept : (steps : List Step) (x y : Step) (n : ℕ) → own steps n ≡ Some y → own (steps ++ x ∷ []) n ≡ Some y
own_kept steps x y zero at = absurd (cc at)
own_kept steps x y (suc k) at = got_kept steps x y k at

own_last : (steps : List Step) (x : Step) → own (steps ++ x ∷ []) (length steps + 1) ≡ Some x
own_last steps x = rw add-one (got_last steps x)

module _ (steps : List Step) (child : Children) (linked : Linked steps child) (parent : ℕ) (segment : Seg) (within : parent < length (paths_of steps)) (free : child parent segment ≡ None)
    (after : Children) (updated : (p : ℕ) (s : Seg) → after p s ≡ cond (eq_by_cmp step_cmp (parent, segment) (p, s)) (Some (length steps + 1)) (child p s)) where
  abbrev more : List Step
  more = steps ++ (parent, segment) ∷ []

  up_old : (n p : ℕ) (s : Seg) (b : Bool) → eq_by_cmp step_cmp (parent, segment) (p, s) ≡ b → child p s ≡ Some n → cond b (Some (length steps + 1)) (child p s) ≡ Some n
  up_old n p s true e is =
      let same = same_step parent p segment s e in
      absurd (cc (sym is ∙ ap (λ q. child q s) (sym same.0) ∙ ap (child parent) (sym same.1) ∙ free))
  up_old n p s false e is = is

  there_by : (n p : ℕ) (s : Seg) (b : Bool) → eq_by_cmp step_cmp (parent, segment) (p, s) ≡ b → cond b (Some (length steps + 1)) (child p s) ≡ Some n → own more n ≡ Some (p, s)
  there_by n p s true e is =
      let same = same_step parent p segment s e in
      let number : length steps + 1 ≡ n = cc is in
      ap (own more) (sym number) ∙ own_last steps (parent, segment) ∙ ap (λ q. Some (q, segment)) same.0 ∙ ap (λ (t : Seg). Some (p, t)) same.1
  there_by n p s false e is = own_kept steps (parent, segment) (p, s) n (linked.there p s n is)

  up_by : (n p : ℕ) (s : Seg) → (own steps n ≡ Some (p, s)) ⊎ ((n ≡ length steps + 1) × (◌≡◌ {A = Step} (parent, segment) (p, s))) → after p s ≡ Some n
  up_by n p s (inl e) = updated p s ∙ up_old n p s (eq_by_cmp step_cmp (parent, segment) (p, s)) refl (linked.up n p s e)
  up_by n p s (inr e) =
      let q : parent ≡ p = ap (λ (x : ℕ × Seg). x.0) e.1 in
      let t : segment ≡ s = ap (λ (x : ℕ × Seg). x.1) e.1 in
      updated p s
      ∙ ap (λ b. cond b (Some (length steps + 1)) (child p s)) (ap (eq_by_cmp step_cmp (parent, segment)) (sym e.1) ∙ step_itself parent segment)
      ∙ ap Some (sym e.0)

  before_by : (n p : ℕ) (s : Seg) → (own steps n ≡ Some (p, s)) ⊎ ((n ≡ length steps + 1) × (◌≡◌ {A = Step} (parent, segment) (p, s))) → p < n
  before_by n p s (inl e) = linked.before n p s e
  before_by n p s (inr e) =
      let q : parent ≡ p = ap (λ (x : ℕ × Seg). x.0) e.1 in
      let number = e.0 in
      omega (arith, q, number, within, many_paths steps)

  pub push_linked : Linked more after
  push_linked = record {
    up = λ n p s at. up_by n p s (own_push steps (parent, segment) (p, s) n at);
    there = λ p s n at. there_by n p s (eq_by_cmp step_cmp (parent, segment) (p, s)) refl (sym (updated p s) ∙ at);
    before = λ n p s at. before_by n p s (own_push steps (parent, segment) (p, s) n at);
  }

  -- the new node has the number after the others
  pub push_number : number_of (get_or (paths_of steps) parent [] ++ segment ∷ []) (paths_of more) ≡ Some (length steps + 1)
  push_number =
      let ps = paths_of steps in
      let p = path_by ps (parent, segment) in
      let at : get_or (paths_of more) (length steps + 1) [] ≡ p = ap (λ (l : List (List Seg)). get_or l (length steps + 1) []) (push_paths steps (parent, segment)) ∙ get_or_push ps p [] (length steps + 1) (many_paths steps) in
      let long : length (paths_of more) ≡ length steps + 2 = omega (arith, many_paths more, length_push steps (parent, segment)) in
      ap (λ (q : List Seg). number_of q (paths_of more)) (sym at) ∙ distinct more after push_linked (length steps + 1) (omega (arith, long))

pub push_kept : (steps : List Step) (x : Step) → Kept (paths_of steps) (paths_of (steps ++ x ∷ []))
push_kept steps x = record { more = path_by (paths_of steps) x ∷ []; is = push_paths steps x }

-- ---- more paths

pub kept_itself : (ps : List (List Seg)) → Kept ps ps
kept_itself ps = record { more = []; is = sym (append-nil ps) }

pub kept_more : (ps qs rs : List (List Seg)) → Kept ps qs → Kept qs rs → Kept ps rs
kept_more ps qs rs a b = record { more = a.more ++ b.more; is = b.is ∙ ap (λ (l : List (List Seg)). l ++ b.more) a.is ∙ append_assoc ps a.more b.more }

module _ (ps qs : List (List Seg)) (kept : Kept ps qs) where
  pub kept_length : length ps ≤ length qs
  kept_length = omega (arith, ap length kept.is, length-append ps kept.more)

  pub kept_path : (n : ℕ) → n < length ps → get_or qs n [] ≡ get_or ps n []
  kept_path n lt = ap (λ (l : List (List Seg)). get_or l n []) kept.is ∙ get_or_append_left ps kept.more [] n lt

  pub kept_number : (q : List Seg) (n : ℕ) → number_of q ps ≡ Some n → number_of q qs ≡ Some n
  kept_number q n is = ap (number_of q) kept.is ∙ number_kept q ps kept.more n is

  pub kept_back : (q : List Seg) (n : ℕ) → n < length ps → number_of q qs ≡ Some n → number_of q ps ≡ Some n
  kept_back q n lt is = number_back q ps kept.more n lt (ap (number_of q) (sym kept.is) ∙ is)

-- ---- segments one by one

pub taken : (xs : List Seg) (i : ℕ) (x : Seg) → i < length xs → x ≡ get_or xs i x → take (i + 1) xs ≡ take i xs ++ x ∷ []
taken xs i x lt at = take_more xs i x lt ∙ ap (λ y. take i xs ++ y ∷ []) (sym at)

pub split_at : (xs : List Seg) (i : ℕ) (x : Seg) → i < length xs → x ≡ get_or xs i x → take i xs ++ x ∷ drop (i + 1) xs ≡ xs
split_at xs i x lt at =
    ap (λ y. take i xs ++ y ∷ drop (i + 1) xs) at ∙ ap (λ (l : List Seg). take i xs ++ l) (sym (drop_more xs i x lt)) ∙ take-append-drop i xs

-- ---- the paths of another tree

nodes_by : (ps qs : List (List Seg)) (ns : List ℕ) (b node : ℕ) → length ns ≡ b + 1 → ((n : ℕ) → n < b + 1 → number_of (get_or qs n []) ps ≡ Some (get_or ns n 0)) → number_of (get_or qs (b + 1) []) ps ≡ Some node
    → (n : ℕ) → n < b + 1 + 1 → (n ≡ b + 1) ⊎ (n ≡ b + 1 → ⊥) → number_of (get_or qs n []) ps ≡ Some (get_or (ns ++ node ∷ []) n 0)
nodes_by ps qs ns b node many each last n lt (inl e) =
    ap (λ k. number_of (get_or qs k []) ps) e ∙ last ∙ ap Some (sym (get_or_push ns node 0 n (many ∙ sym e)))
nodes_by ps qs ns b node many each last n lt (inr ne) =
    let low : n < b + 1 = omega (arith, lt, ne) in
    each n low ∙ ap Some (sym (get_or_append_left ns (node ∷ []) 0 n (omega (arith, low, many))))

-- one path more has its number
pub nodes_more : (ps qs : List (List Seg)) (ns : List ℕ) (b node : ℕ) → length ns ≡ b + 1 → ((n : ℕ) → n < b + 1 → number_of (get_or qs n []) ps ≡ Some (get_or ns n 0)) → number_of (get_or qs (b + 1) []) ps ≡ Some node
    → (n : ℕ) → n < b + 1 + 1 → number_of (get_or qs n []) ps ≡ Some (get_or (ns ++ node ∷ []) n 0)
nodes_more ps qs ns b node many each last n lt = nodes_by ps qs ns b node many each last n lt (cases_eq n (b + 1))
