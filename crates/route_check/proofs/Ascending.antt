-- Lists whose keys ascend have no key twice, and are searched by halves.
use Rattle.std.proofs.Common.{◌≡◌, ℕ, zero, suc, ◌+◌, ◌<◌, ◌≤◌, Bool, true, false, List, [], ◌∷◌, length, map, refl, sym, ◌∙◌, ap, subst, arith, get_or, inl, inr, Result, Ok, Err}
use Rattle.std.specs.Prelude.{◌↔◌, ◌⊎◌, IsTrue, Contains, is_ok}
use Rattle.std.specs.declared.cmp.Ordering.{Ordering}
use Rattle.std.specs.declared.cmp.Ordering.TheVariants.{Less, Equal, Greater}
use Rattle.std.specs.Ordering.{MatchOrdering, is_lt, is_ge, nat_cmp, ordering_reverse}
use Rattle.std.specs.Cmp.{IsTotalOrder, tied_itself}
use Rattle.std.specs.FinMap.{nat_cmp-IsAntisymmetric, slice_cmp-IsAntisymmetric}
use Rattle.std.proofs.lemmas.Cmp.{nat_cmp_total}
use Rattle.std.specs.List.Sorted.{IsSearchInRange, IsBinarySearchResult, IsPartitionPoint, IsSortedBy}
use Rattle.std.proofs.lemmas.Bool.{cases_lt, false≢true}
use Rattle.std.proofs.lemmas.List.{length-map, get_or-map, get_or_default}
use Rattle.std.proofs.lemmas.List.Sorted.{searchable_from_sorted}
use Rattle.std.specs.Prelude.{⊤}
use Rattle.aml_path.proofs.Segments.{seg_cmp_exact}
use Rattle.aml_path.specs.Paths.{path_cmp}
use Rattle.route_model.specs.Bound.{IsDistinct}
use Rattle.route_model.proofs.Paths.{path_total}
use Rattle.route_check.specs.Ascending.{Ascends}

-- an order that tells its keys apart
pub record IsExact {K : Type 0} (order : K → K → Ordering) : Type 0 where
  pub total : IsTotalOrder order
  pub same : (x y : K) → order x y ≡ Equal → x ≡ y

not_both : (o : Ordering) → o ≡ Less → o ≡ Equal → ⊥
not_both o l e = cc (l, e)

nor_both : (o : Ordering) → o ≡ Greater → o ≡ Equal → ⊥
nor_both o l e = cc (l, e)

back : (o p : Ordering) → o ≡ ordering_reverse p → p ≡ Less → is_lt o ≡ false
back o p e l = ap is_lt (e ∙ ap ordering_reverse l)

module _ {X K : Type 0} (order : K → K → Ordering) (exact : IsExact order) (key : X → K) (xs : List X) where
  -- each key is below all those after it
  pub far : Ascends order key xs → (i j : ℕ) (d : X) → i < j → j < length xs → order (key (get_or xs i d)) (key (get_or xs j d)) ≡ Less
  far up i zero d lt b = absurd (omega arith)
  far up i (suc j) d lt b = go (cases_lt i j) (λ less. far up i j d less (omega arith))
    where
      step : order (key (get_or xs j d)) (key (get_or xs (suc j) d)) ≡ Less
      step = let e : j + 1 ≡ suc j = omega arith in subst (λ (k : ℕ). order (key (get_or xs j d)) (key (get_or xs k d)) ≡ Less) e (up j d (omega arith))

      go : (i < j) ⊎ (j ≤ i) → (i < j → order (key (get_or xs i d)) (key (get_or xs j d)) ≡ Less) → order (key (get_or xs i d)) (key (get_or xs (suc j) d)) ≡ Less
      go (inl less) before = exact.total.trans (key (get_or xs i d)) (key (get_or xs j d)) (key (get_or xs (suc j) d)) (before less) step
      go (inr more) before = let e : j ≡ i = omega arith in subst (λ (k : ℕ). order (key (get_or xs k d)) (key (get_or xs (suc j) d)) ≡ Less) e step

  at_key : (i : ℕ) (d : X) (k : K) → i < length xs → get_or (map key xs) i k ≡ key (get_or xs i d)
  at_key i d k b = get_or-map key xs i d k b

  pub ascending_distinct : Ascends order key xs → IsDistinct (map key xs)
  ascending_distinct up i j k lt b e =
      let long = length-map xs key in
      go xs refl (omega arith)
    where
      go : (ys : List X) → xs ≡ ys → j < length xs → ⊥
      go [] is in' = let z = ap length is in absurd (omega arith)
      go (d ∷ ds) is in' =
          let less = far up i j d lt in' in
          let same : key (get_or xs i d) ≡ key (get_or xs j d) = sym (at_key i d k (omega arith)) ∙ (e ∙ at_key j d k in') in
          not_both (order (key (get_or xs i d)) (key (get_or xs j d))) less (ap (order (key (get_or xs i d))) (sym same) ∙ tied_itself exact.total (key (get_or xs i d)))

  -- two neighbours with one key
  pub tied_not_distinct : (i : ℕ) (d : X) → i + 1 < length xs → order (key (get_or xs i d)) (key (get_or xs (i + 1) d)) ≡ Equal → IsDistinct (map key xs) → ⊥
  tied_not_distinct i d b tie distinct =
      let long = length-map xs key in
      let k = key d in
      distinct i (i + 1) k (omega arith) (omega arith) (at_key i d k (omega arith) ∙ (exact.same _ _ tie ∙ sym (at_key (i + 1) d k b)))

  rising : Ascends order key xs → IsSortedBy (λ a b. is_lt (order (key a) (key b))) xs
  rising up k d low b = back (order (key (get_or xs (k + 1) d)) (key (get_or xs k d))) (order (key (get_or xs k d)) (key (get_or xs (k + 1) d))) (exact.total.antisymm (key (get_or xs (k + 1) d)) (key (get_or xs k d))) (up k d b)

  -- what a search by halves finds
  pub place_found : (k : K) (i : ℕ) → IsBinarySearchResult (λ x. order (key x) k) xs (Ok i) → (d : X) → key (get_or xs i d) ≡ k
  place_found k i h d = exact.same (key (get_or xs i d)) k (h d)

  neither : (k : K) (i m : ℕ) (d : X) → IsPartitionPoint (λ x. order (key x) k ≡ Less) (λ x. order (key x) k ≡ Greater) xs i → m < length xs → order (key (get_or xs m d)) k ≡ Equal → ⊥
  neither k i m d parts b tie = go (cases_lt m i)
    where
      go : (m < i) ⊎ (i ≤ m) → ⊥
      go (inl less) = not_both (order (key (get_or xs m d)) k) (parts.0 m d (omega arith) less) tie
      go (inr more) = nor_both (order (key (get_or xs m d)) k) (parts.1 m d more b) tie

  pub none_there : (k : K) (i : ℕ) → IsBinarySearchResult (λ x. order (key x) k) xs (Err i) → Ascends order key xs → Contains (map key xs) k → ⊥
  none_there k i h up c = go xs refl
    where
      long : length (map key xs) ≡ length xs
      long = length-map xs key

      within : c.0 < length xs
      within = let b = c.1 in let e = long in omega arith

      go : (ys : List X) → xs ≡ ys → ⊥
      go [] is = let z = ap length is in let b = within in absurd (omega arith)
      go (d ∷ ds) is =
          let same : key (get_or xs c.0 d) ≡ k = sym (at_key c.0 d k within) ∙ c.2 in
          neither k i c.0 d (h (searchable_from_sorted exact.total key xs k (rising up))) within (ap (order (key (get_or xs c.0 d))) (sym same) ∙ tied_itself exact.total (key (get_or xs c.0 d)))

  pub has_key : (k : K) (i : ℕ) → i < length xs → ((d : X) → key (get_or xs i d) ≡ k) → Contains (map key xs) k
  has_key k i in' at = go xs refl
    where
      go : (ys : List X) → xs ≡ ys → Contains (map key xs) k
      go [] e = let z = ap length e in absurd (omega arith)
      go (d ∷ ds) e = let long = length-map xs key in (i, omega arith, at_key i d k in' ∙ at d)

  pub search_tells : (k : K) (r : Result ℕ ℕ) (b : Bool) → b ≡ is_ok r → IsSearchInRange r (length xs) → IsBinarySearchResult (λ x. order (key x) k) xs r → Ascends order key xs → IsTrue b ↔ Contains (map key xs) k
  search_tells k (Ok i) b is range h up = (λ _. has_key k i range (place_found k i h), λ _. is)
  search_tells k (Err i) b is range h up = (λ t. absurd (false≢true (sym is ∙ t)), λ c. absurd (none_there k i h up c))

  -- the step at which a list stops going up
  pub stopped : (step : Ordering) (i : ℕ) (x y : X) → step ≡ order (key x) (key y) → is_ge step ≡ true → i + 1 < length xs → x ≡ get_or xs i x → y ≡ get_or xs (i + 1) y → MatchOrdering step (Ascends order key xs) (IsDistinct (map key xs) → ⊥) ⊤
  stopped Less i x y is ge b at_x at_y = absurd (false≢true ge)
  stopped Equal i x y is ge b at_x at_y =
      let there : y ≡ get_or xs (i + 1) x = at_y ∙ get_or_default xs (i + 1) y x b in
      tied_not_distinct i x b (ap (λ z. order (key z) (key (get_or xs (i + 1) x))) (sym at_x) ∙ (ap (λ z. order (key x) (key z)) (sym there) ∙ sym is))
  stopped Greater i x y is ge b at_x at_y = tt

pub path_exact : IsExact path_cmp
path_exact = record { total = path_total; same = slice_cmp-IsAntisymmetric seg_cmp_exact }

pub nat_exact : IsExact nat_cmp
nat_exact = record { total = nat_cmp_total; same = nat_cmp-IsAntisymmetric }

-- the answer of a test of the steps
pub all_up : {A : Type 0} (B C : Type 0) (step : Ordering) (b : Bool) → MatchOrdering step A B C → b ≡ is_lt step → b ≡ true → A
all_up B C Less b up is yes' = up
all_up B C Equal b up is yes' = absurd (false≢true (sym is ∙ yes'))
all_up B C Greater b up is yes' = absurd (false≢true (sym is ∙ yes'))
