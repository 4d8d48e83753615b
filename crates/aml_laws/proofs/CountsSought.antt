-- Where the count of a name is found while terms are read: at the nearest place above, or at its one path.
use Rattle.std.specs.Prelude.{◌≡◌, ◌⊎◌, ◌≤◌, ◌<◌, ℕ, zero, suc, Bool, false, if◌then◌else◌, List, [], ◌∷◌, ◌++◌, length, take, Option, Some, None, option_map, refl}
use Rattle.std.proofs.Common.{arith, inl, inr, ap, ◌∙◌}
use Rattle.std.proofs.lemmas.Bool.{cases_lt}
use Rattle.aml_path.specs.declared.segment.Seg.{Seg}
use Rattle.aml_path.specs.Paths.{Name, is_searched}
use Rattle.aml_arities.specs.Arities.{arity_at, or_else, known, search_up, found, or_path, arity_where, arity_of}
use Rattle.aml_arities.specs.declared.arities.Arity.{Arity}
use Rattle.aml_laws.specs.CountsTold.{IsNearestCount, HasNoCount}
use Rattle.aml_laws.specs.NamesWritten.{single, StandsFor}
use Rattle.aml_laws.proofs.NamesWritten.{stands_at}

module _ (told : List Arity) (scope : List Seg) where
  known_by : (p : List Seg) (o : Option ℕ) → arity_at told p ≡ o → known told p ≡ option_map (λ n. p) o
  known_by p o is = ap (λ x. option_map (λ n. p) x) is

  -- ---- upwards

  further_up : (segments : List Seg) (k count n : ℕ) → k ≤ suc n → arity_at told (take k scope ++ segments) ≡ Some count → ((j : ℕ) → k < j → j ≤ suc n → arity_at told (take j scope ++ segments) ≡ None)
      → (k ≤ n → search_up told scope segments n ≡ Some (take k scope ++ segments)) → (k < suc n) ⊎ (suc n ≤ k)
      → or_else (known told (take (suc n) scope ++ segments)) (search_up told scope segments n) ≡ Some (take k scope ++ segments)
  further_up segments k count n le is none further (inl less) =
      ap (λ o. or_else o (search_up told scope segments n)) (known_by (take (suc n) scope ++ segments) None (none (suc n) less (omega arith))) ∙ further (omega arith)
  further_up segments k count n le is none further (inr top) =
      let same : suc n ≡ k = omega arith in
      ap (λ o. or_else o (search_up told scope segments n)) (known_by (take (suc n) scope ++ segments) (Some count) (ap (λ i. arity_at told (take i scope ++ segments)) same ∙ is))
      ∙ ap (λ i. Some (take i scope ++ segments)) same

  found_up : (segments : List Seg) (k count n : ℕ) → k ≤ n → arity_at told (take k scope ++ segments) ≡ Some count → ((j : ℕ) → k < j → j ≤ n → arity_at told (take j scope ++ segments) ≡ None)
      → search_up told scope segments n ≡ Some (take k scope ++ segments)
  unfolding search_up
  found_up segments zero count zero le is none = known_by (take zero scope ++ segments) (Some count) is
  found_up segments (suc k) count zero le is none = absurd (omega arith)
  found_up segments k count (suc n) le is none = further_up segments k count n le is none (λ within. found_up segments k count n within is (λ j h i. none j h (omega arith))) (cases_lt k (suc n))

  nowhere_up : (segments : List Seg) (n : ℕ) → ((j : ℕ) → j ≤ n → arity_at told (take j scope ++ segments) ≡ None) → search_up told scope segments n ≡ None
  unfolding search_up
  nowhere_up segments zero none = known_by (take zero scope ++ segments) None (none zero (omega arith))
  nowhere_up segments (suc n) none =
      ap (λ o. or_else o (search_up told scope segments n)) (known_by (take (suc n) scope ++ segments) None (none (suc n) (omega arith))) ∙ nowhere_up segments n (λ j le. none j (omega arith))

  -- ---- where a name is found

  single_found : (s : Seg) (path : List Seg) (k count : ℕ) → IsNearestCount told scope (s ∷ []) k count → found told scope (single s) path ≡ Some (take k scope ++ s ∷ [])
  unfolding found
  single_found s path k count near = found_up (s ∷ []) k count (length scope) near.within near.has near.none_nearer

  single_nowhere : (s : Seg) (path : List Seg) → HasNoCount told scope (s ∷ []) → found told scope (single s) path ≡ None
  unfolding found
  single_nowhere s path none = nowhere_up (s ∷ []) (length scope) none

  by_search : (n : Name) (path : List Seg) (searched : Bool) → is_searched n ≡ searched → found told scope n path ≡ (if searched then search_up told scope n.segments (length scope) else known told path)
  unfolding found
  by_search n path searched is = ap (λ b. if b then search_up told scope n.segments (length scope) else known told path) is

  one_place : (n : Name) (path : List Seg) (o : Option ℕ) → StandsFor scope n path → arity_at told path ≡ o → found told scope n path ≡ option_map (λ x. path) o
  one_place n path o stands is = by_search n path false (stands_at scope n path stands).one ∙ known_by path o is

  -- ---- how many arguments it takes

  counted_where : (n : Name) (path : List Seg) (place : Option (List Seg)) → found told scope n path ≡ place → arity_of told scope n path ≡ arity_where told place
  unfolding arity_of
  counted_where n path place is = ap (arity_where told) is

  at_place : (p : List Seg) (count : ℕ) → arity_at told p ≡ Some count → arity_where told (Some p) ≡ count
  at_place p count is = rw is refl

  pub nearest_counts : (path : List Seg) (s : Seg) (k count : ℕ) → IsNearestCount told scope (s ∷ []) k count → arity_of told scope (single s) path ≡ count
  nearest_counts path s k count near = counted_where (single s) path (Some (take k scope ++ s ∷ [])) (single_found s path k count near) ∙ at_place (take k scope ++ s ∷ []) count near.has

  pub none_counts : (path : List Seg) (s : Seg) → HasNoCount told scope (s ∷ []) → arity_of told scope (single s) path ≡ 0
  none_counts path s none = counted_where (single s) path None (single_nowhere s path none)

  pub path_counts : (path : List Seg) (n : Name) (count : ℕ) → StandsFor scope n path → arity_at told path ≡ Some count → arity_of told scope n path ≡ count
  path_counts path n count stands is = counted_where n path (Some path) (one_place n path (Some count) stands is) ∙ at_place path count is

  pub path_without_count : (path : List Seg) (n : Name) → StandsFor scope n path → arity_at told path ≡ None → arity_of told scope n path ≡ 0
  path_without_count path n stands none = counted_where n path None (one_place n path None stands none)

  -- ---- where the list of a Scope is read

  pub list_at_nearest : (path : List Seg) (s : Seg) (k count : ℕ) → IsNearestCount told scope (s ∷ []) k count → or_path path (found told scope (single s) path) ≡ take k scope ++ s ∷ []
  list_at_nearest path s k count near = ap (or_path path) (single_found s path k count near)

  pub list_at_none : (path : List Seg) (s : Seg) → HasNoCount told scope (s ∷ []) → or_path path (found told scope (single s) path) ≡ path
  list_at_none path s none = ap (or_path path) (single_nowhere s path none)

  list_by_count : (n : Name) (path : List Seg) (o : Option ℕ) → StandsFor scope n path → arity_at told path ≡ o → or_path path (found told scope n path) ≡ path
  list_by_count n path None stands is = ap (or_path path) (one_place n path None stands is)
  list_by_count n path (Some count) stands is = ap (or_path path) (one_place n path (Some count) stands is)

  pub list_at_path : (path : List Seg) (n : Name) → StandsFor scope n path → or_path path (found told scope n path) ≡ path
  list_at_path path n stands = list_by_count n path (arity_at told path) stands refl
