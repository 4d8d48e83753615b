-- Loops that stop at the first refusal.
use Rattle.std.proofs.Common.{◌≡◌, ◌∙◌, ap, ℕ, ◌+◌, ◌<◌, ◌≤◌, List, [], ◌∷◌, ◌++◌, drop, length, get_or, map, Ok, Err, false, arith, sym, append-nil, refl, ne_eqb}
use Rattle.std.specs.Prelude.{IsErr, IsErrAnd, not, ◌==◌, filter}
use Rattle.std.specs.List.{range_with_len}
use Rattle.std.proofs.lemmas.List.FromFn.{filter_of_map_range_with_len_more}
use Rattle.ar_space.specs.declared.refusal.Refusal.{Refusal}
use Rattle.ar_space.specs.Outcome.{Outcome, Answers, seen}
use Rattle.ar_space.specs.Each.{each, following}
use Rattle.ar_space.proofs.EachInTurn.{each_turn, each_refused, each_done}

-- for each number of a list
module _ {A B : Type 0} (f : A → Outcome B) (xs : List A) (i : ℕ) (d : A) (done : List B) (total : Outcome (List B)) (so_far : total ≡ following done (each f (drop i xs))) where
  pub list_turn : (y : B) → i < length xs → Answers (Ok y) (f (get_or xs i d)) → total ≡ following (done ++ y ∷ []) (each f (drop (i + 1) xs))
  list_turn y lt h = so_far ∙ each_turn f xs i d y done lt (h.is tt)

  pub list_refused : {C : Type 0} (e : Refusal) (r : Outcome C) (view : C → List B) → i < length xs → Answers (Err e) (f (get_or xs i d)) → IsErr r × IsErrAnd r (λ z. z ≡ e) → Answers (seen view r) total
  list_refused e (Ok a) view lt h is = absurd (cc is.0)
  list_refused e (Err z) view lt h is = record { is = λ ne. so_far ∙ each_refused f xs i d e done lt (h.is (λ q. ne (is.1 ∙ q))) ∙ ap Err (sym is.1) }

  pub list_done : length xs ≤ i → Answers (Ok done) total
  list_done le = record { is = λ _. so_far ∙ each_done f xs i done le }

-- the numbers of a list that aren't zero: one more
module _ (f : ℕ → ℕ) (n a : ℕ) (so_far : List ℕ) (is : so_far ≡ filter (λ x. not (x == 0)) (map f (range_with_len 0 n))) (next : a ≡ f n) where
  pub number_kept : (a ≡ 0 → ⊥) → so_far ++ a ∷ [] ≡ filter (λ x. not (x == 0)) (map f (range_with_len 0 (n + 1)))
  number_kept some =
      let no : (a == 0) ≡ false = ne_eqb a 0 some in
      ap (λ xs. xs ++ a ∷ []) is ∙ sym (filter_of_map_range_with_len_more (λ x. not (x == 0)) f 0 n n (omega arith) ∙ ap (λ xs. filter (λ x. not (x == 0)) (map f (range_with_len 0 n)) ++ xs) (rw (← next, no) refl))

  pub number_passed : a ≡ 0 → so_far ≡ filter (λ x. not (x == 0)) (map f (range_with_len 0 (n + 1)))
  number_passed none = is ∙ sym (filter_of_map_range_with_len_more (λ x. not (x == 0)) f 0 n n (omega arith) ∙ rw (← next, none) (append-nil _))
