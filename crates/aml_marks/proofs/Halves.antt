-- Ascending marks are searched by halves.
use Rattle.std.proofs.Common.{◌≡◌, ℕ, zero, suc, ◌<◌, ◌≤◌, List, [], ◌∷◌, length, Bool, true, false, Some, None, Result, Ok, Err, refl, ◌∙◌, sym, ap, arith, get_or, inl, inr}
use Rattle.std.specs.Prelude.{◌==◌, ◌⊎◌, MatchResult}
use Rattle.std.specs.Ordering.{nat_cmp, ordering_index}
use Rattle.std.specs.declared.cmp.Ordering.TheVariants.{Less, Equal, Greater}
use Rattle.std.specs.List.{AllByRecursion}
use Rattle.std.specs.List.Sorted.{IsSearchInRange, IsBinarySearchResult}
use Rattle.std.specs.FinMap.{nat_cmp-IsAntisymmetric}
use Rattle.std.proofs.lemmas.Bool.{cases_lt}
use Rattle.aml_grammar.specs.declared.marks.Mark.{Mark}
use Rattle.aml_arities.specs.Arities.{or_none}
use Rattle.aml_marks.specs.Marked.{Ascending, found_at, count_at}

all_at : (ms : List Mark) (o i : ℕ) (d : Mark) → AllByRecursion (λ n. o < n.offset) ms → i < length ms → o < (get_or ms i d).offset
all_at [] o i d h lt = absurd (omega (arith, lt))
all_at (m ∷ ms) o zero d h lt = h.0
all_at (m ∷ ms) o (suc i) d h lt = all_at ms o i d h.1 (omega (arith, lt))

-- a mark stands before each one behind it
pub ascends : (ms : List Mark) (i j : ℕ) (d : Mark) → Ascending ms → i < j → j < length ms → (get_or ms i d).offset < (get_or ms j d).offset
ascends [] i j d h lt in' = absurd (omega (arith, in'))
ascends (m ∷ ms) i zero d h lt in' = absurd (omega (arith, lt))
ascends (m ∷ ms) zero (suc j) d h lt in' = all_at ms m.offset j d h.0 (omega (arith, in'))
ascends (m ∷ ms) (suc i) (suc j) d h lt in' = ascends ms i j d h.1 (omega (arith, lt)) (omega (arith, in'))

-- the mark at an index is found at its own offset
pub found_there : (ms : List Mark) (i : ℕ) (d : Mark) → Ascending ms → i < length ms → found_at ms (get_or ms i d).offset ≡ Some (get_or ms i d).count
found_there [] i d h lt = absurd (omega (arith, lt))
found_there (m ∷ ms) zero d h lt = let same : (m.offset == m.offset) ≡ true = grind arith in rw same refl
found_there (m ∷ ms) (suc i) d h lt =
    let less = all_at ms m.offset i d h.0 (omega (arith, lt)) in
    let other : (m.offset == (get_or ms i d).offset) ≡ false = grind (arith, less) in
    rw other (found_there ms i d h.1 (omega (arith, lt)))

-- nothing is found where no mark stands
pub none_there : (ms : List Mark) (o : ℕ) → ((i : ℕ) (d : Mark) → i < length ms → ((get_or ms i d).offset == o) ≡ false) → found_at ms o ≡ None
none_there [] o h = refl
none_there (m ∷ ms) o h = let other : (m.offset == o) ≡ false = h 0 m (omega arith) in rw other (none_there ms o (λ i d lt. h (suc i) d (omega (arith, lt))))

not_equal : (x o : ℕ) (b : Bool) → (x == o) ≡ b → (x ≡ o → ⊥) → b ≡ false
not_equal x o true is other = absurd (other (grind (arith, is)))
not_equal x o false is other = refl

higher : (x y o : ℕ) → x ≤ y → ordering_index (nat_cmp x o) ≤ ordering_index (nat_cmp y o)
higher x y o le = grind (arith, le)

rising : (ms : List Mark) (o i j : ℕ) (d : Mark) → Ascending ms → j < length ms → (i < j) ⊎ (j ≤ i) → i ≤ j → ordering_index (nat_cmp (get_or ms i d).offset o) ≤ ordering_index (nat_cmp (get_or ms j d).offset o)
rising ms o i j d h lt (inl less) le = higher (get_or ms i d).offset (get_or ms j d).offset o (omega (arith, ascends ms i j d h less lt))
rising ms o i j d h lt (inr more) le = let same : i ≡ j = omega (arith, more, le) in rw same (omega arith)

tied : (x o : ℕ) → x ≡ o → nat_cmp x o ≡ Equal
tied x o e = rw e (grind arith)

-- what a search by halves finds is the count at the offset
pub found_by_halves : (ms : List Mark) (o : ℕ) (r : Result ℕ ℕ) → Ascending ms → IsSearchInRange r (length ms) → IsBinarySearchResult (λ m. nat_cmp m.offset o) ms r → MatchResult r (λ i. (d : Mark) → count_at ms o ≡ (get_or ms i d).count) (λ i. count_at ms o ≡ 0)
found_by_halves ms o (Ok i) h range found = λ d.
    let same : (get_or ms i d).offset ≡ o = nat_cmp-IsAntisymmetric (get_or ms i d).offset o (found d) in
    ap (λ k. or_none (found_at ms k)) (sym same) ∙ ap or_none (found_there ms i d h range)
found_by_halves ms o (Err i) h range found =
    let parts = found (λ a b d le lt. rising ms o a b d h lt (cases_lt a b) le) in
    ap or_none (none_there ms o (λ k d lt. not_equal (get_or ms k d).offset o ((get_or ms k d).offset == o) refl (λ same. differs k d lt parts (tied (get_or ms k d).offset o same) (cases_lt k i))))
  where
    differs : (k : ℕ) (d : Mark) → k < length ms → ((k : ℕ) (d : Mark) → 0 ≤ k → k < i → nat_cmp (get_or ms k d).offset o ≡ Less) × ((k : ℕ) (d : Mark) → i ≤ k → k < length ms → nat_cmp (get_or ms k d).offset o ≡ Greater) → nat_cmp (get_or ms k d).offset o ≡ Equal → (k < i) ⊎ (i ≤ k) → ⊥
    differs k d lt parts equal (inl less) = let e = parts.0 k d (omega arith) less in cc (e, equal)
    differs k d lt parts equal (inr more) = let e = parts.1 k d more lt in cc (e, equal)
