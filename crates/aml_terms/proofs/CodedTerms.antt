-- A byte that is an opcode by itself begins no name, and is no prefix of another opcode.
use Rattle.std.specs.Prelude.{◌≡◌, ◌<◌, ◌-◌, ◌==◌, ℕ, zero, suc, List, [], ◌∷◌, length, Bool, true, false, Option, Some, None, slice_get, if◌then◌else◌, refl}
use Rattle.std.proofs.Common.{◌∙◌, sym, ap, inl, inr, arith}
use Rattle.std.proofs.lemmas.Bool.{cases_lt}
use Rattle.aml_grammar.specs.declared.kinds.Row.{Row}
use Rattle.aml_grammar.specs.Names.{starts_name}
use Rattle.aml_grammar.specs.Table.{table, row_of}
use Rattle.aml_marks.specs.Marked.{Place, Below, over, first, after, gives, with_row, an_opcode, a_coded, a_term_in, a_term}
use Rattle.aml_marks.proofs.Walking.{some_levels}
use Rattle.aml_scan.specs.RowsAt.{row_at}
use Rattle.aml_scan.specs.declared.row_places.RowPlace.{RowPlace}

abbrev is_row : Option Row → Bool
is_row None = false
is_row (Some r) = true

abbrev is_clear : Option Row → ℕ → Bool
is_clear None b = true
is_clear (Some r) b = if b == 0x5B then false else (if starts_name b then false else true)

abbrev all_below : (ℕ → Bool) → ℕ → Bool
all_below f zero = true
all_below f (suc n) = if f n then all_below f n else false

all_clear : all_below (λ b. is_clear (row_of b) b) 256 ≡ true
unfolding row_of starts_name
all_clear = refl

last_below : (f : ℕ → Bool) (n b : ℕ) (x : Bool) → (all_below f n ≡ true → b < n → f b ≡ true) → f n ≡ x → (if x then all_below f n else false) ≡ true → b < suc n → f b ≡ true
last_below f n b false below is h lt = absurd (cc h)
last_below f n b true below is h lt =
    elim (cases_lt b n) [
      | inl less ↦ below h less
      | inr more ↦ let same : b ≡ n = omega (arith, more, lt) in ap f same ∙ is
    ]

one_below : (f : ℕ → Bool) (n b : ℕ) → all_below f n ≡ true → b < n → f b ≡ true
one_below f zero b h lt = absurd (omega (arith, lt))
one_below f (suc n) b h lt = last_below f n b (f n) (one_below f n b) refl h lt

flags : (x y : Bool) → (if x then false else (if y then false else true)) ≡ true → (x ≡ false) × (y ≡ false)
flags true y e = absurd (cc e)
flags false true e = absurd (cc e)
flags false false e = (refl, refl)

clear_row : (b : ℕ) (r : Option Row) → is_row r ≡ true → is_clear r b ≡ true → ((b == 0x5B) ≡ false) × (starts_name b ≡ false)
clear_row b None is h = absurd (cc is)
clear_row b (Some r) is h = flags (b == 0x5B) (starts_name b) h

row_within : (rows : List Row) (i : ℕ) → i < length rows → is_row (slice_get rows i) ≡ true
row_within [] i lt = absurd (omega (arith, lt))
row_within (r ∷ rows) zero lt = refl
row_within (r ∷ rows) (suc i) lt = row_within rows i (omega (arith, lt))

coded_in : (b : Below) (count : ℕ → ℕ) (element : Bool) (p : Place) → (first p.rest == 0x5B) ≡ false → starts_name (first p.rest) ≡ false → a_term_in b count element p ≡ with_row b (row_of (first p.rest)) (over 1 p)
unfolding a_term_in a_coded an_opcode after gives
coded_in b count element p e f = rw (f, e) refl

pub coded_term : (count : ℕ → ℕ) (levels : ℕ) (element : Bool) (p : Place) (o : RowPlace) → 0 < levels → first p.rest < 256 → o.place < length table → row_at o ≡ row_of (first p.rest) → with_row (a_term count (levels - 1)) (row_at o) (over 1 p) ≡ a_term count levels element p
coded_term count levels element p o some byte lt same =
    let is : is_row (row_of (first p.rest)) ≡ true = ap is_row (sym same) ∙ row_within table o.place lt in
    let x = clear_row (first p.rest) (row_of (first p.rest)) is (one_below (λ b. is_clear (row_of b) b) 256 (first p.rest) all_clear byte) in
    ap (λ r. with_row (a_term count (levels - 1)) r (over 1 p)) same
    ∙ sym (some_levels count levels element p some ∙ coded_in (a_term count (levels - 1)) count element p x.0 x.1)
