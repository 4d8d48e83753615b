-- The places of rows: a list of places is compared with the table by computing, and no number has a row but those of one byte
-- and those behind ExtOpPrefix.
use Rattle.std.specs.Prelude.{◌≡◌, ◌≢◌, ℕ, zero, suc, ◌+◌, ◌/◌, ◌<◌, ◌≤◌, List, [], ◌∷◌, length, Bool, true, false, Some, None, ◌==◌, ◌&&◌, ◌||◌, refl}
use Rattle.std.proofs.Common.{◌∙◌, sym, ap, get_or, inl, inr, arith}
use Rattle.std.specs.List.{list_all, slice_get, slice_index_or, position_or_len}
use Rattle.std.proofs.lemmas.List.Folds.{find_at}
use Rattle.std.proofs.lemmas.Bool.{eqb-true, ne_eqb}
use Rattle.std.proofs.lemmas.Bool.Decides.{eqb_tells}
use Rattle.aml_grammar.specs.declared.kinds.Row.{Row}
use Rattle.aml_grammar.specs.Opcodes.{number_of}
use Rattle.aml_grammar.specs.Table.{table, row_of}
use Rattle.aml_scan.specs.RowPlaces.{place_of}

and_both : (x y : Bool) → (x && y) ≡ true → (x ≡ true) × (y ≡ true)
and_both true true e = (refl, refl)
and_both true false e = absurd (cc e)
and_both false y e = absurd (cc e)

-- ---- a list that holds what a function gives of each index, from a first one on

abbrev pub holds_from : (ℕ → ℕ) → ℕ → List ℕ → Bool
holds_from f i [] = true
holds_from f i (x ∷ xs) = (x == f i) && holds_from f (i + 1) xs

pub held_at : (f : ℕ → ℕ) (first : ℕ) (xs : List ℕ) (i d n : ℕ) → holds_from f first xs ≡ true → i < length xs → first + i ≡ n → get_or xs i d ≡ f n
held_at f first [] i d n h lt e = absurd (omega arith)
held_at f first (x ∷ xs) zero d n h lt e =
    let both = and_both (x == f first) (holds_from f (first + 1) xs) h in
    let same : first ≡ n = omega arith in
    eqb-true x (f first) both.0 ∙ ap f same
held_at f first (x ∷ xs) (suc i) d n h lt e =
    let both = and_both (x == f first) (holds_from f (first + 1) xs) h in
    held_at f (first + 1) xs i d n both.1 (omega arith) (omega arith)

pub place_held : (first : ℕ) (xs : List ℕ) (i n : ℕ) → holds_from place_of first xs ≡ true → i < length xs → first + i ≡ n → slice_index_or xs i 0 ≡ place_of n
place_held first xs i n h lt e = held_at place_of first xs i 0 n h lt e

-- ---- numbers without a row

-- the first byte is 0 or ExtOpPrefix
abbrev is_coded : ℕ → Bool
is_coded n = (n / 256 == 0) || (n / 256 == 0x5B)

all_coded : list_all (λ r. is_coded (number_of r.0)) table ≡ true
all_coded = refl

none_among : (rows : List Row) (number : ℕ) → list_all (λ r. is_coded (number_of r.0)) rows ≡ true → is_coded number ≡ false → position_or_len (λ r. number_of r.0 == number) rows ≡ length rows
none_among [] number h other = refl
none_among (r ∷ rows) number h other =
    let both = and_both (is_coded (number_of r.0)) (list_all (λ r. is_coded (number_of r.0)) rows) h in
    elim (eqb_tells (number_of r.0) number) [
      | inl t ↦ absurd (cc (both.0, other, ap is_coded t.1))
      | inr f ↦ rw f.0 (omega (arith, none_among rows number both.1 other))
    ]

pub no_place : (number : ℕ) → number / 256 ≢ 0 → number / 256 ≢ 0x5B → place_of number ≡ length table
unfolding place_of
no_place number a b = none_among table number all_coded (rw (ne_eqb (number / 256) 0 a, ne_eqb (number / 256) 0x5B b) refl)

-- ---- the row at a place

pub got_within : (rows : List Row) (i : ℕ) (d : Row) → i < length rows → slice_get rows i ≡ Some (get_or rows i d)
got_within [] i d lt = absurd (omega arith)
got_within (r ∷ rows) zero d lt = refl
got_within (r ∷ rows) (suc i) d lt = got_within rows i d (omega arith)

got_behind : (rows : List Row) (i : ℕ) → length rows ≤ i → slice_get rows i ≡ None
got_behind [] i le = refl
got_behind (r ∷ rows) zero le = absurd (omega arith)
got_behind (r ∷ rows) (suc i) le = got_behind rows i (omega arith)

-- the row of an opcode stands at its place
pub row_there : (number : ℕ) → row_of number ≡ slice_get table (place_of number)
unfolding row_of place_of
row_there number = find_at (λ r. number_of r.0 == number) table

pub row_at_place : (number place : ℕ) (d : Row) → place ≡ place_of number → place < length table → Some (get_or table place d) ≡ row_of number
row_at_place number place d e lt = sym (row_there number ∙ ap (slice_get table) (sym e) ∙ got_within table place d lt)

pub no_row : (number place : ℕ) → place ≡ place_of number → length table ≤ place → None ≡ row_of number
no_row number place e le = sym (row_there number ∙ ap (slice_get table) (sym e) ∙ got_behind table place le)
