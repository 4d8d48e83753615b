-- The bytes of pairs of digits, read from the front.
use Rattle.std.proofs.Common.{◌≡◌, ℕ, ◌+◌, ◌*◌, ◌%◌, ◌<◌, ◌≤◌, Bool, true, false, cond, List, [], ◌∷◌, ◌++◌, length, drop, get_or, Option, Some, None, Result, Ok, Err, append_assoc, append-nil, refl, ap, sym, ◌∙◌, arith}
use Rattle.std.specs.Prelude.{◌==◌, set, take, option_and_then, option_map}
use Rattle.std.proofs.lemmas.Bool.{eqb-true}
use Rattle.std.proofs.lemmas.List.{drop_all, take_all, take_more_set}
use Rattle.hex.specs.Hex.{hex_digit_value, digit_or_error, decode_pairs, ◌>>=◌}
use Rattle.hex.specs.declared.error.FromHexError.{FromHexError}
use Rattle.hex.specs.declared.error.FromHexError.TheVariants.{OddLength}
use Rattle.machine_text.specs.Words.{decoded, word_bytes}
use Rattle.machine_text.proofs.Numbers.{at_index}

-- the byte of two digits
abbrev pub pair_of : ℕ → ℕ → Option ℕ
pair_of high low = option_and_then (λ h. option_map (λ l. h * 16 + l) (hex_digit_value low)) (hex_digit_value high)

-- a byte before others
abbrev before : Option ℕ → Option (List ℕ) → Option (List ℕ)
before first others = option_and_then (λ b. option_map (λ bs. b ∷ bs) others) first

abbrev pub pairs : List ℕ → Option (List ℕ)
pairs [] = Some []
pairs (digit ∷ []) = None
pairs (high ∷ low ∷ rest) = before (pair_of high low) (pairs rest)

abbrev answer : Result (List ℕ) FromHexError → Option (List ℕ)
answer (Ok bytes) = Some bytes
answer (Err e) = None

step : (x y : Option ℕ) (r : Result (List ℕ) FromHexError) (high low i : ℕ)
    → answer ((digit_or_error high i x >>= (λ h. digit_or_error low (i + 1) y >>= (λ l. Ok (h * 16 + l)))) >>= (λ byte. r >>= (λ bytes. Ok (byte ∷ bytes))))
    ≡ before (option_and_then (λ h. option_map (λ l. h * 16 + l) y) x) (answer r)
step (Some a) (Some b) (Ok bytes) high low i = refl
step (Some a) (Some b) (Err e) high low i = refl
step (Some a) None r high low i = refl
step None y r high low i = refl

decoded_pairs : (i : ℕ) (w : List ℕ) → answer (decode_pairs i w) ≡ pairs w
unfolding decode_pairs
decoded_pairs i [] = refl
decoded_pairs i (digit ∷ []) = refl
decoded_pairs i (high ∷ low ∷ rest) = step (hex_digit_value high) (hex_digit_value low) (decode_pairs (i + 2) rest) high low i ∙ ap (before (pair_of high low)) (decoded_pairs (i + 2) rest)

nothing_before : (first : Option ℕ) → before first None ≡ None
nothing_before (Some b) = refl
nothing_before None = refl

never_empty : (first : Option ℕ) (others : Option (List ℕ)) → before first others ≡ Some [] → ⊥
never_empty (Some b) (Some bs) e = absurd (cc e)
never_empty (Some b) None e = absurd (cc e)
never_empty None others e = absurd (cc e)

odd_none : (w : List ℕ) → length w % 2 ≡ 1 → pairs w ≡ None
odd_none [] odd = absurd (omega (arith, odd))
odd_none (digit ∷ []) odd = refl
odd_none (high ∷ low ∷ rest) odd = ap (before (pair_of high low)) (odd_none rest (omega (arith, odd))) ∙ nothing_before (pair_of high low)

some_bytes : (w : List ℕ) → (length w == 0) ≡ false → pairs w ≡ Some [] → ⊥
some_bytes [] some e = absurd (cc some)
some_bytes (digit ∷ []) some e = absurd (cc e)
some_bytes (high ∷ low ∷ rest) some e = never_empty (pair_of high low) (pairs rest) e

kept : (r : Result (List ℕ) FromHexError) (o : Option (List ℕ)) → answer r ≡ o → (o ≡ Some [] → ⊥) → decoded r ≡ o
kept (Ok []) o is some = absurd (some (sym is))
kept (Ok (b ∷ bs)) o is some = is
kept (Err e) o is some = is

by_parity : (b : Bool) (w : List ℕ) (e : FromHexError) → (length w % 2 == 1) ≡ b → (length w == 0) ≡ false → decoded (cond b (Err e) (decode_pairs 0 w)) ≡ pairs w
by_parity true w e odd some = sym (odd_none w (eqb-true _ _ odd))
by_parity false w e odd some = kept (decode_pairs 0 w) (pairs w) (decoded_pairs 0 w) (some_bytes w some)

pub word_pairs : (w : List ℕ) → (length w == 0) ≡ false → word_bytes w ≡ pairs w
unfolding word_bytes
word_pairs w some = by_parity (length w % 2 == 1) w _ refl some

pub odd_bytes : (w : List ℕ) → length w % 2 ≡ 1 → word_bytes w ≡ None
unfolding word_bytes
odd_bytes w odd = ap (λ n. decoded (cond (n == 1) (Err OddLength) (decode_pairs 0 w))) odd

-- bytes before those of the pairs that are left
abbrev pub behind : List ℕ → Option (List ℕ) → Option (List ℕ)
behind bytes others = option_map (λ bs. bytes ++ bs) others

more : (bytes : List ℕ) (b : ℕ) (others : Option (List ℕ)) → behind bytes (before (Some b) others) ≡ behind (bytes ++ b ∷ []) others
more bytes b (Some bs) = ap Some (sym (append_assoc bytes (b ∷ []) bs))
more bytes b None = refl

module _ (w out : List ℕ) (i : ℕ) (even : length w ≡ 2 * length out) where
  abbrev left : List ℕ
  left = drop (2 * i) w

  two_first : i < length out → left ≡ get_or w (2 * i) 0 ∷ get_or w (2 * i + 1) 0 ∷ drop (2 * (i + 1)) w
  two_first lt = at_index w (2 * i) 0 (omega (arith, even, lt)) ∙ ap (λ xs. get_or w (2 * i) 0 ∷ xs) (at_index w (2 * i + 1) 0 (omega (arith, even, lt)))
      ∙ ap (λ k. get_or w (2 * i) 0 ∷ get_or w (2 * i + 1) 0 ∷ drop k w) (omega arith)

  pub pairs_start : i ≡ 0 → behind (take i out) (pairs left) ≡ pairs w
  pairs_start is = ap (λ k. behind (take k out) (pairs (drop (2 * k) w))) is ∙ itself (pairs w)
    where
      itself : (o : Option (List ℕ)) → option_map (λ bs. [] ++ bs) o ≡ o
      itself (Some bs) = refl
      itself None = refl

  pub pairs_on : (b : ℕ) → i < length out → Some b ≡ pair_of (get_or w (2 * i) 0) (get_or w (2 * i + 1) 0) → behind (take i out) (pairs left) ≡ pairs w
      → behind (take (i + 1) (set out i b)) (pairs (drop (2 * (i + 1)) w)) ≡ pairs w
  pairs_on b lt is so_far = ap (λ xs. behind xs (pairs (drop (2 * (i + 1)) w))) (take_more_set out i b lt) ∙ sym (more (take i out) b (pairs (drop (2 * (i + 1)) w)))
      ∙ ap (λ p. behind (take i out) (before p (pairs (drop (2 * (i + 1)) w)))) is ∙ ap (λ xs. behind (take i out) (pairs xs)) (sym (two_first lt)) ∙ so_far

  pub pairs_bad : i < length out → None ≡ pair_of (get_or w (2 * i) 0) (get_or w (2 * i + 1) 0) → behind (take i out) (pairs left) ≡ pairs w → pairs w ≡ None
  pairs_bad lt is so_far = sym so_far ∙ ap (λ xs. behind (take i out) (pairs xs)) (two_first lt) ∙ ap (λ p. behind (take i out) (before p (pairs (drop (2 * (i + 1)) w)))) (sym is)

  pub pairs_done : length out ≤ i → behind (take i out) (pairs left) ≡ pairs w → pairs w ≡ Some out
  pairs_done le so_far = sym so_far ∙ ap (λ xs. behind (take i out) (pairs xs)) (drop_all (2 * i) w (omega (arith, even, le)))
      ∙ ap Some (append-nil (take i out) ∙ take_all i out le)

by_two : (w : List ℕ) → length w ≡ 2 → pairs w ≡ option_map (λ b. b ∷ []) (pair_of (get_or w 0 0) (get_or w 1 0))
by_two [] two = absurd (omega (arith, two))
by_two (digit ∷ []) two = absurd (omega (arith, two))
by_two (high ∷ low ∷ []) two = refl
by_two (high ∷ low ∷ c ∷ rest) two = absurd (omega (arith, two))

-- the byte of a word of two digits
pub two_digits : (w : List ℕ) → length w ≡ 2 → word_bytes w ≡ option_map (λ b. b ∷ []) (pair_of (get_or w 0 0) (get_or w 1 0))
two_digits w two = word_pairs w (ap (λ k. k == 0) two) ∙ by_two w two
