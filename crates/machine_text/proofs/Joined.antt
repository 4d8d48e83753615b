-- The bytes of a word behind others.
use Rattle.std.proofs.Common.{◌≡◌, ℕ, true, List, [], ◌∷◌, ◌++◌, length, Some, None, Ok, refl, ap, sym, arith}
use Rattle.std.specs.Prelude.{◌==◌, ◌%◌}
use Rattle.std.proofs.lemmas.Bool.{eqb-true}
use Rattle.hex.specs.Hex.{decode_pairs}
use Rattle.ar_space.specs.Outcome.{Outcome, ◌>>=◌}
use Rattle.machine_text.specs.Words.{word_bytes}
use Rattle.machine_text.specs.MachineText.{bad_line, here, with_word, bytes_after}
use Rattle.machine_text.proofs.Pairs.{odd_bytes}

empty_bytes : (w : List ℕ) → (length w == 0) ≡ true → word_bytes w ≡ None
unfolding word_bytes decode_pairs
empty_bytes [] none = refl
empty_bytes (x ∷ xs) none = absurd (omega (arith, eqb-true (length (x ∷ xs)) 0 none))

module _ (n : ℕ) (all w : List ℕ) where
  pub with_bytes : (bytes : List ℕ) → word_bytes w ≡ Some bytes → Ok (all ++ bytes) ≡ with_word n all w
  unfolding with_word ◌>>=◌
  with_bytes bytes is = sym (ap (λ found. here n found >>= (λ bs. Ok (all ++ bs))) is)

  pub without_bytes : word_bytes w ≡ None → bad_line n ≡ with_word n all w
  unfolding with_word ◌>>=◌
  without_bytes is = sym (ap (λ found. here n found >>= (λ bs. Ok (all ++ bs))) is)

  pub no_word : (length w == 0) ≡ true → bad_line n ≡ with_word n all w
  no_word none = without_bytes (empty_bytes w none)

  pub odd_word : length w % 2 ≡ 1 → bad_line n ≡ with_word n all w
  odd_word odd = without_bytes (odd_bytes w odd)

-- the bytes of a word that stands alone
module _ (n : ℕ) (w : List ℕ) where
  pub only_bytes : (bytes : List ℕ) → word_bytes w ≡ Some bytes → Ok bytes ≡ bytes_after n [] (w ∷ [])
  unfolding bytes_after ◌>>=◌
  only_bytes bytes is = ap (λ r. r >>= Ok) (with_bytes n [] w bytes is)

  pub only_refused : word_bytes w ≡ None → bad_line n ≡ bytes_after n [] (w ∷ [])
  unfolding bytes_after ◌>>=◌
  only_refused is = ap (λ (r : Outcome (List ℕ)). r >>= Ok) (without_bytes n [] w is)
