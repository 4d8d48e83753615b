-- The first place of a byte, as a search answers it.
use Rattle.std.proofs.Common.{◌≡◌, ℕ, ◌≤◌, Bool, true, false, List, length, get_or, Option, Some, None, refl, sym, arith, ◌==◌}
use Rattle.std.specs.List.{position_or_len}
use Rattle.std.specs.Option.{unwrap_or}
use Rattle.std.proofs.lemmas.List.Sums.{position_or_len_is}
use Rattle.memchr.specs.Find.{IsFirstByte, is_byte}

not_true : (b : Bool) → (b ≡ true → ⊥) → b ≡ false
not_true true ne = absurd (ne refl)
not_true false ne = refl

pub first_place : (byte : ℕ) (text : List ℕ) (found : Option ℕ) → IsFirstByte (is_byte byte) text found → unwrap_or found (length text) ≡ position_or_len (λ b. b == byte) text
first_place byte text (Some i) is =
    let high = is.0.high in
    sym (position_or_len_is (λ b. b == byte) text i 0 (omega (arith, high)) (λ k lt. not_true (get_or text k 0 == byte) (is.0.before k (omega arith) lt)) (λ _. is.1))
first_place byte text None is =
    sym (position_or_len_is (λ b. b == byte) text (length text) 0 (omega arith) (λ k lt. not_true (get_or text k 0 == byte) (is k (omega arith) lt)) (λ lt. absurd (omega (arith, lt))))

pub place_within : (byte : ℕ) (text : List ℕ) (found : Option ℕ) (place : ℕ) → place ≡ unwrap_or found (length text) → IsFirstByte (is_byte byte) text found → place ≤ length text
place_within byte text (Some i) place e is =
    let high = is.0.high in
    omega (arith, e, high)
place_within byte text None place e is = omega (arith, e)
