-- Bits as bytes, and those bytes as bits again.
use Rattle.std.proofs.Common.{◌≡◌, ◌<◌, ℕ, zero, suc, ◌+◌, ◌-◌, ◌*◌, ◌^◌, ◌≤◌, Bool, true, false, List, [], ◌∷◌, ◌++◌, length, take, drop, refl, ap, sym, length-append, ◌∙◌, subst, arith}
use Rattle.std.proofs.lemmas.List.{length-take-le, length-drop, take-append-drop}
use Rattle.std.proofs.lemmas.Nat.{pow-add}
use Rattle.aml_fields.specs.Bits.{bits_from, number_of, bits_of, bytes_within, extended, put}
use Rattle.aml_fields.proofs.BitLists.{length_from, length_of}
use Rattle.aml_fields.proofs.Numbers.{number_again, same_number}
use Rattle.aml_fields.proofs.Putting.{length_extended}

pub length_within : (n : ℕ) (bits : List Bool) → length (bytes_within n bits) ≡ n
unfolding bytes_within
length_within zero bits = refl
length_within (suc n) bits = ap suc (length_within n (drop 8 bits))

twice : (n : ℕ) → 2 ^ suc n ≡ 2 * 2 ^ n
twice n = let e : suc n ≡ 1 + n = omega arith in ap (λ k. 2 ^ k) e ∙ pow-add 2 1 n

small : (xs : List Bool) → number_of xs < 2 ^ length xs
unfolding number_of
small [] = omega arith
small (true ∷ xs) = let h = small xs in let e = twice (length xs) in omega (arith, h, e)
small (false ∷ xs) = let h = small xs in let e = twice (length xs) in omega (arith, h, e)

byte_again : (xs : List Bool) → length xs ≡ 8 → bits_from (number_of xs) 0 8 ≡ xs
byte_again xs e = same_number (bits_from (number_of xs) 0 8) xs (length_from (number_of xs) 0 8 ∙ sym e) (number_again (number_of xs) 8 (subst (λ k. number_of xs < 2 ^ k) e (small xs)))

pub bits_again : (n : ℕ) (bits : List Bool) → length bits ≡ 8 * n → bits_of (bytes_within n bits) ≡ bits
unfolding bits_of bytes_within
bits_again zero [] e = refl
bits_again zero (b ∷ bits) e = absurd (omega (arith, e))
bits_again (suc n) bits e =
    let first : length (take 8 bits) ≡ 8 = length-take-le 8 bits (omega (arith, e)) in
    let rest : length (drop 8 bits) ≡ 8 * n = let h = length-drop 8 bits in omega (arith, e, h) in
    ap (λ l. l ++ bits_of (bytes_within n (drop 8 bits))) (byte_again (take 8 bits) first)
    ∙ ap (λ l. take 8 bits ++ l) (bits_again n (drop 8 bits) rest)
    ∙ take-append-drop 8 bits

as_long : (p : ℕ) (new old : List Bool) → p + length new ≤ length old → length (put p new old) ≡ length old
as_long p new old h =
    let front = length-take-le p old (omega (arith, h)) in
    let back = length-drop (p + length new) old in
    let inner = length-append (take p old) new in
    length-append (take p old ++ new) (drop (p + length new) old) ∙ (omega (arith, front, back, inner, h))

-- bits that are put over those of bytes
pub put_length : (bytes : List ℕ) (p n : ℕ) (xs : List Bool) → p + n ≤ 8 * length bytes → length (put p (extended n xs) (bits_of bytes)) ≡ 8 * length bytes
put_length bytes p n xs h =
    let many = length_extended n xs in
    let size = length_of bytes in
    as_long p (extended n xs) (bits_of bytes) (omega (arith, many, size, h)) ∙ size
