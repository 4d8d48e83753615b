-- The bits of bytes, one by one.
use Rattle.std.proofs.Common.{◌≡◌, ◌≢◌, ℕ, zero, suc, ◌+◌, ◌-◌, ◌*◌, ◌/◌, ◌%◌, ◌^◌, ◌<◌, ◌==◌, Bool, false, not, List, [], ◌∷◌, ◌++◌, length, get_or, set, ◌⊎◌, inl, inr, refl, ap, sym, ◌∙◌, subst, arith, length-append, length-set, get_or-set_same, get_or-set_other, ext_get_or}
use Rattle.std.proofs.lemmas.List.{get_or_append_left, get_or-append_right, set-append_left, set-append_right}
use Rattle.std.proofs.lemmas.Bool.{cases_eq}
use Rattle.std.specs.Int.{bit_at}
use Rattle.std.specs.Int.Bits.{bit_xor}
use Rattle.std.proofs.lemmas.Nat.Bits.{bit_at_xor, bit_at-pow_same, bit_at-pow_other, bit_at-lt, bit_at-zero}
use Rattle.std.proofs.Math.Nat.{div-add-mod, mul_comm, mod-lt}
use Rattle.aml_fields.specs.Bits.{bit, bits_from, bits_of}

pub length_from : (n i k : ℕ) → length (bits_from n i k) ≡ k
unfolding bits_from
length_from n i zero = refl
length_from n i (suc k) = ap suc (length_from n (i + 1) k)

pub from_at : (n i k j : ℕ) → j < k → get_or (bits_from n i k) j false ≡ bit n (i + j)
unfolding bits_from
from_at n i zero j l = absurd (omega arith)
from_at n i (suc k) zero l = ap (bit n) (omega arith)
from_at n i (suc k) (suc j) l = from_at n (i + 1) k j (omega arith) ∙ ap (bit n) (omega arith)

pub length_of : (bytes : List ℕ) → length (bits_of bytes) ≡ 8 * length bytes
unfolding bits_of
length_of [] = refl
length_of (b ∷ bytes) = length-append (bits_from b 0 8) (bits_of bytes) ∙ (let h = length_of bytes in let k = length_from b 0 8 in omega (arith, h, k))

pub byte_at : (b j : ℕ) → j < 8 → get_or (bits_from b 0 8) j false ≡ bit b j
byte_at b j l = from_at b 0 8 j l ∙ ap (bit b) (omega arith)

-- the j-th bit of the q-th byte
of_at : (bytes : List ℕ) (q j k : ℕ) → j < 8 → k ≡ q * 8 + j → get_or (bits_of bytes) k false ≡ bit (get_or bytes q 0) j
unfolding bits_of
of_at [] q j k l e = ap (λ x. x == 1) (sym (bit_at-zero j))
of_at (b ∷ bytes) zero j k l e =
    let same : k ≡ j = omega (arith, e) in
    ap (λ i. get_or (bits_from b 0 8 ++ bits_of bytes) i false) same ∙ get_or_append_left (bits_from b 0 8) (bits_of bytes) false j (subst (λ n. j < n) (sym (length_from b 0 8)) l) ∙ byte_at b j l
of_at (b ∷ bytes) (suc q) j k l e =
    get_or-append_right (bits_from b 0 8) (bits_of bytes) 8 k false (length_from b 0 8) (omega (arith, e))
    ∙ of_at bytes q j (k - 8) l (omega (arith, e))

split : (i : ℕ) → i ≡ i / 8 * 8 + i % 8
split i = sym (div-add-mod i 8) ∙ ap (λ x. x + i % 8) (mul_comm 8 (i / 8))

pub bit_of : (bytes : List ℕ) (i : ℕ) → get_or (bits_of bytes) i false ≡ bit (get_or bytes (i / 8) 0) (i % 8)
bit_of bytes i = of_at bytes (i / 8) (i % 8) i (mod-lt i (omega arith)) (split i)

set_at : (bytes : List ℕ) (q j k : ℕ) (v : Bool) (b' : ℕ) → j < 8 → k ≡ q * 8 + j → q < length bytes → bits_from b' 0 8 ≡ set (bits_from (get_or bytes q 0) 0 8) j v → bits_of (set bytes q b') ≡ set (bits_of bytes) k v
unfolding bits_of
set_at [] q j k v b' l e m h = absurd (omega arith)
set_at (b ∷ bytes) zero j k v b' l e m h =
    let same : k ≡ j = omega (arith, e) in
    ap (λ x. x ++ bits_of bytes) h
    ∙ sym (ap (λ i. set (bits_from b 0 8 ++ bits_of bytes) i v) same ∙ set-append_left (bits_from b 0 8) (bits_of bytes) j v (subst (λ n. j < n) (sym (length_from b 0 8)) l))
set_at (b ∷ bytes) (suc q) j k v b' l e m h =
    ap (λ x. bits_from b 0 8 ++ x) (set_at bytes q j (k - 8) v b' l (omega (arith, e)) (omega arith) h)
    ∙ sym (set-append_right (bits_from b 0 8) (bits_of bytes) 8 k v (length_from b 0 8) (omega (arith, e)))

turned : (x : ℕ) → x < 2 → ((x + 1) % 2 == 1) ≡ not (x == 1)
turned zero l = refl
turned (suc zero) l = refl
turned (suc (suc x)) l = absurd (omega arith)

kept : (x : ℕ) → x < 2 → ((x + 0) % 2 == 1) ≡ (x == 1)
kept zero l = refl
kept (suc zero) l = refl
kept (suc (suc x)) l = absurd (omega arith)

flipped_same : (b j : ℕ) → bit (bit_xor b (2 ^ j)) j ≡ not (bit b j)
flipped_same b j = ap (λ x. x == 1) (bit_at_xor b (2 ^ j) j ∙ ap (λ y. (bit_at b j + y) % 2) (bit_at-pow_same j)) ∙ turned (bit_at b j) (bit_at-lt b j)

flipped_other : (b j i : ℕ) → i ≢ j → bit (bit_xor b (2 ^ j)) i ≡ bit b i
flipped_other b j i ne = ap (λ x. x == 1) (bit_at_xor b (2 ^ j) i ∙ ap (λ y. (bit_at b i + y) % 2) (bit_at-pow_other j i ne)) ∙ kept (bit_at b i) (bit_at-lt b i)

flipped : (b j : ℕ) → j < 8 → bits_from (bit_xor b (2 ^ j)) 0 8 ≡ set (bits_from b 0 8) j (not (bit b j))
flipped b j l = ext_get_or false _ _ (length_from (bit_xor b (2 ^ j)) 0 8 ∙ sym (length-set (bits_from b 0 8) j (not (bit b j)) ∙ length_from b 0 8))
    (λ i m. at_place i (subst (λ n. i < n) (length_from (bit_xor b (2 ^ j)) 0 8) m) (cases_eq i j)) where
      at_place : (i : ℕ) → i < 8 → (i ≡ j) ⊎ (i ≢ j) → get_or (bits_from (bit_xor b (2 ^ j)) 0 8) i false ≡ get_or (set (bits_from b 0 8) j (not (bit b j))) i false
      at_place i m (inl e) = rw e (byte_at (bit_xor b (2 ^ j)) j l ∙ flipped_same b j ∙ sym (get_or-set_same (bits_from b 0 8) j (not (bit b j)) false (subst (λ n. j < n) (sym (length_from b 0 8)) l)))
      at_place i m (inr ne) = byte_at (bit_xor b (2 ^ j)) i m ∙ flipped_other b j i ne ∙ sym (get_or-set_other (bits_from b 0 8) j i (not (bit b j)) false ne ∙ byte_at b i m)

-- a bit that is turned has the value that it didn't have
pub bit_turned : (bytes : List ℕ) (i : ℕ) (v : Bool) → i < 8 * length bytes → not (get_or (bits_of bytes) i false) ≡ v
    → bits_of (set bytes (i / 8) (bit_xor (get_or bytes (i / 8) 0) (2 ^ (i % 8)))) ≡ set (bits_of bytes) i v
bit_turned bytes i v l e =
    let value : not (bit (get_or bytes (i / 8) 0) (i % 8)) ≡ v = ap not (sym (bit_of bytes i)) ∙ e in
    set_at bytes (i / 8) (i % 8) i v (bit_xor (get_or bytes (i / 8) 0) (2 ^ (i % 8))) (mod-lt i (omega arith)) (split i) (omega (arith, split i))
    (flipped (get_or bytes (i / 8) 0) (i % 8) (mod-lt i (omega arith)) ∙ ap (set (bits_from (get_or bytes (i / 8) 0) 0 8) (i % 8)) value)
