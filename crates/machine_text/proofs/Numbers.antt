-- Numbers of at most 16 digits, and a list read one by one.
use Rattle.std.proofs.Common.{◌≡◌, ℕ, zero, suc, ◌+◌, ◌*◌, ◌^◌, ◌<◌, ◌≤◌, List, ◌∷◌, length, drop, get_or, drop-cons, sym, ap, ◌∙◌, arith, Option, Some, None, add-one}
use Rattle.std.proofs.Math.Nat.{pow-suc}
use Rattle.std.proofs.lemmas.List.{drop_all}
use Rattle.std.specs.Prelude.{option_and_then}
use Rattle.hex.specs.Hex.{hex_digit_value}
use Rattle.machine_text.specs.Words.{number_from}

-- what stands from place i on
pub at_index : {A : Type 0} (xs : List A) (i : ℕ) (d : A) → i < length xs → drop i xs ≡ get_or xs i d ∷ drop (i + 1) xs
at_index xs i d lt = drop-cons xs i d lt ∙ ap (λ j. get_or xs i d ∷ drop j xs) (sym (add-one i))

-- below the 16th digit there is room for one more
pub room : (i n : ℕ) → i < 16 → n < 16 ^ i → n < 2 ^ 60
room zero n lt less = omega arith
room (suc zero) n lt less = omega arith
room (suc (suc zero)) n lt less = omega arith
room (suc (suc (suc zero))) n lt less = omega arith
room (suc (suc (suc (suc zero)))) n lt less = omega arith
room (suc (suc (suc (suc (suc zero))))) n lt less = omega arith
room (suc (suc (suc (suc (suc (suc zero)))))) n lt less = omega arith
room (suc (suc (suc (suc (suc (suc (suc zero))))))) n lt less = omega arith
room (suc (suc (suc (suc (suc (suc (suc (suc zero)))))))) n lt less = omega arith
room (suc (suc (suc (suc (suc (suc (suc (suc (suc zero))))))))) n lt less = omega arith
room (suc (suc (suc (suc (suc (suc (suc (suc (suc (suc zero)))))))))) n lt less = omega arith
room (suc (suc (suc (suc (suc (suc (suc (suc (suc (suc (suc zero))))))))))) n lt less = omega arith
room (suc (suc (suc (suc (suc (suc (suc (suc (suc (suc (suc (suc zero)))))))))))) n lt less = omega arith
room (suc (suc (suc (suc (suc (suc (suc (suc (suc (suc (suc (suc (suc zero))))))))))))) n lt less = omega arith
room (suc (suc (suc (suc (suc (suc (suc (suc (suc (suc (suc (suc (suc (suc zero)))))))))))))) n lt less = omega arith
room (suc (suc (suc (suc (suc (suc (suc (suc (suc (suc (suc (suc (suc (suc (suc zero))))))))))))))) n lt less = omega arith
room (suc (suc (suc (suc (suc (suc (suc (suc (suc (suc (suc (suc (suc (suc (suc (suc i)))))))))))))))) n lt less = absurd (omega arith)

-- one digit more
pub below_next : (i n d : ℕ) → d < 16 → n < 16 ^ i → n * 16 + d < 16 ^ (i + 1)
below_next i n d small less = rw (add-one i, pow-suc 16 i) (omega arith)

pub digit_on : (n : ℕ) (w : List ℕ) (i : ℕ) (e d : ℕ) (all : Option ℕ) → i < length w → Some d ≡ hex_digit_value (get_or w i e) → number_from n (drop i w) ≡ all → number_from (n * 16 + d) (drop (i + 1) w) ≡ all
unfolding number_from
digit_on n w i e d all lt is so_far =
    sym (ap (number_from n) (at_index w i e lt) ∙ ap (option_and_then (λ k. number_from (n * 16 + k) (drop (i + 1) w))) (sym is)) ∙ so_far

pub digit_bad : (n : ℕ) (w : List ℕ) (i : ℕ) (e : ℕ) (all : Option ℕ) → i < length w → None ≡ hex_digit_value (get_or w i e) → number_from n (drop i w) ≡ all → None ≡ all
unfolding number_from
digit_bad n w i e all lt is so_far =
    sym (ap (number_from n) (at_index w i e lt) ∙ ap (option_and_then (λ k. number_from (n * 16 + k) (drop (i + 1) w))) (sym is)) ∙ so_far

pub digits_done : (n : ℕ) (w : List ℕ) (i : ℕ) (all : Option ℕ) → length w ≤ i → number_from n (drop i w) ≡ all → Some n ≡ all
unfolding number_from
digits_done n w i all le so_far = sym (ap (number_from n) (drop_all i w le)) ∙ so_far
