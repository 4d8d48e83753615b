-- A word is a number exactly if it is the number's decimal text.
use Rattle.std.proofs.Common.{◌≡◌, ◌≢◌, ◌∙◌, ap, refl, sym, ℕ, ◌<◌, ◌^◌, List, Bool, true, false, arith, Some, None, if◌then◌else◌}
use Rattle.std.specs.Prelude.{decimal, nat_lt, ◌&&◌}
use Rattle.std.specs.Str.{bytes_eq}
use Rattle.std.specs.Str.Parse.{digits_value}
use Rattle.std.proofs.lemmas.Bool.{lt-ltb}
use Rattle.std.proofs.lemmas.Fmt.{decimal_is_IsNumeral}
use Rattle.std.proofs.lemmas.Slice.Eq.{slice_eq-Decides}
use Rattle.std.proofs.lemmas.Bool.Decides.{Decides-eqb, nat_tests}
use Rattle.route_report.specs.Lines.{number}

pub same_bytes : (xs : List ℕ) → bytes_eq xs xs ≡ true
same_bytes xs = (slice_eq-Decides Decides-eqb xs xs (bytes_eq xs xs) refl).1 refl

pub equal_bytes : (xs ys : List ℕ) → bytes_eq xs ys ≡ true → xs ≡ ys
equal_bytes xs ys is = (slice_eq-Decides Decides-eqb xs ys (bytes_eq xs ys) refl).0 is

-- a number's decimal text is that number
pub number_of_decimal : (n : ℕ) → n < 2 ^ 32 → number (decimal n) ≡ Some n
unfolding number
number_of_decimal n small =
    let value : digits_value 10 (decimal n) ≡ n = (decimal_is_IsNumeral n (omega arith)).1 in
    rw (value, lt-ltb n (2 ^ 32) small, same_bytes (decimal n)) refl

pub some_number : (w : List ℕ) (n : ℕ) → n < 2 ^ 32 → w ≡ decimal n → Some n ≡ number w
some_number w n small is = sym (ap number is ∙ number_of_decimal n small)

unwritten : (w : List ℕ) (n : ℕ) (a b : Bool) → nat_lt n (2 ^ 32) ≡ a → bytes_eq (decimal n) w ≡ b → ((m : ℕ) → m < 2 ^ 32 → w ≢ decimal m)
    → (if a && b then Some n else None) ≡ None
unwritten w n true true less same not = absurd (not n (grind (arith, nat_tests)) (sym (equal_bytes (decimal n) w same)))
unwritten w n true false less same not = refl
unwritten w n false b less same not = refl

pub no_number : (w : List ℕ) → ((n : ℕ) → n < 2 ^ 32 → w ≢ decimal n) → None ≡ number w
unfolding number
no_number w not = sym (unwritten w (digits_value 10 w) (nat_lt (digits_value 10 w) (2 ^ 32)) (bytes_eq (decimal (digits_value 10 w)) w) refl refl not)
