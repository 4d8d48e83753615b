-- Which decimal digits ToInteger reads.
use Rattle.std.specs.Prelude.{◌≡◌, ◌≢◌, ◌⊎◌, ◌<◌, ◌+◌, ◌-◌, ◌^◌, ◌%◌, ◌==◌, ◌&&◌, ◌||◌, ℕ, nat_le, List, [], ◌∷◌, ◌++◌, Some, None, Bool, true, false, Ok, refl, if◌then◌else◌}
use Rattle.std.specs.Int.Digits.{number_from_digits}
use Rattle.std.proofs.Common.{arith, ap, sym, subst, ◌∙◌}
use Rattle.std.proofs.lemmas.Bool.Decides.{nat_tests}
use Rattle.ar_space.specs.declared.integer_width.IntegerWidth.{IntegerWidth}
use Rattle.aml_objects.specs.Contents.{String}
use Rattle.aml_convert.specs.declared.digits.Base.TheVariants.{Decimal, Hexadecimal}
use Rattle.aml_convert.specs.Integers.{bits_of, truncated}
use Rattle.aml_convert.specs.Digits.{digit_value, digit_and, leading_digits, leading_number}
use Rattle.aml_convert.specs.Conversions.{explicit_integer_of}
use Rattle.aml_laws.specs.Numerals.{AreFigures, no_figures, further_figure, BeginsWithoutFigure, empty, no_figure, IsPrefixed, prefix}
use Rattle.aml_laws.proofs.IntegersOfValues.{in_range}

-- ---- digits

figure_is : (d : ℕ) → d < 10 → digit_value Decimal (48 + d) ≡ Some d
figure_is d less =
    let e : nat_le 48 (48 + d) ≡ true = grind (arith, nat_tests) in
    let f : nat_le (48 + d) 57 ≡ true = grind (arith, nat_tests) in
    rw (e, f) (ap Some (omega arith))

no_figure_is : (c : ℕ) → ((d : ℕ) → d < 10 → c ≢ 48 + d) → digit_value Decimal c ≡ None
no_figure_is c not = by (nat_le 48 c && nat_le c 57) refl
  where
    by : (q : Bool) → (nat_le 48 c && nat_le c 57) ≡ q → (if q then Some (c - 48) else None) ≡ None
    by true e = let l = in_range 48 57 c e in absurd (not (c - 48) (omega (arith, l.0, l.1)) (omega (arith, l.0)))
    by false e = refl

figures_end : (rest : List ℕ) → BeginsWithoutFigure rest → leading_digits Decimal rest ≡ []
unfolding leading_digits
figures_end _ empty = refl
figures_end _ (no_figure c text not) = ap (λ o. digit_and o (leading_digits Decimal text)) (no_figure_is c not)

figures_lead : (figures numbers rest : List ℕ) → AreFigures figures numbers → BeginsWithoutFigure rest → leading_digits Decimal (figures ++ rest) ≡ numbers
unfolding leading_digits
figures_lead _ _ rest no_figures ends = figures_end rest ends
figures_lead _ _ rest (further_figure d figures numbers less others) ends =
    ap (λ o. digit_and o (leading_digits Decimal (figures ++ rest))) (figure_is d less) ∙ ap (λ es. d ∷ es) (figures_lead figures numbers rest others ends)

-- ---- numerals

-- what isn't prefixed is read in decimal
pub without_prefix : (width : IntegerWidth) (c : ℕ) (text : List ℕ) → (IsPrefixed (c ∷ text) → ⊥) → explicit_integer_of width (String (c ∷ text)) ≡ Ok (leading_number width Decimal (c ∷ text))
without_prefix width c [] not = refl
without_prefix width c (d ∷ text) not = ap Ok (by ((c == 48) && ((d == 120) || (d == 88))) refl)
  where
    is_prefix : ((c == 48) && ((d == 120) || (d == 88))) ≡ true → (c ≡ 48) × ((d ≡ 120) ⊎ (d ≡ 88))
    is_prefix e = grind (arith, nat_tests)

    by : (q : Bool) → ((c == 48) && ((d == 120) || (d == 88))) ≡ q → (if q then leading_number width Hexadecimal text else leading_number width Decimal (c ∷ d ∷ text)) ≡ leading_number width Decimal (c ∷ d ∷ text)
    by true e = let is = is_prefix e in absurd (not (subst (λ n. IsPrefixed (n ∷ d ∷ text)) (sym is.0) (prefix d text is.1)))
    by false e = refl

pub decimal_numeral : (width : IntegerWidth) (c : ℕ) (text figures numbers rest : List ℕ) → c ∷ text ≡ figures ++ rest → AreFigures figures numbers → BeginsWithoutFigure rest → (IsPrefixed (c ∷ text) → ⊥)
    → explicit_integer_of width (String (c ∷ text)) ≡ Ok (number_from_digits 10 numbers % 2 ^ bits_of width)
unfolding leading_number
decimal_numeral width c text figures numbers rest is are ends not =
    without_prefix width c text not ∙ ap (λ ds. Ok (truncated width (number_from_digits 10 ds))) (ap (leading_digits Decimal) is ∙ figures_lead figures numbers rest are ends)
