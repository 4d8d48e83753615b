-- Digits that are read one after another.
use Rattle.std.proofs.Common.{◌≡◌, ◌∙◌, ap, sym, refl, ℕ, ◌+◌, ◌<◌, ◌≤◌, List, ◌∷◌, length, drop, drop-cons, add-one, get_or, Option, Some, None}
use Rattle.std.specs.Prelude.{option_and_then}
use Rattle.std.proofs.lemmas.List.{drop_all}
use Rattle.acpiroute_shell.specs.Values.{number_from, with_digit}

begins : (n c : ℕ) (cs : List ℕ) (o : Option ℕ) → with_digit n c ≡ o → number_from n (c ∷ cs) ≡ option_and_then (λ m. number_from m cs) o
unfolding number_from
begins n c cs o is = ap (λ o. option_and_then (λ m. number_from m cs) o) is

from_here : (all : Option ℕ) (xs : List ℕ) (i d n : ℕ) → i < length xs → all ≡ number_from n (drop i xs) → all ≡ number_from n (get_or xs i d ∷ drop (i + 1) xs)
from_here all xs i d n within h = h ∙ rw (drop-cons xs i d within, add-one) refl

pub one_digit : (all : Option ℕ) (xs : List ℕ) (i d n m : ℕ) → i < length xs → with_digit n (get_or xs i d) ≡ Some m → all ≡ number_from n (drop i xs) → all ≡ number_from m (drop (i + 1) xs)
one_digit all xs i d n m within is h = from_here all xs i d n within h ∙ begins n (get_or xs i d) (drop (i + 1) xs) (Some m) is

pub no_digit : (r all : Option ℕ) (xs : List ℕ) (i d n : ℕ) → i < length xs → with_digit n (get_or xs i d) ≡ None → all ≡ number_from n (drop i xs) → r ≡ None → r ≡ all
no_digit r all xs i d n within is h none = none ∙ sym (from_here all xs i d n within h ∙ begins n (get_or xs i d) (drop (i + 1) xs) None is)

pub all_digits : (all : Option ℕ) (xs : List ℕ) (i n : ℕ) → length xs ≤ i → all ≡ number_from n (drop i xs) → Some n ≡ all
unfolding number_from
all_digits all xs i n past h = sym (h ∙ rw (drop_all i xs past) refl)
