-- Arguments and interrupts that are read one after another.
use Rattle.std.proofs.Common.{◌≡◌, ◌∙◌, ap, sym, refl, ℕ, ◌+◌, ◌<◌, ◌≤◌, List, [], ◌∷◌, ◌++◌, length, drop, drop-cons, add-one, map, get_or, append_assoc, append-nil, Option, Some, None}
use Rattle.std.specs.Prelude.{option_map, option_and_then}
use Rattle.std.proofs.lemmas.List.{drop_all}
use Rattle.clap.specs.Words.{Text}
use Rattle.acpiroute_shell.specs.Values.{argument, arguments, interrupt, interrupts}

one_first : {E : Type 0} (done : List E) (n : E) (o : Option (List E)) → option_map (λ ns. done ++ ns) (option_and_then (λ ns. Some (n ∷ ns)) o) ≡ option_map (λ ns. (done ++ n ∷ []) ++ ns) o
one_first done n None = refl
one_first done n (Some ns) = ap Some (sym (append_assoc done (n ∷ []) ns))

-- texts of which each is read, and nothing where one of them is not
pub record ReadsEach {E : Type 0} (one : Text → Option E) (each : List Text → Option (List E)) : Type 0 where
  none : each [] ≡ Some []
  first : (word : Text) (words : List Text) → each (word ∷ words) ≡ option_and_then (λ n. option_and_then (λ ns. Some (n ∷ ns)) (each words)) (one word)

pub arguments_read : ReadsEach argument arguments
unfolding arguments
arguments_read = record { none = refl; first = λ word words. refl }

pub interrupts_read : ReadsEach interrupt interrupts
unfolding interrupts
interrupts_read = record { none = refl; first = λ word words. refl }

module _ {E : Type 0} {one : Text → Option E} {each : List Text → Option (List E)} (reads : ReadsEach one each) {X : Type 0} (view : X → Text) (all : Option (List E)) where
  begins : (word : Text) (words : List Text) (o : Option E) → one word ≡ o → each (word ∷ words) ≡ option_and_then (λ n. option_and_then (λ ns. Some (n ∷ ns)) (each words)) o
  begins word words o is = reads.first word words ∙ ap (λ o. option_and_then (λ n. option_and_then (λ ns. Some (n ∷ ns)) (each words)) o) is

  -- the words from place i on
  from_here : (xs : List X) (i : ℕ) (d : X) (done : List E) → i < length xs → all ≡ option_map (λ ns. done ++ ns) (each (map view (drop i xs)))
      → all ≡ option_map (λ ns. done ++ ns) (each (view (get_or xs i d) ∷ map view (drop (i + 1) xs)))
  from_here xs i d done within h = h ∙ rw (drop-cons xs i d within, add-one) refl

  pub one_read : (xs : List X) (i : ℕ) (d : X) (n : E) (done after : List E) → i < length xs → one (view (get_or xs i d)) ≡ Some n → after ≡ done ++ n ∷ []
      → all ≡ option_map (λ ns. done ++ ns) (each (map view (drop i xs))) → all ≡ option_map (λ ns. after ++ ns) (each (map view (drop (i + 1) xs)))
  one_read xs i d n done after within is put h =
      from_here xs i d done within h ∙ (ap (λ o. option_map (λ ns. done ++ ns) o) (begins (view (get_or xs i d)) (map view (drop (i + 1) xs)) (Some n) is)
      ∙ (one_first done n (each (map view (drop (i + 1) xs))) ∙ ap (λ list. option_map (λ ns. list ++ ns) (each (map view (drop (i + 1) xs)))) (sym put)))

  pub one_refused : (xs : List X) (i : ℕ) (d : X) (done : List E) → i < length xs → one (view (get_or xs i d)) ≡ None → all ≡ option_map (λ ns. done ++ ns) (each (map view (drop i xs))) → None ≡ all
  one_refused xs i d done within is h =
      sym (from_here xs i d done within h ∙ ap (λ o. option_map (λ ns. done ++ ns) o) (begins (view (get_or xs i d)) (map view (drop (i + 1) xs)) None is))

  pub all_read : (xs : List X) (i : ℕ) (done : List E) → length xs ≤ i → all ≡ option_map (λ ns. done ++ ns) (each (map view (drop i xs))) → Some done ≡ all
  all_read xs i done past h = sym (h ∙ rw (drop_all i xs past) (rw reads.none (ap Some (append-nil done))))
