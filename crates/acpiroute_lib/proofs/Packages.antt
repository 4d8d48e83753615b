-- Packages as rows and as lists, and their elements put one behind another.
use Rattle.std.proofs.Common.{◌≡◌, ◌∙◌, ap, sym, refl, ℕ, ◌+◌, ◌<◌, List, [], ◌∷◌, ◌++◌, length, take, map, get_or, arith, append_assoc, append-nil}
use Rattle.std.specs.Prelude.{codes}
use Rattle.std.proofs.lemmas.List.{take_more, map-append}
use Rattle.aml_world.proofs.GivenRows.{row_is_list}
use Rattle.aml_world.specs.declared.state.datum.Datum as datum
use Rattle.aml_world.specs.state.Given as given
use Rattle.acpiroute_lib.specs.ValueText.{count, value_text, elements_text}

pub count_of_list : {X : Type 0} (view : X → given.Given) (xs : List X) → count (given.givens (map view xs)) ≡ length xs
count_of_list view [] = refl
count_of_list view (x ∷ xs) = let e = count_of_list view xs in rw e (omega arith)

pub ruleset rows = (datum.the_lemmas, row_is_list, count_of_list)

elements_append : (xs ys : List given.Given) → elements_text (given.givens (xs ++ ys)) ≡ elements_text (given.givens xs) ++ elements_text (given.givens ys)
elements_append [] ys = refl
elements_append (x ∷ xs) ys = ap (λ rest. codes " " ++ (value_text x ++ rest)) (elements_append xs ys) ∙ ap (λ rest. codes " " ++ rest) (sym (append_assoc (value_text x) (elements_text (given.givens xs)) (elements_text (given.givens ys))))

module _ {X : Type 0} (view : X → given.Given) where
  one_element : (xs : List X) (x : X) → elements_text (given.givens (map view (xs ++ x ∷ []))) ≡ elements_text (given.givens (map view xs)) ++ (codes " " ++ value_text (view x))
  one_element xs x =
      ap (λ gs. elements_text (given.givens gs)) (map-append view xs (x ∷ []))
      ∙ (elements_append (map view xs) (view x ∷ []) ∙ ap (λ t. elements_text (given.givens (map view xs)) ++ (codes " " ++ t)) (append-nil (value_text (view x))))

  pub more_elements : (xs : List X) (i : ℕ) (x : X) (start text behind next : List ℕ) → i < length xs → x ≡ get_or xs i x → text ≡ start ++ elements_text (given.givens (map view (take i xs)))
      → behind ≡ text ++ codes " " → next ≡ behind ++ value_text (view x) → next ≡ start ++ elements_text (given.givens (map view (take (i + 1) xs)))
  more_elements xs i x start text behind next within is so blank put =
      let e : elements_text (given.givens (map view (take (i + 1) xs))) ≡ elements_text (given.givens (map view (take i xs))) ++ (codes " " ++ value_text (view x)) =
      ap (λ ys. elements_text (given.givens (map view ys))) (take_more xs i x within ∙ ap (λ y. take i xs ++ y ∷ []) (sym is)) ∙ one_element (take i xs) x in
      rw (put, blank, so, e) (append_assoc (start ++ elements_text (given.givens (map view (take i xs)))) (codes " ") (value_text (view x)) ∙ append_assoc start (elements_text (given.givens (map view (take i xs)))) (codes " " ++ value_text (view x)))
