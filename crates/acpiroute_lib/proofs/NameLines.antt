-- The lines of names, put one behind another.
use Rattle.std.proofs.Common.{◌≡◌, ◌∙◌, ap, sym, refl, ℕ, ◌+◌, ◌<◌, List, [], ◌∷◌, ◌++◌, length, take, map, get_or, append_assoc, append-nil}
use Rattle.std.proofs.lemmas.List.{take_more, map-append}
use Rattle.aml_path.specs.declared.segment.Seg.{Seg}
use Rattle.acpi_machine.specs.Kinds as kinds
use Rattle.acpiroute_lib.specs.NameLines.{name_line, name_lines}

lines_append : (xs ys : List (List Seg × kinds.Kind)) → name_lines (xs ++ ys) ≡ name_lines xs ++ name_lines ys
lines_append [] ys = refl
lines_append (x ∷ xs) ys = ap (λ rest. name_line x ++ rest) (lines_append xs ys) ∙ sym (append_assoc (name_line x) (name_lines xs) (name_lines ys))

module _ {X : Type 0} (view : X → List Seg × kinds.Kind) where
  one_line : (xs : List X) (x : X) → name_lines (map view (xs ++ x ∷ [])) ≡ name_lines (map view xs) ++ name_line (view x)
  one_line xs x =
      ap name_lines (map-append view xs (x ∷ [])) ∙ (lines_append (map view xs) (view x ∷ []) ∙ ap (λ t. name_lines (map view xs) ++ t) (append-nil (name_line (view x))))

  pub more_lines : (xs : List X) (i : ℕ) (x : X) (text next : List ℕ) → i < length xs → x ≡ get_or xs i x → text ≡ name_lines (map view (take i xs)) → next ≡ text ++ name_line (view x)
      → next ≡ name_lines (map view (take (i + 1) xs))
  more_lines xs i x text next within is so put =
      put ∙ (ap (λ t. t ++ name_line (view x)) so ∙ (sym (one_line (take i xs) x) ∙ ap (λ ys. name_lines (map view ys)) (ap (λ y. take i xs ++ y ∷ []) is ∙ sym (take_more xs i x within))))
