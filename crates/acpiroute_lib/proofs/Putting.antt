-- Texts that are put one behind another.
use Rattle.std.proofs.Common.{arith, zero, min, ◌≡◌, ◌∙◌, ap, sym, refl, ℕ, ◌+◌, ◌<◌, ◌≤◌, List, [], ◌∷◌, ◌++◌, length, drop, drop-cons, add-one, get_or, append_assoc, append-nil, suc, Option, Some, map}
use Rattle.std.proofs.lemmas.List.{drop_all}
use Rattle.ar_space.specs.declared.space.Place.{Place}
use Rattle.acpiroute_lib.specs.MissingLines.{byte_text, line_end, lines_behind}

-- what is put first, and what is left
step : (text one rest next whole : List ℕ) → whole ≡ text ++ (one ++ rest) → next ≡ text ++ one → whole ≡ next ++ rest
step text one rest next whole so put = so ∙ (sym (append_assoc text one rest) ∙ ap (λ t. t ++ rest) (sym put))

-- ---- missing bytes

pub byte_more : (ps : List Place) (i : ℕ) (p : Place) (before : Option Place) (text next whole : List ℕ) → i < length ps → p ≡ get_or ps i p → whole ≡ text ++ lines_behind before (drop i ps)
    → next ≡ text ++ byte_text before p → whole ≡ next ++ lines_behind (Some p) (drop (i + 1) ps)
byte_more ps i p before text next whole within is so put =
    rw (add-one i) (step text (byte_text before p) (lines_behind (Some p) (drop (suc i) ps)) next whole
    (so ∙ (ap (λ xs. text ++ lines_behind before xs) (drop-cons ps i p within) ∙ ap (λ q. text ++ lines_behind before (q ∷ drop (suc i) ps)) (sym is))) put)

pub bytes_put : (ps : List Place) (i : ℕ) (before : Option Place) (text last whole : List ℕ) → length ps ≤ i → whole ≡ text ++ lines_behind before (drop i ps) → last ≡ text ++ line_end before → last ≡ whole
bytes_put ps i before text last whole past so put = put ∙ sym (so ∙ ap (λ xs. text ++ lines_behind before xs) (drop_all i ps past))
