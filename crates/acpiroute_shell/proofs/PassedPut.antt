-- Lines of what was passed over that are put one behind another.
use Rattle.std.proofs.Common.{◌≡◌, ◌∙◌, ap, sym, ℕ, ◌+◌, ◌<◌, ◌≤◌, suc, List, ◌∷◌, ◌++◌, length, drop, drop-cons, add-one, get_or, append_assoc, append-nil}
use Rattle.std.proofs.lemmas.List.{drop_all}
use Rattle.aml_world.specs.declared.state.passed_over.PassedItem.{PassedItem}
use Rattle.acpiroute_shell.specs.PassedLines.{passed_line, passed_list}

-- what is put first, and what is left
step : (text one rest next whole : List ℕ) → whole ≡ text ++ (one ++ rest) → next ≡ text ++ one → whole ≡ next ++ rest
step text one rest next whole so put = so ∙ (sym (append_assoc text one rest) ∙ ap (λ t. t ++ rest) (sym put))

pub item_more : (xs : List PassedItem) (i : ℕ) (x : PassedItem) (text next whole : List ℕ) → i < length xs → x ≡ get_or xs i x → whole ≡ text ++ passed_list (drop i xs) → next ≡ text ++ passed_line x
    → whole ≡ next ++ passed_list (drop (i + 1) xs)
item_more xs i x text next whole within is so put =
    rw (add-one i) (step text (passed_line x) (passed_list (drop (suc i) xs)) next whole
    (so ∙ ap (λ t. text ++ t) (ap passed_list (drop-cons xs i x within) ∙ ap (λ y. passed_list (y ∷ drop (suc i) xs)) (sym is))) put)

pub items_end : (xs : List PassedItem) (i : ℕ) (text whole : List ℕ) → length xs ≤ i → whole ≡ text ++ passed_list (drop i xs) → text ≡ whole
items_end xs i text whole past so = sym (so ∙ (ap (λ t. text ++ t) (ap passed_list (drop_all i xs past)) ∙ append-nil text))
