-- Texts that are put one behind another.
use Rattle.std.proofs.Common.{◌≡◌, ◌∙◌, ap, sym, refl, ℕ, ◌+◌, ◌<◌, ◌≤◌, List, [], ◌∷◌, ◌++◌, length, take, map, get_or, arith, append_assoc, append-nil}
use Rattle.std.proofs.lemmas.List.{take_more, map-append}
use Rattle.route_report.specs.Lines.{spaced, line_text, text_of_lines}

pub spaced_append : (xs ys : List (List ℕ)) → spaced (xs ++ ys) ≡ spaced xs ++ spaced ys
spaced_append [] ys = refl
spaced_append (x ∷ xs) ys = ap (λ rest. 32 ∷ x ++ rest) (spaced_append xs ys) ∙ ap (λ rest. 32 ∷ rest) (sym (append_assoc x (spaced xs) (spaced ys)))

pub lines_append : (xs ys : List (List (List ℕ))) → text_of_lines (xs ++ ys) ≡ text_of_lines xs ++ text_of_lines ys
lines_append [] ys = refl
lines_append (x ∷ xs) ys = ap (λ rest. line_text x ++ rest) (lines_append xs ys) ∙ sym (append_assoc (line_text x) (text_of_lines xs) (text_of_lines ys))

module _ {X : Type 0} (f : List X → List ℕ) (g : X → List ℕ) (one : (xs : List X) (x : X) → f (xs ++ x ∷ []) ≡ f xs ++ g x) where
  pub put_more : (xs : List X) (i : ℕ) (x : X) (whole text next : List ℕ) → i < length xs → x ≡ get_or xs i x → text ≡ whole ++ f (take i xs) → next ≡ text ++ g x
      → next ≡ whole ++ f (take (i + 1) xs)
  put_more xs i x whole text next within is so put =
      put ∙ (ap (λ t. t ++ g x) so ∙ (append_assoc whole (f (take i xs)) (g x)
      ∙ ap (λ t. whole ++ t) (sym (one (take i xs) x) ∙ ap f (ap (λ y. take i xs ++ y ∷ []) is ∙ sym (take_more xs i x within)))))

pub one_spaced : {X : Type 0} (view : X → List ℕ) (xs : List X) (x : X) → spaced (map view (xs ++ x ∷ [])) ≡ spaced (map view xs) ++ 32 ∷ view x
one_spaced view xs x =
    ap spaced (map-append view xs (x ∷ [])) ∙ (spaced_append (map view xs) (view x ∷ []) ∙ ap (λ t. spaced (map view xs) ++ 32 ∷ t) (append-nil (view x)))

pub one_line : {X : Type 0} (view : X → List (List ℕ)) (xs : List X) (x : X) → text_of_lines (map view (xs ++ x ∷ [])) ≡ text_of_lines (map view xs) ++ line_text (view x)
one_line view xs x =
    ap text_of_lines (map-append view xs (x ∷ [])) ∙ (lines_append (map view xs) (view x ∷ []) ∙ ap (λ t. text_of_lines (map view xs) ++ t) (append-nil (line_text (view x))))

pub ruleset putting = (spaced_append, append_assoc, append-nil)

-- a word between others
pub middle : (xs ys : List (List ℕ)) (w whole first second last : List ℕ) → first ≡ whole ++ spaced xs → second ≡ first ++ 32 ∷ w → last ≡ second ++ spaced ys
    → last ≡ whole ++ spaced (xs ++ w ∷ ys)
middle xs ys w whole first second last is then_word then_rest = rw (then_rest, then_word, is, spaced_append xs (w ∷ ys)) (simp append_assoc)

-- one text, and then another
pub onward : (t0 t1 t2 x y : List ℕ) → t1 ≡ t0 ++ x → t2 ≡ t1 ++ y → t2 ≡ t0 ++ (x ++ y)
onward t0 t1 t2 x y first next = next ∙ (ap (λ t. t ++ y) first ∙ append_assoc t0 x y)

-- lines, and then others
pub onward_some : (ls rest : List (List (List ℕ))) (t0 t1 t2 : List ℕ) → t1 ≡ t0 ++ text_of_lines ls → t2 ≡ t1 ++ text_of_lines rest → t2 ≡ t0 ++ text_of_lines (ls ++ rest)
onward_some ls rest t0 t1 t2 first next =
    next ∙ (ap (λ t. t ++ text_of_lines rest) first ∙ (append_assoc t0 (text_of_lines ls) (text_of_lines rest) ∙ ap (λ t. t0 ++ t) (sym (lines_append ls rest))))

-- the lines of a list that is read as another, and then others
pub onward_lines : {X : Type 0} (view : X → List (List ℕ)) (xs ys : List X) (rest : List (List (List ℕ))) (t0 t1 t2 : List ℕ) → xs ≡ ys → t1 ≡ t0 ++ text_of_lines (map view xs)
    → t2 ≡ t1 ++ text_of_lines rest → t2 ≡ t0 ++ text_of_lines (map view ys ++ rest)
onward_lines view xs ys rest t0 t1 t2 is first next =
    next ∙ (ap (λ t. t ++ text_of_lines rest) (first ∙ ap (λ zs. t0 ++ text_of_lines (map view zs)) is)
    ∙ (append_assoc t0 (text_of_lines (map view ys)) (text_of_lines rest) ∙ ap (λ t. t0 ++ t) (sym (lines_append (map view ys) rest))))

pub last_lines : {X : Type 0} (view : X → List (List ℕ)) (xs ys : List X) (t0 t1 : List ℕ) → xs ≡ ys → t1 ≡ t0 ++ text_of_lines (map view xs) → t1 ≡ t0 ++ text_of_lines (map view ys)
last_lines view xs ys t0 t1 is first = first ∙ ap (λ zs. t0 ++ text_of_lines (map view zs)) is

pub only_line : (ws : List (List ℕ)) (t0 t1 : List ℕ) → t1 ≡ t0 ++ line_text ws → t1 ≡ t0 ++ text_of_lines (ws ∷ [])
only_line ws t0 t1 e = e ∙ ap (λ t. t0 ++ t) (sym (append-nil (line_text ws)))
