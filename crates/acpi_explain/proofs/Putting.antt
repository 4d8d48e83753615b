-- Texts that are put one behind another.
use Rattle.std.proofs.Common.{◌≡◌, ◌≢◌, ◌≤◌, subst, ◌∙◌, ap, sym, refl, ℕ, List, [], ◌∷◌, ◌++◌, append_assoc, append-nil}
use Rattle.std.specs.Prelude.{Option, Some, None, Ok, Err, Result, IfOk, codes}
use Rattle.std.specs.Global.{Vec}
use Rattle.acpi_explain.specs.Explaining.{line_of, IsInLine, AreInLine, term_lines, name_line, steps_line, AreTerms, ArePlaces, IsSteps}

-- two texts behind one
pub two_put : (t0 t1 t2 a b : List ℕ) → t1 ≡ t0 ++ a → t2 ≡ t1 ++ b → t2 ≡ t0 ++ (a ++ b)
two_put t0 t1 t2 a b first next = next ∙ (ap (λ t. t ++ b) first ∙ append_assoc t0 a b)

-- three, and so on
pub three_put : (t0 t1 t2 t3 a b c : List ℕ) → t1 ≡ t0 ++ a → t2 ≡ t1 ++ b → t3 ≡ t2 ++ c → t3 ≡ t0 ++ (a ++ (b ++ c))
three_put t0 t1 t2 t3 a b c first second third = two_put t0 t1 t3 a (b ++ c) first (two_put t1 t2 t3 b c second third)

pub four_put : (t0 t1 t2 t3 t4 a b c d : List ℕ) → t1 ≡ t0 ++ a → t2 ≡ t1 ++ b → t3 ≡ t2 ++ c → t4 ≡ t3 ++ d → t4 ≡ t0 ++ (a ++ (b ++ (c ++ d)))
four_put t0 t1 t2 t3 t4 a b c d first second third fourth = two_put t0 t1 t4 a (b ++ (c ++ d)) first (three_put t1 t2 t3 t4 b c d second third fourth)

pub five_put : (t0 t1 t2 t3 t4 t5 a b c d e : List ℕ) → t1 ≡ t0 ++ a → t2 ≡ t1 ++ b → t3 ≡ t2 ++ c → t4 ≡ t3 ++ d → t5 ≡ t4 ++ e → t5 ≡ t0 ++ (a ++ (b ++ (c ++ (d ++ e))))
five_put t0 t1 t2 t3 t4 t5 a b c d e first second third fourth fifth = two_put t0 t1 t5 a (b ++ (c ++ (d ++ e))) first (four_put t1 t2 t3 t4 t5 b c d e second third fourth fifth)

-- ---- the lines of a trace

one_more : (terms : List (List ℕ)) (rest : List ℕ) → term_lines (terms ++ rest ∷ []) ≡ term_lines terms ++ line_of (codes "in ") rest
one_more [] rest = append-nil (line_of (codes "in ") rest)
one_more (term ∷ terms) rest = ap (λ t. line_of (codes "in ") term ++ t) (one_more terms rest) ∙ sym (append_assoc (line_of (codes "in ") term) (term_lines terms) (line_of (codes "in ") rest))

in_line_behind : (text : List ℕ) (b : ℕ) → IsInLine text → b ≢ 10 → IsInLine (text ++ b ∷ [])
in_line_behind [] b h ne = (ne, tt)
in_line_behind (x ∷ xs) b h ne = (h.0, in_line_behind xs b h.1 ne)

pub none_in_line : (text : List ℕ) → text ≡ [] → IsInLine text
none_in_line text is = subst IsInLine (sym is) tt

pub one_more_in_line : (text next : List ℕ) (b : ℕ) → IsInLine text → b ≢ 10 → next ≡ text ++ b ∷ [] → IsInLine next
one_more_in_line text next b h ne put = subst IsInLine (sym put) (in_line_behind text b h ne)

all_in_line : (terms : List (List ℕ)) (rest : List ℕ) → AreInLine terms → IsInLine rest → AreInLine (terms ++ rest ∷ [])
all_in_line [] rest h is = (is, tt)
all_in_line (term ∷ terms) rest h is = (h.0, all_in_line terms rest h.1 is)

pub no_terms : (text : List ℕ) → text ≡ [] → AreTerms text
no_terms text is = ([], tt, is)

pub more_terms : (text next rest : List ℕ) → IsInLine rest → AreTerms text → next ≡ text ++ line_of (codes "in ") rest → AreTerms next
more_terms text next rest own h put = (h.0 ++ rest ∷ [], all_in_line h.0 rest h.1 own, put ∙ (ap (λ t. t ++ line_of (codes "in ") rest) h.2 ∙ sym (one_more h.0 rest)))

pub without_name : (text : List ℕ) → AreTerms text → ArePlaces text
without_name text h = (h.0, None, h.1, tt, h.2 ∙ sym (append-nil (term_lines h.0)))

pub with_name : (text next rest : List ℕ) → IsInLine rest → AreTerms text → next ≡ text ++ line_of (codes "name ") rest → ArePlaces next
with_name text next rest own h put = (h.0, Some rest, h.1, own, put ∙ ap (λ t. t ++ line_of (codes "name ") rest) h.2)

pub steps_taken : {E : Type 0} (r : Result (Vec ℕ) E) (taken steps : ℕ) → taken ≤ steps → IfOk r (λ text. text.items ≡ steps_line (Some taken) steps) → IfOk r (λ text. IsSteps steps text.items)
steps_taken (Ok text) taken steps le is = (Some taken, le, is)
steps_taken (Err e) taken steps le is = tt
