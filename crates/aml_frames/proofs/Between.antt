-- Places between two offsets, and the walks that stay between them.
use Rattle.std.specs.Prelude.{◌≡◌, ℕ, ◌+◌, ◌-◌, ◌≤◌, ◌<◌, zero, suc, List, [], ◌∷◌, length, take, drop, min, slice_index_or, Bool, false, Option, refl}
use Rattle.std.proofs.Common.{◌∙◌, sym, ap, subst, arith, length-drop}
use Rattle.std.proofs.lemmas.List.{drop-drop, drop-take, take_min, take_rest, length-take}
use Rattle.aml_grammar.specs.declared.kinds.Row.{Row}
use Rattle.aml_marks.specs.Marked.{Place, Below, past, over, first, name_length, count_at, a_term, a_target, a_size, turns_of, with_row, maybe_else}
use Rattle.aml_marks.specs.Moving.{MovesOn}
use Rattle.aml_marks.proofs.Onward.{moves_over, moves_on_term, moves_on_row, moves_on_target, moves_on_turns, moves_on_else, moves_on_size}
use Rattle.aml_frames.specs.Places.{Site, Stands, place_between, end_of, at_place, terms, behind_term}

prefix : (n : ℕ) (xs : List ℕ) → take (length (take n xs)) xs ≡ take n xs
prefix n xs = rw (length-take n xs) (take_min n xs)

pub stands_between : (bs : List ℕ) (at end : ℕ) → Stands bs (place_between bs at end)
stands_between bs at end = prefix (end - at) (drop at bs)

pub stands_past : (bs : List ℕ) (p : Place) (n : ℕ) → n ≤ length p.rest → Stands bs p → Stands bs (past n p)
stands_past bs p n few h =
    let m = length p.rest - n in
    let left : length (drop n p.rest) ≡ m = length-drop n p.rest in
    let all : n + m ≡ length p.rest = omega (arith, few) in
    ap (λ k. take k (drop (p.at + n) bs)) left
    ∙ ap (take m) (sym (drop-drop n p.at bs))
    ∙ sym (drop-take n m (drop p.at bs))
    ∙ ap (λ k. drop n (take k (drop p.at bs))) all
    ∙ ap (drop n) h

pub stands_on : (bs : List ℕ) (p q : Place) → Stands bs p → MovesOn p q → Stands bs q
stands_on bs p q h m = rw m.is (stands_past bs p m.count m.within h)

again : (a n : ℕ) → (a + n) - a ≡ n
again a n = omega arith

-- so the offsets say it all
pub place_again : (bs : List ℕ) (p : Place) → Stands bs p → place_between bs p.at (end_of p) ≡ p
place_again bs p h = ap (λ (r : List ℕ). record { at = p.at; rest = r }) (ap (λ k. take k (drop p.at bs)) (again p.at (length p.rest)) ∙ h)

pub moved : (c : Site) (at end : ℕ) (p q : Place) → Stands c.bytes c.place → p ≡ c.place → MovesOn p q → at ≡ q.at → end ≡ end_of q → at_place c (place_between c.bytes at end) ≡ at_place c q
moved c at end p q h i m e f = rw (e, f) (ap (at_place c) (place_again c.bytes q (stands_on c.bytes c.place q h (rw (← i) m))))

prefix_of : (n m : ℕ) (xs : List ℕ) → take (length (take n (take m xs))) xs ≡ take n (take m xs)
prefix_of zero m xs = refl
prefix_of (suc n) zero xs = refl
prefix_of (suc n) (suc m) [] = refl
prefix_of (suc n) (suc m) (x ∷ xs) = ap (λ ys. x ∷ ys) (prefix_of n m xs)

pub stands_taken : (bs : List ℕ) (p : Place) (n : ℕ) → Stands bs p → Stands bs (record p { rest = take n p.rest })
stands_taken bs p n h = subst (λ (r : List ℕ). take (length (take n r)) (drop p.at bs) ≡ take n r) h (prefix_of n (length p.rest) (drop p.at bs))

-- all bytes of a list
pub whole_place : (c : Site) (n : ℕ) → n ≡ length c.bytes → at_place c (place_between c.bytes 0 n) ≡ at_place c (record { at = 0; rest = c.bytes })
whole_place c n e = rw e (ap (λ (r : List ℕ). at_place c (record { at = 0; rest = r })) (take_rest c.bytes 0))

-- ---- the first byte between two offsets, and so many bytes on, or to the end

first_taken : (n : ℕ) (xs : List ℕ) → 0 < n → first (take n xs) ≡ first xs
first_taken zero xs some = absurd (omega (arith, some))
first_taken (suc n) [] some = refl
first_taken (suc n) (x ∷ xs) some = refl

first_dropped : (at : ℕ) (bs : List ℕ) → first (drop at bs) ≡ slice_index_or bs at 0
first_dropped zero [] = refl
first_dropped zero (b ∷ bs) = refl
first_dropped (suc at) [] = refl
first_dropped (suc at) (b ∷ bs) = first_dropped at bs

none_taken : (n : ℕ) (xs : List ℕ) → n ≡ 0 → first (take n xs) ≡ 0
none_taken zero xs e = refl
none_taken (suc n) xs e = absurd (cc e)

pub first_there : (bs : List ℕ) (at end : ℕ) → at < end → slice_index_or bs at 0 ≡ first (take (end - at) (drop at bs))
first_there bs at end few = sym (first_taken (end - at) (drop at bs) (omega (arith, few)) ∙ first_dropped at bs)

pub first_missing : (bs : List ℕ) (at end : ℕ) → end ≤ at → 0 ≡ first (take (end - at) (drop at bs))
first_missing bs at end few = sym (none_taken (end - at) (drop at bs) (omega (arith, few)))

taken_on : (bs : List ℕ) (at width k : ℕ) → k ≤ width → take (width - k) (drop (at + k) bs) ≡ drop k (take width (drop at bs))
taken_on bs at width k few =
    let all : k + (width - k) ≡ width = omega (arith, few) in
    ap (take (width - k)) (sym (drop-drop k at bs)) ∙ sym (drop-take k (width - k) (drop at bs)) ∙ ap (λ j. drop k (take j (drop at bs))) all

pub over_between : (bs : List ℕ) (at end n k : ℕ) → k ≡ min n (min end (length bs) - at) → place_between bs (at + k) end ≡ over n (place_between bs at end)
over_between bs at end n k e =
    let left : length (take (end - at) (drop at bs)) ≡ min (end - at) (length bs - at) = length-take (end - at) (drop at bs) ∙ ap (min (end - at)) (length-drop at bs) in
    let few : k ≤ end - at = omega (arith, e) in
    let same : k ≡ min n (length (take (end - at) (drop at bs))) = omega (arith, e, left) in
    let rest : end - (at + k) ≡ end - at - k = omega arith in
    let on = ap (λ j. take j (drop (at + k) bs)) rest ∙ taken_on bs at (end - at) k few in
    ap (λ (r : List ℕ). record { at = at + k; rest = r }) on ∙ ap (λ j. past j (place_between bs at end)) same

-- ---- walks that only go on

pub moved_over : (c : Site) (at end n : ℕ) (p q : Place) → Stands c.bytes c.place → p ≡ c.place → q ≡ over n p → at ≡ q.at → end ≡ end_of q → at_place c (place_between c.bytes at end) ≡ at_place c (over n c.place)
moved_over c at end n p q h i j e f = moved c at end p q h i (rw j (moves_over n p)) e f ∙ ap (at_place c) (j ∙ ap (over n) i)

pub moved_name : (c : Site) (at end : ℕ) (p q : Place) → Stands c.bytes c.place → p ≡ c.place → q ≡ over (name_length p.rest) p → at ≡ q.at → end ≡ end_of q → at_place c (place_between c.bytes at end) ≡ at_place c (over (name_length c.place.rest) c.place)
moved_name c at end p q h i j e f = moved c at end p q h i (rw j (moves_over (name_length p.rest) p)) e f ∙ ap (at_place c) (j ∙ ap (λ (x : Place). over (name_length x.rest) x) i)

pub moved_row : (c : Site) (at end levels : ℕ) (row : Option Row) (p q : Place) → Stands c.bytes c.place → p ≡ c.place → q ≡ (with_row (a_term (count_at c.marks) levels) row p).1 → at ≡ q.at → end ≡ end_of q → at_place c (place_between c.bytes at end) ≡ at_place c (with_row (terms c levels) row c.place).1
moved_row c at end levels row p q h i j e f = moved c at end p q h i (rw j (moves_on_row (count_at c.marks) levels row p)) e f ∙ ap (at_place c) (j ∙ ap (λ x. (with_row (terms c levels) row x).1) i)

pub moved_target : (c : Site) (at end levels : ℕ) (p q : Place) → Stands c.bytes c.place → p ≡ c.place → q ≡ (a_target (a_term (count_at c.marks) levels) p).1 → at ≡ q.at → end ≡ end_of q → at_place c (place_between c.bytes at end) ≡ at_place c (a_target (terms c levels) c.place).1
moved_target c at end levels p q h i j e f = moved c at end p q h i (rw j (moves_on_target (count_at c.marks) levels p)) e f ∙ ap (at_place c) (j ∙ ap (λ x. (a_target (terms c levels) x).1) i)

pub moved_term : (c : Site) (at end levels : ℕ) (p q : Place) → Stands c.bytes c.place → p ≡ c.place → q ≡ (a_term (count_at c.marks) levels false p).1 → at ≡ q.at → end ≡ end_of q → at_place c (place_between c.bytes at end) ≡ behind_term c levels
moved_term c at end levels p q h i j e f = moved c at end p q h i (rw j (moves_on_term (count_at c.marks) levels false p)) e f ∙ ap (at_place c) (j ∙ ap (λ x. (terms c levels false x).1) i)

pub moved_turns : (c : Site) (at end levels n : ℕ) (p q : Place) → Stands c.bytes c.place → p ≡ c.place → q ≡ (turns_of (a_term (count_at c.marks) levels false) n p).1 → at ≡ q.at → end ≡ end_of q → at_place c (place_between c.bytes at end) ≡ at_place c (turns_of (terms c levels false) n c.place).1
moved_turns c at end levels n p q h i j e f = moved c at end p q h i (rw j (moves_on_turns (count_at c.marks) levels n p)) e f ∙ ap (at_place c) (j ∙ ap (λ x. (turns_of (terms c levels false) n x).1) i)

pub moved_else : (c : Site) (at end : ℕ) (p q : Place) (below : Below) → Stands c.bytes c.place → p ≡ c.place → ((b : Below) → q ≡ (maybe_else b p).1) → at ≡ q.at → end ≡ end_of q → at_place c (place_between c.bytes at end) ≡ at_place c (maybe_else below c.place).1
moved_else c at end p q below h i j e f = moved c at end p q h i (rw (j (a_term (λ o. 0) 0)) (moves_on_else (λ o. 0) 0 p)) e f ∙ ap (at_place c) (j below ∙ ap (λ x. (maybe_else below x).1) i)

-- ---- a package, and what stands behind it

pub opened : (c : Site) (at end n : ℕ) (o p q : Place) → Stands c.bytes c.place → o ≡ c.place → q ≡ (a_size o).1 → p ≡ record q { rest = take n q.rest } → at ≡ p.at → end ≡ end_of p → at_place c (place_between c.bytes at end) ≡ at_place c p
opened c at end n o p q h i j k e f =
    let s : Stands c.bytes q = rw (j, i) (stands_on c.bytes c.place (a_size c.place).1 h (moves_on_size c.place)) in
    rw (e, f) (ap (at_place c) (place_again c.bytes p (rw k (stands_taken c.bytes q n s))))

pub behind_package : (bs : List ℕ) (at end n : ℕ) (p q : Place) → Stands bs p → q ≡ over n (a_size p).1 → at ≡ q.at → end ≡ end_of q → place_between bs at end ≡ q
behind_package bs at end n p q h j e f = rw (e, f) (place_again bs q (rw j (stands_on bs (a_size p).1 (over n (a_size p).1) (stands_on bs p (a_size p).1 h (moves_on_size p)) (moves_over n (a_size p).1))))

pub behind_else_is : (bs : List ℕ) (at end : ℕ) (o p q : Place) (below : Below) → Stands bs o → p ≡ o → ((b : Below) → q ≡ (maybe_else b p).1) → at ≡ q.at → end ≡ end_of q → place_between bs at end ≡ (maybe_else below o).1
behind_else_is bs at end o p q below h i j e f =
    rw (e, f) (place_again bs q (stands_on bs p q (rw i h) (rw (j (a_term (λ o. 0) 0)) (moves_on_else (λ o. 0) 0 p)))) ∙ j below ∙ ap (λ x. (maybe_else below x).1) i

-- ---- an opcode

pub term_taken : (count : ℕ → ℕ) (levels : ℕ) (element : Bool) (row : Option Row) (at end : ℕ) (bs : List ℕ) (o p q : Place) → Stands bs o → p ≡ o → MovesOn p q → at ≡ q.at → end ≡ end_of q → a_term count levels element p ≡ with_row (a_term count (levels - 1)) row q → a_term count levels element o ≡ with_row (a_term count (levels - 1)) row (place_between bs at end)
term_taken count levels element row at end bs o p q h i m e f t = ap (a_term count levels element) (sym i) ∙ t ∙ ap (with_row (a_term count (levels - 1)) row) (sym (rw (e, f) (place_again bs q (stands_on bs o q h (rw (← i) m)))))

pub ruleset moving = (first_there, first_missing, over_between, stands_between, moved, moved_over, moved_name, moved_row, moved_term, moved_target, moved_turns, moved_else, opened, behind_package, behind_else_is, term_taken)
