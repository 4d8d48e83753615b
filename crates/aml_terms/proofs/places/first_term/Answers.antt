use Rattle.std.specs.Prelude.{◌≡◌, ◌<◌, ◌≤◌, ◌-◌, ◌∷◌, ℕ, List, false, length, take, drop}
use Rattle.std.proofs.Common.{◌∙◌, sym, ap, length-drop, arith}
use Rattle.std.proofs.Math.Seq.{take-length}
use Rattle.aml_grammar.specs.Tree.{Tree}
use Rattle.aml_marks.specs.Marked.{Place, a_term, count_at, to_end, walk_levels}
use Rattle.aml_marks.proofs.Walking.{one_more}
use Rattle.aml_marks.proofs.Onward.{moves_on_term, takes_a_byte, place_in, next_place, ends_within}
use Rattle.aml_terms.specs.AtTree.{behind_of, place_at}
use Rattle.aml_terms.proofs.places.first_term.Goals as goal

-- all bytes from an offset on
all_left : (bs : List ℕ) (at : ℕ) → take (length bs - at) (drop at bs) ≡ drop at bs
all_left bs at = ap (λ n. take n (drop at bs)) (sym (length-drop at bs)) ∙ take-length (drop at bs)

pub returns-clause-next : goal.returns-clause-next
returns-clause-next c =
    let here = place_in c.args.bytes.now c.args.at in
    let count = count_at c.args.marks.now in
    let term = c.term_at-term.result in
    let behind : c.behind.result ≡ (a_term count walk_levels false here).1 =
    c.behind.ensures
    ∙ ap (λ marks. behind_of term.kind (count_at marks) term.levels (place_at term)) c.term_at-term.ensures.marks
    ∙ (rw (c.new-cursor.ensures, all_left c.args.bytes.now c.args.at) at c.term_at-term.ensures.behind)
    in
    next_place c.args.bytes.now c.args.at (a_term count walk_levels false here).1 c.at.result (moves_on_term count walk_levels false here) (c.at.ensures.value ∙ ap (λ (p : Place). p.at) behind)

pub returns-clause-on : goal.returns-clause-on
returns-clause-on c =
    let here = place_in c.args.bytes.now c.args.at in
    let left : 0 < length here.rest = omega (arith, length-drop c.args.at c.args.bytes.now, c.requires) in
    let some : c.args.at < (a_term (count_at c.args.marks.now) walk_levels false here).1.at = takes_a_byte (count_at c.args.marks.now) walk_levels false here (omega arith) left in
    omega (arith, some, ap (λ (p : Place). p.at) (returns-clause-next c))

pub returns-clause-within : goal.returns-clause-within
returns-clause-within c =
    let here = place_in c.args.bytes.now c.args.at in
    let count = count_at c.args.marks.now in
    let le : c.args.at ≤ length c.args.bytes.now = omega (arith, c.requires) in
    omega (arith, ends_within c.args.bytes.now c.args.at (a_term count walk_levels false here).1 le (moves_on_term count walk_levels false here), ap (λ (p : Place). p.at) (returns-clause-next c))

pub returns-clause-items : goal.returns-clause-items
returns-clause-items c turns some =
    let here = place_in c.args.bytes.now c.args.at in
    let m = a_term (count_at c.args.marks.now) walk_levels false in
    let left : 0 < length here.rest = omega (arith, length-drop c.args.at c.args.bytes.now, c.requires) in
    let step = one_more m turns here some left in
    ap (λ (r : List Tree × Place). r.0) step
    ∙ ap (λ p. (m here).0 ∷ (to_end m (turns - 1) p).0) (returns-clause-next c)
    ∙ ap (λ t. t ∷ (to_end m (turns - 1) (place_in c.args.bytes.now c.at.result)).0) (sym (rw (c.new-cursor.ensures, all_left c.args.bytes.now c.args.at) at c.term_at-term.ensures.tree))
