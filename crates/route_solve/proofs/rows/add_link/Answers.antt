use Rattle.std.proofs.Common.{◌≡◌, arith, subst, ◌∙◌, get_or}
use Rattle.std.proofs.lemmas.List.{get_or_default}
use Rattle.std.proofs.lemmas.List.Elements.{Contains-get_or}
use Rattle.route_solve.specs.Rows.{bit_of}
use Rattle.route_solve.proofs.rows.add_link.Goals as goal

pub set_bit-requires-clause-within : goal.set_bit-requires-clause-within
set_bit-requires-clause-within c =
    let e = c.loop-i.auto.words in
    let h = c.requires.within (get_or c.args.places.now c.loop-i.i-index 0) (Contains-get_or c.args.places.now c.loop-i.i-index 0 c.loop-i-test.true) in
    omega arith

pub returns-clause-set : goal.returns-clause-set
returns-clause-set c i h = subst (λ j. bit_of c.loop-i.words j c.args.link ≡ 1) (get_or_default c.args.places.now h.0 0 i h.1 ∙ h.2) (c.loop-i.invariant.set h.0 (let b = h.1 in let t = c.loop-i-test.false in omega arith))
