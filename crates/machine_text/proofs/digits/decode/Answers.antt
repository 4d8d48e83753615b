use Rattle.std.proofs.Common.{◌≡◌, ◌*◌, ◌∙◌, ◌==◌, false, length, sym, refl, arith}
use Rattle.std.proofs.lemmas.Bool.{ne_eqb}
use Rattle.machine_text.proofs.Pairs.{word_pairs, pairs_start, pairs_on, pairs_bad, pairs_done}
use Rattle.machine_text.proofs.digits.decode.Goals as goal

pub loop-i-init : goal.loop-i-init
loop-i-init c = pairs_start c.args.word.now c.args.out.now 0 c.requires.1 refl

pub returns-in-None : goal.returns-in-None
returns-in-None c =
    let some : (length c.args.word.now == 0) ≡ false = ne_eqb _ _ (λ e. omega (arith, e, c.requires)) in
    let even : length c.args.word.now ≡ 2 * length c.loop-i.out = omega (arith, c.requires) in
    word_pairs c.args.word.now some ∙ pairs_bad c.args.word.now c.loop-i.out c.loop-i.i even (omega arith) (sym c.in-None.is ∙ c.pair.ensures) c.loop-i.invariant

pub loop-i-preserved : goal.loop-i-preserved
loop-i-preserved c =
    let even : length c.args.word.now ≡ 2 * length c.loop-i.out = omega (arith, c.requires) in
    pairs_on c.args.word.now c.loop-i.out c.loop-i.i even c.in-Some.byte (omega arith) (sym c.in-Some.is ∙ c.pair.ensures) c.loop-i.invariant

pub returns : goal.returns
returns c =
    let some : (length c.args.word.now == 0) ≡ false = ne_eqb _ _ (λ e. omega (arith, e, c.requires)) in
    let even : length c.args.word.now ≡ 2 * length c.loop-i.out = omega (arith, c.requires) in
    word_pairs c.args.word.now some ∙ pairs_done c.args.word.now c.loop-i.out c.loop-i.i even (omega arith) c.loop-i.invariant
