use Rattle.std.proofs.Common.{◌≡◌, ◌∙◌, ap, sym, arith}
use Rattle.aml_fields.specs.Bits.{bits_from, merged}
use Rattle.aml_fields.proofs.OneUnit.{merged_whole, merged_small, merged_sum}
use Rattle.aml_fields.proofs.one_unit.with_bits.Goals as goal

pub returns-then-count-eq64 : goal.returns-then-count-eq64
returns-then-count-eq64 c =
    let count : c.args.count ≡ 64 = omega arith in
    let first : c.args.first ≡ 0 = omega arith in
    merged_whole c.args.old c.args.number (omega arith)
    ∙ ap (λ x. merged c.args.old x (bits_from c.args.number 0 64)) (sym first)
    ∙ ap (λ x. merged c.args.old c.args.first (bits_from c.args.number 0 x)) (sym count)

pub returns : goal.returns
returns c =
    merged_sum c.args.old c.args.first c.args.count c.args.number c.bits_below-low.result c.bits_below.result c.requires.within (omega arith) (omega arith) c.bits_below-low.ensures.value c.bits_below.ensures.value

pub overflow_add-result : goal.overflow_add-result
overflow_add-result c =
    let sum = merged_sum c.args.old c.args.first c.args.count c.args.number c.bits_below-low.result c.bits_below.result c.requires.within (omega arith) (omega arith) c.bits_below-low.ensures.value c.bits_below.ensures.value in
    let small = merged_small c.args.old c.args.first c.args.count c.args.number c.requires.within in
    omega (arith, sum, small)

pub overflow_add-result-2 : goal.overflow_add-result-2
overflow_add-result-2 c =
    let sum = merged_sum c.args.old c.args.first c.args.count c.args.number c.bits_below-low.result c.bits_below.result c.requires.within (omega arith) (omega arith) c.bits_below-low.ensures.value c.bits_below.ensures.value in
    let small = merged_small c.args.old c.args.first c.args.count c.args.number c.requires.within in
    omega (arith, sum, small)
