use Rattle.std.proofs.Common.{◌-◌, ◌*◌, ◌%◌, ◌∙◌, arith, sym, ap}
use Rattle.std.specs.Int.{bit_at}
use Rattle.std.proofs.Math.Pow.{pow_mono}
use Rattle.std.proofs.lemmas.Nat.Bits.{ones_shl, bit_at_mask_inside}
use Rattle.route_solve.proofs.LeftBits.{bits_below, one_shl}
use Rattle.route_solve.proofs.left.bits_between.Goals as goal

pub returns-then-w-end-clause-all : goal.returns-then-w-end-clause-all
returns-then-w-end-clause-all c j here le lt =
    let k = c.saturating_sub-first.result in
    let first = c.saturating_sub-first.ensures in
    ap (λ x. bit_at x (j % 64)) (ones_shl 64 k (omega arith)) ∙ bit_at_mask_inside k 64 (j % 64) (omega arith) (omega arith)

pub returns-then-w-end-clause-only : goal.returns-then-w-end-clause-only
returns-then-w-end-clause-only c j here h =
    let k = c.saturating_sub-first.result in
    let first = c.saturating_sub-first.ensures in
    let b = bits_below k 64 (j % 64) (sym (ap (λ x. bit_at x (j % 64)) (ones_shl 64 k (omega arith))) ∙ h) in
    omega arith

pub overflow_sub-result-2 : goal.overflow_sub-result-2
overflow_sub-result-2 c =
    let k = c.saturating_sub-first.result in
    let first = c.saturating_sub-first.ensures in
    rw (one_shl k (omega arith), one_shl (c.args.end - 64 * c.args.w) (omega arith)) (pow_mono (omega arith))

pub returns-clause-all : goal.returns-clause-all
returns-clause-all c j here le lt =
    let k = c.saturating_sub-first.result in
    let first = c.saturating_sub-first.ensures in
    rw (one_shl k (omega arith), one_shl (c.args.end - 64 * c.args.w) (omega arith)) (bit_at_mask_inside k (c.args.end - 64 * c.args.w) (j % 64) (omega arith) (omega arith))

pub returns-clause-only : goal.returns-clause-only
returns-clause-only c j here h =
    let k = c.saturating_sub-first.result in
    let first = c.saturating_sub-first.ensures in
    let b = bits_below k (c.args.end - 64 * c.args.w) (j % 64) (rw (one_shl k (omega arith), one_shl (c.args.end - 64 * c.args.w) (omega arith)) at h) in
    omega arith
