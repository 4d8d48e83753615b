use Rattle.std.proofs.Common.{arith, sym, ◌==◌}
use Rattle.std.proofs.lemmas.Bool.{eq-eqb}
use Rattle.std.proofs.lemmas.List.Sums.{position_or_len_is}
use Rattle.aml_convert.proofs.strings.place_of_zero.Goals as goal

pub returns-then-bytes-place-eq0-clause-value : goal.returns-then-bytes-place-eq0-clause-value
returns-then-bytes-place-eq0-clause-value c = sym (position_or_len_is (λ b. b == 0) c.args.bytes.now c.loop-place.place 0 (omega arith) c.loop-place.invariant (λ _. eq-eqb _ _ c.if-bytes-place-eq0.true))

pub returns-clause-value : goal.returns-clause-value
returns-clause-value c = sym (position_or_len_is (λ b. b == 0) c.args.bytes.now _ 0 (omega arith) (λ k lt. c.loop-place.invariant k (omega arith)) (λ lt. absurd (omega arith)))
