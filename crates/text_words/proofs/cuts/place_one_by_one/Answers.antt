use Rattle.std.proofs.Common.{arith, sym, ◌==◌}
use Rattle.std.proofs.lemmas.Bool.{eq-eqb}
use Rattle.std.proofs.lemmas.List.Sums.{position_or_len_is}
use Rattle.text_words.proofs.cuts.place_one_by_one.Goals as goal

pub returns-then-text-i-clause-value : goal.returns-then-text-i-clause-value
returns-then-text-i-clause-value c = sym (position_or_len_is (λ b. b == c.args.byte) c.args.text.now c.loop-i.i 0 (omega arith) c.loop-i.invariant (λ _. eq-eqb _ _ c.if-text-i.true))

pub returns-clause-value : goal.returns-clause-value
returns-clause-value c = sym (position_or_len_is (λ b. b == c.args.byte) c.args.text.now _ 0 (omega arith) (λ k lt. c.loop-i.invariant k (omega arith)) (λ lt. absurd (omega arith)))
