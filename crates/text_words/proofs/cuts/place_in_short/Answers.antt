use Rattle.std.proofs.Common.{◌==◌}
use Rattle.text_words.proofs.Blocks.{stands_far}
use Rattle.text_words.proofs.cuts.place_in_short.Goals as goal

pub returns-else-near-lt-HALF-clause-value : goal.returns-else-near-lt-HALF-clause-value
returns-else-near-lt-HALF-clause-value c =
    stands_far (λ b. b == c.args.byte) c.args.text.now 8 c.if-text-lt-HALF.false c.place_in_half-near.result c.place_one_by_one-else-near-lt-HALF.result
    c.place_in_half-near.ensures c.if-near-lt-HALF.false c.place_one_by_one-else-near-lt-HALF.ensures.value
