use Rattle.std.proofs.Common.{◌==◌}
use Rattle.text_words.proofs.Blocks.{stands_far}
use Rattle.text_words.proofs.cuts.place_of.Goals as goal

pub returns-else-near-lt-NEAR-clause-value : goal.returns-else-near-lt-NEAR-clause-value
returns-else-near-lt-NEAR-clause-value c =
    stands_far (λ b. b == c.args.byte) c.args.text.now 16 c.if-text-lt-NEAR.false c.place_near-near.result c.place_in_long.result
    c.place_near-near.ensures c.if-near-lt-NEAR.false c.place_in_long.ensures.value
