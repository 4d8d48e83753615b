-- the offers so far, with the words that are left, end as all of them do
use Rattle.std.proofs.Common.{◌≡◌, length}
use Rattle.std.specs.Prelude.{codes}
use Rattle.route_report.specs.Reading.{until, with_next}
use Rattle.route_report.proofs.line.add_offers.Given as goal

abbrev pub invariant-loop-word : goal.invariant-loop-word
invariant-loop-word l = until l.n (codes "now") (with_next l.n) l.fn.offers.items l.fn.words ≡ until l.n (codes "now") (with_next l.n) l.offers.items l.words

abbrev pub decreases-loop-word : goal.decreases-loop-word
decreases-loop-word l = length l.words
