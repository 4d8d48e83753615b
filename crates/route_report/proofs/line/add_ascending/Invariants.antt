-- the numbers so far, and then those of the words that are left, are those of all words
use Rattle.std.proofs.Common.{◌≡◌, length}
use Rattle.route_report.specs.Reading.{ascending_after}
use Rattle.route_report.proofs.line.add_ascending.Given as goal

abbrev pub invariant-loop-next : goal.invariant-loop-next
invariant-loop-next l = ascending_after l.n l.fn.numbers.items l.fn.words ≡ ascending_after l.n l.numbers.items l.words

abbrev pub decreases-loop-next : goal.decreases-loop-next
decreases-loop-next l = length l.words
