-- the numbers so far, and then those of the words that are left, are those of all words
use Rattle.std.proofs.Common.{◌≡◌, length}
use Rattle.route_report.specs.Reading.{numbers_after}
use Rattle.route_report.proofs.line.add_numbers.Given as goal

abbrev pub invariant-loop-word : goal.invariant-loop-word
invariant-loop-word l = numbers_after l.n l.fn.numbers.items l.fn.words ≡ numbers_after l.n l.numbers.items l.words

abbrev pub decreases-loop-word : goal.decreases-loop-word
decreases-loop-word l = length l.words
