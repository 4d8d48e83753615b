-- the paths so far, with the words that are left, end as all of them do
use Rattle.std.proofs.Common.{◌≡◌, length}
use Rattle.std.specs.Prelude.{codes}
use Rattle.route_report.specs.Reading.{until, with_path}
use Rattle.route_report.proofs.line.add_paths.Given as goal

abbrev pub invariant-loop-word : goal.invariant-loop-word
invariant-loop-word l = until l.n (codes "over") (with_path l.n) l.fn.paths.items l.fn.words ≡ until l.n (codes "over") (with_path l.n) l.paths.items l.words

abbrev pub decreases-loop-word : goal.decreases-loop-word
decreases-loop-word l = length l.words
