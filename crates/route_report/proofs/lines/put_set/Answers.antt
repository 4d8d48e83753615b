use Rattle.std.proofs.Common.{map}
use Rattle.std.specs.Prelude.{codes, decimal}
use Rattle.route_report.specs.Printing.{path_words}
use Rattle.route_report.proofs.Putting.{middle}
use Rattle.route_report.proofs.lines.put_set.Goals as goal

pub returns-clause-text : goal.returns-clause-text
returns-clause-text c = middle (path_words c.args.links.now) (map decimal c.args.interrupts.now) (codes "over") c.args.text.now.items c.some_paths.new.text.items c.extend_from_slice.new.self.items c.numbers.new.text.items c.in_ok-some_paths.ensures c.in_ok-extend_from_slice.ensures.items c.in_ok-numbers.ensures.text
