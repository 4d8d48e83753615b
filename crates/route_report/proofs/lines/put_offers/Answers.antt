use Rattle.std.proofs.Common.{map}
use Rattle.std.specs.Prelude.{codes, decimal, option_map}
use Rattle.route_report.specs.Printing.{now_words}
use Rattle.route_report.proofs.Putting.{middle}
use Rattle.route_report.proofs.lines.put_offers.Goals as goal

pub returns-clause-text : goal.returns-clause-text
returns-clause-text c = middle (map decimal c.args.offers.now) (now_words (option_map (λ v. v.items) c.args.now.now)) (codes "now") c.args.text.now.items c.numbers.new.text.items c.extend_from_slice.new.self.items c.current.new.text.items c.in_ok-numbers.ensures.text c.in_ok-extend_from_slice.ensures.items c.in_ok-current.ensures
