use Rattle.std.proofs.Common.{◌≡◌, ◌++◌, take, map}
use Rattle.std.specs.Prelude.{decimal}
use Rattle.route_report.specs.Lines.{spaced}
use Rattle.route_report.proofs.put.numbers.Given as goal

abbrev pub invariant-loop-each : goal.invariant-loop-each
invariant-loop-each l = l.text.items ≡ l.fn.text.items ++ spaced (map decimal (take l.each-index l.numbers))
