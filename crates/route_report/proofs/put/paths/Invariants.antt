use Rattle.std.proofs.Common.{◌≡◌, ◌++◌, take, map}
use Rattle.aml_path.specs.Text.{text_of}
use Rattle.route_report.specs.Lines.{spaced}
use Rattle.route_report.proofs.put.paths.Given as goal

abbrev pub invariant-loop-each : goal.invariant-loop-each
invariant-loop-each l = l.text.items ≡ l.fn.text.items ++ spaced (map text_of (take l.each-index l.paths))
