use Rattle.std.proofs.Common.{◌≡◌, ◌++◌, take, map}
use Rattle.std.specs.Prelude.{All}
use Rattle.route_report.specs.Lines.{text_of_lines}
use Rattle.route_report.proofs.lines.put_all.Given as goal

abbrev pub invariant-loop-line : goal.invariant-loop-line
invariant-loop-line g l = record {
  text : l.text.items ≡ l.fn.text.items ++ text_of_lines (map g.L.Line.words (take l.line-index l.lines));
  small : All g.L.Line.Small (take l.line-index l.lines);
}
