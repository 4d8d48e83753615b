use Rattle.std.proofs.Common.{map, arith, subst}
use Rattle.std.proofs.lemmas.List.Elements.{All-more}
use Rattle.route_report.specs.Lines.{text_of_lines, line_text}
use Rattle.route_report.proofs.Putting.{put_more, one_line}
use Rattle.route_report.proofs.lines.put_all.Goals as goal

pub loop-line-preserved : goal.loop-line-preserved
loop-line-preserved g c = record {
  text = put_more (λ xs. text_of_lines (map g.L.Line.words xs)) (λ x. line_text (g.L.Line.words x)) (one_line g.L.Line.words) c.args.lines.now c.loop-line.line-index c.line-item.result c.args.text.now.items c.loop-line.text.items c.put.new.text.items (omega arith) c.line-item.is c.loop-line.invariant.text c.in_ok-put.ensures.text;
  small = All-more g.L.Line.Small c.args.lines.now c.loop-line.line-index c.line-item.result (omega arith) c.loop-line.invariant.small (subst g.L.Line.Small c.line-item.is c.in_ok-put.ensures.small);
}
