use Rattle.std.proofs.Common.{List, map, arith, ◌∷◌}
use Rattle.aml_path.specs.declared.segment.Seg.{Seg}
use Rattle.aml_path.specs.Text.{text_of}
use Rattle.route_report.specs.Lines.{spaced}
use Rattle.route_report.proofs.Putting.{put_more, one_spaced}
use Rattle.route_report.proofs.put.paths.Goals as goal

pub loop-each-preserved : goal.loop-each-preserved
loop-each-preserved c =
    put_more (λ (ps : List (List Seg)). spaced (map text_of ps)) (λ p. 32 ∷ text_of p) (one_spaced text_of) c.args.paths.now c.loop-each.each-index c.each-item.result c.args.text.now.items c.loop-each.text.items c.path.new.text.items (omega arith) c.each-item.is c.loop-each.invariant c.in_ok-path.ensures
