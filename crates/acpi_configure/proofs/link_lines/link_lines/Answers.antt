use Rattle.std.proofs.Common.{arith}
use Rattle.acpi_configure.specs.Lines.{row_of}
use Rattle.acpi_configure.proofs.Readables.{readable_more}
use Rattle.acpi_configure.proofs.Turns.{more_plain, end_plain, answer-is}
use Rattle.acpi_configure.proofs.link_lines.link_lines.Goals as goal

pub loop-path-preserved : goal.loop-path-preserved
loop-path-preserved c = (
  more_plain row_of c.loop-path.list.items _ c.args.links.now c.loop-path.path-index c.in_ok-line.line _ c.loop-path.invariant.0 (omega arith) c.loop-path-item.is c.in_ok-push.ensures.items (cc (c.in_ok-line.ensures.line.is tt)),
  readable_more _ _ _ c.in_ok-push.ensures.items c.loop-path.invariant.1 c.in_ok-line.ensures.offers,
)

pub returns-clause-lines : goal.returns-clause-lines
returns-clause-lines c = answer-is _ _ (end_plain row_of c.loop-path.list.items c.args.links.now c.loop-path.path-index c.loop-path.invariant.0 (omega arith))
