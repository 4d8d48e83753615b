use Rattle.std.proofs.Common.{arith}
use Rattle.acpi_machine.specs.Kinds.{kind_seen}
use Rattle.acpiroute_lib.proofs.NameLines.{more_lines}
use Rattle.acpiroute_lib.proofs.name_lines.name_lines.Goals as goal

pub loop-path-preserved : goal.loop-path-preserved
loop-path-preserved c = more_lines (λ node. (node.0, kind_seen node.1)) c.args.nodes.now c.loop-path.path-index c.loop-path-item.result c.loop-path.text.items c.put_name.new.text.items (omega arith) c.loop-path-item.is c.loop-path.invariant c.in_ok-put_name.ensures
