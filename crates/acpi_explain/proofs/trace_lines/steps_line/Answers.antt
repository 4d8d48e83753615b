use Rattle.std.proofs.Common.{arith}
use Rattle.std.specs.Prelude.{Some, None, IfOk}
use Rattle.acpi_explain.proofs.Putting.{steps_taken}
use Rattle.acpi_explain.proofs.trace_lines.steps_line.Goals as goal

pub returns-then-is_empty : goal.returns-then-is_empty
returns-then-is_empty c = (None, tt, c.new.ensures.items)

pub returns : goal.returns
returns c = steps_taken c.taken_line.result _ c.args.steps (omega (arith, c.saturating_sub.ensures)) c.taken_line.ensures
