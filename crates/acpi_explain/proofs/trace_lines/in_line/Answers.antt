use Rattle.std.proofs.Common.{subst, sym}
use Rattle.acpi_explain.specs.Explaining.{IsInLine}
use Rattle.acpi_explain.proofs.Putting.{none_in_line, one_more_in_line}
use Rattle.acpi_explain.proofs.trace_lines.in_line.Goals.{then-byte-ne10+in_ok-push, else-byte-ne10}
use Rattle.acpi_explain.proofs.trace_lines.in_line.Goals as goal

pub loop-byte-init : goal.loop-byte-init
loop-byte-init c = none_in_line c.new-text.result.items c.new-text.ensures.items

pub loop-byte-preserved : goal.loop-byte-preserved
loop-byte-preserved c = elim c.if-byte-ne10.branch [ then-byte-ne10+in_ok-push w ↦ subst (λ t. IsInLine t.items) (sym w.text-is) (one_more_in_line c.loop-byte.text.items w.push.new.self.items _ c.loop-byte.invariant w.if-byte-ne10.true w.in_ok-push.ensures.items) | else-byte-ne10 w ↦ subst (λ t. IsInLine t.items) (sym w.text-is) c.loop-byte.invariant ]
