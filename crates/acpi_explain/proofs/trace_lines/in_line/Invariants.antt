use Rattle.acpi_explain.specs.Explaining.{IsInLine}
use Rattle.acpi_explain.proofs.trace_lines.in_line.Given as goal

abbrev pub invariant-loop-byte : goal.invariant-loop-byte
invariant-loop-byte l = IsInLine l.text.items
