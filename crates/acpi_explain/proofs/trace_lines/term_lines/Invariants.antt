use Rattle.acpi_explain.specs.Explaining.{AreTerms}
use Rattle.acpi_explain.proofs.trace_lines.term_lines.Given as goal

abbrev pub invariant-loop-place : goal.invariant-loop-place
invariant-loop-place l = AreTerms l.text.items
