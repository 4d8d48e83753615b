use Rattle.std.proofs.Common.{rules}
use Rattle.acpi_explain.proofs.Putting.{no_terms, more_terms}
use Rattle.acpi_explain.proofs.trace_lines.term_lines.Goals as goal

pub loop-place-init : goal.loop-place-init
loop-place-init c = no_terms c.new-text.result.items c.new-text.ensures.items

pub loop-place-preserved : goal.loop-place-preserved
loop-place-preserved c = more_terms c.loop-place.text.items c.put_line.new.text.items c.in_ok-words.words.items c.in_ok-words.ensures c.loop-place.invariant (search rules)
