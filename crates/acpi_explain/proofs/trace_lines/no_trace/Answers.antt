use Rattle.std.specs.Prelude.{[], None}
use Rattle.acpi_explain.proofs.trace_lines.no_trace.Goals as goal

pub returns-clause-places : goal.returns-clause-places
returns-clause-places c = ([], None, tt, tt, c.new.ensures.items)

pub returns-clause-steps : goal.returns-clause-steps
returns-clause-steps c = λ n. (None, tt, c.new-2.ensures.items)
