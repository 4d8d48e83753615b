use Rattle.std.proofs.Common.{take, zip}
use Rattle.acpi_explain.specs.LinkLines.{AreTold, IsLinkRead}
use Rattle.acpi_explain.proofs.links.read_links.Given as goal

abbrev pub invariant-loop-i : goal.invariant-loop-i
invariant-loop-i g l = AreTold (IsLinkRead g.S.Space.accesses l.evaluation.steps) (take l.i (zip l.links l.choice)) l.fn.machine l.machine l.text.items
