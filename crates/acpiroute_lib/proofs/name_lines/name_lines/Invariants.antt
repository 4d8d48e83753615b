use Rattle.std.proofs.Common.{◌≡◌, map, take}
use Rattle.acpi_machine.specs.Kinds.{kind_seen}
use Rattle.acpiroute_lib.specs.NameLines.{name_lines}
use Rattle.acpiroute_lib.proofs.name_lines.name_lines.Given as goal

abbrev pub invariant-loop-path : goal.invariant-loop-path
invariant-loop-path l = l.text.items ≡ name_lines (map (λ node. (node.0, kind_seen node.1)) (take l.path-index l.nodes))
