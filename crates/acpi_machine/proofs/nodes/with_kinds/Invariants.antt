use Rattle.std.proofs.Common.{◌≡◌, map}
use Rattle.std.specs.List.{filter_map}
use Rattle.acpi_machine.specs.Kinds.{kind_seen, with_kind}
use Rattle.acpi_machine.proofs.nodes.with_kinds.Given as goal

abbrev pub invariant-loop-path : goal.invariant-loop-path
invariant-loop-path l = map (λ node. (node.0, kind_seen node.1)) l.list.items ≡ filter_map (with_kind l.names.map) l.yielded
