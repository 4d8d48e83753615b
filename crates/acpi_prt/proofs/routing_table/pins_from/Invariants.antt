use Rattle.std.proofs.Common.{map, drop, []}
use Rattle.ar_space.specs.Change.{Same}
use Rattle.aml_world.specs.state.Given.{given_of}
use Rattle.acpi_machine.proofs.Stopping.{Goes}
use Rattle.acpi_prt.specs.RoutingTables.{pins_from}
use Rattle.acpi_prt.specs.Stops.{StopsInEntries}
use Rattle.acpi_prt.proofs.routing_table.pins_from.Given as goal

abbrev pub invariant-loop-entry : goal.invariant-loop-entry
invariant-loop-entry g l =
    Same (pins_from g.S.Space.accesses (map given_of l.entries) []) l.fn.machine (pins_from g.S.Space.accesses (map given_of (drop l.entry-index l.entries)) l.pins) l.machine
    × Goes (StopsInEntries g.S.Space.accesses (map given_of l.entries)) l.fn.machine (StopsInEntries g.S.Space.accesses (drop l.entry-index (map given_of l.entries))) l.machine
