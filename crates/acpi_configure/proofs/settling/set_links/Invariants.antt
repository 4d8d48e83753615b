use Rattle.std.proofs.Common.{drop, []}
use Rattle.ar_space.specs.Change.{Same}
use Rattle.std.specs.Prelude.{zip}
use Rattle.acpi_machine.specs.Stops.{AllOrNone, StopsEach}
use Rattle.acpi_machine.proofs.Stopping.{Goes}
use Rattle.acpi_configure.specs.Settling.{link_set, links_set}
use Rattle.acpi_configure.specs.Stops.{StopsInSets}
use Rattle.acpi_configure.proofs.settling.set_links.Given as goal

abbrev pub invariant-loop-i : goal.invariant-loop-i
invariant-loop-i g l =
    Same (links_set g.S.Space.accesses l.links l.choice []) l.fn.machine (links_set g.S.Space.accesses (drop l.i l.links) (drop l.i l.choice) l.list.items) l.machine
    × Goes (StopsInSets g.S.Space.accesses l.links l.choice) l.fn.machine (StopsEach (λ x. link_set g.S.Space.accesses x.0 x.1) (λ x. AllOrNone (link_set g.S.Space.accesses x.0 x.1)) (drop l.i (zip l.links l.choice))) l.machine
