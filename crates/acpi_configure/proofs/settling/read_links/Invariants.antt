use Rattle.std.proofs.Common.{◌++◌, ◌∷◌, [], drop}
use Rattle.ar_space.specs.Change.{Same}
use Rattle.acpi_machine.proofs.Stopping.{Goes}
use Rattle.acpi_links.specs.Folds.{folded}
use Rattle.acpi_configure.specs.Settling.{link_read, links_read}
use Rattle.acpi_configure.specs.Stops.{StopsInReads}
use Rattle.acpi_configure.proofs.settling.read_links.Given as goal

abbrev pub invariant-loop-link : goal.invariant-loop-link
invariant-loop-link g l =
    Same (links_read g.S.Space.accesses l.links) l.fn.machine (folded (λ done line. done ++ line ∷ []) (link_read g.S.Space.accesses) (drop l.link-index l.links) l.list.items) l.machine
    × Goes (StopsInReads g.S.Space.accesses l.links) l.fn.machine (StopsInReads g.S.Space.accesses (drop l.link-index l.links)) l.machine
