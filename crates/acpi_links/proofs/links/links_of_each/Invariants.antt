use Rattle.std.proofs.Common.{◌≤◌, ◌++◌, length, map, drop}
use Rattle.std.specs.Prelude.{All}
use Rattle.std.specs.List.Sorted.{IsStrictlySortedBy}
use Rattle.ar_space.specs.Change.{Same}
use Rattle.aml_path.specs.Paths.{path_cmp}
use Rattle.acpi_machine.proofs.Stopping.{Goes}
use Rattle.acpi_links.specs.Folds.{folded}
use Rattle.acpi_links.specs.Links.{HasLeft, with_link, link_asked, links_of_each}
use Rattle.acpi_links.specs.Stops.{StopsInLinks}
use Rattle.acpi_links.proofs.links.links_of_each.Given as goal

abbrev pub invariant-loop-link : goal.invariant-loop-link
invariant-loop-link g l =
    Same (links_of_each g.S.Space.accesses l.avoid l.links) l.fn.machine (folded with_link (link_asked g.S.Space.accesses l.avoid) (drop l.link-index l.links) l.list.items) l.machine
    × (length l.list.items ≤ l.link-index)
    × (IsStrictlySortedBy path_cmp l.links → IsStrictlySortedBy path_cmp (map (λ link. link.0) l.list.items ++ drop l.link-index l.links))
    × All (HasLeft l.avoid) l.list.items
    × Goes (StopsInLinks g.S.Space.accesses l.avoid l.links) l.fn.machine (StopsInLinks g.S.Space.accesses l.avoid (drop l.link-index l.links)) l.machine
