use Rattle.std.proofs.Common.{◌≡◌, drop, take}
use Rattle.std.specs.Prelude.{All}
use Rattle.acpi_links.specs.Links.{HasLeft}
use Rattle.acpi_links.specs.Sparing.{all_left}
use Rattle.acpi_links.proofs.sparing.all_left.Given as goal

abbrev pub invariant-loop-link : goal.invariant-loop-link
invariant-loop-link l = (all_left l.avoid (drop l.link-index l.links) ≡ all_left l.avoid l.links) × All (HasLeft l.avoid) (take l.link-index l.links)
