use Rattle.std.proofs.Common.{◌≡◌, drop}
use Rattle.acpi_links.specs.Links.{with_links, links_named}
use Rattle.acpi_links.proofs.links.links_named.Given as goal

abbrev pub invariant-loop-pin : goal.invariant-loop-pin
invariant-loop-pin l = with_links l.links.keys (drop l.pin-index l.pins) ≡ links_named l.pins
