use Rattle.std.proofs.Common.{◌≡◌, ◌++◌, map, drop}
use Rattle.std.specs.Prelude.{All}
use Rattle.route_report.specs.Readable.{IsReadableOffer}
use Rattle.acpi_configure.specs.Lines.{row_of}
use Rattle.acpi_configure.proofs.link_lines.link_lines.Given as goal

abbrev pub invariant-loop-path : goal.invariant-loop-path
invariant-loop-path l = (l.list.items ++ map row_of (drop l.path-index l.links) ≡ map row_of l.links) × All (λ l. IsReadableOffer l.offers) l.list.items
