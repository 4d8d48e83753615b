use Rattle.acpi_links.proofs.Found.{found_named, found_present}
use Rattle.acpi_links.proofs.laws.the_links_found_are_links_named.Goals as goal

pub returns-clause-named : goal.returns-clause-named
returns-clause-named g c = found_named

pub returns-clause-present : goal.returns-clause-present
returns-clause-present g c = found_present
