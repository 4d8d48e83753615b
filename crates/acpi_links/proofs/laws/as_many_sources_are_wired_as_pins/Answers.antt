use Rattle.acpi_links.proofs.Wired.{pins_counted, sources_counted}
use Rattle.acpi_links.proofs.laws.as_many_sources_are_wired_as_pins.Goals as goal

pub returns-clause-pins : goal.returns-clause-pins
returns-clause-pins c = pins_counted

pub returns-clause-sources : goal.returns-clause-sources
returns-clause-sources c = sources_counted
