use Rattle.acpi_links.proofs.Leading.{links_led_to}
use Rattle.acpi_links.proofs.laws.the_links_named_are_those_that_pins_lead_to.Goals as goal

pub returns : goal.returns
returns c = links_led_to
