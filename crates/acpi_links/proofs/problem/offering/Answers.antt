use Rattle.acpi_links.proofs.Posed.{left_offer}
use Rattle.acpi_links.proofs.problem.offering.Goals as goal

pub returns-clause-offer : goal.returns-clause-offer
returns-clause-offer c = rw c.new.ensures (left_offer c.args.avoid.now c.args.offer.now.numbers _ (rw (← c.numbers.ensures.value) c.in_ok-numbers.ensures) c.requires c.numbers.ensures.sound.at_least c.numbers.ensures.sound.at_most c.numbers.ensures.sound.ascending)
