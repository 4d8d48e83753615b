use Rattle.machine_laws.proofs.OffersTold.{edge_refused, exclusive_refused, source_refused, no_number_refused, numbers_offered, first_offer, further_offer}
use Rattle.machine_laws.proofs.descriptors.interrupts_are_offered_as_their_descriptor_says.Goals as goal

pub returns-clause-edge : goal.returns-clause-edge
returns-clause-edge c = edge_refused

pub returns-clause-exclusive : goal.returns-clause-exclusive
returns-clause-exclusive c = exclusive_refused

pub returns-clause-source : goal.returns-clause-source
returns-clause-source c = source_refused

pub returns-clause-no_number : goal.returns-clause-no_number
returns-clause-no_number c = no_number_refused

pub returns-clause-offered : goal.returns-clause-offered
returns-clause-offered c = numbers_offered

pub returns-clause-first : goal.returns-clause-first
returns-clause-first c = first_offer

pub returns-clause-further : goal.returns-clause-further
returns-clause-further c = further_offer
