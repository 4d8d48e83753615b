use Rattle.aml_laws.proofs.ArgumentsReferring.{argument_stores_through, argument_copies_through, link_stores_through}
use Rattle.aml_laws.proofs.stored_parts.an_argument_stands_for_what_it_refers_to.Goals as goal

pub returns-clause-stored : goal.returns-clause-stored
returns-clause-stored g c = argument_stores_through

pub returns-clause-copied : goal.returns-clause-copied
returns-clause-copied g c = argument_copies_through

pub returns-clause-referred : goal.returns-clause-referred
returns-clause-referred g c = link_stores_through
