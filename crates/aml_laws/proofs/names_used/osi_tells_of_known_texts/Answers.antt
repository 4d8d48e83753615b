use Rattle.aml_laws.proofs.OsiAsked.{osi_tells, osi_refuses}
use Rattle.aml_laws.proofs.names_used.osi_tells_of_known_texts.Goals as goal

pub returns-clause-text : goal.returns-clause-text
returns-clause-text g c = osi_tells

pub returns-clause-no_string : goal.returns-clause-no_string
returns-clause-no_string g c = osi_refuses
