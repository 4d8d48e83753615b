use Rattle.aml_laws.proofs.OsiCalled.{text_told, no_string_refused, other_number_refused, text_answered, no_text_answered, other_number_answered}
use Rattle.aml_laws.proofs.names_used.osi_answers_its_callers.Goals as goal

pub returns-clause-text : goal.returns-clause-text
returns-clause-text g c = text_told

pub returns-clause-no_string : goal.returns-clause-no_string
returns-clause-no_string g c = no_string_refused

pub returns-clause-other_number : goal.returns-clause-other_number
returns-clause-other_number g c = other_number_refused

pub returns-clause-text_handed_in : goal.returns-clause-text_handed_in
returns-clause-text_handed_in g c = text_answered

pub returns-clause-no_text_handed_in : goal.returns-clause-no_text_handed_in
returns-clause-no_text_handed_in g c = no_text_answered

pub returns-clause-other_number_handed_in : goal.returns-clause-other_number_handed_in
returns-clause-other_number_handed_in g c = other_number_answered
