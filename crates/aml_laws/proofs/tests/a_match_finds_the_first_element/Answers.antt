use Rattle.aml_laws.proofs.MatchesFound.{match_found, none_found, past_the_end}
use Rattle.aml_laws.proofs.MatchesRefused.{no_first_operator, no_second_operator}
use Rattle.aml_laws.proofs.tests.a_match_finds_the_first_element.Goals as goal

pub returns-clause-first : goal.returns-clause-first
returns-clause-first g c = match_found

pub returns-clause-none : goal.returns-clause-none
returns-clause-none g c = none_found

pub returns-clause-past : goal.returns-clause-past
returns-clause-past g c = past_the_end

pub returns-clause-no_first_operator : goal.returns-clause-no_first_operator
returns-clause-no_first_operator g c = no_first_operator

pub returns-clause-no_second_operator : goal.returns-clause-no_second_operator
returns-clause-no_second_operator g c = no_second_operator
