use Rattle.aml_laws.proofs.MatchesRefused.{no_operators}
use Rattle.aml_laws.proofs.ValuesMatched.{value_found, no_value_found, element_unread, past_all, no_start}
use Rattle.aml_laws.proofs.matches.a_match_finds_values_of_any_type.Goals as goal

pub returns-clause-first : goal.returns-clause-first
returns-clause-first g c = value_found

pub returns-clause-none : goal.returns-clause-none
returns-clause-none g c = no_value_found

pub returns-clause-unread : goal.returns-clause-unread
returns-clause-unread g c = element_unread

pub returns-clause-past : goal.returns-clause-past
returns-clause-past g c = past_all

pub returns-clause-no_operator : goal.returns-clause-no_operator
returns-clause-no_operator g c = no_operators

pub returns-clause-no_start : goal.returns-clause-no_start
returns-clause-no_start g c = no_start
