use Rattle.aml_laws.proofs.NamesMatched.{name_met, name_unmet}
use Rattle.aml_laws.proofs.names_in_packages.a_match_compares_what_a_name_finds.Goals as goal

pub returns-clause-met : goal.returns-clause-met
returns-clause-met g c = name_met

pub returns-clause-unmet : goal.returns-clause-unmet
returns-clause-unmet g c = name_unmet
