use Rattle.aml_laws.proofs.NamesGiven.{name_gives, itself_is_given, slot_is_given, empty_slot_is_refused}
use Rattle.aml_laws.proofs.names_used.a_name_gives_what_it_holds.Goals as goal

pub returns-clause-names : goal.returns-clause-names
returns-clause-names g c = name_gives

pub returns-clause-no_data : goal.returns-clause-no_data
returns-clause-no_data g c = itself_is_given

pub returns-clause-slots : goal.returns-clause-slots
returns-clause-slots g c = slot_is_given

pub returns-clause-empty : goal.returns-clause-empty
returns-clause-empty g c = empty_slot_is_refused
