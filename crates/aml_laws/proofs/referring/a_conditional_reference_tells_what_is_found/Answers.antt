use Rattle.aml_laws.proofs.NamesSought.{name_is_referred, none_is_referred, other_refusal_stays, slot_is_referred, empty_is_not_referred}
use Rattle.aml_laws.proofs.referring.a_conditional_reference_tells_what_is_found.Goals as goal

pub returns-clause-name_found : goal.returns-clause-name_found
returns-clause-name_found g c = name_is_referred

pub returns-clause-no_name : goal.returns-clause-no_name
returns-clause-no_name g c = none_is_referred

pub returns-clause-no_path : goal.returns-clause-no_path
returns-clause-no_path g c = other_refusal_stays

pub returns-clause-slot_with_value : goal.returns-clause-slot_with_value
returns-clause-slot_with_value g c = slot_is_referred

pub returns-clause-empty_slot : goal.returns-clause-empty_slot
returns-clause-empty_slot g c = empty_is_not_referred
