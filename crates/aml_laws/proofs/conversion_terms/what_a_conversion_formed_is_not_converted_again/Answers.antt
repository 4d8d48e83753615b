use Rattle.aml_laws.proofs.ConversionTermsDone.{formed_over_other, formed_over_same, formed_over_package, formed_in_slot}
use Rattle.aml_laws.proofs.FormedElsewhere.{formed_over_reference, formed_over_field, formed_over_nothing, formed_in_parts, formed_in_referred_slot, formed_through_name}
use Rattle.aml_laws.proofs.conversion_terms.what_a_conversion_formed_is_not_converted_again.Goals as goal

pub returns-clause-other_type : goal.returns-clause-other_type
returns-clause-other_type g c = formed_over_other

pub returns-clause-one_type : goal.returns-clause-one_type
returns-clause-one_type g c = formed_over_same

pub returns-clause-over_package : goal.returns-clause-over_package
returns-clause-over_package g c = formed_over_package

pub returns-clause-slots : goal.returns-clause-slots
returns-clause-slots g c = formed_in_slot

pub returns-clause-over_reference : goal.returns-clause-over_reference
returns-clause-over_reference g c = formed_over_reference

pub returns-clause-over_field : goal.returns-clause-over_field
returns-clause-over_field g c = formed_over_field

pub returns-clause-over_nothing : goal.returns-clause-over_nothing
returns-clause-over_nothing g c = formed_over_nothing

pub returns-clause-parts : goal.returns-clause-parts
returns-clause-parts g c = formed_in_parts

pub returns-clause-referred_slot : goal.returns-clause-referred_slot
returns-clause-referred_slot g c = formed_in_referred_slot

pub returns-clause-referred_name : goal.returns-clause-referred_name
returns-clause-referred_name g c = formed_through_name
