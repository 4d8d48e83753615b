use Rattle.aml_laws.proofs.WideTermsRefused.{no_string_given, no_text_given, no_part_given, no_number_decoded, no_number_coded}
use Rattle.aml_laws.proofs.conversion_terms.conversions_of_the_wide_profile_refuse_what_has_no_bytes.Goals as goal

pub returns-clause-strings : goal.returns-clause-strings
returns-clause-strings g c = no_string_given

pub returns-clause-text : goal.returns-clause-text
returns-clause-text g c = no_text_given

pub returns-clause-part : goal.returns-clause-part
returns-clause-part g c = no_part_given

pub returns-clause-decoded : goal.returns-clause-decoded
returns-clause-decoded g c = no_number_decoded

pub returns-clause-coded : goal.returns-clause-coded
returns-clause-coded g c = no_number_coded
