use Rattle.aml_laws.proofs.FieldsTaken.{field_hands_on}
use Rattle.aml_laws.proofs.target_terms.a_name_of_a_field_hands_on_what_it_takes.Goals as goal

pub returns : goal.returns
returns g c = field_hands_on
