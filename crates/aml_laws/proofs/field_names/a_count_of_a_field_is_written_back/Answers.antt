use Rattle.aml_laws.proofs.FieldsReached.{field_increments, field_decrements}
use Rattle.aml_laws.proofs.field_names.a_count_of_a_field_is_written_back.Goals as goal

pub returns-clause-up : goal.returns-clause-up
returns-clause-up g c = field_increments

pub returns-clause-down : goal.returns-clause-down
returns-clause-down g c = field_decrements
