use Rattle.aml_laws.proofs.LocatedFields.{chosen_read, chosen_written}
use Rattle.aml_laws.proofs.located_fields.a_unit_behind_an_index_field_is_chosen_by_its_offset.Goals as goal

pub returns-clause-read : goal.returns-clause-read
returns-clause-read g c = chosen_read

pub returns-clause-written : goal.returns-clause-written
returns-clause-written g c = chosen_written
