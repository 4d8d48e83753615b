use Rattle.aml_laws.proofs.FieldNamesUsed.{field_takes, field_refuses, field_takes_nothing}
use Rattle.aml_laws.proofs.field_names.a_store_to_a_name_of_a_field_writes_its_bits.Goals as goal

pub returns-clause-written : goal.returns-clause-written
returns-clause-written g c = field_takes

pub returns-clause-unwritten : goal.returns-clause-unwritten
returns-clause-unwritten g c = field_refuses

pub returns-clause-unconverted : goal.returns-clause-unconverted
returns-clause-unconverted g c = field_takes_nothing
