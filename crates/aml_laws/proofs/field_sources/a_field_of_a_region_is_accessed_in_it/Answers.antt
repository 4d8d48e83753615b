use Rattle.aml_laws.proofs.FieldSources.{nowhere_read, nowhere_written}
use Rattle.aml_laws.proofs.field_sources.a_field_of_a_region_is_accessed_in_it.Goals as goal

pub returns-clause-read_nowhere : goal.returns-clause-read_nowhere
returns-clause-read_nowhere g c = λ accesses call f n s after e source at. nowhere_read accesses call f n source s after e at

pub returns-clause-written_nowhere : goal.returns-clause-written_nowhere
returns-clause-written_nowhere g c = λ accesses call f n s after e bytes source at. nowhere_written accesses call f n source s after e bytes at
