use Rattle.aml_laws.proofs.PartsIndexed.{index_refers, index_past, part_is_read}
use Rattle.aml_laws.proofs.referring.an_index_refers_to_a_part.Goals as goal

pub returns-clause-refers : goal.returns-clause-refers
returns-clause-refers g c = index_refers

pub returns-clause-past : goal.returns-clause-past
returns-clause-past g c = index_past

pub returns-clause-read : goal.returns-clause-read
returns-clause-read g c = part_is_read
