use Rattle.aml_laws.proofs.KeptUnits.{whole_written, part_written, part_refused}
use Rattle.aml_laws.proofs.updates.a_unit_that_keeps_bits_is_read_once.Goals as goal

pub returns-clause-whole : goal.returns-clause-whole
returns-clause-whole g c = λ accesses r f source u p s is within at whole. whole_written accesses r f source u p s is within at whole

pub returns-clause-part : goal.returns-clause-part
returns-clause-part g c = λ accesses r f source u p s is within at part old t reads. part_written accesses r f source u p s is within at part old t reads

pub returns-clause-fault : goal.returns-clause-fault
returns-clause-fault g c = λ accesses r f source u p s is within at part fault t reads. part_refused accesses r f source u p s is within at part fault t reads
