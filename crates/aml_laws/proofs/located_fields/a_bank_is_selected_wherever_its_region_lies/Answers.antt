use Rattle.aml_laws.proofs.LocatedFields.{selected_there, read_there, written_there}
use Rattle.aml_laws.proofs.located_fields.a_bank_is_selected_wherever_its_region_lies.Goals as goal

pub returns-clause-selected : goal.returns-clause-selected
returns-clause-selected g c = λ accesses call bank value s source fits. selected_there accesses call bank value source fits s

pub returns-clause-read : goal.returns-clause-read
returns-clause-read g c = read_there

pub returns-clause-written : goal.returns-clause-written
returns-clause-written g c = written_there
