use Rattle.aml_laws.proofs.PathsHandedIn.{path_refers, path_is_lost}
use Rattle.aml_laws.proofs.handed.a_path_is_handed_in_as_a_reference_to_what_it_finds.Goals as goal

pub returns-clause-there : goal.returns-clause-there
returns-clause-there g c = path_refers

pub returns-clause-nowhere : goal.returns-clause-nowhere
returns-clause-nowhere g c = path_is_lost
