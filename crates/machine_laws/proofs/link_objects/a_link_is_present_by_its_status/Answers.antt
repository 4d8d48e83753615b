use Rattle.machine_laws.proofs.LinksTold.{status_told, wrong_status, refused_status}
use Rattle.machine_laws.proofs.link_objects.a_link_is_present_by_its_status.Goals as goal

pub returns-clause-told : goal.returns-clause-told
returns-clause-told g c = status_told

pub returns-clause-wrong : goal.returns-clause-wrong
returns-clause-wrong g c = wrong_status

pub returns-clause-refused : goal.returns-clause-refused
returns-clause-refused g c = refused_status
