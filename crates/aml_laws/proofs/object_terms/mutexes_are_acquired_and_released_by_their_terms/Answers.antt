use Rattle.aml_laws.proofs.ObjectTermsDone.{acquires, releases}
use Rattle.aml_laws.proofs.object_terms.mutexes_are_acquired_and_released_by_their_terms.Goals as goal

pub returns-clause-acquired : goal.returns-clause-acquired
returns-clause-acquired g c = acquires

pub returns-clause-released : goal.returns-clause-released
returns-clause-released g c = releases
