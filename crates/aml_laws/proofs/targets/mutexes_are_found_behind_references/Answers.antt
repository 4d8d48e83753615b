use Rattle.aml_laws.proofs.TargetsActedOn.{acquires_at, releases_at, no_mutex_at}
use Rattle.aml_laws.proofs.targets.mutexes_are_found_behind_references.Goals as goal

pub returns-clause-acquired : goal.returns-clause-acquired
returns-clause-acquired g c = λ accesses scope depth p t w steps between names end time. acquires_at accesses scope depth p w steps t between names end time

pub returns-clause-released : goal.returns-clause-released
returns-clause-released g c = λ accesses scope depth p t w steps between names end. releases_at accesses scope depth p w steps t between names end

pub returns-clause-unnamed : goal.returns-clause-unnamed
returns-clause-unnamed g c = no_mutex_at
