use Rattle.aml_laws.proofs.ValuesNotJoined.{first_not_joined, second_not_joined, resources_not_joined}
use Rattle.aml_laws.proofs.joined.what_cannot_be_joined_is_refused.Goals as goal

pub returns-clause-first : goal.returns-clause-first
returns-clause-first g c = λ accesses scope depth x y w steps v u after h none p. first_not_joined accesses scope depth x y w steps v u after h none p

pub returns-clause-second : goal.returns-clause-second
returns-clause-second g c = λ accesses scope depth x y w steps v u after h e is p. second_not_joined accesses scope depth x y w steps v u after h e is p

pub returns-clause-resources : goal.returns-clause-resources
returns-clause-resources g c = resources_not_joined
