use Rattle.recorded_laws.proofs.Growing.{gives_all}
use Rattle.recorded_laws.proofs.a_record_grows_with_the_answers_of_a_space.Goals as goal

pub returns : goal.returns
returns g c = λ accesses space entries more is then. gives_all accesses entries more space is then
