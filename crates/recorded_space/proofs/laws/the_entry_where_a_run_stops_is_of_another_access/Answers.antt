use Rattle.recorded_space.proofs.Stops.{other_there}
use Rattle.recorded_space.proofs.laws.the_entry_where_a_run_stops_is_of_another_access.Goals as goal

pub returns : goal.returns
returns g c = λ entries what access entry. other_there entries what access entry
