use Rattle.ar_space.proofs.Changes.{does_ok, does_err, does_give}
use Rattle.aml_world.specs.values.Stores.{copy_into_name}
use Rattle.aml_world.proofs.Lifted.{written_ok}
use Rattle.aml_world.proofs.state.world_state.WorldState.copy_into_name.Goals as goal

pub returns-in_err-put_data : goal.returns-in_err-put_data
unfolding copy_into_name
returns-in_err-put_data g c = written_ok _ _ _ _ _ _ _ _ _ _ _ _ _ _ _ c.in_ok-copy.ensures c.self.view_is (does_err _ _ c.in_err-put_data.ensures.change c.from_residual-in_err-put_data.ensures)

pub returns : goal.returns
unfolding copy_into_name
returns g c = written_ok _ _ _ _ _ _ _ _ _ _ _ _ _ _ _ c.in_ok-copy.ensures c.self.view_is (does_ok _ _ c.in_ok-put_data.ensures.change does_give)
