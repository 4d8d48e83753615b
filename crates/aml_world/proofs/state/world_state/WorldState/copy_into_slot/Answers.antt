use Rattle.ar_space.proofs.Changes.{does_ok, does_err, does_give}
use Rattle.aml_world.specs.values.Stores.{copy_into_slot}
use Rattle.aml_world.proofs.Lifted.{written_ok}
use Rattle.aml_world.proofs.state.world_state.WorldState.copy_into_slot.Goals as goal

pub returns-in_err-slot_put : goal.returns-in_err-slot_put
unfolding copy_into_slot
returns-in_err-slot_put g c = written_ok _ _ _ _ _ _ _ _ _ _ _ _ _ _ _ c.in_ok-copy.ensures c.self.view_is (does_err _ _ c.in_err-slot_put.ensures.change c.from_residual-in_err-slot_put.ensures)

pub returns : goal.returns
unfolding copy_into_slot
returns g c = written_ok _ _ _ _ _ _ _ _ _ _ _ _ _ _ _ c.in_ok-copy.ensures c.self.view_is (does_ok _ _ c.in_ok-slot_put.ensures.change does_give)
