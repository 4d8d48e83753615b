use Rattle.std.proofs.Common.{refl, sym}
use Rattle.aml_world.proofs.Lifted.{objects_changed, wide_bits}
use Rattle.aml_world.proofs.state.world_state.WorldState.value_of_bits.Goals as goal

pub returns-then-is_wide : goal.returns-then-is_wide
returns-then-is_wide g c = wide_bits _ _ c.args.count c.args.bytes c.self.view_is (sym c.if-is_wide.ensures) (objects_changed _ _ _ _ _ _ _ _ _ _ _ _ _ _ refl c.make_buffer.ensures)
