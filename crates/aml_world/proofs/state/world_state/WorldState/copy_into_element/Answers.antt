use Rattle.std.proofs.Common.{refl}
use Rattle.aml_world.specs.values.Stores.{copy_into_element}
use Rattle.aml_world.proofs.Lifted.{seen_ok, written_ok, written_last, written_err}
use Rattle.aml_world.proofs.state.world_state.WorldState.copy_into_element.Goals as goal

pub returns-in_err-write_element : goal.returns-in_err-write_element
unfolding copy_into_element
returns-in_err-write_element g c =
    seen_ok _ _ _ c.in_ok-element_there.ensures.change c.objects.ensures
    (written_ok _ _ _ _ _ _ _ _ _ _ _ _ _ _ _ c.in_ok-copy.ensures c.self.view_is
    (written_err _ _ _ _ _ _ _ _ _ _ _ _ _ _ _ c.in_err-write_element.ensures.change refl c.from_residual-in_err-write_element.ensures))

pub returns : goal.returns
unfolding copy_into_element
returns g c =
    seen_ok _ _ _ c.in_ok-element_there.ensures.change c.objects.ensures
    (written_ok _ _ _ _ _ _ _ _ _ _ _ _ _ _ _ c.in_ok-copy.ensures c.self.view_is
    (written_last _ _ _ _ _ _ _ _ _ _ _ _ _ _ _ c.in_ok-write_element.ensures.change refl refl))
