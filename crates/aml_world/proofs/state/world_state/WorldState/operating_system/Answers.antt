use Rattle.std.proofs.Common.{ℕ, List, subst, ◌∙◌}
use Rattle.ar_space.specs.Change.{Does}
use Rattle.aml_objects.specs.Objects.{make_string}
use Rattle.aml_world.proofs.Lifted.{objects_changed}
use Rattle.aml_world.proofs.state.world_state.WorldState.operating_system.Goals as goal

pub returns-clause-world : goal.returns-clause-world
returns-clause-world g c =
    objects_changed _ _ _ _ _ _ _ _ _ _ _ _ _ _ c.self.view_is
    (subst (λ (x : List ℕ). Does c.make_string.result c.make_string.new.self (make_string x) c.self.inside.heap) (c.from_vec-name.ensures ∙ c.in_ok-from_slice.ensures.items) c.make_string.ensures)
