use Rattle.std.proofs.Common.{◌≡◌, ◌-◌, length}
use Rattle.aml_world.specs.state.NewObjects.{filled}
use Rattle.aml_world.proofs.state.new_objects.filled.Given as goal

abbrev pub invariant-loop-all : goal.invariant-loop-all
invariant-loop-all l = filled l.count l.fn.elements ≡ filled l.count l.all

abbrev pub decreases-loop-all : goal.decreases-loop-all
decreases-loop-all l = l.count - length l.all
