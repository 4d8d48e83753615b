use Rattle.std.proofs.Common.{◌≡◌, map, take}
use Rattle.aml_world.specs.state.Given as given
use Rattle.acpiroute_c.proofs.evaluate_call.integers.Given as goal

abbrev pub invariant-loop-n : goal.invariant-loop-n
invariant-loop-n l = map given.given_of l.list.items ≡ map given.Integer (take l.n-index l.fn.arguments)
