use Rattle.std.proofs.Common.{◌≡◌, map, take}
use Rattle.aml_world.specs.state.Given as given
use Rattle.acpiroute_lib.specs.EvalCommand.{given_argument}
use Rattle.acpiroute_lib.proofs.eval_command.data.Given as goal

abbrev pub invariant-loop-argument : goal.invariant-loop-argument
invariant-loop-argument l = map given.given_of l.list.items ≡ map given_argument (take l.argument-index l.arguments)
