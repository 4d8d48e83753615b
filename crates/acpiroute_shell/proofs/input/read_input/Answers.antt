use Rattle.std.proofs.Common.{rules}
use Rattle.acpiroute_shell.proofs.Inputs.{memory_out}
use Rattle.acpiroute_shell.proofs.input.read_input.Goals as goal

pub returns-in_err-chunk-clause-input : goal.returns-in_err-chunk-clause-input
returns-in_err-chunk-clause-input g c = memory_out _ _ 16777216 _ (search rules) (search rules)
