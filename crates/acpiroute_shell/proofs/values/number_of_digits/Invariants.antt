use Rattle.std.proofs.Common.{◌≡◌, drop}
use Rattle.acpiroute_shell.specs.Values.{number_from}
use Rattle.acpiroute_shell.proofs.values.number_of_digits.Given as goal

abbrev pub invariant-loop-digit : goal.invariant-loop-digit
invariant-loop-digit l = number_from 0 l.digits ≡ number_from l.n (drop l.digit-index l.digits)
