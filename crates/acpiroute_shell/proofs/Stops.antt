-- The lines that tell why there is no input.
use Rattle.std.proofs.Common.{◌≡◌, refl}
use Rattle.std.specs.Prelude.{codes}
use Rattle.std.specs.Fmt.{digits}
use Rattle.acpiroute_shell.specs.ErrorLines.{error_line}
use Rattle.acpiroute_shell.specs.Stops.{refusal_of}
use Rattle.acpiroute_shell.specs.declared.input.Stop.{Stop}
use Rattle.acpiroute_shell.specs.declared.input.Stop.TheVariants.{OutOfMemory, ReadFault, TooLong}

pub memory_line : (s : Stop) → s ≡ OutOfMemory → codes "refused 99\n" ≡ error_line (refusal_of s)
unfolding digits
memory_line s is = rw is refl

pub fault_line : (s : Stop) → s ≡ ReadFault → codes "refused 141\n" ≡ error_line (refusal_of s)
unfolding digits
fault_line s is = rw is refl

pub long_line : (s : Stop) → s ≡ TooLong → codes "refused 143\n" ≡ error_line (refusal_of s)
unfolding digits
long_line s is = rw is refl

pub ruleset lines = (memory_line, fault_line, long_line)
