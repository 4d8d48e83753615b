-- The refusal of an input.
use Rattle.ar_space.specs.declared.refusal.Refusal.{Refusal}
use Rattle.ar_space.specs.declared.refusal.Refusal.TheVariants as refusal
use Rattle.ar_space.specs.declared.refusal.InputFault.TheVariants as fault
use Rattle.acpiroute_shell.specs.declared.input.Stop.{Stop}
use Rattle.acpiroute_shell.specs.declared.input.Stop.TheVariants.{OutOfMemory, ReadFault, TooLong}

abbrev pub refusal_of : Stop → Refusal
refusal_of OutOfMemory = refusal.OutOfMemory
refusal_of ReadFault = refusal.Input fault.ReadFault
refusal_of TooLong = refusal.Input fault.TextTooLong
