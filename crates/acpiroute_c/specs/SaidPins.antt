-- What there is to say of a run whose pins are wanted.
use Rattle.std.specs.Prelude.{ℕ, List}
use Rattle.acpiroute_c.specs.declared.call_pin.CallPin.{CallPin}
use Rattle.acpiroute_c.specs.declared.call_pin.CallSci.{CallSci}

-- the pins and the System Control Interrupt of a report, the line for a refusal, and the status of the program
pub record SaidPins : Type 0 where
  pub pins : List CallPin
  pub line : List ℕ
  pub sci : CallSci
  pub status : ℕ
