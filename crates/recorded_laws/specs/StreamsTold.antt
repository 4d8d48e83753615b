-- What a refusal of a run says of the reader, of the writer and of the length of the input.
use Rattle.std.specs.Prelude.{◌≡◌, ℕ, Bool, true, false, List, Err}
use Rattle.ar_space.specs.declared.refusal.Refusal.{Refusal}
use Rattle.ar_space.specs.declared.refusal.Refusal.TheVariants.{Input}
use Rattle.ar_space.specs.declared.refusal.InputFault.TheVariants.{ReadFault, WriteFault, TextTooLong}
use Rattle.acpiroute_shell.specs.Input.{input_of}

-- a refusal tells of a write only where one failed, of a read only where one failed and no write did, and of the length only where the
-- input is too long
pub record TellsTruly (read_failed write_failed : Bool) (input : List ℕ) (r : Refusal) : Type 0 where
  pub write : r ≡ Input WriteFault → write_failed ≡ true
  pub read : r ≡ Input ReadFault → (read_failed ≡ true) × (write_failed ≡ false)
  pub too_long : r ≡ Input TextTooLong → input_of input ≡ Err (Input TextTooLong)
