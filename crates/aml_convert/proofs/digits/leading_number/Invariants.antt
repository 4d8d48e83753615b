-- the digits that are left go on from the number so far, which is an integer
use Rattle.std.proofs.Common.{◌≡◌, drop}
use Rattle.aml_convert.specs.Integers.{truncated}
use Rattle.aml_convert.specs.Digits.{leading_number}
use Rattle.aml_convert.proofs.DigitLoops.{number_on}
use Rattle.aml_convert.proofs.digits.leading_number.Given as goal

abbrev pub invariant-loop-byte : goal.invariant-loop-byte
invariant-loop-byte l = (number_on l.width l.base l.number (drop l.byte-index l.bytes) ≡ leading_number l.width l.base l.bytes) × (truncated l.width l.number ≡ l.number)
