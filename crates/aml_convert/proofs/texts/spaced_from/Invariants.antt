-- the bytes so far, separated by blanks
use Rattle.std.proofs.Common.{◌≡◌, ◌∷◌, ◌++◌, take}
use Rattle.std.specs.List.{flat_map}
use Rattle.aml_convert.specs.Conversions.{two_digits}
use Rattle.aml_convert.proofs.texts.spaced_from.Given as goal

abbrev pub invariant-loop-byte : goal.invariant-loop-byte
invariant-loop-byte l = l.text.items ≡ two_digits l.first ++ flat_map (λ b. 32 ∷ two_digits b) (take l.byte-index l.others)
