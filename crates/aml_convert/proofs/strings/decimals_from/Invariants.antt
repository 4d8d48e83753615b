-- the bytes so far, with commas between them
use Rattle.std.proofs.Common.{◌≡◌, ◌∷◌, ◌++◌, take}
use Rattle.std.specs.List.{flat_map}
use Rattle.std.specs.Prelude.{decimal}
use Rattle.aml_convert.proofs.strings.decimals_from.Given as goal

abbrev pub invariant-loop-byte : goal.invariant-loop-byte
invariant-loop-byte l = l.text.items ≡ decimal l.first ++ flat_map (λ b. 44 ∷ decimal b) (take l.byte-index l.others)
