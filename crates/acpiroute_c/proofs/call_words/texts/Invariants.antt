use Rattle.std.specs.Prelude.{All}
use Rattle.std.specs.Str.{IsUtf8}
use Rattle.std.proofs.Common.{◌≡◌, ◌∷◌, map, take}
use Rattle.acpiroute_c.specs.Calls.{program_name}
use Rattle.acpiroute_c.proofs.call_words.texts.Given as goal

abbrev pub invariant-loop-option : goal.invariant-loop-option
invariant-loop-option l =
    (map (λ s. s.now) l.list.items ≡ program_name ∷ l.fn.command ∷ map (λ s. s.now) (take l.option-index l.fn.options))
    × All (λ s. IsUtf8 s.now) (take l.option-index l.fn.options)
