use Rattle.std.proofs.Common.{◌≡◌, ◌++◌, drop, map, option_map}
use Rattle.acpiroute_shell.specs.Values.{interrupts}
use Rattle.acpiroute_shell.proofs.values.interrupts.Given as goal

abbrev pub invariant-loop-digits : goal.invariant-loop-digits
invariant-loop-digits l = interrupts (map (λ s. s.now) l.texts) ≡ option_map (λ ns. l.list.items ++ ns) (interrupts (map (λ s. s.now) (drop l.digits-index l.texts)))
