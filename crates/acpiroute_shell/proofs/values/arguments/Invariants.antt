use Rattle.std.proofs.Common.{◌≡◌, ◌++◌, drop, map, option_map}
use Rattle.acpiroute_shell.specs.Values.{arguments}
use Rattle.acpiroute_shell.proofs.values.arguments.Given as goal

abbrev pub invariant-loop-text : goal.invariant-loop-text
invariant-loop-text l = arguments (map (λ s. s.now) l.texts) ≡ option_map (λ ns. l.list.items ++ ns) (arguments (map (λ s. s.now) (drop l.text-index l.texts)))
