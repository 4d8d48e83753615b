use Rattle.std.proofs.Common.{◌≡◌, ◌^◌, ◌<◌, drop}
use Rattle.machine_text.specs.Words.{number_from}
use Rattle.machine_text.proofs.digits.digits.Given as goal

abbrev pub invariant-loop-c : goal.invariant-loop-c
invariant-loop-c l = (number_from l.n (drop l.c-index l.word) ≡ number_from 0 l.word) × (l.n < 16 ^ l.c-index)
