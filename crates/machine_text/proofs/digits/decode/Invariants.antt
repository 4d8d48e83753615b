-- the bytes so far, and then those of the pairs that are left, are those of all pairs
use Rattle.std.proofs.Common.{◌≡◌, ◌*◌, take, drop}
use Rattle.machine_text.proofs.Pairs.{pairs, behind}
use Rattle.machine_text.proofs.digits.decode.Given as goal

abbrev pub invariant-loop-i : goal.invariant-loop-i
invariant-loop-i l = behind (take l.i l.out) (pairs (drop (2 * l.i) l.word)) ≡ pairs l.word
