-- the bytes so far, and then those of the words that are left, are those of all words
use Rattle.std.proofs.Common.{◌≡◌, ◌∷◌, length}
use Rattle.machine_text.specs.MachineText.{bytes_after}
use Rattle.machine_text.proofs.words.bytes_after.Given as goal

abbrev pub invariant-loop-word : goal.invariant-loop-word
invariant-loop-word l = bytes_after l.n l.fn.all.items (l.first ∷ l.fn.words) ≡ bytes_after l.n l.all.items l.words

abbrev pub decreases-loop-word : goal.decreases-loop-word
decreases-loop-word l = length l.words
