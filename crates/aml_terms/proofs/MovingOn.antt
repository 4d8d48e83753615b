-- Steps of a cursor only go on in the bytes that they go over.
use Rattle.std.specs.Prelude.{◌≡◌, ℕ}
use Rattle.aml_marks.specs.Marked.{Place, over, an_opcode}
use Rattle.aml_marks.specs.Moving.{MovesOn}
use Rattle.aml_marks.proofs.Onward.{stays, moves_over, moves_on_opcode}

pub over_moves : (n : ℕ) (p q : Place) → q ≡ over n p → MovesOn p q
over_moves n p q e = rw e (moves_over n p)

pub opcode_moves : (p o q r : Place) → o ≡ p → q ≡ (an_opcode o).1 → r ≡ q → MovesOn p r
opcode_moves p o q r e f g = rw (g, f, e) (moves_on_opcode p)

pub ruleset moving = (stays, over_moves, opcode_moves)
