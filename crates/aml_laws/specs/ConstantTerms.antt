-- Terms that stand for a number (ACPI 6.5, 20.2.3: ComputationalData, ConstObj).
use Rattle.std.specs.Prelude.{ℕ, suc, List}
use Rattle.ar_space.specs.declared.integer_width.IntegerWidth.{IntegerWidth}
use Rattle.ar_space.specs.Accesses.{Accesses}
use Rattle.aml_path.specs.declared.segment.Seg.{Seg}
use Rattle.aml_grammar.specs.declared.opcode.Opcode.{Opcode}
use Rattle.aml_grammar.specs.declared.opcode.Opcode.TheVariants as opcodes
use Rattle.aml_grammar.specs.Tree.{Tree, number, no_parts, part}
use Rattle.aml_world.specs.state.State.{State}
use Rattle.aml_laws.specs.OperatorTerms.{of_opcode, Gives}

-- a term gives an integer that the width determines, wherever it stands; it takes one step, and changes nothing
abbrev pub StandsFor : Type 0 → Tree → (IntegerWidth → ℕ) → Type 0
StandsFor S t n = (accesses : Accesses S) (scope : List Seg) (depth : ℕ) (w : State S) (steps : ℕ) → Gives accesses scope depth t (w, suc steps) (n w.width) (w, steps)

-- a number that is written out, of one byte to eight
pub data WritesNumber : Opcode → Type 0 where
  byte : WritesNumber opcodes.BytePrefix
  word : WritesNumber opcodes.WordPrefix
  double_word : WritesNumber opcodes.DWordPrefix
  quad_word : WritesNumber opcodes.QWordPrefix

abbrev pub written : Opcode → ℕ → Tree
written op n = of_opcode op (part (number n) no_parts)
