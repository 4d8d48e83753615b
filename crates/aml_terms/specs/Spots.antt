-- What stands where an operand stands.
use Rattle.std.specs.Prelude.{ℕ, false}
use Rattle.aml_grammar.specs.Tree.{Part, number}
use Rattle.aml_marks.specs.Marked.{Place, a_term, an_operand, a_bit_count, turns_of, maybe_else, list_part}
use Rattle.aml_terms.specs.declared.spot.Spot.{Spot}
use Rattle.aml_terms.specs.declared.spot.Spot.TheVariants as spots

abbrev pub spot_part : (ℕ → ℕ) → Spot → Place → Part
spot_part count (spots.Operand k levels) p = (an_operand (a_term count levels) k p).0
spot_part count (spots.Arguments n levels) p = list_part (turns_of (a_term count levels false) n p).0
spot_part count (spots.Else levels) p = (maybe_else (a_term count levels) p).0
spot_part count spots.Bits p = number (a_bit_count p).0
