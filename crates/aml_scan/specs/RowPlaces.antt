-- Where the row of an opcode stands in the table of terms.
use Rattle.std.specs.Prelude.{ℕ, ◌==◌}
use Rattle.std.specs.List.{position_or_len}
use Rattle.aml_grammar.specs.Opcodes.{number_of}
use Rattle.aml_grammar.specs.Table.{table}

-- the place of a number's row, or that behind the last row where none has it
unfoldable pub place_of : ℕ → ℕ
place_of number = position_or_len (λ r. number_of r.0 == number) table
