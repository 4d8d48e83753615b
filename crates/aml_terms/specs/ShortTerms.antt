-- Terms whose first byte alone says how long they are.
use Rattle.std.specs.Prelude.{ℕ, Option, Some, None, ◌==◌, if◌then◌else◌}
use Rattle.aml_grammar.specs.declared.kinds.OperandKind.{OperandKind}
use Rattle.aml_grammar.specs.declared.kinds.OperandKind.TheVariants as kinds
use Rattle.aml_grammar.specs.declared.kinds.Row.{Row}
use Rattle.aml_grammar.specs.Grammar.{is_if, is_nothing}
use Rattle.aml_grammar.specs.Names.{starts_name}
use Rattle.aml_grammar.specs.Table.{row_of}

-- the bytes of a term whose only operand is of a kind that is a number of fixed width, and 0 for all other kinds
abbrev pub with_only : OperandKind → ℕ
with_only kinds.Nothing = 1
with_only kinds.ByteData = 2
with_only kinds.WordData = 3
with_only kinds.DWordData = 5
with_only kinds.QWordData = 9
with_only _ = 0

-- the bytes of a term with the row: it is no package, no Else follows, and it has one operand at most
abbrev pub row_length : Row → ℕ
row_length row = if row.2 then 0 else (if is_if row.0 then 0 else (if is_nothing row.3.1 then with_only row.3.0 else 0))

-- the same of the row of an opcode, where it has one
abbrev pub maybe_length : Option Row → ℕ
maybe_length None = 0
maybe_length (Some row) = row_length row

-- the bytes of a term that begins with this byte, where it alone says so, else 0
unfoldable pub short_length : ℕ → ℕ
short_length b = if b == 0x5B then 0 else (if starts_name b then 0 else maybe_length (row_of b))
