-- Short terms: an opcode of one byte, alone or with one number behind it.
use Rattle.std.specs.Prelude.{◌≡◌, ℕ, Bool, true, false, ⊤, Option, Some, None, ◌==◌, ◌&&◌, ◌||◌, not}
use Rattle.aml_grammar.specs.declared.kinds.OperandKind.{OperandKind}
use Rattle.aml_grammar.specs.declared.kinds.OperandKind.TheVariants as kinds
use Rattle.aml_grammar.specs.declared.kinds.Row.{Row}
use Rattle.aml_grammar.specs.Grammar.{is_if, is_nothing}
use Rattle.aml_grammar.specs.Names.{starts_name}
use Rattle.aml_grammar.specs.Table.{row_of}
use Rattle.aml_meaning.specs.declared.term_kind.TargetKind.{TargetKind}
use Rattle.aml_meaning.specs.declared.term_kind.TargetKind.TheVariants as targets
use Rattle.aml_meaning.specs.declared.term_kind.TermKind.TheVariants as term
use Rattle.aml_meaning.specs.declared.term_kind.DataKind.TheVariants as datas
use Rattle.aml_meaning.specs.declared.term_kind.OperatorKind.TheVariants as operator
use Rattle.aml_meaning.specs.Terms.{target_kind_of}
use Rattle.aml_frames.specs.Operands.{row_kind}
use Rattle.aml_frames.specs.declared.at_once.short_terms.Short.{Short}
use Rattle.aml_frames.specs.declared.at_once.short_terms.Short.TheVariants as shorts

abbrev pub unless : Bool → Bool → Option Row → Option Row
unless true y r = None
unless false true r = None
unless false false r = r

-- the row of the opcode that a byte is by itself
abbrev pub row_alone : ℕ → Option Row
row_alone b = unless (b == 0x5B) (starts_name b) (row_of b)

-- how a row's opcode names a target
abbrev pub row_target : Option Row → TargetKind
row_target None = targets.Other
row_target (Some row) = target_kind_of row.0

-- no operand follows the opcode
abbrev pub is_bare : Option Row → Bool
is_bare None = false
is_bare (Some row) = not row.2 && (not (is_if row.0) && is_nothing row.3.0)

-- how many bytes an operand takes that is a number
abbrev pub has_width : OperandKind → Bool
has_width kinds.ByteData = true
has_width kinds.WordData = true
has_width kinds.DWordData = true
has_width kinds.QWordData = true
has_width _ = false

abbrev pub width_of : OperandKind → ℕ
width_of kinds.ByteData = 1
width_of kinds.WordData = 2
width_of kinds.DWordData = 4
width_of kinds.QWordData = 8
width_of _ = 0

-- one number follows the opcode, and nothing else
abbrev pub is_number : Option Row → Bool
is_number None = false
is_number (Some row) = not row.2 && (not (is_if row.0) && (has_width row.3.0 && is_nothing row.3.1))

abbrev pub row_width : Option Row → ℕ
row_width None = 0
row_width (Some row) = width_of row.3.0

-- the opcode of a string or of a buffer, which are made in memory
abbrev pub is_made : ℕ → Bool
is_made b = (b == 0x0D) || (b == 0x11)

-- what the short form says of a row
abbrev pub IsShort : Short → Option Row → Type 0
IsShort (shorts.Slot slot) r = (row_kind r ≡ term.Operator (operator.Slot slot)) × ((row_target r ≡ targets.Slot slot) × (is_bare r ≡ true))
IsShort (shorts.Constant n) r = (row_kind r ≡ term.Data (datas.Constant n)) × (is_bare r ≡ true)
IsShort (shorts.Number n) r = (row_kind r ≡ term.Data datas.Integer) × ((row_width r ≡ n) × (is_number r ≡ true))
IsShort shorts.Other r = ⊤
