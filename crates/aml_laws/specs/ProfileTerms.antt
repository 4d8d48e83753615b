-- Terms that the core profile doesn't evaluate, and those that none does, by the numbers of their opcodes (ACPI 6.5, 20.3).
use Rattle.std.specs.Prelude.{ℕ}
use Rattle.aml_grammar.specs.declared.opcode.Opcode.{Opcode}
use Rattle.aml_grammar.specs.declared.opcode.Opcode.TheVariants as opcodes
use Rattle.aml_grammar.specs.declared.opcode.TermCode.TheVariants as codes
use Rattle.aml_grammar.specs.Tree.{Tree, term, Parts, Trees, tree}

-- the wide profile alone evaluates them
pub data IsOfTheWide : Opcode → ℕ → Type 0 where
  of_match : IsOfTheWide opcodes.Match 0x89
  of_to_decimal_string : IsOfTheWide opcodes.ToDecimalString 0x97
  of_to_hex_string : IsOfTheWide opcodes.ToHexString 0x98
  of_to_string : IsOfTheWide opcodes.ToString 0x9C
  of_mid : IsOfTheWide opcodes.Mid 0x9E
  of_signal : IsOfTheWide opcodes.Signal 0x5B24
  of_wait : IsOfTheWide opcodes.Wait 0x5B25
  of_reset : IsOfTheWide opcodes.Reset 0x5B26
  of_from_bcd : IsOfTheWide opcodes.FromBcd 0x5B28
  of_to_bcd : IsOfTheWide opcodes.ToBcd 0x5B29
  of_bank_field : IsOfTheWide opcodes.BankField 0x5B87

-- no profile does
pub data IsOfNone : Opcode → ℕ → Type 0 where
  of_load_table : IsOfNone opcodes.LoadTable 0x5B1F
  of_load : IsOfNone opcodes.Load 0x5B20
  of_debug : IsOfNone opcodes.Debug 0x5B31
  of_timer : IsOfNone opcodes.Timer 0x5B33
  of_data_region : IsOfNone opcodes.DataRegion 0x5B88

-- a Connection stands in a list of fields
pub data Connects : Trees → Type 0 where
  here : (ps : Parts) (others : Trees) → Connects (tree (term codes.ConnectField ps) others)
  later : (t : Tree) (others : Trees) → Connects others → Connects (tree t others)
