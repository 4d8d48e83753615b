-- Terms that take the integer that the value of an operand converts to (ACPI 6.5, 19.6 and 20.2.5).
use Rattle.std.specs.Prelude.{◌≡◌, ℕ}
use Rattle.aml_grammar.specs.declared.opcode.Opcode.{Opcode}
use Rattle.aml_grammar.specs.declared.opcode.Opcode.TheVariants as opcodes
use Rattle.aml_grammar.specs.Tree.{Tree, Trees, inner, list, Parts, part}
use Rattle.aml_objects.specs.declared.value.Value.{Value}
use Rattle.aml_objects.specs.declared.value.Value.TheVariants as value
use Rattle.aml_world.specs.declared.state.profile.Profile.{Profile}
use Rattle.aml_world.specs.declared.state.profile.Profile.TheVariants as profiles
use Rattle.aml_laws.specs.OperandTerms.{AsksCondition}
use Rattle.aml_laws.specs.OperatorTerms.{of_opcode}

-- the first operand is an integer, in a profile
pub data TakesInteger (p : Profile) : Opcode → Type 0 where
  by_not : TakesInteger p opcodes.Not
  by_highest_bit : TakesInteger p opcodes.FindSetLeftBit
  by_lowest_bit : TakesInteger p opcodes.FindSetRightBit
  by_lnot : TakesInteger p opcodes.LNot
  by_size_of_buffer : TakesInteger p opcodes.Buffer
  by_size_of_package : TakesInteger p opcodes.VarPackage
  from_coded_decimal : p ≡ profiles.Wide → TakesInteger p opcodes.FromBcd
  to_coded_decimal : p ≡ profiles.Wide → TakesInteger p opcodes.ToBcd

-- a term takes the integer that its first operand converts to, before it evaluates any other one
pub data AsksInteger (p : Profile) : Tree → Tree → Type 0 where
  of_integer : (op : Opcode) → TakesInteger p op → (x : Tree) (ps : Parts) → AsksInteger p (of_opcode op (part (inner x) ps)) x
  of_condition : (op : Opcode) → AsksCondition op → (x : Tree) (ts : Trees) (ps : Parts) → AsksInteger p (of_opcode op (part (inner x) (part (list ts) ps))) x

-- a value that an Index may count the parts of
pub data IsIndexed : Value → Type 0 where
  a_package : (o : ℕ) → IsIndexed (value.Package o)
  a_string : (o : ℕ) → IsIndexed (value.String o)
  a_buffer : (o : ℕ) → IsIndexed (value.Buffer o)
