-- Terms that evaluate operands as values before they do anything else, and which operand they come to (ACPI 6.5, 19.6
-- and 20.2.5).
use Rattle.std.specs.Prelude.{◌≡◌, ◌∷◌, [], ℕ, List}
use Rattle.ar_space.specs.Accesses.{Accesses}
use Rattle.aml_path.specs.declared.segment.Seg.{Seg}
use Rattle.aml_path.specs.Paths.{Name}
use Rattle.aml_grammar.specs.declared.opcode.Opcode.{Opcode}
use Rattle.aml_grammar.specs.declared.opcode.Opcode.TheVariants as opcodes
use Rattle.aml_grammar.specs.Tree.{Tree, Trees, name, number, inner, list, Parts, no_parts, part}
use Rattle.aml_objects.specs.declared.value.Value.{Value}
use Rattle.aml_world.specs.declared.state.profile.Profile.{Profile}
use Rattle.aml_world.specs.declared.state.profile.Profile.TheVariants as profiles
use Rattle.aml_world.specs.state.State.{State}
use Rattle.aml_laws.specs.OperatorTerms.{of_opcode, GivesValue}
use Rattle.aml_laws.specs.IntegersOfValues.{TakesIntegers}
use Rattle.aml_laws.specs.BufferFieldTerms.{HasSize}
use Rattle.aml_laws.specs.MatchedTerms.{match}
use Rattle.aml_laws.specs.RegionTerms.{operation_region}

-- ---- opcodes, in a profile

-- the first operand is the value that the term takes
pub data TakesFirst (p : Profile) : Opcode → Type 0 where
  by_not : TakesFirst p opcodes.Not
  by_highest_bit : TakesFirst p opcodes.FindSetLeftBit
  by_lowest_bit : TakesFirst p opcodes.FindSetRightBit
  by_to_buffer : TakesFirst p opcodes.ToBuffer
  by_to_integer : TakesFirst p opcodes.ToInteger
  by_lnot : TakesFirst p opcodes.LNot
  by_store : TakesFirst p opcodes.Store
  by_copy : TakesFirst p opcodes.CopyObject
  by_dereference : TakesFirst p opcodes.DerefOf
  by_return : TakesFirst p opcodes.Return
  by_sleep : TakesFirst p opcodes.Sleep
  by_stall : TakesFirst p opcodes.Stall
  by_size_of_buffer : TakesFirst p opcodes.Buffer
  by_size_of_package : TakesFirst p opcodes.VarPackage
  by_decimal_string : p ≡ profiles.Wide → TakesFirst p opcodes.ToDecimalString
  by_hexadecimal_string : p ≡ profiles.Wide → TakesFirst p opcodes.ToHexString
  from_coded_decimal : p ≡ profiles.Wide → TakesFirst p opcodes.FromBcd
  to_coded_decimal : p ≡ profiles.Wide → TakesFirst p opcodes.ToBcd

-- the first operand is the condition of a list of terms
pub data AsksCondition : Opcode → Type 0 where
  by_if : AsksCondition opcodes.If
  by_while : AsksCondition opcodes.While

-- the first two operands are
pub data TakesTwo (p : Profile) : Opcode → Type 0 where
  by_integers : (op : Opcode) → TakesIntegers op → TakesTwo p op
  by_buffer_field : (op : Opcode) (step count : ℕ) → HasSize op step count → TakesTwo p op
  by_join : TakesTwo p opcodes.Concat
  by_join_of_resources : TakesTwo p opcodes.ConcatRes
  by_index : TakesTwo p opcodes.Index
  by_division : TakesTwo p opcodes.Divide
  by_and : TakesTwo p opcodes.LAnd
  by_or : TakesTwo p opcodes.LOr
  by_equal : TakesTwo p opcodes.LEqual
  by_greater : TakesTwo p opcodes.LGreater
  by_less : TakesTwo p opcodes.LLess
  by_string : p ≡ profiles.Wide → TakesTwo p opcodes.ToString

-- the first three operands are
pub data TakesThree (p : Profile) : Opcode → Type 0 where
  by_bits : TakesThree p opcodes.CreateField
  by_part : p ≡ profiles.Wide → TakesThree p opcodes.Mid

-- ---- terms

-- a term of a profile takes the values of these operands, in the order in which it evaluates them, before it does
-- anything else
pub data TakesValues (p : Profile) : Tree → List Tree → Type 0 where
  of_first : (op : Opcode) → TakesFirst p op → (x : Tree) (ps : Parts) → TakesValues p (of_opcode op (part (inner x) ps)) (x ∷ [])
  of_condition : (op : Opcode) → AsksCondition op → (x : Tree) (ts : Trees) (ps : Parts) → TakesValues p (of_opcode op (part (inner x) (part (list ts) ps))) (x ∷ [])
  of_two : (op : Opcode) → TakesTwo p op → (x y : Tree) (ps : Parts) → TakesValues p (of_opcode op (part (inner x) (part (inner y) ps))) (x ∷ y ∷ [])
  of_three : (op : Opcode) → TakesThree p op → (x y z : Tree) (ps : Parts) → TakesValues p (of_opcode op (part (inner x) (part (inner y) (part (inner z) ps)))) (x ∷ y ∷ z ∷ [])
  of_match : p ≡ profiles.Wide → (c x y i : Tree) (j k : ℕ) → TakesValues p (match c j x k y i) (c ∷ x ∷ y ∷ i ∷ [])
  of_region : (n : Name) (space : ℕ) (offset size : Tree) → TakesValues p (operation_region n space offset size) (offset ∷ size ∷ [])
  of_name : (n : Name) (x : Tree) → TakesValues p (of_opcode opcodes.Name (part (name n) (part (inner x) no_parts))) (x ∷ [])
  of_fatal : (kind code : ℕ) (x : Tree) → TakesValues p (of_opcode opcodes.Fatal (part (number kind) (part (number code) (part (inner x) no_parts)))) (x ∷ [])

-- one of some operands is come to: each one in front of it gives a value, one after another
pub data ComesTo {S : Type 0} (accesses : Accesses S) (scope : List Seg) (depth : ℕ) : List Tree → State S × ℕ → Tree → State S × ℕ → Type 0 where
  this_one : (x : Tree) (xs : List Tree) (s : State S × ℕ) → ComesTo accesses scope depth (x ∷ xs) s x s
  a_later_one : (y : Tree) (xs : List Tree) (s between : State S × ℕ) (v : Value) (x : Tree) (at : State S × ℕ) → GivesValue accesses scope depth y s v between → ComesTo accesses scope depth xs between x at
      → ComesTo accesses scope depth (y ∷ xs) s x at
