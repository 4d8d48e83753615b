-- The opcodes of AML, written out by hand (ACPI 6.5, 20.2.3, 20.2.5, 20.2.6 and 20.3): the bytes of each, where its term may stand,
-- and its operands. No part of it is made of tables/opcodes.txt: it is what the table has to agree with.
use Rattle.std.specs.Prelude.{ℕ, List, [], ◌∷◌, Bool, true, false}
use Rattle.aml_grammar.specs.declared.opcode.Opcode.{Opcode}
use Rattle.aml_grammar.specs.declared.opcode.Opcode.TheVariants as opcodes
use Rattle.aml_grammar.specs.declared.kinds.Class.{Class}
use Rattle.aml_grammar.specs.declared.kinds.Class.TheVariants as classes
use Rattle.aml_grammar.specs.declared.kinds.OperandKind.{OperandKind}
use Rattle.aml_grammar.specs.declared.kinds.OperandKind.TheVariants as kinds

pub record Encoding : Type 0 where
  pub code : List ℕ
  pub class : Class
  -- a PkgLength follows the code, and the operands stand in its package
  pub packaged : Bool
  pub operands : List OperandKind

-- ---- bytes

abbrev byte : ℕ → List ℕ
byte b = b ∷ []

-- ExtOpPrefix and a second byte
abbrev extended : ℕ → List ℕ
extended b = 0x5B ∷ b ∷ []

-- ---- terms, by where they may stand

-- a value that is written out: an operand where data is asked for, too
abbrev gives_data : List ℕ → List OperandKind → Encoding
gives_data code operands = record { code = code; class = classes.Data; packaged = false; operands = operands }

abbrev gives_packaged_data : List ℕ → List OperandKind → Encoding
gives_packaged_data code operands = record { code = code; class = classes.Data; packaged = true; operands = operands }

-- a value, so an operand
abbrev gives_value : List ℕ → List OperandKind → Encoding
gives_value code operands = record { code = code; class = classes.Expression; packaged = false; operands = operands }

-- a value, and a place that may be stored to
abbrev gives_place : List ℕ → List OperandKind → Encoding
gives_place code operands = record { code = code; class = classes.Reference; packaged = false; operands = operands }

-- a local or an argument
abbrev names_slot : ℕ → Encoding
names_slot b = record { code = byte b; class = classes.Slot; packaged = false; operands = [] }

-- in a list of terms alone
abbrev acts : List ℕ → List OperandKind → Encoding
acts code operands = record { code = code; class = classes.Statement; packaged = false; operands = operands }

abbrev acts_on_package : List ℕ → List OperandKind → Encoding
acts_on_package code operands = record { code = code; class = classes.Statement; packaged = true; operands = operands }

-- in no body of a control method
abbrev declares : List ℕ → List OperandKind → Encoding
declares code operands = record { code = code; class = classes.ModuleLevel; packaged = false; operands = operands }

abbrev declares_package : List ℕ → List OperandKind → Encoding
declares_package code operands = record { code = code; class = classes.ModuleLevel; packaged = true; operands = operands }

-- in a loop alone
abbrev leaves_turn : ℕ → Encoding
leaves_turn b = record { code = byte b; class = classes.InLoop; packaged = false; operands = [] }

-- ---- operands that many terms have

abbrev value : List OperandKind
value = kinds.TermArg ∷ []

abbrev two_values : List OperandKind
two_values = kinds.TermArg ∷ kinds.TermArg ∷ []

abbrev value_to_target : List OperandKind
value_to_target = kinds.TermArg ∷ kinds.Target ∷ []

abbrev two_values_to_target : List OperandKind
two_values_to_target = kinds.TermArg ∷ kinds.TermArg ∷ kinds.Target ∷ []

abbrev place : List OperandKind
place = kinds.SuperName ∷ []

-- the buffer, an index, and the name of the field
abbrev part_of_buffer : List OperandKind
part_of_buffer = kinds.TermArg ∷ kinds.TermArg ∷ kinds.DeclaredName ∷ []

-- a name, and the terms below it
abbrev name_with_list : List OperandKind
name_with_list = kinds.DeclaredName ∷ kinds.TermList ∷ []

-- ---- the opcodes

abbrev pub encoding : Opcode → Encoding
-- constants (20.2.3)
encoding opcodes.Zero = gives_data (byte 0x00) []
encoding opcodes.One = gives_data (byte 0x01) []
encoding opcodes.Ones = gives_data (byte 0xFF) []
encoding opcodes.Revision = gives_data (extended 0x30) []
encoding opcodes.BytePrefix = gives_data (byte 0x0A) (kinds.ByteData ∷ [])
encoding opcodes.WordPrefix = gives_data (byte 0x0B) (kinds.WordData ∷ [])
encoding opcodes.DWordPrefix = gives_data (byte 0x0C) (kinds.DWordData ∷ [])
encoding opcodes.QWordPrefix = gives_data (byte 0x0E) (kinds.QWordData ∷ [])
encoding opcodes.StringPrefix = gives_data (byte 0x0D) (kinds.AsciiCharList ∷ [])
-- data with a length (20.2.5.4)
encoding opcodes.Buffer = gives_packaged_data (byte 0x11) (kinds.TermArg ∷ kinds.ByteList ∷ [])
encoding opcodes.Package = gives_packaged_data (byte 0x12) (kinds.ByteData ∷ kinds.PackageElementList ∷ [])
encoding opcodes.VarPackage = gives_packaged_data (byte 0x13) (kinds.TermArg ∷ kinds.PackageElementList ∷ [])
-- locals, arguments and the debug object (20.2.6)
encoding opcodes.Local0 = names_slot 0x60
encoding opcodes.Local1 = names_slot 0x61
encoding opcodes.Local2 = names_slot 0x62
encoding opcodes.Local3 = names_slot 0x63
encoding opcodes.Local4 = names_slot 0x64
encoding opcodes.Local5 = names_slot 0x65
encoding opcodes.Local6 = names_slot 0x66
encoding opcodes.Local7 = names_slot 0x67
encoding opcodes.Arg0 = names_slot 0x68
encoding opcodes.Arg1 = names_slot 0x69
encoding opcodes.Arg2 = names_slot 0x6A
encoding opcodes.Arg3 = names_slot 0x6B
encoding opcodes.Arg4 = names_slot 0x6C
encoding opcodes.Arg5 = names_slot 0x6D
encoding opcodes.Arg6 = names_slot 0x6E
encoding opcodes.Debug = record { code = extended 0x31; class = classes.DebugObject; packaged = false; operands = [] }
-- names and what they are declared as (20.2.5.1, 20.2.5.2)
encoding opcodes.Alias = declares (byte 0x06) (kinds.AliasSource ∷ kinds.AliasName ∷ [])
encoding opcodes.Name = acts (byte 0x08) (kinds.DeclaredName ∷ kinds.DataObject ∷ [])
encoding opcodes.Scope = declares_package (byte 0x10) (kinds.ScopeName ∷ kinds.TermList ∷ [])
encoding opcodes.Method = declares_package (byte 0x14) (kinds.DeclaredName ∷ kinds.MethodFlags ∷ kinds.ByteList ∷ [])
encoding opcodes.External = declares (byte 0x15) (kinds.ExternalName ∷ kinds.ObjectType ∷ kinds.ArgumentCount ∷ [])
encoding opcodes.Mutex = acts (extended 0x01) (kinds.DeclaredName ∷ kinds.ByteData ∷ [])
encoding opcodes.Event = acts (extended 0x02) (kinds.DeclaredName ∷ [])
encoding opcodes.Device = declares_package (extended 0x82) name_with_list
encoding opcodes.ThermalZone = declares_package (extended 0x85) name_with_list
encoding opcodes.Processor = declares_package (extended 0x83) (kinds.DeclaredName ∷ kinds.ByteData ∷ kinds.DWordData ∷ kinds.ByteData ∷ kinds.TermList ∷ [])
encoding opcodes.PowerRes = declares_package (extended 0x84) (kinds.DeclaredName ∷ kinds.ByteData ∷ kinds.WordData ∷ kinds.TermList ∷ [])
-- operation regions and fields (20.2.5.2)
encoding opcodes.OpRegion = acts (extended 0x80) (kinds.DeclaredName ∷ kinds.ByteData ∷ kinds.TermArg ∷ kinds.TermArg ∷ [])
encoding opcodes.DataRegion = acts (extended 0x88) (kinds.DeclaredName ∷ kinds.TermArg ∷ kinds.TermArg ∷ kinds.TermArg ∷ [])
encoding opcodes.Field = acts_on_package (extended 0x81) (kinds.NameString ∷ kinds.ByteData ∷ kinds.FieldList ∷ [])
encoding opcodes.IndexField = acts_on_package (extended 0x86) (kinds.NameString ∷ kinds.NameString ∷ kinds.ByteData ∷ kinds.FieldList ∷ [])
encoding opcodes.BankField = acts_on_package (extended 0x87) (kinds.NameString ∷ kinds.NameString ∷ kinds.TermArg ∷ kinds.ByteData ∷ kinds.FieldList ∷ [])
encoding opcodes.CreateDWordField = acts (byte 0x8A) part_of_buffer
encoding opcodes.CreateWordField = acts (byte 0x8B) part_of_buffer
encoding opcodes.CreateByteField = acts (byte 0x8C) part_of_buffer
encoding opcodes.CreateBitField = acts (byte 0x8D) part_of_buffer
encoding opcodes.CreateQWordField = acts (byte 0x8F) part_of_buffer
encoding opcodes.CreateField = acts (extended 0x13) (kinds.TermArg ∷ kinds.TermArg ∷ kinds.TermArg ∷ kinds.DeclaredName ∷ [])
-- stores and references (20.2.5.4)
encoding opcodes.Store = gives_value (byte 0x70) (kinds.TermArg ∷ kinds.SuperName ∷ [])
encoding opcodes.CopyObject = gives_value (byte 0x9D) (kinds.TermArg ∷ kinds.SimpleName ∷ [])
encoding opcodes.RefOf = gives_place (byte 0x71) place
encoding opcodes.DerefOf = gives_place (byte 0x83) value
encoding opcodes.Index = gives_place (byte 0x88) two_values_to_target
encoding opcodes.CondRefOf = gives_value (extended 0x12) (kinds.SuperName ∷ kinds.Target ∷ [])
encoding opcodes.SizeOf = gives_value (byte 0x87) place
encoding opcodes.ObjectType = gives_value (byte 0x8E) place
-- operators on integers (20.2.5.4)
encoding opcodes.Add = gives_value (byte 0x72) two_values_to_target
encoding opcodes.Subtract = gives_value (byte 0x74) two_values_to_target
encoding opcodes.Increment = gives_value (byte 0x75) place
encoding opcodes.Decrement = gives_value (byte 0x76) place
encoding opcodes.Multiply = gives_value (byte 0x77) two_values_to_target
encoding opcodes.Divide = gives_value (byte 0x78) (kinds.TermArg ∷ kinds.TermArg ∷ kinds.Target ∷ kinds.Target ∷ [])
encoding opcodes.ShiftLeft = gives_value (byte 0x79) two_values_to_target
encoding opcodes.ShiftRight = gives_value (byte 0x7A) two_values_to_target
encoding opcodes.And = gives_value (byte 0x7B) two_values_to_target
encoding opcodes.Nand = gives_value (byte 0x7C) two_values_to_target
encoding opcodes.Or = gives_value (byte 0x7D) two_values_to_target
encoding opcodes.Nor = gives_value (byte 0x7E) two_values_to_target
encoding opcodes.Xor = gives_value (byte 0x7F) two_values_to_target
encoding opcodes.Not = gives_value (byte 0x80) value_to_target
encoding opcodes.FindSetLeftBit = gives_value (byte 0x81) value_to_target
encoding opcodes.FindSetRightBit = gives_value (byte 0x82) value_to_target
encoding opcodes.Mod = gives_value (byte 0x85) two_values_to_target
-- comparisons, and operators on truth values (20.2.5.4)
encoding opcodes.LAnd = gives_value (byte 0x90) two_values
encoding opcodes.LOr = gives_value (byte 0x91) two_values
encoding opcodes.LNot = gives_value (byte 0x92) value
encoding opcodes.LEqual = gives_value (byte 0x93) two_values
encoding opcodes.LGreater = gives_value (byte 0x94) two_values
encoding opcodes.LLess = gives_value (byte 0x95) two_values
-- strings, buffers and packages (20.2.5.4)
encoding opcodes.Concat = gives_value (byte 0x73) two_values_to_target
encoding opcodes.ConcatRes = gives_value (byte 0x84) two_values_to_target
encoding opcodes.Match = gives_value (byte 0x89) (kinds.TermArg ∷ kinds.ByteData ∷ kinds.TermArg ∷ kinds.ByteData ∷ kinds.TermArg ∷ kinds.TermArg ∷ [])
encoding opcodes.ToBuffer = gives_value (byte 0x96) value_to_target
encoding opcodes.ToDecimalString = gives_value (byte 0x97) value_to_target
encoding opcodes.ToHexString = gives_value (byte 0x98) value_to_target
encoding opcodes.ToInteger = gives_value (byte 0x99) value_to_target
encoding opcodes.ToString = gives_value (byte 0x9C) two_values_to_target
encoding opcodes.Mid = gives_value (byte 0x9E) (kinds.TermArg ∷ kinds.TermArg ∷ kinds.TermArg ∷ kinds.Target ∷ [])
encoding opcodes.FromBcd = gives_value (extended 0x28) value_to_target
encoding opcodes.ToBcd = gives_value (extended 0x29) value_to_target
-- tables and time (20.2.5.4)
encoding opcodes.LoadTable = gives_value (extended 0x1F) (kinds.TermArg ∷ kinds.TermArg ∷ kinds.TermArg ∷ kinds.TermArg ∷ kinds.TermArg ∷ kinds.TermArg ∷ [])
encoding opcodes.Load = gives_value (extended 0x20) (kinds.NameString ∷ kinds.Target ∷ [])
encoding opcodes.Timer = gives_value (extended 0x33) []
-- mutexes and events (20.2.5.3, 20.2.5.4)
encoding opcodes.Acquire = gives_value (extended 0x23) (kinds.SuperName ∷ kinds.WordData ∷ [])
encoding opcodes.Release = acts (extended 0x27) place
encoding opcodes.Signal = acts (extended 0x24) place
encoding opcodes.Reset = acts (extended 0x26) place
encoding opcodes.Wait = gives_value (extended 0x25) (kinds.SuperName ∷ kinds.TermArg ∷ [])
-- statements (20.2.5.3)
encoding opcodes.If = acts_on_package (byte 0xA0) (kinds.TermArg ∷ kinds.TermList ∷ [])
encoding opcodes.Else = record { code = byte 0xA1; class = classes.AfterIf; packaged = true; operands = kinds.TermList ∷ [] }
encoding opcodes.While = acts_on_package (byte 0xA2) (kinds.TermArg ∷ kinds.LoopTermList ∷ [])
encoding opcodes.Continue = leaves_turn 0x9F
encoding opcodes.Break = leaves_turn 0xA5
encoding opcodes.Return = record { code = byte 0xA4; class = classes.InBody; packaged = false; operands = value }
encoding opcodes.Noop = acts (byte 0xA3) []
encoding opcodes.BreakPoint = acts (byte 0xCC) []
encoding opcodes.Notify = acts (byte 0x86) (kinds.SuperName ∷ kinds.TermArg ∷ [])
encoding opcodes.Stall = acts (extended 0x21) value
encoding opcodes.Sleep = acts (extended 0x22) value
encoding opcodes.Fatal = acts (extended 0x32) (kinds.ByteData ∷ kinds.DWordData ∷ kinds.TermArg ∷ [])
