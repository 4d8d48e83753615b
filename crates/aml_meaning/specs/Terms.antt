-- Which rule a term is evaluated by, and its operands.
use Rattle.std.specs.Prelude.{ℕ, suc, Bool, true, false, Option, Some, None, Ok, Err}
use Rattle.ar_space.specs.declared.refusal.Refusal.TheVariants as refusal
use Rattle.ar_space.specs.declared.refusal.NameFault.TheVariants.{BadName}
use Rattle.ar_space.specs.Outcome.{Outcome}
use Rattle.aml_grammar.specs.declared.opcode.Opcode.{Opcode}
use Rattle.aml_grammar.specs.declared.opcode.Opcode.TheVariants as opcodes
use Rattle.aml_grammar.specs.declared.opcode.TermCode.{TermCode}
use Rattle.aml_grammar.specs.declared.opcode.TermCode.TheVariants as codes
use Rattle.aml_grammar.specs.Tree.{Tree, Part, null, name, number, bytes, inner, list, Trees, no_trees, tree}
use Rattle.aml_objects.specs.declared.value.Slot.{Slot}
use Rattle.aml_objects.specs.declared.value.Slot.TheVariants as slots
use Rattle.aml_convert.specs.declared.operators.BinaryOperator.{BinaryOperator}
use Rattle.aml_convert.specs.declared.operators.BinaryOperator.TheVariants as integers
use Rattle.aml_convert.specs.declared.operators.UnaryOperator.TheVariants as unary
use Rattle.aml_convert.specs.declared.logic.LogicalOperator.TheVariants as logical
use Rattle.aml_convert.specs.declared.logic.Comparison.TheVariants as comparisons
use Rattle.aml_world.specs.declared.values.operation_kind.BufferFieldSize.TheVariants as sizes
use Rattle.aml_world.specs.declared.values.operation_kind.TwoOperands.{TwoOperands}
use Rattle.aml_world.specs.declared.values.operation_kind.TwoOperands.TheVariants as two
use Rattle.aml_world.specs.declared.values.operation_kind.OneOperand.{OneOperand}
use Rattle.aml_world.specs.declared.values.operation_kind.OneOperand.TheVariants as one
use Rattle.aml_world.specs.declared.values.operation_kind.Test.{Test}
use Rattle.aml_world.specs.declared.values.operation_kind.Test.TheVariants as tests
use Rattle.aml_world.specs.declared.values.operation_kind.Count.TheVariants as counts
use Rattle.aml_world.specs.declared.values.operation_kind.Conversion.TheVariants as conversions
use Rattle.aml_world.specs.declared.values.operation_kind.EventChange.TheVariants as changes
use Rattle.aml_meaning.specs.declared.term_kind.TargetKind.{TargetKind}
use Rattle.aml_meaning.specs.declared.term_kind.TargetKind.TheVariants as targets
use Rattle.aml_meaning.specs.declared.term_kind.TermKind.{TermKind}
use Rattle.aml_meaning.specs.declared.term_kind.TermKind.TheVariants as kinds
use Rattle.aml_meaning.specs.declared.term_kind.DataKind.{DataKind}
use Rattle.aml_meaning.specs.declared.term_kind.DataKind.TheVariants as datas
use Rattle.aml_meaning.specs.declared.term_kind.DeclarationKind.{DeclarationKind}
use Rattle.aml_meaning.specs.declared.term_kind.DeclarationKind.TheVariants as declarations
use Rattle.aml_meaning.specs.declared.term_kind.RegionKind.{RegionKind}
use Rattle.aml_meaning.specs.declared.term_kind.RegionKind.TheVariants as regions
use Rattle.aml_meaning.specs.declared.term_kind.StatementKind.{StatementKind}
use Rattle.aml_meaning.specs.declared.term_kind.StatementKind.TheVariants as statements
use Rattle.aml_meaning.specs.declared.term_kind.OperatorKind.{OperatorKind}
use Rattle.aml_meaning.specs.declared.term_kind.OperatorKind.TheVariants as operators
use Rattle.aml_meaning.specs.declared.term_kind.WideKind.{WideKind}
use Rattle.aml_meaning.specs.declared.term_kind.WideKind.TheVariants as wide

-- data
abbrev pub data_kind : Opcode → Option DataKind
-- written by tools/opcodes.py from tables/opcodes.txt: data_kind: begin
data_kind opcodes.Zero = Some (datas.Constant 0)
data_kind opcodes.One = Some (datas.Constant 1)
data_kind opcodes.BytePrefix = Some datas.Integer
data_kind opcodes.WordPrefix = Some datas.Integer
data_kind opcodes.DWordPrefix = Some datas.Integer
data_kind opcodes.StringPrefix = Some datas.String
data_kind opcodes.QWordPrefix = Some datas.Integer
data_kind opcodes.Buffer = Some datas.Buffer
data_kind opcodes.Package = Some datas.Package
data_kind opcodes.VarPackage = Some datas.VarPackage
data_kind opcodes.Ones = Some (datas.Constant 18446744073709551615)
data_kind opcodes.Revision = Some (datas.Constant 2)
-- written by tools/opcodes.py from tables/opcodes.txt: data_kind: end
data_kind _ = None

-- declarations, and Scope
abbrev pub declaration_kind : Opcode → Option DeclarationKind
-- written by tools/opcodes.py from tables/opcodes.txt: declaration_kind: begin
declaration_kind opcodes.Alias = Some declarations.Alias
declaration_kind opcodes.Name = Some declarations.Name
declaration_kind opcodes.Scope = Some declarations.Scope
declaration_kind opcodes.Method = Some declarations.Method
declaration_kind opcodes.External = Some declarations.External
declaration_kind opcodes.Mutex = Some declarations.Mutex
declaration_kind opcodes.Event = Some declarations.Event
declaration_kind opcodes.Device = Some declarations.Device
declaration_kind opcodes.Processor = Some declarations.Processor
declaration_kind opcodes.PowerRes = Some declarations.PowerResource
declaration_kind opcodes.ThermalZone = Some declarations.ThermalZone
-- written by tools/opcodes.py from tables/opcodes.txt: declaration_kind: end
declaration_kind _ = None

-- operation regions, fields in them, and buffer fields
abbrev pub region_kind : Opcode → Option RegionKind
-- written by tools/opcodes.py from tables/opcodes.txt: region_kind: begin
region_kind opcodes.CreateDWordField = Some (regions.SizedBufferField sizes.DWord)
region_kind opcodes.CreateWordField = Some (regions.SizedBufferField sizes.Word)
region_kind opcodes.CreateByteField = Some (regions.SizedBufferField sizes.Byte)
region_kind opcodes.CreateBitField = Some (regions.SizedBufferField sizes.Bit)
region_kind opcodes.CreateQWordField = Some (regions.SizedBufferField sizes.QWord)
region_kind opcodes.CreateField = Some regions.BufferField
region_kind opcodes.OpRegion = Some regions.OperationRegion
region_kind opcodes.Field = Some regions.Field
region_kind opcodes.IndexField = Some regions.IndexField
-- written by tools/opcodes.py from tables/opcodes.txt: region_kind: end
region_kind _ = None

-- statements
abbrev pub statement_kind : Opcode → Option StatementKind
-- written by tools/opcodes.py from tables/opcodes.txt: statement_kind: begin
statement_kind opcodes.Notify = Some statements.Notify
statement_kind opcodes.Continue = Some statements.Continue
statement_kind opcodes.If = Some statements.If
statement_kind opcodes.Else = Some statements.Else
statement_kind opcodes.While = Some statements.While
statement_kind opcodes.Noop = Some statements.Noop
statement_kind opcodes.Return = Some statements.Return
statement_kind opcodes.Break = Some statements.Break
statement_kind opcodes.BreakPoint = Some statements.Noop
statement_kind opcodes.Stall = Some statements.Pause
statement_kind opcodes.Sleep = Some statements.Pause
statement_kind opcodes.Release = Some statements.Release
statement_kind opcodes.Fatal = Some statements.Fatal
-- written by tools/opcodes.py from tables/opcodes.txt: statement_kind: end
statement_kind _ = None

-- locals and arguments
abbrev pub slot_kind : Opcode → Option Slot
-- written by tools/opcodes.py from tables/opcodes.txt: slot_kind: begin
slot_kind opcodes.Local0 = Some (slots.Local 0)
slot_kind opcodes.Local1 = Some (slots.Local 1)
slot_kind opcodes.Local2 = Some (slots.Local 2)
slot_kind opcodes.Local3 = Some (slots.Local 3)
slot_kind opcodes.Local4 = Some (slots.Local 4)
slot_kind opcodes.Local5 = Some (slots.Local 5)
slot_kind opcodes.Local6 = Some (slots.Local 6)
slot_kind opcodes.Local7 = Some (slots.Local 7)
slot_kind opcodes.Arg0 = Some (slots.Argument 0)
slot_kind opcodes.Arg1 = Some (slots.Argument 1)
slot_kind opcodes.Arg2 = Some (slots.Argument 2)
slot_kind opcodes.Arg3 = Some (slots.Argument 3)
slot_kind opcodes.Arg4 = Some (slots.Argument 4)
slot_kind opcodes.Arg5 = Some (slots.Argument 5)
slot_kind opcodes.Arg6 = Some (slots.Argument 6)
-- written by tools/opcodes.py from tables/opcodes.txt: slot_kind: end
slot_kind _ = None

-- operators on two integers
abbrev pub integer_operator : Opcode → Option BinaryOperator
-- written by tools/opcodes.py from tables/opcodes.txt: integer_operator: begin
integer_operator opcodes.Add = Some integers.Add
integer_operator opcodes.Subtract = Some integers.Subtract
integer_operator opcodes.Multiply = Some integers.Multiply
integer_operator opcodes.ShiftLeft = Some integers.ShiftLeft
integer_operator opcodes.ShiftRight = Some integers.ShiftRight
integer_operator opcodes.And = Some integers.And
integer_operator opcodes.Nand = Some integers.Nand
integer_operator opcodes.Or = Some integers.Or
integer_operator opcodes.Nor = Some integers.Nor
integer_operator opcodes.Xor = Some integers.Xor
integer_operator opcodes.Mod = Some integers.Mod
-- written by tools/opcodes.py from tables/opcodes.txt: integer_operator: end
integer_operator _ = None

-- other operators with two operands and a target
abbrev pub two_operands : Opcode → Option TwoOperands
-- written by tools/opcodes.py from tables/opcodes.txt: two_operands: begin
two_operands opcodes.Concat = Some two.Concatenate
two_operands opcodes.ConcatRes = Some two.ConcatenateResources
two_operands opcodes.Index = Some two.Index
-- written by tools/opcodes.py from tables/opcodes.txt: two_operands: end
two_operands _ = None

-- operators with an operand and a target
abbrev pub one_operand : Opcode → Option OneOperand
-- written by tools/opcodes.py from tables/opcodes.txt: one_operand: begin
one_operand opcodes.Not = Some (one.Integer unary.Not)
one_operand opcodes.FindSetLeftBit = Some (one.Integer unary.FindSetLeftBit)
one_operand opcodes.FindSetRightBit = Some (one.Integer unary.FindSetRightBit)
one_operand opcodes.ToBuffer = Some one.ToBuffer
one_operand opcodes.ToInteger = Some one.ToInteger
-- written by tools/opcodes.py from tables/opcodes.txt: one_operand: end
one_operand _ = None

-- comparisons, and logical operators with two operands
abbrev pub test_kind : Opcode → Option Test
-- written by tools/opcodes.py from tables/opcodes.txt: test_kind: begin
test_kind opcodes.LAnd = Some (tests.Logical logical.And)
test_kind opcodes.LOr = Some (tests.Logical logical.Or)
test_kind opcodes.LEqual = Some (tests.Compare comparisons.Equal)
test_kind opcodes.LGreater = Some (tests.Compare comparisons.Greater)
test_kind opcodes.LLess = Some (tests.Compare comparisons.Less)
-- written by tools/opcodes.py from tables/opcodes.txt: test_kind: end
test_kind _ = None

-- the other terms that have a value
abbrev pub other_operator : Opcode → Option OperatorKind
-- written by tools/opcodes.py from tables/opcodes.txt: other_operator: begin
other_operator opcodes.Store = Some operators.Store
other_operator opcodes.RefOf = Some operators.RefOf
other_operator opcodes.Increment = Some (operators.Count counts.Increment)
other_operator opcodes.Decrement = Some (operators.Count counts.Decrement)
other_operator opcodes.Divide = Some operators.Divide
other_operator opcodes.DerefOf = Some operators.DerefOf
other_operator opcodes.SizeOf = Some operators.SizeOf
other_operator opcodes.ObjectType = Some operators.ObjectType
other_operator opcodes.LNot = Some operators.LNot
other_operator opcodes.CopyObject = Some operators.CopyObject
other_operator opcodes.CondRefOf = Some operators.CondRefOf
other_operator opcodes.Acquire = Some operators.Acquire
-- written by tools/opcodes.py from tables/opcodes.txt: other_operator: end
other_operator _ = None

-- terms of the wide profile
abbrev pub wide_kind : Opcode → Option WideKind
-- written by tools/opcodes.py from tables/opcodes.txt: wide_kind: begin
wide_kind opcodes.Match = Some wide.Match
wide_kind opcodes.ToDecimalString = Some (wide.Convert conversions.DecimalString)
wide_kind opcodes.ToHexString = Some (wide.Convert conversions.HexadecimalString)
wide_kind opcodes.ToString = Some wide.ToString
wide_kind opcodes.Mid = Some wide.Mid
wide_kind opcodes.Signal = Some (wide.Event changes.Signal)
wide_kind opcodes.Wait = Some wide.Wait
wide_kind opcodes.Reset = Some (wide.Event changes.Reset)
wide_kind opcodes.FromBcd = Some (wide.Convert conversions.FromDecimal)
wide_kind opcodes.ToBcd = Some (wide.Convert conversions.ToDecimal)
wide_kind opcodes.BankField = Some wide.BankField
-- written by tools/opcodes.py from tables/opcodes.txt: wide_kind: end
wide_kind _ = None

-- the kind of a term: one of those above, or it is not evaluated
abbrev pub wide_or : Option WideKind → TermKind
wide_or (Some k) = kinds.Wide k
wide_or None = kinds.Unsupported

abbrev pub other_or : Opcode → Option OperatorKind → TermKind
other_or op (Some k) = kinds.Operator k
other_or op None = wide_or (wide_kind op)

abbrev pub test_or : Opcode → Option Test → TermKind
test_or op (Some k) = kinds.Operator (operators.Test k)
test_or op None = other_or op (other_operator op)

abbrev pub one_or : Opcode → Option OneOperand → TermKind
one_or op (Some k) = kinds.Operator (operators.One k)
one_or op None = test_or op (test_kind op)

abbrev pub two_or : Opcode → Option TwoOperands → TermKind
two_or op (Some k) = kinds.Operator (operators.Two k)
two_or op None = one_or op (one_operand op)

abbrev pub integers_or : Opcode → Option BinaryOperator → TermKind
integers_or op (Some k) = kinds.Operator (operators.Two (two.Integers k))
integers_or op None = two_or op (two_operands op)

abbrev pub slot_or : Opcode → Option Slot → TermKind
slot_or op (Some slot) = kinds.Operator (operators.Slot slot)
slot_or op None = integers_or op (integer_operator op)

abbrev pub statement_or : Opcode → Option StatementKind → TermKind
statement_or op (Some k) = kinds.Statement k
statement_or op None = slot_or op (slot_kind op)

abbrev pub region_or : Opcode → Option RegionKind → TermKind
region_or op (Some k) = kinds.Region k
region_or op None = statement_or op (statement_kind op)

abbrev pub declaration_or : Opcode → Option DeclarationKind → TermKind
declaration_or op (Some k) = kinds.Declaration k
declaration_or op None = region_or op (region_kind op)

abbrev pub data_or : Opcode → Option DataKind → TermKind
data_or op (Some k) = kinds.Data k
data_or op None = declaration_or op (declaration_kind op)

abbrev pub kind_of : Opcode → TermKind
kind_of op = data_or op (data_kind op)

-- how a term names a target: it is Debug, a local or an argument, or it refers to one
abbrev pub slot_target : Option Slot → TargetKind
slot_target None = targets.Other
slot_target (Some slot) = targets.Slot slot

abbrev pub target_kind_of : Opcode → TargetKind
target_kind_of opcodes.Debug = targets.Nowhere
target_kind_of opcodes.RefOf = targets.RefOf
target_kind_of opcodes.DerefOf = targets.DerefOf
target_kind_of opcodes.Index = targets.Index
target_kind_of op = slot_target (slot_kind op)

abbrev pub target_kind : TermCode → TargetKind
target_kind (codes.Opcode op) = target_kind_of op
target_kind _ = targets.Other

-- an operand that is a number, a term, or a list of terms; the grammar leaves no other where one of them is wanted
abbrev pub number_of : Option Part → Outcome ℕ
number_of (Some (number n)) = Ok n
number_of _ = Err (refusal.Name BadName)

abbrev pub inner_of : Option Part → Outcome Tree
inner_of (Some (inner t)) = Ok t
inner_of _ = Err (refusal.Name BadName)

abbrev pub list_of : Option Part → Outcome Trees
list_of (Some (list ts)) = Ok ts
list_of _ = Err (refusal.Name BadName)

-- whether an operand is a name
abbrev pub is_named : Option Part → Bool
is_named None = false
is_named (Some null) = false
is_named (Some (name n)) = true
is_named (Some (number n)) = false
is_named (Some (bytes bs)) = false
is_named (Some (inner t)) = false
is_named (Some (list ts)) = false

-- the Else of an If, where it has one
abbrev pub else_of : Option Part → Option Tree
else_of (Some (inner t)) = Some t
else_of _ = None

abbrev pub count_of : Trees → ℕ
count_of no_trees = 0
count_of (tree t ts) = suc (count_of ts)
