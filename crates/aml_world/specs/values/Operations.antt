-- Operators over the values of a world (ACPI 6.5, 19.6).
use Rattle.std.specs.Prelude.{ℕ, ◌+◌, List, length, Option, Some, None, Ok, Err, slice_get, nat_lt, if◌then◌else◌}
use Rattle.std.specs.declared.cmp.Ordering.{Ordering}
use Rattle.ar_space.specs.declared.integer_width.IntegerWidth.{IntegerWidth}
use Rattle.ar_space.specs.declared.refusal.Refusal.TheVariants as refusal
use Rattle.ar_space.specs.declared.refusal.EvaluationFault.TheVariants.{NoValue, IndexLimit}
use Rattle.ar_space.specs.declared.refusal.ValueFault.TheVariants.{WrongType}
use Rattle.ar_space.specs.Outcome.{Outcome, seen}
use Rattle.ar_space.specs.Change.{Change, give, stop, settle, ◌>>=◌}
use Rattle.aml_objects.specs.Contents.{Content, content_in}
use Rattle.aml_objects.specs.Contents as held
use Rattle.aml_objects.specs.Objects.{Objects, make_string, make_buffer}
use Rattle.aml_objects.specs.declared.object.Object.{Object}
use Rattle.aml_objects.specs.declared.object.Object.TheVariants as object
use Rattle.aml_objects.specs.declared.entry.Field.{Field}
use Rattle.aml_objects.specs.declared.entry.Field.TheVariants as field
use Rattle.aml_objects.specs.declared.value.Value.{Value}
use Rattle.aml_objects.specs.declared.value.Value.TheVariants as value
use Rattle.aml_objects.specs.declared.value.Reference.{Reference}
use Rattle.aml_objects.specs.declared.value.Reference.TheVariants as reference
use Rattle.aml_convert.specs.Integers.{truncated, truth}
use Rattle.aml_convert.specs.Conversions.{explicit_integer_of, to_buffer_of, compared}
use Rattle.aml_convert.specs.Operators.{result_of, unary_result_of, logical_result_of, lnot, holds, divided}
use Rattle.aml_convert.specs.Concatenation.{concatenated, resources_joined}
use Rattle.aml_convert.specs.declared.operators.BinaryOperator.{BinaryOperator}
use Rattle.aml_convert.specs.declared.operators.BinaryOperator.TheVariants.{Subtract}
use Rattle.aml_convert.specs.declared.operators.UnaryOperator.{UnaryOperator}
use Rattle.aml_convert.specs.declared.operators.Division.{Division}
use Rattle.aml_convert.specs.declared.logic.LogicalOperator.{LogicalOperator}
use Rattle.aml_convert.specs.declared.logic.Comparison.{Comparison}
use Rattle.aml_world.specs.declared.values.object_type.ObjectType.{ObjectType}
use Rattle.aml_world.specs.declared.values.object_type.ObjectType.TheVariants as types
use Rattle.aml_world.specs.declared.values.object_type.Referent.{Referent}
use Rattle.aml_world.specs.declared.values.object_type.Referent.TheVariants as referent
use Rattle.aml_world.specs.state.State.{State, on_objects}
use Rattle.aml_world.specs.state.Readings.{integer_in}
use Rattle.aml_world.specs.declared.values.operation_kind.OneOperand.{OneOperand}
use Rattle.aml_world.specs.declared.values.operation_kind.OneOperand.TheVariants as one
use Rattle.aml_world.specs.declared.values.operation_kind.TwoOperands.{TwoOperands}
use Rattle.aml_world.specs.declared.values.operation_kind.TwoOperands.TheVariants as two
use Rattle.aml_world.specs.declared.values.operation_kind.Test.{Test}
use Rattle.aml_world.specs.declared.values.operation_kind.Test.TheVariants as test
use Rattle.aml_world.specs.declared.values.operation_kind.Count.{Count}
use Rattle.aml_world.specs.declared.values.operation_kind.Count.TheVariants as count

abbrev pub as_integer : Outcome ℕ → Outcome Value
as_integer x = seen value.Integer x

-- ---- integers

unfoldable pub integers_operated : {S : Type 0} → BinaryOperator → ℕ → ℕ → Change (State S) Value
integers_operated op x y w = (as_integer (result_of op w.width x y), w)

unfoldable pub operated : {S : Type 0} → BinaryOperator → Value → Value → Change (State S) Value
operated op a b = do
  x ← integer_in a
  y ← integer_in b
  integers_operated op x y

unfoldable pub divided_in : {S : Type 0} → Value → Value → Change (State S) Division
divided_in a b = do
  x ← integer_in a
  y ← integer_in b
  settle (divided x y)

unfoldable pub integer_operated : {S : Type 0} → UnaryOperator → ℕ → Change (State S) Value
integer_operated op x w = (Ok (value.Integer (unary_result_of op w.width x)), w)

unfoldable pub operated_on_one : {S : Type 0} → UnaryOperator → Value → Change (State S) Value
operated_on_one op a = do
  x ← integer_in a
  integer_operated op x

unfoldable pub integers_tested : {S : Type 0} → LogicalOperator → ℕ → ℕ → Change (State S) Value
integers_tested op x y w = (Ok (value.Integer (logical_result_of op w.width x y)), w)

unfoldable pub operated_logically : {S : Type 0} → LogicalOperator → Value → Value → Change (State S) Value
operated_logically op a b = do
  x ← integer_in a
  y ← integer_in b
  integers_tested op x y

unfoldable pub integer_lnot : {S : Type 0} → ℕ → Change (State S) Value
integer_lnot x w = (Ok (value.Integer (lnot w.width x)), w)

unfoldable pub lnot_in : {S : Type 0} → Value → Change (State S) Value
lnot_in a = do
  x ← integer_in a
  integer_lnot x

-- the next integer, and the one before
unfoldable pub incremented : {S : Type 0} → ℕ → Change (State S) Value
incremented x w = (Ok (value.Integer (truncated w.width (x + 1))), w)

unfoldable pub decremented : {S : Type 0} → ℕ → Change (State S) Value
decremented x w = (as_integer (result_of Subtract w.width x 1), w)

-- ---- integers, strings and buffers

abbrev pub truth_of : IntegerWidth → Comparison → Outcome Ordering → Outcome Value
truth_of width comparison order = seen (λ o. value.Integer (truth width (holds comparison o))) order

unfoldable pub compared_in : {S : Type 0} → Comparison → Value → Value → Change (State S) Value
compared_in c a b w = (truth_of w.width c (compared w.width (content_in w.objects a) (content_in w.objects b)), w)

-- a new object of the contents
abbrev pub made_of : Content → Change Objects Value
made_of (held.Integer n) = give (value.Integer n)
made_of (held.String bytes) = make_string bytes
made_of (held.Buffer bytes) = make_buffer bytes
made_of held.Other = stop (refusal.Value WrongType)

unfoldable pub joined_contents : {S : Type 0} → Value → Value → Change (State S) Content
joined_contents a b w = (concatenated w.width (content_in w.objects a) (content_in w.objects b), w)

unfoldable pub joined : {S : Type 0} → Value → Value → Change (State S) Value
joined a b = do
  c ← joined_contents a b
  on_objects (made_of c)

unfoldable pub joined_items : {S : Type 0} → Value → Value → Change (State S) (List ℕ)
joined_items a b w = (resources_joined (content_in w.objects a) (content_in w.objects b), w)

unfoldable pub joined_resources : {S : Type 0} → Value → Value → Change (State S) Value
joined_resources a b = do
  bytes ← joined_items a b
  on_objects (make_buffer bytes)

-- ToInteger
unfoldable pub to_integer_in : {S : Type 0} → Value → Change (State S) Value
to_integer_in a w = (as_integer (explicit_integer_of w.width (content_in w.objects a)), w)

-- ToBuffer: a buffer is itself
unfoldable pub buffer_bytes : {S : Type 0} → Value → Change (State S) (List ℕ)
buffer_bytes a w = (to_buffer_of w.width (content_in w.objects a), w)

unfoldable pub new_buffer_of : {S : Type 0} → Value → Change (State S) Value
new_buffer_of a = do
  bytes ← buffer_bytes a
  on_objects (make_buffer bytes)

abbrev pub to_buffer_in : {S : Type 0} → Value → Change (State S) Value
to_buffer_in (value.Buffer o) = give (value.Buffer o)
to_buffer_in value.Uninitialized = new_buffer_of value.Uninitialized
to_buffer_in (value.Integer n) = new_buffer_of (value.Integer n)
to_buffer_in (value.String o) = new_buffer_of (value.String o)
to_buffer_in (value.Package o) = new_buffer_of (value.Package o)
to_buffer_in (value.Reference r) = new_buffer_of (value.Reference r)

-- ---- SizeOf and ObjectType, of what a target holds when references are followed

-- bytes of a string or a buffer, elements of a package
abbrev pub size_of_object : Option Object → Outcome ℕ
size_of_object None = Err (refusal.Value WrongType)
size_of_object (Some (object.String bytes)) = Ok (length bytes)
size_of_object (Some (object.Buffer bytes)) = Ok (length bytes)
size_of_object (Some (object.Package elements)) = Ok (length elements)

abbrev pub size_of_value : List Object → Value → Outcome ℕ
size_of_value objects (value.String o) = size_of_object (slice_get objects o)
size_of_value objects (value.Buffer o) = size_of_object (slice_get objects o)
size_of_value objects (value.Package o) = size_of_object (slice_get objects o)
size_of_value objects value.Uninitialized = Err (refusal.Evaluation NoValue)
size_of_value objects (value.Integer n) = Err (refusal.Value WrongType)
size_of_value objects (value.Reference r) = Err (refusal.Value WrongType)

abbrev pub size_of_referent : List Object → Referent → Outcome ℕ
size_of_referent objects (referent.Value v) = size_of_value objects v
size_of_referent objects (referent.Object t) = Err (refusal.Value WrongType)
size_of_referent objects (referent.Field f) = Err (refusal.Value WrongType)
size_of_referent objects (referent.Bytes n) = Ok n

unfoldable pub size_in : {S : Type 0} → Referent → Change (State S) Value
size_in r w = (as_integer (size_of_referent w.objects r), w)

-- ---- Index

-- a reference that an index gives, where it is below a count
abbrev pub below : ℕ → ℕ → Reference → Outcome Value
below n i r = if nat_lt i n then Ok (value.Reference r) else Err (refusal.Evaluation IndexLimit)

-- a reference to an element of a package, or to a byte of a string or a buffer
unfoldable pub size_held : {S : Type 0} → Value → Change (State S) ℕ
size_held v w = (size_of_value w.objects v, w)

unfoldable pub element_indexed : {S : Type 0} → ℕ → Value → Change (State S) Value
element_indexed o u = do
  i ← integer_in u
  n ← size_held (value.Package o)
  settle (below n i (reference.Element o i))

unfoldable pub byte_indexed : {S : Type 0} → Value → ℕ → Value → Change (State S) Value
byte_indexed v o u = do
  i ← integer_in u
  n ← size_held v
  settle (below n i (reference.Byte o i))

abbrev pub indexed : {S : Type 0} → Value → Value → Change (State S) Value
indexed (value.Package o) u = element_indexed o u
indexed (value.String o) u = byte_indexed (value.String o) o u
indexed (value.Buffer o) u = byte_indexed (value.Buffer o) o u
indexed value.Uninitialized u = stop (refusal.Value WrongType)
indexed (value.Integer n) u = stop (refusal.Value WrongType)
indexed (value.Reference r) u = stop (refusal.Value WrongType)

-- ---- ObjectType

abbrev pub type_number : ObjectType → ℕ
type_number types.Uninitialized = 0
type_number types.Integer = 1
type_number types.String = 2
type_number types.Buffer = 3
type_number types.Package = 4
type_number types.FieldUnit = 5
type_number types.Device = 6
type_number types.Event = 7
type_number types.Method = 8
type_number types.Mutex = 9
type_number types.OperationRegion = 10
type_number types.PowerResource = 11
type_number types.Processor = 12
type_number types.ThermalZone = 13
type_number types.BufferField = 14
type_number types.DebugObject = 16

abbrev pub type_of_value : Value → ObjectType
type_of_value value.Uninitialized = types.Uninitialized
type_of_value (value.Integer n) = types.Integer
type_of_value (value.String o) = types.String
type_of_value (value.Buffer o) = types.Buffer
type_of_value (value.Package o) = types.Package
type_of_value (value.Reference r) = types.Uninitialized

abbrev pub type_of_field : Field → ObjectType
type_of_field (field.Unit u) = types.FieldUnit
type_of_field (field.Buffer b) = types.BufferField

abbrev pub type_of_referent : Referent → ObjectType
type_of_referent (referent.Value v) = type_of_value v
type_of_referent (referent.Object t) = t
type_of_referent (referent.Field f) = type_of_field f
type_of_referent (referent.Bytes n) = types.Buffer

abbrev pub result_of_two : {S : Type 0} → TwoOperands → Value → Value → Change (State S) Value
result_of_two (two.Integers op) v u = operated op v u
result_of_two two.Concatenate v u = joined v u
result_of_two two.ConcatenateResources v u = joined_resources v u
result_of_two two.Index v u = indexed v u

abbrev pub result_of_one : {S : Type 0} → OneOperand → Value → Change (State S) Value
result_of_one (one.Integer op) v = operated_on_one op v
result_of_one one.ToBuffer v = to_buffer_in v
result_of_one one.ToInteger v = to_integer_in v

abbrev pub result_of_test : {S : Type 0} → Test → Value → Value → Change (State S) Value
result_of_test (test.Logical op) v u = operated_logically op v u
result_of_test (test.Compare c) v u = compared_in c v u

abbrev pub counted_by : {S : Type 0} → Count → ℕ → Change (State S) Value
counted_by count.Increment n = incremented n
counted_by count.Decrement n = decremented n
