-- What the terms of the wide profile form of values (ACPI 6.5, 19.6).
use Rattle.std.specs.Prelude.{ℕ, List}
use Rattle.ar_space.specs.Change.{Change, give, settle, ◌>>=◌}
use Rattle.aml_objects.specs.Contents.{Content, content_in}
use Rattle.aml_objects.specs.Objects.{make_string}
use Rattle.aml_objects.specs.declared.value.Value.{Value}
use Rattle.aml_objects.specs.declared.value.Value.TheVariants as value
use Rattle.aml_convert.specs.Decimals.{decoded_decimal, coded_decimal}
use Rattle.aml_convert.specs.Strings.{decimal_string_of, hexadecimal_string_of, string_of, middle_of}
use Rattle.aml_world.specs.declared.values.operation_kind.Conversion.{Conversion}
use Rattle.aml_world.specs.declared.values.operation_kind.Conversion.TheVariants as conversions
use Rattle.aml_world.specs.state.State.{State, on_objects}
use Rattle.aml_world.specs.state.Readings.{integer_in}
use Rattle.aml_world.specs.values.Operations.{as_integer, made_of}

-- FromBCD
unfoldable pub decoded_in : {S : Type 0} → Value → Change (State S) Value
decoded_in v = do
  n ← integer_in v
  settle (as_integer (decoded_decimal n))

-- ToBCD
unfoldable pub number_coded : {S : Type 0} → ℕ → Change (State S) Value
number_coded n w = (as_integer (coded_decimal w.width n), w)

unfoldable pub coded_in : {S : Type 0} → Value → Change (State S) Value
coded_in v = do
  n ← integer_in v
  number_coded n

-- ToDecimalString: a string is itself
unfoldable pub decimal_text : {S : Type 0} → Value → Change (State S) (List ℕ)
decimal_text v w = (decimal_string_of (content_in w.objects v), w)

unfoldable pub new_decimal_string : {S : Type 0} → Value → Change (State S) Value
new_decimal_string v = do
  text ← decimal_text v
  on_objects (make_string text)

abbrev pub decimal_string_in : {S : Type 0} → Value → Change (State S) Value
decimal_string_in (value.String o) = give (value.String o)
decimal_string_in value.Uninitialized = new_decimal_string value.Uninitialized
decimal_string_in (value.Integer n) = new_decimal_string (value.Integer n)
decimal_string_in (value.Buffer o) = new_decimal_string (value.Buffer o)
decimal_string_in (value.Package o) = new_decimal_string (value.Package o)
decimal_string_in (value.Reference r) = new_decimal_string (value.Reference r)

-- ToHexString: the same
unfoldable pub hexadecimal_text : {S : Type 0} → Value → Change (State S) (List ℕ)
hexadecimal_text v w = (hexadecimal_string_of w.width (content_in w.objects v), w)

unfoldable pub new_hexadecimal_string : {S : Type 0} → Value → Change (State S) Value
new_hexadecimal_string v = do
  text ← hexadecimal_text v
  on_objects (make_string text)

abbrev pub hexadecimal_string_in : {S : Type 0} → Value → Change (State S) Value
hexadecimal_string_in (value.String o) = give (value.String o)
hexadecimal_string_in value.Uninitialized = new_hexadecimal_string value.Uninitialized
hexadecimal_string_in (value.Integer n) = new_hexadecimal_string (value.Integer n)
hexadecimal_string_in (value.Buffer o) = new_hexadecimal_string (value.Buffer o)
hexadecimal_string_in (value.Package o) = new_hexadecimal_string (value.Package o)
hexadecimal_string_in (value.Reference r) = new_hexadecimal_string (value.Reference r)

-- ToString
unfoldable pub string_text : {S : Type 0} → Value → Value → Change (State S) (List ℕ)
string_text v n w = (string_of w.width (content_in w.objects v) (content_in w.objects n), w)

unfoldable pub string_in : {S : Type 0} → Value → Value → Change (State S) Value
string_in v n = do
  text ← string_text v n
  on_objects (make_string text)

-- Mid
unfoldable pub middle_content : {S : Type 0} → Value → Value → Value → Change (State S) Content
middle_content v i n w = (middle_of w.width (content_in w.objects v) (content_in w.objects i) (content_in w.objects n), w)

unfoldable pub middle_in : {S : Type 0} → Value → Value → Value → Change (State S) Value
middle_in v i n = do
  c ← middle_content v i n
  on_objects (made_of c)

-- ---- what a conversion of one operand gives

abbrev pub converted : {S : Type 0} → Conversion → Value → Change (State S) Value
converted conversions.DecimalString v = decimal_string_in v
converted conversions.HexadecimalString v = hexadecimal_string_in v
converted conversions.FromDecimal v = decoded_in v
converted conversions.ToDecimal v = coded_in v
