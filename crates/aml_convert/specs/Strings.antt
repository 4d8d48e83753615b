-- Strings that are asked for by name, and parts of values (ACPI 6.5, 19.6.139, 19.6.140, 19.6.143, and Mid).
use Rattle.std.specs.Prelude.{ℕ, ◌==◌, List, [], ◌∷◌, ◌++◌, take, drop, codes, decimal, Ok, Err}
use Rattle.std.specs.List.{join_by, before_first}
use Rattle.ar_space.specs.Outcome.{Outcome, ◌>>=◌}
use Rattle.ar_space.specs.declared.integer_width.IntegerWidth.{IntegerWidth}
use Rattle.ar_space.specs.declared.refusal.Refusal.TheVariants.{Value}
use Rattle.ar_space.specs.declared.refusal.ValueFault.TheVariants.{WrongType}
use Rattle.aml_objects.specs.Contents.{Content, Integer, String, Buffer, Other}
use Rattle.aml_convert.specs.Conversions.{to_integer_of, to_text_of, to_buffer_of, integer_bytes, two_digits}

-- what is written for each byte, with commas between them
abbrev pub listed : (ℕ → List ℕ) → List ℕ → List ℕ
listed written bytes = join_by written (44 ∷ []) bytes

-- ToDecimalString: decimal digits without leading zeros
abbrev pub decimal_string_of : Content → Outcome (List ℕ)
decimal_string_of (Integer n) = Ok (decimal n)
decimal_string_of (String s) = Ok s
decimal_string_of (Buffer b) = Ok (listed decimal b)
decimal_string_of Other = Err (Value WrongType)

-- a byte as a hexadecimal number: `0x` and two upper-case digits
abbrev pub prefixed : ℕ → List ℕ
prefixed b = codes "0x" ++ two_digits b

-- ToHexString: an integer has all its digits and no prefix
abbrev pub hexadecimal_string_of : IntegerWidth → Content → Outcome (List ℕ)
hexadecimal_string_of w (Integer n) = to_text_of w (Integer n)
hexadecimal_string_of w (String s) = Ok s
hexadecimal_string_of w (Buffer b) = Ok (listed prefixed b)
hexadecimal_string_of w Other = Err (Value WrongType)

-- ToString: the bytes before the first zero, at most as many as are asked for
abbrev pub before_zero : ℕ → List ℕ → List ℕ
before_zero count bytes = take count (before_first (λ b. b == 0) bytes)

unfoldable pub string_of : IntegerWidth → Content → Content → Outcome (List ℕ)
string_of w source count = do
  bytes ← to_buffer_of w source
  n ← to_integer_of w count
  Ok (before_zero n bytes)

-- Mid: the bytes from a place on, at most as many as are asked for; none from the end on
abbrev pub part : ℕ → ℕ → List ℕ → List ℕ
part start count bytes = take count (drop start bytes)

unfoldable pub part_of : IntegerWidth → List ℕ → Content → Content → Outcome (List ℕ)
part_of w bytes start count = do
  i ← to_integer_of w start
  n ← to_integer_of w count
  Ok (part i n bytes)

-- of a string a string, else a buffer
unfoldable pub middle_of : IntegerWidth → Content → Content → Content → Outcome Content
middle_of w (Integer n) start count = part_of w (integer_bytes w n) start count >>= (λ b. Ok (Buffer b))
middle_of w (String s) start count = part_of w s start count >>= (λ t. Ok (String t))
middle_of w (Buffer b) start count = part_of w b start count >>= (λ p. Ok (Buffer p))
middle_of w Other start count = Err (Value WrongType)
