-- What an integer, a string or a buffer is as another of the three (ACPI 6.5, 19.3.5.7 and 19.6.138 to 19.6.143).
use Rattle.std.specs.Prelude.{ℕ, ◌*◌, ◌==◌, ◌&&◌, ◌||◌, List, [], ◌∷◌, ◌++◌, take, Ok, Err, if◌then◌else◌}
use Rattle.std.specs.List.{join_by}
use Rattle.std.specs.Ordering.{nat_cmp}
use Rattle.std.specs.Cmp.Lexicographic.{slice_cmp}
use Rattle.std.specs.declared.cmp.Ordering.{Ordering}
use Rattle.byteorder.specs.Endian.{little_number, little_bytes, big_bytes}
use Rattle.hex.specs.Hex.{encode_upper}
use Rattle.ar_space.specs.Outcome.{Outcome, ◌>>=◌}
use Rattle.ar_space.specs.declared.integer_width.IntegerWidth.{IntegerWidth}
use Rattle.ar_space.specs.declared.refusal.Refusal.TheVariants.{Value}
use Rattle.ar_space.specs.declared.refusal.ValueFault.TheVariants.{WrongType, EmptyValue}
use Rattle.aml_objects.specs.Contents.{Content, Integer, String, Buffer, Other}
use Rattle.aml_convert.specs.declared.digits.Base.TheVariants.{Decimal, Hexadecimal}
use Rattle.aml_convert.specs.Digits.{leading_number}
use Rattle.aml_convert.specs.Integers.{bytes_of, truncated}

-- the hexadecimal digits that a string begins with, as many as an integer has at most
abbrev pub integer_in_string : IntegerWidth → List ℕ → Outcome ℕ
integer_in_string w [] = Err (Value EmptyValue)
integer_in_string w (c ∷ cs) = Ok (leading_number w Hexadecimal (take (2 * bytes_of w) (c ∷ cs)))

-- the bytes that a buffer begins with, the lowest first; missing ones are 0
abbrev pub integer_in_buffer : IntegerWidth → List ℕ → Outcome ℕ
integer_in_buffer w [] = Err (Value EmptyValue)
integer_in_buffer w (b ∷ bs) = Ok (little_number (bytes_of w) (b ∷ bs))

abbrev pub to_integer_of : IntegerWidth → Content → Outcome ℕ
to_integer_of w (Integer n) = Ok n
to_integer_of w (String s) = integer_in_string w s
to_integer_of w (Buffer b) = integer_in_buffer w b
to_integer_of w Other = Err (Value WrongType)

-- the hexadecimal digits behind `0x` or `0X`, else the decimal digits that a string begins with
abbrev pub numeral : IntegerWidth → List ℕ → Outcome ℕ
numeral w [] = Err (Value EmptyValue)
numeral w (c ∷ []) = Ok (leading_number w Decimal (c ∷ []))
numeral w (c ∷ d ∷ cs) = Ok (if (c == 48) && ((d == 120) || (d == 88)) then leading_number w Hexadecimal cs else leading_number w Decimal (c ∷ d ∷ cs))

-- ToInteger
abbrev pub explicit_integer_of : IntegerWidth → Content → Outcome ℕ
explicit_integer_of w (Integer n) = Ok n
explicit_integer_of w (String s) = numeral w s
explicit_integer_of w (Buffer b) = integer_in_buffer w b
explicit_integer_of w Other = Err (Value WrongType)

-- two upper-case hexadecimal digits
abbrev pub two_digits : ℕ → List ℕ
two_digits b = encode_upper (b ∷ [])

abbrev pub to_text_of : IntegerWidth → Content → Outcome (List ℕ)
to_text_of w (Integer n) = Ok (encode_upper (big_bytes (bytes_of w) (truncated w n)))
to_text_of w (String s) = Ok s
to_text_of w (Buffer b) = Ok (join_by two_digits (32 ∷ []) b)
to_text_of w Other = Err (Value WrongType)

abbrev pub integer_bytes : IntegerWidth → ℕ → List ℕ
integer_bytes w n = little_bytes (bytes_of w) (truncated w n)

-- a string's bytes and a zero; nothing of an empty one
abbrev pub terminated : List ℕ → List ℕ
terminated [] = []
terminated (c ∷ cs) = c ∷ cs ++ 0 ∷ []

abbrev pub to_buffer_of : IntegerWidth → Content → Outcome (List ℕ)
to_buffer_of w (Integer n) = Ok (integer_bytes w n)
to_buffer_of w (String s) = Ok (terminated s)
to_buffer_of w (Buffer b) = Ok b
to_buffer_of w Other = Err (Value WrongType)

-- the order of two values, the second as the first's type: integers as numbers, strings and buffers byte by byte
unfoldable pub compared : IntegerWidth → Content → Content → Outcome Ordering
compared w (Integer n) b = to_integer_of w b >>= (λ m. Ok (nat_cmp n m))
compared w (String s) b = to_text_of w b >>= (λ t. Ok (slice_cmp nat_cmp s t))
compared w (Buffer s) b = to_buffer_of w b >>= (λ t. Ok (slice_cmp nat_cmp s t))
compared w Other b = Err (Value WrongType)
