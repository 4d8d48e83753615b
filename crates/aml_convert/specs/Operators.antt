-- Operators on integers (ACPI 6.5, 19.6).
use Rattle.std.specs.Prelude.{ℕ, ◌+◌, ◌-◌, ◌*◌, ◌/◌, ◌%◌, ◌^◌, ◌==◌, ◌&&◌, ◌||◌, nat_lt, not, Bool, Ok, Err, if◌then◌else◌}
use Rattle.std.specs.Int.RustNames.{bit_and, bit_or, bit_xor}
use Rattle.std.specs.Int.Count.{count_leading_zeros, count_trailing_zeros}
use Rattle.std.specs.declared.cmp.Ordering.{Ordering}
use Rattle.std.specs.Ordering.{is_eq, is_gt, is_lt}
use Rattle.ar_space.specs.Outcome.{Outcome}
use Rattle.ar_space.specs.declared.integer_width.IntegerWidth.{IntegerWidth}
use Rattle.ar_space.specs.declared.refusal.Refusal.TheVariants.{Value}
use Rattle.ar_space.specs.declared.refusal.ValueFault.TheVariants.{DivideByZero}
use Rattle.aml_convert.specs.declared.operators.BinaryOperator.{BinaryOperator}
use Rattle.aml_convert.specs.declared.operators.BinaryOperator.TheVariants.{Add, Subtract, Multiply, Mod, And, Nand, Or, Nor, Xor, ShiftLeft, ShiftRight}
use Rattle.aml_convert.specs.declared.operators.UnaryOperator.{UnaryOperator}
use Rattle.aml_convert.specs.declared.operators.UnaryOperator.TheVariants.{Not, FindSetLeftBit, FindSetRightBit}
use Rattle.aml_convert.specs.declared.operators.Division.{Division}
use Rattle.aml_convert.specs.declared.logic.LogicalOperator.{LogicalOperator}
use Rattle.aml_convert.specs.declared.logic.LogicalOperator.TheVariants as logical
use Rattle.aml_convert.specs.declared.logic.Comparison.{Comparison}
use Rattle.aml_convert.specs.declared.logic.Comparison.TheVariants as comparison
use Rattle.aml_convert.specs.Integers.{bits_of, truncated, ones, truth}

-- all bits turned
abbrev pub complement : IntegerWidth → ℕ → ℕ
complement w n = ones w - truncated w n

-- the number under two integers
abbrev pub remainder : ℕ → ℕ → Outcome ℕ
remainder x y = if y == 0 then Err (Value DivideByZero) else Ok (x % y)

-- a shift by the width or more gives 0
abbrev pub shifted_left : IntegerWidth → ℕ → ℕ → ℕ
shifted_left w x count = if nat_lt count (bits_of w) then truncated w (x * 2 ^ count) else 0

abbrev pub shifted_right : IntegerWidth → ℕ → ℕ → ℕ
shifted_right w x count = if nat_lt count (bits_of w) then x / 2 ^ count else 0

abbrev pub result_of : BinaryOperator → IntegerWidth → ℕ → ℕ → Outcome ℕ
result_of Add w x y = Ok (truncated w (x + y))
result_of Subtract w x y = Ok (truncated w (x + (2 ^ bits_of w - truncated w y)))
result_of Multiply w x y = Ok (truncated w (x * y))
result_of Mod w x y = remainder x y
result_of And w x y = Ok (bit_and x y)
result_of Nand w x y = Ok (complement w (bit_and x y))
result_of Or w x y = Ok (bit_or x y)
result_of Nor w x y = Ok (complement w (bit_or x y))
result_of Xor w x y = Ok (bit_xor x y)
result_of ShiftLeft w x y = Ok (shifted_left w x y)
result_of ShiftRight w x y = Ok (shifted_right w x y)

-- the numbers, from 1, of the highest and of the lowest set bit; 0 where none is set
abbrev pub highest_set_bit : ℕ → ℕ
highest_set_bit n = 64 - count_leading_zeros 64 n

abbrev pub lowest_set_bit : ℕ → ℕ
lowest_set_bit n = if n == 0 then 0 else 1 + count_trailing_zeros 64 n

abbrev pub unary_result_of : UnaryOperator → IntegerWidth → ℕ → ℕ
unary_result_of Not w x = complement w x
unary_result_of FindSetLeftBit w x = highest_set_bit x
unary_result_of FindSetRightBit w x = lowest_set_bit x

-- an integer that isn't 0 is true
abbrev pub is_true : ℕ → Bool
is_true x = not (x == 0)

abbrev pub logical_result_of : LogicalOperator → IntegerWidth → ℕ → ℕ → ℕ
logical_result_of logical.And w x y = truth w (is_true x && is_true y)
logical_result_of logical.Or w x y = truth w (is_true x || is_true y)

abbrev pub lnot : IntegerWidth → ℕ → ℕ
lnot w x = truth w (x == 0)

-- whether an order is the one that is asked for
abbrev pub holds : Comparison → Ordering → Bool
holds comparison.Equal order = is_eq order
holds comparison.Greater order = is_gt order
holds comparison.Less order = is_lt order

-- the quotient and the remainder
abbrev pub divided : ℕ → ℕ → Outcome Division
divided x y = if y == 0 then Err (Value DivideByZero) else Ok (record { quotient = x / y; remainder = x % y })
