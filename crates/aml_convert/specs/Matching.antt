-- What Match asks of an element of a package (ACPI 6.5, 19.6).
use Rattle.std.specs.Prelude.{ℕ, ◌==◌, Bool, true, false, Option, Some, None, Ok, Err, if◌then◌else◌}
use Rattle.std.specs.declared.cmp.Ordering.{Ordering}
use Rattle.std.specs.Ordering.{is_eq, is_gt, is_lt, is_ge, is_le}
use Rattle.ar_space.specs.Outcome.{Outcome}
use Rattle.ar_space.specs.declared.integer_width.IntegerWidth.{IntegerWidth}
use Rattle.aml_objects.specs.Contents.{Content}
use Rattle.aml_convert.specs.declared.matching.MatchOperator.{MatchOperator}
use Rattle.aml_convert.specs.declared.matching.MatchOperator.TheVariants as operators
use Rattle.aml_convert.specs.Conversions.{compared}

-- the operator that a term's byte means
abbrev pub match_operator : ℕ → Option MatchOperator
match_operator n =
    if n == 0 then Some operators.Always
    else if n == 1 then Some operators.Equal
    else if n == 2 then Some operators.LessOrEqual
    else if n == 3 then Some operators.Less
    else if n == 4 then Some operators.GreaterOrEqual
    else if n == 5 then Some operators.Greater
    else None

-- whether an element is to the object as the operator asks, by the order of the object and the element
abbrev pub is_met : MatchOperator → Ordering → Bool
is_met operators.Always order = true
is_met operators.Equal order = is_eq order
is_met operators.LessOrEqual order = is_ge order
is_met operators.Less order = is_gt order
is_met operators.GreaterOrEqual order = is_le order
is_met operators.Greater order = is_lt order

-- an element that can't be converted to the object's type is in no order with it
abbrev pub is_met_by : MatchOperator → Outcome Ordering → Bool
is_met_by operator (Ok order) = is_met operator order
is_met_by operator (Err e) = false

-- whether an element matches an object: the element is converted to the object's type, and MTR asks nothing
abbrev pub is_match : IntegerWidth → MatchOperator → Content → Content → Bool
is_match w operators.Always object element = true
is_match w operators.Equal object element = is_met_by operators.Equal (compared w object element)
is_match w operators.LessOrEqual object element = is_met_by operators.LessOrEqual (compared w object element)
is_match w operators.Less object element = is_met_by operators.Less (compared w object element)
is_match w operators.GreaterOrEqual object element = is_met_by operators.GreaterOrEqual (compared w object element)
is_match w operators.Greater object element = is_met_by operators.Greater (compared w object element)
