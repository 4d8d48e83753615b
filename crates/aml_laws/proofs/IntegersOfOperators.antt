-- Operators and conversions form integers below two to the width.
use Rattle.std.specs.Prelude.{◌≡◌, ◌<◌, ◌≤◌, ◌^◌, ◌-◌, ◌+◌, ◌*◌, ◌/◌, ◌%◌, ◌==◌, ℕ, nat_lt, slice_index, List, [], ◌∷◌, Bool, true, false, Ok, Err, refl, bit_and, bit_or, if◌then◌else◌}
use Rattle.std.specs.declared.cmp.Ordering.{Ordering}
use Rattle.std.proofs.Common.{arith, subst}
use Rattle.std.proofs.lemmas.Nat.{and_le_l, or_lt, xor_lt}
use Rattle.std.proofs.Math.Nat.{mod-lt, mod-le, div-le_self}
use Rattle.std.specs.Int.Count.{count_leading_zeros, count_trailing_zeros, trailing_le}
use Rattle.ar_space.specs.declared.integer_width.IntegerWidth.{IntegerWidth}
use Rattle.ar_space.specs.declared.integer_width.IntegerWidth.TheVariants.{Bits32, Bits64}
use Rattle.ar_space.specs.declared.refusal.Refusal.{Refusal}
use Rattle.ar_space.specs.declared.refusal.Refusal.TheVariants as refusal
use Rattle.ar_space.specs.declared.refusal.EvaluationFault.TheVariants.{IndexLimit}
use Rattle.ar_space.specs.Outcome.{Outcome, seen}
use Rattle.ar_space.specs.Outcome as outcome
use Rattle.ar_space.specs.Change.{Change, give, stop, settle, go_on, ◌>>=◌}
use Rattle.aml_objects.specs.Contents.{Content, Integer, String, Buffer, Other, content_in}
use Rattle.aml_objects.specs.Objects.{Objects, make_string, make_buffer}
use Rattle.aml_objects.specs.declared.value.Value.{Value}
use Rattle.aml_objects.specs.declared.value.Value.TheVariants as value
use Rattle.aml_objects.specs.declared.value.Reference.{Reference}
use Rattle.aml_convert.specs.declared.operators.BinaryOperator.{BinaryOperator}
use Rattle.aml_convert.specs.declared.operators.BinaryOperator.TheVariants as binary
use Rattle.aml_convert.specs.declared.operators.UnaryOperator.{UnaryOperator}
use Rattle.aml_convert.specs.declared.operators.UnaryOperator.TheVariants as unary
use Rattle.aml_convert.specs.declared.operators.Division.{Division}
use Rattle.aml_convert.specs.declared.logic.LogicalOperator.{LogicalOperator}
use Rattle.aml_convert.specs.declared.logic.LogicalOperator.TheVariants as logical
use Rattle.aml_convert.specs.declared.logic.Comparison.{Comparison}
use Rattle.aml_convert.specs.Digits.{leading_number}
use Rattle.aml_convert.specs.Integers.{bits_of, truncated, ones, truth}
use Rattle.aml_convert.specs.Operators.{complement, result_of, unary_result_of, logical_result_of, holds}
use Rattle.aml_convert.specs.Conversions.{integer_in_string, integer_in_buffer, to_integer_of, numeral, explicit_integer_of}
use Rattle.aml_convert.specs.Concatenation.{concatenated}
use Rattle.aml_world.specs.declared.values.operation_kind.OneOperand.{OneOperand}
use Rattle.aml_world.specs.declared.values.operation_kind.OneOperand.TheVariants as one
use Rattle.aml_world.specs.declared.values.operation_kind.TwoOperands.{TwoOperands}
use Rattle.aml_world.specs.declared.values.operation_kind.TwoOperands.TheVariants as two
use Rattle.aml_world.specs.declared.values.operation_kind.Test.{Test}
use Rattle.aml_world.specs.declared.values.operation_kind.Test.TheVariants as test
use Rattle.aml_world.specs.declared.values.operation_kind.Count.{Count}
use Rattle.aml_world.specs.declared.values.operation_kind.Count.TheVariants as count
use Rattle.aml_world.specs.state.State.{State, on_objects}
use Rattle.aml_world.specs.state.Readings.{integer_kept, integer_in}
use Rattle.aml_world.specs.fields.Regions.{integer_of_bits, integer_value, value_of_bits}
use Rattle.aml_world.specs.state.Osi.{is_known, osi_answer}
use Rattle.aml_world.specs.values.Operations.{as_integer, integers_operated, operated, divided_in, integer_operated, operated_on_one, integers_tested, operated_logically, integer_lnot, lnot_in, incremented, decremented, truth_of, compared_in, made_of, joined_contents, joined, joined_items, joined_resources, to_integer_in, buffer_bytes, new_buffer_of, to_buffer_in, below, element_indexed, byte_indexed, indexed, result_of_two, result_of_one, result_of_test, counted_by}
use Rattle.aml_laws.specs.Within.{Below, WithinContent, Within, WithinWidth, FormsWithin}

abbrev FitsWidth : IntegerWidth → ℕ → Type 0
FitsWidth width n = n < 2 ^ bits_of width

ok_fits : {A : Type 0} (P : A → Type 0) (x y : A) → ◌≡◌ {A = Outcome A} (Ok x) (Ok y) → P x → P y
ok_fits {A} P x y e h = let same : x ≡ y = cc e in subst P same h

-- ---- numbers

pub byte_fits_width : (width : IntegerWidth) (n : ℕ) → n < 256 → FitsWidth width n
byte_fits_width Bits32 n l = omega arith
byte_fits_width Bits64 n l = omega arith

pub small_number_fits : (width : IntegerWidth) (n : ℕ) → n ≤ 65 → FitsWidth width n
small_number_fits Bits32 n l = omega arith
small_number_fits Bits64 n l = omega arith

pub truncated_fits : (width : IntegerWidth) (n : ℕ) → FitsWidth width (truncated width n)
truncated_fits Bits32 n = mod-lt n (omega arith)
truncated_fits Bits64 n = mod-lt n (omega arith)

lower_fits : (width : IntegerWidth) (m n : ℕ) → m ≤ n → FitsWidth width n → FitsWidth width m
lower_fits width m n l h = omega (arith, l, h)

ones_fit : (width : IntegerWidth) → FitsWidth width (ones width)
ones_fit Bits32 = omega arith
ones_fit Bits64 = omega arith

pub truth_fits : (width : IntegerWidth) (b : Bool) → FitsWidth width (truth width b)
truth_fits width true = ones_fit width
truth_fits width false = small_number_fits width 0 (omega arith)

complement_fits : (width : IntegerWidth) (n : ℕ) → FitsWidth width (complement width n)
complement_fits width n = lower_fits width (ones width - truncated width n) (ones width) (omega arith) (ones_fit width)

shift_left_by_cases : (width : IntegerWidth) (b : Bool) (n : ℕ) → FitsWidth width (if b then truncated width n else 0)
shift_left_by_cases width true n = truncated_fits width n
shift_left_by_cases width false n = small_number_fits width 0 (omega arith)

shift_right_by_cases : (width : IntegerWidth) (b : Bool) (x y : ℕ) → FitsWidth width x → FitsWidth width (if b then x / y else 0)
shift_right_by_cases width true x y h = lower_fits width (x / y) x (div-le_self x y) h
shift_right_by_cases width false x y h = small_number_fits width 0 (omega arith)

remainder_by_cases : (width : IntegerWidth) (b : Bool) (e : Refusal) (x y r : ℕ) → FitsWidth width x → (if◌then◌else◌ {A = Outcome ℕ} b (Err e) (Ok (x % y))) ≡ Ok r → FitsWidth width r
remainder_by_cases width true z x y r h e = absurd (cc e)
remainder_by_cases width false z x y r h e = ok_fits (FitsWidth width) (x % y) r e (lower_fits width (x % y) x (mod-le x y) h)

pub binary_result_fits : (op : BinaryOperator) (width : IntegerWidth) (x y r : ℕ) → FitsWidth width x → FitsWidth width y → result_of op width x y ≡ Ok r → FitsWidth width r
binary_result_fits binary.Add width x y r h i e = ok_fits (FitsWidth width) _ r e (truncated_fits width _)
binary_result_fits binary.Subtract width x y r h i e = ok_fits (FitsWidth width) _ r e (truncated_fits width _)
binary_result_fits binary.Multiply width x y r h i e = ok_fits (FitsWidth width) _ r e (truncated_fits width _)
binary_result_fits binary.Mod width x y r h i e = remainder_by_cases width (y == 0) _ x y r h e
binary_result_fits binary.And width x y r h i e = ok_fits (FitsWidth width) _ r e (lower_fits width (bit_and x y) x (and_le_l x y) h)
binary_result_fits binary.Nand width x y r h i e = ok_fits (FitsWidth width) _ r e (complement_fits width (bit_and x y))
binary_result_fits binary.Or width x y r h i e = ok_fits (FitsWidth width) _ r e (or_lt (bits_of width) x y h i)
binary_result_fits binary.Nor width x y r h i e = ok_fits (FitsWidth width) _ r e (complement_fits width (bit_or x y))
binary_result_fits binary.Xor width x y r h i e = ok_fits (FitsWidth width) _ r e (xor_lt (bits_of width) x y h i)
binary_result_fits binary.ShiftLeft width x y r h i e = ok_fits (FitsWidth width) _ r e (shift_left_by_cases width (nat_lt y (bits_of width)) (x * 2 ^ y))
binary_result_fits binary.ShiftRight width x y r h i e = ok_fits (FitsWidth width) _ r e (shift_right_by_cases width (nat_lt y (bits_of width)) x (2 ^ y) h)

lowest_bit_by_cases : (width : IntegerWidth) (b : Bool) (n : ℕ) → FitsWidth width (if b then 0 else 1 + count_trailing_zeros 64 n)
lowest_bit_by_cases width true n = small_number_fits width 0 (omega arith)
lowest_bit_by_cases width false n = small_number_fits width (1 + count_trailing_zeros 64 n) (let l = trailing_le 64 n in omega arith)

pub unary_result_fits : (op : UnaryOperator) (width : IntegerWidth) (x : ℕ) → FitsWidth width (unary_result_of op width x)
unary_result_fits unary.Not width x = complement_fits width x
unary_result_fits unary.FindSetLeftBit width x = small_number_fits width (64 - count_leading_zeros 64 x) (omega arith)
unary_result_fits unary.FindSetRightBit width x = lowest_bit_by_cases width (x == 0) x

pub logical_result_fits : (op : LogicalOperator) (width : IntegerWidth) (x y : ℕ) → FitsWidth width (logical_result_of op width x y)
logical_result_fits logical.And width x y = truth_fits width _
logical_result_fits logical.Or width x y = truth_fits width _

pub division_by_cases : (width : IntegerWidth) (b : Bool) (e : Refusal) (x y : ℕ) (d : Division) → FitsWidth width x → (if◌then◌else◌ {A = Outcome Division} b (Err e) (Ok (record { quotient = x / y; remainder = x % y }))) ≡ Ok d → FitsWidth width d.quotient × FitsWidth width d.remainder
division_by_cases width true z x y d h e = absurd (cc e)
division_by_cases width false z x y d h e = ok_fits {A = Division} (λ z. FitsWidth width z.quotient × FitsWidth width z.remainder) (record { quotient = x / y; remainder = x % y }) d e (lower_fits width (x / y) x (div-le_self x y) h, lower_fits width (x % y) x (mod-le x y) h)

-- ---- conversions

integer_in_string_fits : (width : IntegerWidth) (s : List ℕ) (n : ℕ) → integer_in_string width s ≡ Ok n → FitsWidth width n
unfolding leading_number
integer_in_string_fits width [] n e = absurd (cc e)
integer_in_string_fits width (c ∷ cs) n e = ok_fits (FitsWidth width) _ n e (truncated_fits width _)

pub integer_in_buffer_fits : (width : IntegerWidth) (bytes : List ℕ) (n : ℕ) → ((i : ℕ) → slice_index bytes i < 256) → integer_in_buffer width bytes ≡ Ok n → FitsWidth width n
integer_in_buffer_fits width [] n h e = absurd (cc e)
integer_in_buffer_fits Bits32 (b ∷ bs) n h e = ok_fits (FitsWidth Bits32) _ n e (omega (arith, h 0, h 1, h 2, h 3))
integer_in_buffer_fits Bits64 (b ∷ bs) n h e = ok_fits (FitsWidth Bits64) _ n e (omega (arith, h 0, h 1, h 2, h 3, h 4, h 5, h 6, h 7))

pub to_integer_fits : (width : IntegerWidth) (c : Content) (n : ℕ) → WithinContent width c → to_integer_of width c ≡ Ok n → FitsWidth width n
to_integer_fits width (Integer m) n h e = ok_fits (FitsWidth width) m n e h
to_integer_fits width (String s) n h e = integer_in_string_fits width s n e
to_integer_fits width (Buffer b) n h e = integer_in_buffer_fits width b n h e
to_integer_fits width Other n h e = absurd (cc e)

numeral_by_cases : (width : IntegerWidth) (b : Bool) (x y n : ℕ) → FitsWidth width x → FitsWidth width y → ◌≡◌ {A = Outcome ℕ} (Ok (if b then x else y)) (Ok n) → FitsWidth width n
numeral_by_cases width true x y n h i e = ok_fits (FitsWidth width) x n e h
numeral_by_cases width false x y n h i e = ok_fits (FitsWidth width) y n e i

numeral_fits : (width : IntegerWidth) (s : List ℕ) (n : ℕ) → numeral width s ≡ Ok n → FitsWidth width n
unfolding leading_number
numeral_fits width [] n e = absurd (cc e)
numeral_fits width (c ∷ []) n e = ok_fits (FitsWidth width) _ n e (truncated_fits width _)
numeral_fits width (c ∷ d ∷ cs) n e = numeral_by_cases width _ _ _ n (truncated_fits width _) (truncated_fits width _) e

pub explicit_integer_fits : (width : IntegerWidth) (c : Content) (n : ℕ) → WithinContent width c → explicit_integer_of width c ≡ Ok n → FitsWidth width n
explicit_integer_fits width (Integer m) n h e = ok_fits (FitsWidth width) m n e h
explicit_integer_fits width (String s) n h e = numeral_fits width s n e
explicit_integer_fits width (Buffer b) n h e = integer_in_buffer_fits width b n h e
explicit_integer_fits width Other n h e = absurd (cc e)

-- ---- what is formed, one thing after another

pub integer_value_within : (width : IntegerWidth) (n : ℕ) (v : Value) → ◌≡◌ {A = Outcome Value} (Ok (value.Integer n)) (Ok v) → FitsWidth width n → WithinWidth width v
integer_value_within width n v e h = ok_fits (WithinWidth width) (value.Integer n) v e h

pub seen_integer_within : (width : IntegerWidth) (r : Outcome ℕ) (v : Value) → ((n : ℕ) → r ≡ Ok n → FitsWidth width n) → as_integer r ≡ Ok v → WithinWidth width v
seen_integer_within width (Ok n) v h e = integer_value_within width n v e (h n refl)
seen_integer_within width (Err x) v h e = absurd (cc e)

integer_then : {S A : Type 0} (P : A → Type 0) (r : Outcome ℕ) (w : State S) (k : ℕ → Change (State S) A) → ((n : ℕ) → r ≡ Ok n → (a : A) → (k n w).0 ≡ Ok a → P a) → (a : A) → (go_on r w k).0 ≡ Ok a → P a
unfolding go_on
integer_then P (Ok n) w k h a e = h n refl a e
integer_then P (Err x) w k h a e = absurd (cc e)

-- no object is an integer
go_on_gives : {H A B : Type 0} (P : B → Type 0) (r : Outcome A) (h : H) (k : A → Change H B) → ((a : A) (i : H) (b : B) → (k a i).0 ≡ Ok b → P b) → (b : B) → (go_on r h k).0 ≡ Ok b → P b
unfolding go_on
go_on_gives P (Ok a) h k all b e = all a h b e
go_on_gives P (Err x) h k all b e = absurd (cc e)

given_value_within : {H : Type 0} (width : IntegerWidth) (u : Value) (h : H) (v : Value) → WithinWidth width u → (give u h).0 ≡ Ok v → WithinWidth width v
unfolding give
given_value_within width u h v fit e = ok_fits (WithinWidth width) u v e fit

made_string_within : (width : IntegerWidth) (bs : List ℕ) (h : Objects) (v : Value) → (make_string bs h).0 ≡ Ok v → WithinWidth width v
unfolding make_string ◌>>=◌
made_string_within width bs h v e = go_on_gives (WithinWidth width) _ _ _ (λ u i b e. go_on_gives (WithinWidth width) _ _ _ (λ n j c. given_value_within width (value.String n) j c tt) b e) v e

made_buffer_within : (width : IntegerWidth) (bs : List ℕ) (h : Objects) (v : Value) → (make_buffer bs h).0 ≡ Ok v → WithinWidth width v
unfolding make_buffer ◌>>=◌
made_buffer_within width bs h v e = go_on_gives (WithinWidth width) _ _ _ (λ u i b e. go_on_gives (WithinWidth width) _ _ _ (λ n j c. given_value_within width (value.Buffer n) j c tt) b e) v e

-- two that are joined are no integer
record FormsNoInteger (c : Content) : Type 0 where
  forms : (width : IntegerWidth) (h : Objects) (v : Value) → (made_of c h).0 ≡ Ok v → WithinWidth width v

joined_forms_no_integer : {A : Type 0} (r : Outcome A) (k : A → List ℕ) (text : Bool) (c : Content) → outcome.◌>>=◌ r (λ a. Ok (if text then String (k a) else Buffer (k a))) ≡ Ok c → FormsNoInteger c
unfolding outcome.◌>>=◌
joined_forms_no_integer (Ok a) k true c e = ok_fits FormsNoInteger _ c e (record { forms = λ width h v. made_string_within width (k a) h v })
joined_forms_no_integer (Ok a) k false c e = ok_fits FormsNoInteger _ c e (record { forms = λ width h v. made_buffer_within width (k a) h v })
joined_forms_no_integer (Err x) k text c e = absurd (cc e)

concatenated_forms_no_integer : (width : IntegerWidth) (a b c : Content) → concatenated width a b ≡ Ok c → FormsNoInteger c
unfolding concatenated
concatenated_forms_no_integer width (Integer n) b c e = joined_forms_no_integer _ _ false c e
concatenated_forms_no_integer width (String s) b c e = joined_forms_no_integer _ _ true c e
concatenated_forms_no_integer width (Buffer s) b c e = joined_forms_no_integer _ _ false c e
concatenated_forms_no_integer width Other b c e = absurd (cc e)

content_then : {S A : Type 0} (P : A → Type 0) (r : Outcome Content) (w : State S) (k : Content → Change (State S) A) → ((c : Content) → r ≡ Ok c → (a : A) → (k c w).0 ≡ Ok a → P a) → (a : A) → (go_on r w k).0 ≡ Ok a → P a
unfolding go_on
content_then P (Ok c) w k h a e = h c refl a e
content_then P (Err x) w k h a e = absurd (cc e)

pub truth_of_within : (width : IntegerWidth) (c : Comparison) (r : Outcome Ordering) (v : Value) → truth_of width c r ≡ Ok v → WithinWidth width v
truth_of_within width c (Ok o) v e = integer_value_within width _ v e (truth_fits width (holds c o))
truth_of_within width c (Err x) v e = absurd (cc e)

pub osi_answer_within : (width : IntegerWidth) (texts : List (List ℕ)) (c : Content) (v : Value) → osi_answer width texts c ≡ Ok v → WithinWidth width v
osi_answer_within width texts (String text) v e = integer_value_within width _ v e (truth_fits width (is_known texts text))
osi_answer_within width texts (Integer n) v e = absurd (cc e)
osi_answer_within width texts (Buffer bytes) v e = absurd (cc e)
osi_answer_within width texts Other v e = absurd (cc e)

branch_within : {S : Type 0} (b : Bool) (width : IntegerWidth) (m k : Outcome Value × State S) (v : Value) → (m.0 ≡ Ok v → WithinWidth width v) → (k.0 ≡ Ok v → WithinWidth width v) → (if b then m else k).0 ≡ Ok v → WithinWidth width v
branch_within true width m k v h i e = h e
branch_within false width m k v h i e = i e

module _ {S : Type 0} (w : State S) where
  pub kept_within : (n : ℕ) → FormsWithin w (integer_kept n)
  unfolding integer_kept
  kept_within n v e = integer_value_within w.width _ v e (truncated_fits w.width n)

  pub read_within : (v : Value) (n : ℕ) → Within w v → (integer_in v w).0 ≡ Ok n → Below w n
  unfolding integer_in
  read_within v n h e = to_integer_fits w.width (content_in w.objects v) n h e

  operated_within : (op : BinaryOperator) (a b : Value) → Within w a → Within w b → FormsWithin w (operated op a b)
  unfolding operated integer_in integers_operated ◌>>=◌
  operated_within op a b h i v e =
      integer_then (WithinWidth w.width) _ w _ (λ x ex u eu. integer_then (WithinWidth w.width) _ w _ (λ y ey t et. seen_integer_within w.width _ t (λ r. binary_result_fits op w.width x y r (to_integer_fits w.width _ x h ex) (to_integer_fits w.width _ y i ey)) et) u eu) v e

  pub divided_within : (a b : Value) (d : Division) → Within w a → (divided_in a b w).0 ≡ Ok d → Below w d.quotient × Below w d.remainder
  unfolding divided_in integer_in settle ◌>>=◌
  divided_within a b d h e =
      integer_then (λ (d : Division). FitsWidth w.width d.quotient × FitsWidth w.width d.remainder) _ w _ (λ x ex u eu. integer_then (λ (d : Division). FitsWidth w.width d.quotient × FitsWidth w.width d.remainder) _ w _ (λ y ey t et. division_by_cases w.width (y == 0) _ x y t (to_integer_fits w.width _ x h ex) et) u eu) d e

  joined_within : (a b : Value) → FormsWithin w (joined a b)
  unfolding joined joined_contents on_objects ◌>>=◌
  joined_within a b v e = content_then (WithinWidth w.width) _ w _ (λ c ec u eu. (concatenated_forms_no_integer w.width _ _ c ec).forms w.width w.objects u eu) v e

  resources_within : (a b : Value) → FormsWithin w (joined_resources a b)
  unfolding joined_resources joined_items on_objects ◌>>=◌
  resources_within a b v e = go_on_gives (WithinWidth w.width) _ w _ (λ bytes i u eu. made_buffer_within w.width bytes i.objects u eu) v e

  reference_below_within : (n i : ℕ) (r : Reference) (v : Value) → below n i r ≡ Ok v → WithinWidth w.width v
  reference_below_within n i r v e = reference_below_by_cases (nat_lt i n) r v e
    where
      reference_below_by_cases : (b : Bool) (r : Reference) (v : Value) → (if b then Ok (value.Reference r) else Err (refusal.Evaluation IndexLimit)) ≡ Ok v → WithinWidth w.width v
      reference_below_by_cases true r v e = ok_fits (WithinWidth w.width) (value.Reference r) v e tt
      reference_below_by_cases false r v e = absurd (cc e)

  indexed_within : (a b : Value) → FormsWithin w (indexed a b)
  unfolding element_indexed byte_indexed settle stop ◌>>=◌
  indexed_within (value.Package o) b v e = go_on_gives (WithinWidth w.width) _ _ _ (λ i x u eu. go_on_gives (WithinWidth w.width) _ _ _ (λ n y t et. reference_below_within n i _ t et) u eu) v e
  indexed_within (value.String o) b v e = go_on_gives (WithinWidth w.width) _ _ _ (λ i x u eu. go_on_gives (WithinWidth w.width) _ _ _ (λ n y t et. reference_below_within n i _ t et) u eu) v e
  indexed_within (value.Buffer o) b v e = go_on_gives (WithinWidth w.width) _ _ _ (λ i x u eu. go_on_gives (WithinWidth w.width) _ _ _ (λ n y t et. reference_below_within n i _ t et) u eu) v e
  indexed_within value.Uninitialized b v e = absurd (cc e)
  indexed_within (value.Integer n) b v e = absurd (cc e)
  indexed_within (value.Reference r) b v e = absurd (cc e)

  pub two_within : (k : TwoOperands) (a b : Value) → Within w a → Within w b → FormsWithin w (result_of_two k a b)
  two_within (two.Integers op) a b h i = operated_within op a b h i
  two_within two.Concatenate a b h i = joined_within a b
  two_within two.ConcatenateResources a b h i = resources_within a b
  two_within two.Index a b h i = indexed_within a b

  unary_within : (op : UnaryOperator) (a : Value) → FormsWithin w (operated_on_one op a)
  unfolding operated_on_one integer_in integer_operated ◌>>=◌
  unary_within op a v e = integer_then (WithinWidth w.width) _ w _ (λ x ex u eu. integer_value_within w.width _ u eu (unary_result_fits op w.width x)) v e

  new_buffer_within : (a : Value) → FormsWithin w (new_buffer_of a)
  unfolding new_buffer_of buffer_bytes on_objects ◌>>=◌
  new_buffer_within a v e = go_on_gives (WithinWidth w.width) _ w _ (λ bytes i u eu. made_buffer_within w.width bytes i.objects u eu) v e

  buffer_within : (a : Value) → FormsWithin w (to_buffer_in a)
  buffer_within (value.Buffer o) v e = given_value_within w.width (value.Buffer o) w v tt e
  buffer_within value.Uninitialized v e = new_buffer_within _ v e
  buffer_within (value.Integer n) v e = new_buffer_within _ v e
  buffer_within (value.String o) v e = new_buffer_within _ v e
  buffer_within (value.Package o) v e = new_buffer_within _ v e
  buffer_within (value.Reference r) v e = new_buffer_within _ v e

  integer_within : (a : Value) → Within w a → FormsWithin w (to_integer_in a)
  unfolding to_integer_in
  integer_within a h v e = seen_integer_within w.width _ v (λ n. explicit_integer_fits w.width _ n h) e

  pub one_within : (k : OneOperand) (a : Value) → Within w a → FormsWithin w (result_of_one k a)
  one_within (one.Integer op) a h = unary_within op a
  one_within one.ToBuffer a h = buffer_within a
  one_within one.ToInteger a h = integer_within a h

  logic_within : (op : LogicalOperator) (a b : Value) → FormsWithin w (operated_logically op a b)
  unfolding operated_logically integer_in integers_tested ◌>>=◌
  logic_within op a b v e = integer_then (WithinWidth w.width) _ w _ (λ x ex u eu. integer_then (WithinWidth w.width) _ w _ (λ y ey t et. integer_value_within w.width _ t et (logical_result_fits op w.width x y)) u eu) v e

  compared_within : (c : Comparison) (a b : Value) → FormsWithin w (compared_in c a b)
  unfolding compared_in
  compared_within c a b v e = truth_of_within w.width c _ v e

  pub test_within : (k : Test) (a b : Value) → FormsWithin w (result_of_test k a b)
  test_within (test.Logical op) a b = logic_within op a b
  test_within (test.Compare c) a b = compared_within c a b

  pub lnot_within : (a : Value) → FormsWithin w (lnot_in a)
  unfolding lnot_in integer_in integer_lnot ◌>>=◌
  lnot_within a v e = integer_then (WithinWidth w.width) _ w _ (λ x ex u eu. integer_value_within w.width _ u eu (truth_fits w.width (x == 0))) v e

  pub counted_within : (k : Count) (n : ℕ) → FormsWithin w (counted_by k n)
  unfolding incremented decremented
  counted_within count.Increment n v e = integer_value_within w.width _ v e (truncated_fits w.width (n + 1))
  counted_within count.Decrement n v e = integer_value_within w.width _ v e (truncated_fits w.width _)

  pub field_within : (count : ℕ) (bytes : List ℕ) → ((i : ℕ) → slice_index bytes i < 256) → FormsWithin w (value_of_bits count bytes)
  unfolding value_of_bits integer_value integer_of_bits give on_objects ◌>>=◌
  field_within count bytes h v e = branch_within (nat_lt (bits_of w.width) count) w.width _ _ v (made_buffer_within w.width bytes w.objects v) (integer_then (WithinWidth w.width) _ w _ (λ n en u eu. integer_value_within w.width n u eu (integer_in_buffer_fits w.width bytes n h en)) v) e

pub ruleset operators_form_integers_of_the_width = (kept_within, read_within, two_within, one_within, divided_within, test_within, lnot_within, counted_within, field_within)
