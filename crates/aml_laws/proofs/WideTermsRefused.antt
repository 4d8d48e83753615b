-- Conversions and parts of the wide profile that are refused by what their operand holds.
use Rattle.std.specs.Prelude.{◌≡◌, ◌<◌, ◌≤◌, ◌*◌, ◌^◌, ◌&&◌, ℕ, zero, suc, nat_lt, Bool, true, false, List, [], ◌∷◌, slice_get, Some, Ok, Err, refl}
use Rattle.std.specs.Int.Digits.{digits_of}
use Rattle.std.specs.List.{list_all}
use Rattle.std.proofs.Common.{arith, ap, ◌∙◌}
use Rattle.std.proofs.lemmas.Bool.Decides.{nat_tests}
use Rattle.ar_space.specs.declared.integer_width.IntegerWidth.{IntegerWidth}
use Rattle.ar_space.specs.declared.refusal.Refusal.{Refusal}
use Rattle.ar_space.specs.declared.refusal.Refusal.TheVariants as refusal
use Rattle.ar_space.specs.declared.refusal.ValueFault.TheVariants.{WrongType}
use Rattle.ar_space.specs.Accesses.{Accesses}
use Rattle.ar_space.specs.Change.{settle, go_on, ◌>>=◌}
use Rattle.ar_space.specs.Outcome as outcome
use Rattle.aml_path.specs.declared.segment.Seg.{Seg}
use Rattle.aml_grammar.specs.declared.opcode.Opcode.{Opcode}
use Rattle.aml_grammar.specs.declared.opcode.Opcode.TheVariants as opcodes
use Rattle.aml_grammar.specs.Tree.{Tree, Part}
use Rattle.aml_objects.specs.Contents.{content_in}
use Rattle.aml_objects.specs.declared.value.Value.{Value}
use Rattle.aml_objects.specs.declared.value.Value.TheVariants as value
use Rattle.aml_convert.specs.Decimals.{coded_decimal, decoded_decimal}
use Rattle.aml_convert.specs.Integers.{bytes_of}
use Rattle.aml_convert.specs.Strings.{string_of, middle_of}
use Rattle.aml_world.specs.declared.state.profile.Profile.TheVariants as profiles
use Rattle.aml_world.specs.declared.values.operation_kind.Conversion.{Conversion}
use Rattle.aml_world.specs.declared.values.operation_kind.Conversion.TheVariants as conversions
use Rattle.aml_world.specs.state.Readings.{integer_in}
use Rattle.aml_world.specs.state.Run.{lift}
use Rattle.aml_world.specs.state.State.{State}
use Rattle.aml_world.specs.values.WideOperations.{decoded_in, number_coded, coded_in, decimal_text, new_decimal_string, hexadecimal_text, new_hexadecimal_string, converted}
use Rattle.aml_meaning.specs.declared.term_kind.TermKind.TheVariants as kinds
use Rattle.aml_meaning.specs.declared.term_kind.WideKind.TheVariants as wide
use Rattle.aml_meaning.specs.Meaning.{meaning}
use Rattle.aml_meaning.specs.Tasks.{task, operand_value, value_at}
use Rattle.aml_meaning.specs.Terms.{kind_of}
use Rattle.aml_meaning.specs.WideTerms.{convert_rule}
use Rattle.aml_laws.specs.JoinedTerms.{middle}
use Rattle.aml_laws.specs.OperatorTerms.{one_to, two_to, GivesValue, IsRefused, OneInteger}
use Rattle.aml_laws.specs.StoredParts.{IsNoData, uninitialized, a_package, a_reference}
use Rattle.aml_laws.specs.StoreTerms.{IsNoString}
use Rattle.aml_laws.specs.TestTerms.{TwoValues}
use Rattle.aml_laws.proofs.ConversionsSpelled.{no_text, no_bytes}
use Rattle.aml_laws.proofs.ConversionTermsDone.{by_new_decimal, by_new_hexadecimal, convert_ruled}
use Rattle.aml_laws.proofs.IntegersAsked.{string_stops, string_ruled, middle_refused}
use Rattle.aml_laws.proofs.TreesCost.{term_begins}
use Rattle.aml_laws.proofs.WideAsked.{asked_in_wide}

-- ---- conversions of one operand

module _ {S : Type 0} (accesses : Accesses S) (scope : List Seg) (depth : ℕ) (x : Tree) (p : Part) (w : State S) (steps : ℕ) (is_wide : w.profile ≡ profiles.Wide) (v : Value) (after : State S × ℕ) (gives : GivesValue accesses scope depth x (w, steps) v after) where
  convert_stops : (k : Conversion) (op : Opcode) (e : Refusal) → converted k v after.0 ≡ (Err e, after.0) → convert_rule accesses (meaning accesses) k scope depth (one_to op x p) (w, steps) ≡ (Err e, after)
  unfolding convert_rule value_at operand_value settle lift go_on ◌>>=◌
  convert_stops k op e so = rw (gives, so) refl

  convert_refused : (k : Conversion) (op : Opcode) (e : Refusal) → kind_of op ≡ kinds.Wide (wide.Convert k) → converted k v after.0 ≡ (Err e, after.0) → IsRefused accesses scope depth (one_to op x p) (w, suc steps) e after
  convert_refused k op e is so =
      (term_begins accesses (task scope depth (one_to op x p))).paid w steps
      ∙ (convert_ruled accesses scope depth x p w steps v after is_wide gives k op is ∙ (asked_in_wide op w steps is_wide (convert_rule accesses (meaning accesses) k scope depth (one_to op x p)) ∙ convert_stops k op e so))

no_string : (v : Value) → IsNoData v → IsNoString v
no_string _ uninitialized o e = absurd (cc e)
no_string _ (a_package n) o e = absurd (cc e)
no_string _ (a_reference r) o e = absurd (cc e)

module _ {S : Type 0} (w : State S) (v : Value) (none : IsNoData v) where
  decimal_none : new_decimal_string v w ≡ (Err (refusal.Value WrongType), w)
  unfolding new_decimal_string decimal_text go_on ◌>>=◌
  decimal_none = rw ((no_text w v none).1) refl

  hexadecimal_none : new_hexadecimal_string v w ≡ (Err (refusal.Value WrongType), w)
  unfolding new_hexadecimal_string hexadecimal_text go_on ◌>>=◌
  hexadecimal_none = rw ((no_text w v none).2) refl

module _ {S : Type 0} (w : State S) (v : Value) where
  decoded_stops : (code : ℕ) (e : Refusal) → integer_in v w ≡ (Ok code, w) → decoded_decimal code ≡ Err e → decoded_in v w ≡ (Err e, w)
  unfolding decoded_in settle go_on ◌>>=◌
  decoded_stops code e one is = rw (one, is) refl

  coded_stops : (n : ℕ) (e : Refusal) → integer_in v w ≡ (Ok n, w) → coded_decimal w.width n ≡ Err e → coded_in v w ≡ (Err e, w)
  unfolding coded_in number_coded go_on ◌>>=◌
  coded_stops n e one is = rw (one, is) refl

module _ {S : Type 0} (accesses : Accesses S) (scope : List Seg) (depth : ℕ) (x : Tree) (p : Part) (w : State S) (steps : ℕ) (is_wide : w.profile ≡ profiles.Wide) where
  pub no_string_given : (v : Value) (after : State S × ℕ) → GivesValue accesses scope depth x (w, steps) v after → IsNoData v
      → IsRefused accesses scope depth (one_to opcodes.ToDecimalString x p) (w, suc steps) (refusal.Value WrongType) after × IsRefused accesses scope depth (one_to opcodes.ToHexString x p) (w, suc steps) (refusal.Value WrongType) after
  no_string_given v after gives none = (
    convert_refused accesses scope depth x p w steps is_wide v after gives conversions.DecimalString opcodes.ToDecimalString (refusal.Value WrongType) refl (ap (λ m. m after.0) (by_new_decimal v (no_string v none)) ∙ decimal_none after.0 v none),
    convert_refused accesses scope depth x p w steps is_wide v after gives conversions.HexadecimalString opcodes.ToHexString (refusal.Value WrongType) refl (ap (λ m. m after.0) (by_new_hexadecimal v (no_string v none)) ∙ hexadecimal_none after.0 v none),
  )

  pub no_number_decoded : (code : ℕ) (after : State S × ℕ) → OneInteger accesses scope depth x (w, steps) code after → (e : Refusal) → decoded_decimal code ≡ Err e → IsRefused accesses scope depth (one_to opcodes.FromBcd x p) (w, suc steps) e after
  no_number_decoded code after h e is =
      convert_refused accesses scope depth x p w steps is_wide h.v after h.gives conversions.FromDecimal opcodes.FromBcd e refl (decoded_stops after.0 h.v code e h.converts is)

  pub no_number_coded : (n : ℕ) (after : State S × ℕ) → OneInteger accesses scope depth x (w, steps) n after → (e : Refusal) → coded_decimal after.0.width n ≡ Err e → IsRefused accesses scope depth (one_to opcodes.ToBcd x p) (w, suc steps) e after
  no_number_coded n after h e is =
      convert_refused accesses scope depth x p w steps is_wide h.v after h.gives conversions.ToDecimal opcodes.ToBcd e refl (coded_stops after.0 h.v n e h.converts is)

-- ---- ToString and Mid

module _ {S : Type 0} (accesses : Accesses S) (scope : List Seg) (depth : ℕ) (x y : Tree) (w : State S) (steps : ℕ) (v u : Value) (after : State S × ℕ) (h : TwoValues accesses scope depth x y (w, steps) v u after) where
  no_text_of : IsNoData v → string_of after.0.width (content_in after.0.objects v) (content_in after.0.objects u) ≡ Err (refusal.Value WrongType)
  unfolding string_of outcome.◌>>=◌
  no_text_of none = rw (no_bytes after.0 v none) refl

  pub no_text_given : w.profile ≡ profiles.Wide → IsNoData v → (p : Part) → IsRefused accesses scope depth (two_to opcodes.ToString x y p) (w, suc steps) (refusal.Value WrongType) after
  no_text_given is_wide none p =
      (term_begins accesses (task scope depth (two_to opcodes.ToString x y p))).paid w steps
      ∙ string_ruled accesses scope depth x y w steps v u after h (refusal.Value WrongType) is_wide (string_stops accesses scope depth x y w steps v u after h (refusal.Value WrongType) (no_text_of none)) p

module _ {S : Type 0} (w : State S) (u r : Value) where
  no_middle_of : (v : Value) → IsNoData v → middle_of w.width (content_in w.objects v) (content_in w.objects u) (content_in w.objects r) ≡ Err (refusal.Value WrongType)
  unfolding middle_of
  no_middle_of _ uninitialized = refl
  no_middle_of _ (a_package o) = refl
  no_middle_of _ (a_reference d) = refl

pub no_part_given : {S : Type 0} (accesses : Accesses S) (scope : List Seg) (depth : ℕ) (x y z : Tree) (w : State S) (steps : ℕ) (v u r : Value) (behind after : State S × ℕ) → TwoValues accesses scope depth x y (w, steps) v u behind → GivesValue accesses scope depth z behind r after → w.profile ≡ profiles.Wide → IsNoData v
    → (p : Part) → IsRefused accesses scope depth (middle x y z p) (w, suc steps) (refusal.Value WrongType) after
no_part_given accesses scope depth x y z w steps v u r behind after h third is_wide none p = middle_refused accesses scope depth x y z w steps v u r behind after h third (refusal.Value WrongType) is_wide (no_middle_of after.0 u r v none) p

-- ---- binary coded decimal

and_false : (b c : Bool) → c ≡ false → (b && c) ≡ false
and_false true c e = e
and_false false c e = refl

pub no_coded_decimal : (code k d : ℕ) → slice_get (digits_of 16 code) k ≡ Some d → 9 < d → decoded_decimal code ≡ Err (refusal.Value WrongType)
no_coded_decimal code k d at great = rw (not_all (digits_of 16 code) k at) refl where
  not_all : (ds : List ℕ) (i : ℕ) → slice_get ds i ≡ Some d → list_all (λ e. nat_lt e 10) ds ≡ false
  not_all [] i at = absurd (cc at)
  not_all (e ∷ ds) zero at =
      let same : e ≡ d = cc at in
      let test : nat_lt e 10 ≡ false = grind (arith, nat_tests) in
      ap (λ b. b && list_all (λ e. nat_lt e 10) ds) test
  not_all (e ∷ ds) (suc i) at = and_false (nat_lt e 10) (list_all (λ e. nat_lt e 10) ds) (not_all ds i at)

pub no_room_for_digits : (width : IntegerWidth) (n : ℕ) → 10 ^ (2 * bytes_of width) ≤ n → coded_decimal width n ≡ Err (refusal.Value WrongType)
no_room_for_digits width n many = let test : nat_lt n (10 ^ (2 * bytes_of width)) ≡ false = grind (arith, nat_tests) in rw test refl
