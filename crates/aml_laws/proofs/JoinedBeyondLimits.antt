-- Terms that form strings and buffers of others, where there is no room for these.
use Rattle.std.specs.Prelude.{◌≡◌, ℕ, suc, List, ◌++◌, Ok, Err, refl}
use Rattle.std.proofs.Common.{ap, ◌∙◌}
use Rattle.ar_space.specs.declared.integer_width.IntegerWidth.{IntegerWidth}
use Rattle.ar_space.specs.Accesses.{Accesses}
use Rattle.ar_space.specs.Change.{settle, go_on, ◌>>=◌}
use Rattle.ar_space.specs.declared.refusal.Refusal.TheVariants as refusal
use Rattle.ar_space.specs.declared.refusal.EvaluationFault.TheVariants.{ObjectLimit}
use Rattle.aml_path.specs.declared.segment.Seg.{Seg}
use Rattle.aml_grammar.specs.declared.opcode.Opcode.{Opcode}
use Rattle.aml_grammar.specs.declared.opcode.Opcode.TheVariants as opcodes
use Rattle.aml_grammar.specs.Tree.{Tree, Part}
use Rattle.aml_objects.specs.Contents.{Content, content_in}
use Rattle.aml_objects.specs.declared.value.Value.{Value}
use Rattle.aml_convert.specs.Concatenation.{resources_joined}
use Rattle.aml_convert.specs.Conversions.{to_buffer_of}
use Rattle.aml_convert.specs.Strings.{decimal_string_of, hexadecimal_string_of}
use Rattle.aml_world.specs.declared.state.profile.Profile.TheVariants as profiles
use Rattle.aml_world.specs.declared.values.operation_kind.Conversion.{Conversion}
use Rattle.aml_world.specs.declared.values.operation_kind.Conversion.TheVariants as conversions
use Rattle.aml_world.specs.declared.values.operation_kind.OneOperand.TheVariants as one
use Rattle.aml_world.specs.declared.values.operation_kind.TwoOperands.TheVariants as two
use Rattle.aml_world.specs.state.State.{State, on_objects}
use Rattle.aml_world.specs.state.Run.{lift}
use Rattle.aml_world.specs.values.Operations.{made_of, joined, joined_items, joined_resources, buffer_bytes, new_buffer_of}
use Rattle.aml_world.specs.values.WideOperations.{decimal_text, new_decimal_string, hexadecimal_text, new_hexadecimal_string, converted}
use Rattle.aml_meaning.specs.declared.term_kind.TermKind.TheVariants as kinds
use Rattle.aml_meaning.specs.declared.term_kind.WideKind.TheVariants as wide
use Rattle.aml_meaning.specs.Terms.{kind_of}
use Rattle.aml_meaning.specs.Tasks.{task, operand_value, value_at}
use Rattle.aml_meaning.specs.WideTerms.{convert_rule}
use Rattle.aml_meaning.specs.Meaning.{meaning}
use Rattle.aml_laws.specs.JoinedTerms.{IsJoined, strings, buffers, integers}
use Rattle.aml_laws.specs.MatchedValues.{Exceeds}
use Rattle.aml_laws.specs.OperatorTerms.{one_to, two_to, GivesValue, IsRefused}
use Rattle.aml_laws.specs.StoreTerms.{IsNoBuffer, IsNoString}
use Rattle.aml_laws.specs.TestTerms.{TwoValues}
use Rattle.aml_laws.proofs.BeyondLimits.{no_string_made}
use Rattle.aml_laws.proofs.ConversionTermsDone.{one_stops, by_new_buffer, by_new_decimal, by_new_hexadecimal, convert_ruled}
use Rattle.aml_laws.proofs.LimitsRefused.{no_buffer_made}
use Rattle.aml_laws.proofs.OperatorsComputed.{two_refused}
use Rattle.aml_laws.proofs.TreesCost.{term_begins}
use Rattle.aml_laws.proofs.ValuesJoined.{joined_is}
use Rattle.aml_laws.proofs.WideAsked.{asked_in_wide}

-- ---- what there is no room for

module _ {S : Type 0} (w : State S) where
  not_made : (width : IntegerWidth) (a b c : Content) (bytes : List ℕ) → IsJoined width a b c bytes → Exceeds w bytes → on_objects (made_of c) w ≡ (Err (refusal.Evaluation ObjectLimit), w)
  unfolding on_objects
  not_made width _ _ _ _ (strings s t second is) exceeds = rw (no_string_made (s ++ t) w.objects exceeds) refl
  not_made width _ _ _ _ (buffers s t second is) exceeds = rw (no_buffer_made (s ++ t) w.objects exceeds) refl
  not_made width _ _ _ _ (integers n m s t second is first other) exceeds = rw (no_buffer_made (s ++ t) w.objects exceeds) refl

  not_joined : (v u : Value) (c : Content) (bytes : List ℕ) → IsJoined w.width (content_in w.objects v) (content_in w.objects u) c bytes → Exceeds w bytes → joined v u w ≡ (Err (refusal.Evaluation ObjectLimit), w)
  not_joined v u c bytes joins exceeds = joined_is w v u c bytes joins ∙ not_made w.width (content_in w.objects v) (content_in w.objects u) c bytes joins exceeds

  resources_not_made : (v u : Value) (bytes : List ℕ) → resources_joined (content_in w.objects v) (content_in w.objects u) ≡ Ok bytes → Exceeds w bytes → joined_resources v u w ≡ (Err (refusal.Evaluation ObjectLimit), w)
  unfolding joined_resources joined_items on_objects go_on ◌>>=◌
  resources_not_made v u bytes joins exceeds = rw (joins, no_buffer_made bytes w.objects exceeds) refl

  buffer_not_made : (v : Value) (bytes : List ℕ) → to_buffer_of w.width (content_in w.objects v) ≡ Ok bytes → Exceeds w bytes → new_buffer_of v w ≡ (Err (refusal.Evaluation ObjectLimit), w)
  unfolding new_buffer_of buffer_bytes on_objects go_on ◌>>=◌
  buffer_not_made v bytes is exceeds = rw (is, no_buffer_made bytes w.objects exceeds) refl

  decimal_not_made : (v : Value) (text : List ℕ) → decimal_string_of (content_in w.objects v) ≡ Ok text → Exceeds w text → new_decimal_string v w ≡ (Err (refusal.Evaluation ObjectLimit), w)
  unfolding new_decimal_string decimal_text on_objects go_on ◌>>=◌
  decimal_not_made v text is exceeds = rw (is, no_string_made text w.objects exceeds) refl

  hexadecimal_not_made : (v : Value) (text : List ℕ) → hexadecimal_string_of w.width (content_in w.objects v) ≡ Ok text → Exceeds w text → new_hexadecimal_string v w ≡ (Err (refusal.Evaluation ObjectLimit), w)
  unfolding new_hexadecimal_string hexadecimal_text on_objects go_on ◌>>=◌
  hexadecimal_not_made v text is exceeds = rw (is, no_string_made text w.objects exceeds) refl

-- ---- two operands

module _ {S : Type 0} (accesses : Accesses S) (scope : List Seg) (depth : ℕ) (x y : Tree) (w : State S) (steps : ℕ) (v u : Value) (after : State S × ℕ) (h : TwoValues accesses scope depth x y (w, steps) v u after) where
  pub values_not_joined : (c : Content) (bytes : List ℕ) (p : Part) → IsJoined after.0.width (content_in after.0.objects v) (content_in after.0.objects u) c bytes → Exceeds after.0 bytes → IsRefused accesses scope depth (two_to opcodes.Concat x y p) (w, suc steps) (refusal.Evaluation ObjectLimit) after
  values_not_joined c bytes p joins exceeds = two_refused accesses scope depth x y p two.Concatenate opcodes.Concat refl w steps h.between after v u h.first h.second (refusal.Evaluation ObjectLimit) after.0 (not_joined after.0 v u c bytes joins exceeds)

  pub templates_not_joined : (bytes : List ℕ) (p : Part) → resources_joined (content_in after.0.objects v) (content_in after.0.objects u) ≡ Ok bytes → Exceeds after.0 bytes → IsRefused accesses scope depth (two_to opcodes.ConcatRes x y p) (w, suc steps) (refusal.Evaluation ObjectLimit) after
  templates_not_joined bytes p joins exceeds = two_refused accesses scope depth x y p two.ConcatenateResources opcodes.ConcatRes refl w steps h.between after v u h.first h.second (refusal.Evaluation ObjectLimit) after.0 (resources_not_made after.0 v u bytes joins exceeds)

-- ---- one operand

module _ {S : Type 0} (accesses : Accesses S) (scope : List Seg) (depth : ℕ) (x : Tree) (p : Part) (w : State S) (steps : ℕ) where
  pub no_buffer_converted : (v : Value) (after : State S × ℕ) → GivesValue accesses scope depth x (w, steps) v after → (bytes : List ℕ) → IsNoBuffer v → to_buffer_of after.0.width (content_in after.0.objects v) ≡ Ok bytes → Exceeds after.0 bytes
      → IsRefused accesses scope depth (one_to opcodes.ToBuffer x p) (w, suc steps) (refusal.Evaluation ObjectLimit) after
  no_buffer_converted v after gives bytes differs is exceeds = one_stops accesses scope depth x p w steps v after gives one.ToBuffer opcodes.ToBuffer (refusal.Evaluation ObjectLimit) refl (ap (λ m. m after.0) (by_new_buffer v differs) ∙ buffer_not_made after.0 v bytes is exceeds)

  module _ (core : w.profile ≡ profiles.Wide) (v : Value) (after : State S × ℕ) (text : List ℕ) (gives : GivesValue accesses scope depth x (w, steps) v after) where
    convert_stops_so : (k : Conversion) (op : Opcode) → converted k v after.0 ≡ (Err (refusal.Evaluation ObjectLimit), after.0) → convert_rule accesses (meaning accesses) k scope depth (one_to op x p) (w, steps) ≡ (Err (refusal.Evaluation ObjectLimit), after)
    unfolding convert_rule value_at operand_value settle lift go_on ◌>>=◌
    convert_stops_so k op is = rw (gives, is) refl

    convert_stops : (k : Conversion) (op : Opcode) → kind_of op ≡ kinds.Wide (wide.Convert k) → converted k v after.0 ≡ (Err (refusal.Evaluation ObjectLimit), after.0) → IsRefused accesses scope depth (one_to op x p) (w, suc steps) (refusal.Evaluation ObjectLimit) after
    convert_stops k op is stops =
        (term_begins accesses (task scope depth (one_to op x p))).paid w steps
        ∙ (convert_ruled accesses scope depth x p w steps v after core gives k op is ∙ (asked_in_wide op w steps core (convert_rule accesses (meaning accesses) k scope depth (one_to op x p)) ∙ convert_stops_so k op stops))

    pub no_decimal_string : IsNoString v → decimal_string_of (content_in after.0.objects v) ≡ Ok text → Exceeds after.0 text → IsRefused accesses scope depth (one_to opcodes.ToDecimalString x p) (w, suc steps) (refusal.Evaluation ObjectLimit) after
    no_decimal_string differs is exceeds = convert_stops conversions.DecimalString opcodes.ToDecimalString refl (ap (λ m. m after.0) (by_new_decimal v differs) ∙ decimal_not_made after.0 v text is exceeds)

    pub no_hexadecimal_string : IsNoString v → hexadecimal_string_of after.0.width (content_in after.0.objects v) ≡ Ok text → Exceeds after.0 text → IsRefused accesses scope depth (one_to opcodes.ToHexString x p) (w, suc steps) (refusal.Evaluation ObjectLimit) after
    no_hexadecimal_string differs is exceeds = convert_stops conversions.HexadecimalString opcodes.ToHexString refl (ap (λ m. m after.0) (by_new_hexadecimal v differs) ∙ hexadecimal_not_made after.0 v text is exceeds)
