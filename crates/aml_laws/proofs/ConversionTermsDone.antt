-- What the terms of conversions form, and where they store it.
use Rattle.std.specs.Prelude.{◌≡◌, ◌≢◌, ◌<◌, ℕ, suc, List, length, Ok, Err, Some, refl}
use Rattle.std.proofs.Common.{arith, ap, ◌∙◌}
use Rattle.std.specs.FinMap.{get}
use Rattle.ar_space.specs.Accesses.{Accesses}
use Rattle.ar_space.specs.Change.{give, settle, go_on, ◌>>=◌}
use Rattle.ar_space.specs.declared.refusal.Refusal.{Refusal}
use Rattle.aml_path.specs.declared.segment.Seg.{Seg}
use Rattle.aml_grammar.specs.declared.opcode.Opcode.{Opcode}
use Rattle.aml_grammar.specs.declared.opcode.Opcode.TheVariants as opcodes
use Rattle.aml_grammar.specs.Apart.{operand_of}
use Rattle.aml_grammar.specs.Tree.{Tree, Part}
use Rattle.aml_objects.specs.Contents.{content_in}
use Rattle.aml_objects.specs.declared.object.Object.TheVariants as object
use Rattle.aml_objects.specs.declared.value.Slot.{Slot}
use Rattle.aml_objects.specs.declared.value.Value.{Value}
use Rattle.aml_objects.specs.declared.value.Value.TheVariants as value
use Rattle.aml_convert.specs.Conversions.{explicit_integer_of, to_buffer_of}
use Rattle.aml_convert.specs.Strings.{decimal_string_of, hexadecimal_string_of}
use Rattle.aml_convert.specs.Decimals.{coded_decimal, decoded_decimal}
use Rattle.aml_world.specs.declared.state.profile.Profile.TheVariants as profiles
use Rattle.aml_world.specs.declared.values.store_target.StoreTarget.TheVariants as targets
use Rattle.aml_world.specs.declared.values.store_target.Stored.TheVariants as store
use Rattle.aml_world.specs.declared.values.operation_kind.Conversion.{Conversion}
use Rattle.aml_world.specs.declared.values.operation_kind.Conversion.TheVariants as conversions
use Rattle.aml_world.specs.declared.values.operation_kind.OneOperand.{OneOperand}
use Rattle.aml_world.specs.declared.values.operation_kind.OneOperand.TheVariants as one
use Rattle.aml_world.specs.state.State.{State, on_objects}
use Rattle.aml_world.specs.state.Run.{lift}
use Rattle.aml_world.specs.state.Readings.{integer_in}
use Rattle.aml_world.specs.values.StoreTargets.{held_at}
use Rattle.aml_world.specs.values.Stores.{store_in_name, copy_in_name, stored, copied_to}
use Rattle.aml_world.specs.values.FormedStores.{formed_in_name, formed_to}
use Rattle.aml_world.specs.values.Operations.{to_integer_in, buffer_bytes, new_buffer_of, to_buffer_in, result_of_one}
use Rattle.aml_world.specs.values.WideOperations.{decoded_in, number_coded, coded_in, decimal_text, new_decimal_string, decimal_string_in, hexadecimal_text, new_hexadecimal_string, hexadecimal_string_in, converted}
use Rattle.aml_meaning.specs.declared.flow.Flow.TheVariants as flow
use Rattle.aml_meaning.specs.declared.term_kind.OperatorKind.TheVariants as operators
use Rattle.aml_meaning.specs.declared.term_kind.TermKind.TheVariants as kinds
use Rattle.aml_meaning.specs.declared.term_kind.WideKind.TheVariants as wide
use Rattle.aml_meaning.specs.Terms.{kind_of}
use Rattle.aml_meaning.specs.Tasks.{task, operand_value, value_at}
use Rattle.aml_meaning.specs.OperatorTerms.{one_rule}
use Rattle.aml_meaning.specs.WideTerms.{in_wide, formed_at, convert_rule}
use Rattle.aml_meaning.specs.Evaluation.{rule}
use Rattle.aml_meaning.specs.Meaning.{meaning}
use Rattle.aml_laws.specs.OperatorTerms.{one_to, StoresTo, GivesValue, Gives, IsRefused, OneInteger}
use Rattle.aml_laws.specs.JoinedTerms.{with_object, Fits}
use Rattle.aml_laws.specs.ReferringTerms.{IsNumbered, an_integer, a_string, a_buffer, a_package}
use Rattle.aml_laws.specs.StoredNames.{data_entry}
use Rattle.aml_laws.specs.StoreTerms.{FormsTo, IsNoBuffer, IsNoString}
use Rattle.aml_laws.proofs.TreesCost.{term_begins}
use Rattle.aml_laws.proofs.LimitsTaken.{string_made, buffer_made}
use Rattle.aml_laws.proofs.OperatorsComputed.{target_is, one_gives}
use Rattle.aml_laws.proofs.WideAsked.{asked_in_wide}

-- ---- ToInteger and ToBuffer

module _ {S : Type 0} (w : State S) (v : Value) where
  integer_formed : (n : ℕ) → explicit_integer_of w.width (content_in w.objects v) ≡ Ok n → to_integer_in v w ≡ (Ok (value.Integer n), w)
  unfolding to_integer_in
  integer_formed n is = rw is refl

  integer_refused : (e : Refusal) → explicit_integer_of w.width (content_in w.objects v) ≡ Err e → to_integer_in v w ≡ (Err e, w)
  unfolding to_integer_in
  integer_refused e is = rw is refl

  new_buffer_formed : (bytes : List ℕ) → to_buffer_of w.width (content_in w.objects v) ≡ Ok bytes → Fits w bytes → new_buffer_of v w ≡ (Ok (value.Buffer (length w.objects)), with_object w (object.Buffer bytes))
  unfolding new_buffer_of buffer_bytes on_objects go_on ◌>>=◌
  new_buffer_formed bytes is fits = rw (is, buffer_made bytes w.objects fits.0 fits.1) refl

  new_buffer_refused : (e : Refusal) → to_buffer_of w.width (content_in w.objects v) ≡ Err e → new_buffer_of v w ≡ (Err e, w)
  unfolding new_buffer_of buffer_bytes go_on ◌>>=◌
  new_buffer_refused e is = rw is refl

pub by_new_buffer : {S : Type 0} (v : Value) → IsNoBuffer v → to_buffer_in {S = S} v ≡ new_buffer_of v
by_new_buffer value.Uninitialized differs = refl
by_new_buffer (value.Integer n) differs = refl
by_new_buffer (value.String o) differs = refl
by_new_buffer (value.Buffer o) differs = absurd (differs o refl)
by_new_buffer (value.Package o) differs = refl
by_new_buffer (value.Reference r) differs = refl

module _ {S : Type 0} (accesses : Accesses S) (scope : List Seg) (depth : ℕ) (x : Tree) (p : Part) (w : State S) (steps : ℕ) (v : Value) (after : State S × ℕ) (gives : GivesValue accesses scope depth x (w, steps) v after) where
  stops_so : (k : OneOperand) (op : Opcode) (e : Refusal) → kind_of op ≡ kinds.Operator (operators.One k) → result_of_one k v after.0 ≡ (Err e, after.0) → rule accesses (meaning accesses) (task scope depth (one_to op x p)) (w, steps) ≡ (Err e, after)
  unfolding rule one_rule value_at operand_value settle lift go_on ◌>>=◌
  stops_so k op e is stops = rw (is, gives, stops) refl

  pub one_stops : (k : OneOperand) (op : Opcode) (e : Refusal) → kind_of op ≡ kinds.Operator (operators.One k) → result_of_one k v after.0 ≡ (Err e, after.0) → IsRefused accesses scope depth (one_to op x p) (w, suc steps) e after
  one_stops k op e is stops = (term_begins accesses (task scope depth (one_to op x p))).paid w steps ∙ stops_so k op e is stops

  pub to_integer : (n : ℕ) (end : State S) → explicit_integer_of after.0.width (content_in after.0.objects v) ≡ Ok n → StoresTo scope p (value.Integer n) after.0 end → Gives accesses scope depth (one_to opcodes.ToInteger x p) (w, suc steps) n (end, after.1)
  to_integer n end is stores = one_gives accesses scope depth x p one.ToInteger opcodes.ToInteger refl w steps after v gives (value.Integer n) after.0 end (integer_formed after.0 v n is) stores

  pub to_new_buffer : (bytes : List ℕ) (end : State S) → IsNoBuffer v → to_buffer_of after.0.width (content_in after.0.objects v) ≡ Ok bytes → Fits after.0 bytes
      → StoresTo scope p (value.Buffer (length after.0.objects)) (with_object after.0 (object.Buffer bytes)) end → GivesValue accesses scope depth (one_to opcodes.ToBuffer x p) (w, suc steps) (value.Buffer (length after.0.objects)) (end, after.1)
  to_new_buffer bytes end differs is fits stores =
      one_gives accesses scope depth x p one.ToBuffer opcodes.ToBuffer refl w steps after v gives (value.Buffer (length after.0.objects)) (with_object after.0 (object.Buffer bytes)) end
      (ap (λ m. m after.0) (by_new_buffer v differs) ∙ new_buffer_formed after.0 v bytes is fits) stores

  pub to_nothing : (e : Refusal) → (explicit_integer_of after.0.width (content_in after.0.objects v) ≡ Err e → IsRefused accesses scope depth (one_to opcodes.ToInteger x p) (w, suc steps) e after)
      × (IsNoBuffer v → to_buffer_of after.0.width (content_in after.0.objects v) ≡ Err e → IsRefused accesses scope depth (one_to opcodes.ToBuffer x p) (w, suc steps) e after)
  to_nothing e = (
    λ is. one_stops one.ToInteger opcodes.ToInteger e refl (integer_refused after.0 v e is),
    λ differs is. one_stops one.ToBuffer opcodes.ToBuffer e refl (ap (λ m. m after.0) (by_new_buffer v differs) ∙ new_buffer_refused after.0 v e is),
  )

same_buffer : {S : Type 0} (w : State S) (o : ℕ) → to_buffer_in (value.Buffer o) w ≡ (Ok (value.Buffer o), w)
unfolding give
same_buffer w o = refl

pub to_same_buffer : {S : Type 0} (accesses : Accesses S) (scope : List Seg) (depth : ℕ) (x : Tree) (p : Part) (w : State S) (steps o : ℕ) (after : State S × ℕ) (end : State S) → GivesValue accesses scope depth x (w, steps) (value.Buffer o) after → StoresTo scope p (value.Buffer o) after.0 end
    → GivesValue accesses scope depth (one_to opcodes.ToBuffer x p) (w, suc steps) (value.Buffer o) (end, after.1)
to_same_buffer accesses scope depth x p w steps o after end gives stores = one_gives accesses scope depth x p one.ToBuffer opcodes.ToBuffer refl w steps after (value.Buffer o) gives (value.Buffer o) after.0 end (same_buffer after.0 o) stores

-- ---- conversions of the wide profile

module _ {S : Type 0} (accesses : Accesses S) (scope : List Seg) (depth : ℕ) (x : Tree) (p : Part) (w : State S) (steps : ℕ) (v : Value) (after : State S × ℕ) (core : w.profile ≡ profiles.Wide) (gives : GivesValue accesses scope depth x (w, steps) v after) where
  stored_formed : (t : Tree) (r : Value) (formed end : State S) → operand_of t 1 ≡ Some p → FormsTo scope p r formed end → formed_at accesses (meaning accesses) scope depth t 1 r (formed, after.1) ≡ (Ok (flow.Value r), (end, after.1))
  unfolding formed_at lift give go_on ◌>>=◌
  stored_formed t r formed end is h = rw (target_is accesses scope depth t 1 formed after.1 p h.target h.names is, h.is) refl

  pub convert_ruled : (k : Conversion) (op : Opcode) → kind_of op ≡ kinds.Wide (wide.Convert k) → rule accesses (meaning accesses) (task scope depth (one_to op x p)) (w, steps) ≡ in_wide op (convert_rule accesses (meaning accesses) k scope depth (one_to op x p)) (w, steps)
  unfolding rule
  convert_ruled k op is = rw is refl

  convert_so : (k : Conversion) (op : Opcode) (r : Value) (formed end : State S) → converted k v after.0 ≡ (Ok r, formed) → FormsTo scope p r formed end → convert_rule accesses (meaning accesses) k scope depth (one_to op x p) (w, steps) ≡ (Ok (flow.Value r), (end, after.1))
  unfolding convert_rule value_at operand_value settle lift go_on ◌>>=◌
  convert_so k op r formed end is h = rw (gives, is) (stored_formed (one_to op x p) r formed end refl h)

  pub convert_gives : (k : Conversion) (op : Opcode) (r : Value) (formed end : State S) → kind_of op ≡ kinds.Wide (wide.Convert k) → converted k v after.0 ≡ (Ok r, formed) → FormsTo scope p r formed end → GivesValue accesses scope depth (one_to op x p) (w, suc steps) r (end, after.1)
  convert_gives k op r formed end is forms h =
      (term_begins accesses (task scope depth (one_to op x p))).paid w steps
      ∙ (convert_ruled k op is ∙ (asked_in_wide op w steps core (convert_rule accesses (meaning accesses) k scope depth (one_to op x p)) ∙ convert_so k op r formed end forms h))

same_string : {S : Type 0} (w : State S) (o : ℕ) → (decimal_string_in (value.String o) w ≡ (Ok (value.String o), w)) × (hexadecimal_string_in (value.String o) w ≡ (Ok (value.String o), w))
unfolding give
same_string w o = (refl, refl)

pub by_new_decimal : {S : Type 0} (v : Value) → IsNoString v → decimal_string_in {S = S} v ≡ new_decimal_string v
by_new_decimal value.Uninitialized differs = refl
by_new_decimal (value.Integer n) differs = refl
by_new_decimal (value.String o) differs = absurd (differs o refl)
by_new_decimal (value.Buffer o) differs = refl
by_new_decimal (value.Package o) differs = refl
by_new_decimal (value.Reference r) differs = refl

pub by_new_hexadecimal : {S : Type 0} (v : Value) → IsNoString v → hexadecimal_string_in {S = S} v ≡ new_hexadecimal_string v
by_new_hexadecimal value.Uninitialized differs = refl
by_new_hexadecimal (value.Integer n) differs = refl
by_new_hexadecimal (value.String o) differs = absurd (differs o refl)
by_new_hexadecimal (value.Buffer o) differs = refl
by_new_hexadecimal (value.Package o) differs = refl
by_new_hexadecimal (value.Reference r) differs = refl

module _ {S : Type 0} (w : State S) (v : Value) where
  decimal_formed : (text : List ℕ) → decimal_string_of (content_in w.objects v) ≡ Ok text → Fits w text → new_decimal_string v w ≡ (Ok (value.String (length w.objects)), with_object w (object.String text))
  unfolding new_decimal_string decimal_text on_objects go_on ◌>>=◌
  decimal_formed text is fits = rw (is, string_made text w.objects fits.0 fits.1) refl

  pub hexadecimal_formed : (text : List ℕ) → hexadecimal_string_of w.width (content_in w.objects v) ≡ Ok text → Fits w text → new_hexadecimal_string v w ≡ (Ok (value.String (length w.objects)), with_object w (object.String text))
  unfolding new_hexadecimal_string hexadecimal_text on_objects go_on ◌>>=◌
  hexadecimal_formed text is fits = rw (is, string_made text w.objects fits.0 fits.1) refl

  pub decoded_formed : (code n : ℕ) → integer_in v w ≡ (Ok code, w) → decoded_decimal code ≡ Ok n → decoded_in v w ≡ (Ok (value.Integer n), w)
  unfolding decoded_in settle go_on ◌>>=◌
  decoded_formed code n one is = rw (one, is) refl

  coded_formed : (n code : ℕ) → integer_in v w ≡ (Ok n, w) → coded_decimal w.width n ≡ Ok code → coded_in v w ≡ (Ok (value.Integer code), w)
  unfolding coded_in number_coded go_on ◌>>=◌
  coded_formed n code one is = rw (one, is) refl

module _ {S : Type 0} (accesses : Accesses S) (scope : List Seg) (depth : ℕ) (x : Tree) (p : Part) (w : State S) (steps : ℕ) (core : w.profile ≡ profiles.Wide) where
  pub to_decimal_string : (v : Value) (after : State S × ℕ) (text : List ℕ) (end : State S) → GivesValue accesses scope depth x (w, steps) v after → IsNoString v → decimal_string_of (content_in after.0.objects v) ≡ Ok text → Fits after.0 text
      → FormsTo scope p (value.String (length after.0.objects)) (with_object after.0 (object.String text)) end → GivesValue accesses scope depth (one_to opcodes.ToDecimalString x p) (w, suc steps) (value.String (length after.0.objects)) (end, after.1)
  to_decimal_string v after text end gives differs is fits h =
      convert_gives accesses scope depth x p w steps v after core gives conversions.DecimalString opcodes.ToDecimalString (value.String (length after.0.objects)) (with_object after.0 (object.String text)) end refl
      (ap (λ m. m after.0) (by_new_decimal v differs) ∙ decimal_formed after.0 v text is fits) h

  pub to_hexadecimal_string : (v : Value) (after : State S × ℕ) (text : List ℕ) (end : State S) → GivesValue accesses scope depth x (w, steps) v after → IsNoString v → hexadecimal_string_of after.0.width (content_in after.0.objects v) ≡ Ok text → Fits after.0 text
      → FormsTo scope p (value.String (length after.0.objects)) (with_object after.0 (object.String text)) end → GivesValue accesses scope depth (one_to opcodes.ToHexString x p) (w, suc steps) (value.String (length after.0.objects)) (end, after.1)
  to_hexadecimal_string v after text end gives differs is fits h =
      convert_gives accesses scope depth x p w steps v after core gives conversions.HexadecimalString opcodes.ToHexString (value.String (length after.0.objects)) (with_object after.0 (object.String text)) end refl
      (ap (λ m. m after.0) (by_new_hexadecimal v differs) ∙ hexadecimal_formed after.0 v text is fits) h

  pub to_same_string : (o : ℕ) (after : State S × ℕ) (end : State S) → GivesValue accesses scope depth x (w, steps) (value.String o) after → FormsTo scope p (value.String o) after.0 end
      → GivesValue accesses scope depth (one_to opcodes.ToDecimalString x p) (w, suc steps) (value.String o) (end, after.1) × GivesValue accesses scope depth (one_to opcodes.ToHexString x p) (w, suc steps) (value.String o) (end, after.1)
  to_same_string o after end gives h = (
    convert_gives accesses scope depth x p w steps (value.String o) after core gives conversions.DecimalString opcodes.ToDecimalString (value.String o) after.0 end refl (same_string after.0 o).0 h,
    convert_gives accesses scope depth x p w steps (value.String o) after core gives conversions.HexadecimalString opcodes.ToHexString (value.String o) after.0 end refl (same_string after.0 o).1 h,
  )

  pub from_coded : (code n : ℕ) (after : State S × ℕ) (end : State S) → OneInteger accesses scope depth x (w, steps) code after → decoded_decimal code ≡ Ok n → FormsTo scope p (value.Integer n) after.0 end → Gives accesses scope depth (one_to opcodes.FromBcd x p) (w, suc steps) n (end, after.1)
  from_coded code n after end i is h = convert_gives accesses scope depth x p w steps i.v after core i.gives conversions.FromDecimal opcodes.FromBcd (value.Integer n) after.0 end refl (decoded_formed after.0 i.v code n i.converts is) h

  pub to_coded : (n code : ℕ) (after : State S × ℕ) (end : State S) → OneInteger accesses scope depth x (w, steps) n after → coded_decimal after.0.width n ≡ Ok code → FormsTo scope p (value.Integer code) after.0 end → Gives accesses scope depth (one_to opcodes.ToBcd x p) (w, suc steps) code (end, after.1)
  to_coded n code after end i is h = convert_gives accesses scope depth x p w steps i.v after core i.gives conversions.ToDecimal opcodes.ToBcd (value.Integer code) after.0 end refl (coded_formed after.0 i.v n code i.converts is) h

-- ---- the targets of these

module _ {S : Type 0} (w : State S) (path : List Seg) (number : ℕ) where
  pub formed_over_other : (old v : Value) (k j : ℕ) → get w.names.map path ≡ Some (data_entry number old) → IsNumbered old k → IsNumbered v j → k ≢ j → k < 4 → formed_to (targets.Name path) v w ≡ copied_to (targets.Name path) v w
  unfolding formed_in_name copy_in_name held_at go_on ◌>>=◌
  formed_over_other _ _ _ _ at (an_integer m) (an_integer n) other less = absurd (other refl)
  formed_over_other _ _ _ _ at (an_integer m) (a_string o) other less = rw at refl
  formed_over_other _ _ _ _ at (an_integer m) (a_buffer o) other less = rw at refl
  formed_over_other _ _ _ _ at (an_integer m) (a_package o) other less = rw at refl
  formed_over_other _ _ _ _ at (a_string m) (an_integer n) other less = rw at refl
  formed_over_other _ _ _ _ at (a_string m) (a_string o) other less = absurd (other refl)
  formed_over_other _ _ _ _ at (a_string m) (a_buffer o) other less = rw at refl
  formed_over_other _ _ _ _ at (a_string m) (a_package o) other less = rw at refl
  formed_over_other _ _ _ _ at (a_buffer m) (an_integer n) other less = rw at refl
  formed_over_other _ _ _ _ at (a_buffer m) (a_string o) other less = rw at refl
  formed_over_other _ _ _ _ at (a_buffer m) (a_buffer o) other less = absurd (other refl)
  formed_over_other _ _ _ _ at (a_buffer m) (a_package o) other less = rw at refl
  formed_over_other _ _ _ _ at (a_package m) other_type other less = absurd (omega (arith, less))

  pub formed_over_same : (old v : Value) (k : ℕ) → get w.names.map path ≡ Some (data_entry number old) → IsNumbered old k → IsNumbered v k → formed_to (targets.Name path) v w ≡ stored (targets.Name path) v w
  unfolding formed_in_name store_in_name held_at go_on ◌>>=◌
  formed_over_same _ _ _ at (an_integer m) (an_integer n) = rw at refl
  formed_over_same _ _ _ at (a_string m) (a_string o) = rw at refl
  formed_over_same _ _ _ at (a_buffer m) (a_buffer o) = rw at refl
  formed_over_same _ _ _ at (a_package m) (a_package o) = rw at refl

  pub formed_over_package : (m : ℕ) (v : Value) → get w.names.map path ≡ Some (data_entry number (value.Package m)) → formed_to (targets.Name path) v w ≡ stored (targets.Name path) v w
  unfolding formed_in_name store_in_name held_at go_on ◌>>=◌
  formed_over_package m v at = rw at refl

pub formed_in_slot : {S : Type 0} (w : State S) (s : Slot) (v : Value) → (formed_to (targets.Slot s) v w ≡ stored (targets.Slot s) v w) × (formed_to targets.Nowhere v w ≡ (Ok store.Done, w))
unfolding give
formed_in_slot w s v = (refl, refl)
