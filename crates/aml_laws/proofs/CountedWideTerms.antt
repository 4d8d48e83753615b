-- Terms of the wide profile over a space with a counter do what they do without it, where their operands do so.
use Rattle.std.specs.Prelude.{ℕ, List, Bool, true, false, refl, if◌then◌else◌}
use Rattle.ar_space.specs.Accesses.{Accesses}
use Rattle.ar_space.specs.Change.{Change}
use Rattle.aml_path.specs.declared.segment.Seg.{Seg}
use Rattle.aml_grammar.specs.declared.opcode.Opcode.{Opcode}
use Rattle.aml_grammar.specs.Tree.{Tree, Trees}
use Rattle.aml_objects.specs.declared.value.Value.{Value}
use Rattle.aml_objects.specs.declared.value.Value.TheVariants as value
use Rattle.aml_objects.specs.declared.value.Reference.{Reference}
use Rattle.aml_objects.specs.declared.value.Reference.TheVariants as reference
use Rattle.aml_world.specs.declared.values.store_target.StoreTarget.{StoreTarget}
use Rattle.aml_world.specs.declared.values.store_target.StoreTarget.TheVariants as targets
use Rattle.aml_world.specs.declared.values.store_target.Holding.{Holding}
use Rattle.aml_world.specs.declared.values.store_target.Holding.TheVariants as holding
use Rattle.aml_world.specs.declared.values.store_target.Stored.{Stored}
use Rattle.aml_world.specs.declared.values.operation_kind.Conversion.{Conversion}
use Rattle.aml_world.specs.declared.values.operation_kind.Conversion.TheVariants as conversions
use Rattle.aml_world.specs.state.State.{State}
use Rattle.aml_world.specs.state.Run.{Run}
use Rattle.aml_world.specs.values.WideOperations.{decoded_in, number_coded, coded_in, decimal_text, new_decimal_string, decimal_string_in, hexadecimal_text, new_hexadecimal_string, hexadecimal_string_in, string_text, string_in, middle_content, middle_in, converted}
use Rattle.aml_world.specs.values.FormedStores.{is_integer, is_string, is_buffer, formed_over_value, formed_over, formed_in_name, formed_in_declared, formed_through, formed_to}
use Rattle.aml_world.specs.state.Profiles.{asked_for}
use Rattle.aml_meaning.specs.declared.flow.Flow.{Flow}
use Rattle.aml_meaning.specs.declared.term_kind.WideKind.{WideKind}
use Rattle.aml_meaning.specs.declared.term_kind.WideKind.TheVariants as wides
use Rattle.aml_meaning.specs.Tasks.{Task}
use Rattle.aml_meaning.specs.TargetTerms.{target_at, targeted}
use Rattle.aml_meaning.specs.BankTerms.{banked_laid, bank_list_rule}
use Rattle.aml_meaning.specs.FieldTerms.{fields_laid, has_connection, asked_if, connections_asked}
use Rattle.aml_meaning.specs.WideTerms.{in_wide, formed_at, convert_rule, to_string_rule, middle_rule, wide_rule}
use Rattle.aml_laws.specs.Counted.{beside_counter}
use Rattle.aml_laws.proofs.CountedChanges.{Counts, RunCounts, direct_counts, give_counts, lift_counts, on_objects_counts, settle_counts, stop_counts, then_counts}
use Rattle.aml_laws.proofs.CountedOperations.{integer_in_counts}
use Rattle.aml_laws.proofs.CountedStoreTargets.{held_at_counts, declaration_counts, copy_into_name_counts, store_over_value_counts, store_in_slot_counts, store_to_counts}
use Rattle.aml_laws.proofs.CountedCalls.{value_at_counts, two_values_counts, completed_counts}
use Rattle.aml_laws.proofs.CountedFields.{elements_laid_counts, field_found_counts, region_found_counts}
use Rattle.aml_laws.proofs.CountedMatches.{match_rule_counts}
use Rattle.aml_laws.proofs.CountedEvents.{event_rule_counts, wait_rule_counts}

module _ {S : Type 0} where
  decoded_in_counts : (v : Value) → Counts {S = S} (decoded_in v) (decoded_in v)
  unfolding decoded_in
  decoded_in_counts v = then_counts _ _ _ _ (integer_in_counts v) (λ n. settle_counts _)

  number_coded_counts : (n : ℕ) → Counts {S = S} (number_coded n) (number_coded n)
  unfolding number_coded
  number_coded_counts n = direct_counts _ _ (λ w. refl) (λ w. refl)

  coded_in_counts : (v : Value) → Counts {S = S} (coded_in v) (coded_in v)
  unfolding coded_in
  coded_in_counts v = then_counts _ _ _ _ (integer_in_counts v) (λ n. number_coded_counts n)

  decimal_text_counts : (v : Value) → Counts {S = S} (decimal_text v) (decimal_text v)
  unfolding decimal_text
  decimal_text_counts v = direct_counts _ _ (λ w. refl) (λ w. refl)

  new_decimal_string_counts : (v : Value) → Counts {S = S} (new_decimal_string v) (new_decimal_string v)
  unfolding new_decimal_string
  new_decimal_string_counts v = then_counts _ _ _ _ (decimal_text_counts v) (λ bytes. on_objects_counts _)

  decimal_string_in_counts : (v : Value) → Counts {S = S} (decimal_string_in v) (decimal_string_in v)
  decimal_string_in_counts (value.String o) = give_counts _
  decimal_string_in_counts value.Uninitialized = new_decimal_string_counts _
  decimal_string_in_counts (value.Integer n) = new_decimal_string_counts _
  decimal_string_in_counts (value.Buffer o) = new_decimal_string_counts _
  decimal_string_in_counts (value.Package o) = new_decimal_string_counts _
  decimal_string_in_counts (value.Reference r) = new_decimal_string_counts _

  hexadecimal_text_counts : (v : Value) → Counts {S = S} (hexadecimal_text v) (hexadecimal_text v)
  unfolding hexadecimal_text
  hexadecimal_text_counts v = direct_counts _ _ (λ w. refl) (λ w. refl)

  new_hexadecimal_string_counts : (v : Value) → Counts {S = S} (new_hexadecimal_string v) (new_hexadecimal_string v)
  unfolding new_hexadecimal_string
  new_hexadecimal_string_counts v = then_counts _ _ _ _ (hexadecimal_text_counts v) (λ bytes. on_objects_counts _)

  hexadecimal_string_in_counts : (v : Value) → Counts {S = S} (hexadecimal_string_in v) (hexadecimal_string_in v)
  hexadecimal_string_in_counts (value.String o) = give_counts _
  hexadecimal_string_in_counts value.Uninitialized = new_hexadecimal_string_counts _
  hexadecimal_string_in_counts (value.Integer n) = new_hexadecimal_string_counts _
  hexadecimal_string_in_counts (value.Buffer o) = new_hexadecimal_string_counts _
  hexadecimal_string_in_counts (value.Package o) = new_hexadecimal_string_counts _
  hexadecimal_string_in_counts (value.Reference r) = new_hexadecimal_string_counts _

  string_text_counts : (v u : Value) → Counts {S = S} (string_text v u) (string_text v u)
  unfolding string_text
  string_text_counts v u = direct_counts _ _ (λ w. refl) (λ w. refl)

  pub string_in_counts : (v u : Value) → Counts {S = S} (string_in v u) (string_in v u)
  unfolding string_in
  string_in_counts v u = then_counts _ _ _ _ (string_text_counts v u) (λ bytes. on_objects_counts _)

  middle_content_counts : (v u t : Value) → Counts {S = S} (middle_content v u t) (middle_content v u t)
  unfolding middle_content
  middle_content_counts v u t = direct_counts _ _ (λ w. refl) (λ w. refl)

  pub middle_in_counts : (v u t : Value) → Counts {S = S} (middle_in v u t) (middle_in v u t)
  unfolding middle_in
  middle_in_counts v u t = then_counts _ _ _ _ (middle_content_counts v u t) (λ c. on_objects_counts _)

  pub converted_counts : (k : Conversion) (v : Value) → Counts {S = S} (converted k v) (converted k v)
  converted_counts conversions.DecimalString v = decimal_string_in_counts v
  converted_counts conversions.HexadecimalString v = hexadecimal_string_in_counts v
  converted_counts conversions.FromDecimal v = decoded_in_counts v
  converted_counts conversions.ToDecimal v = coded_in_counts v

  -- ---- stores of what was formed

  either_counts : (b : Bool) (m n : Change (State (S × ℕ)) Stored) (k l : Change (State S) Stored) → Counts m k → Counts n l → Counts (if b then m else n) (if b then k else l)
  either_counts true m n k l h i = h
  either_counts false m n k l h i = i

  formed_over_value_counts : (old : Value) (q : List Seg) (v : Value) → Counts {S = S} (formed_over_value old q v) (formed_over_value old q v)
  formed_over_value_counts (value.Integer n) q v = either_counts (is_integer v) _ _ _ _ (store_over_value_counts (value.Integer n) q v) (copy_into_name_counts q v)
  formed_over_value_counts (value.String o) q v = either_counts (is_string v) _ _ _ _ (store_over_value_counts (value.String o) q v) (copy_into_name_counts q v)
  formed_over_value_counts (value.Buffer o) q v = either_counts (is_buffer v) _ _ _ _ (store_over_value_counts (value.Buffer o) q v) (copy_into_name_counts q v)
  formed_over_value_counts (value.Package o) q v = store_over_value_counts (value.Package o) q v
  formed_over_value_counts (value.Reference r) q v = store_over_value_counts (value.Reference r) q v
  formed_over_value_counts value.Uninitialized q v = store_over_value_counts value.Uninitialized q v

  formed_over_counts : (h : Holding) (q : List Seg) (v : Value) → Counts {S = S} (formed_over h q v) (formed_over h q v)
  formed_over_counts (holding.Value old) q v = formed_over_value_counts old q v
  formed_over_counts (holding.Field f) q v = give_counts _
  formed_over_counts holding.Nothing q v = stop_counts _

  formed_through_counts : (r : Reference) (v : Value) → Counts {S = S} (formed_through r v) (formed_through r v)
  unfolding formed_in_declared
  formed_through_counts (reference.Name n) v = then_counts _ _ _ _ (declaration_counts n) (λ e. formed_over_counts _ e.0 v)
  formed_through_counts (reference.Slot slot n) v = store_to_counts (reference.Slot slot n) v
  formed_through_counts (reference.Element o i) v = store_to_counts (reference.Element o i) v
  formed_through_counts (reference.Byte o i) v = store_to_counts (reference.Byte o i) v

  pub formed_to_counts : (at : StoreTarget) (v : Value) → Counts {S = S} (formed_to at v) (formed_to at v)
  unfolding formed_in_name
  formed_to_counts targets.Nowhere v = give_counts _
  formed_to_counts (targets.Slot slot) v = store_in_slot_counts slot v
  formed_to_counts (targets.Name q) v = then_counts _ _ _ _ (held_at_counts q) (λ h. formed_over_counts h q v)
  formed_to_counts (targets.Refers r) v = formed_through_counts r v

  -- ---- whether the terms are evaluated

  asked_for_counts : (op : Opcode) → Counts {S = S} (asked_for op) (asked_for op)
  unfolding asked_for
  asked_for_counts op = direct_counts _ _ (λ w. refl) (λ w. refl)

  asked_if_counts : (asks : Bool) (op : Opcode) → Counts {S = S} (asked_if asks op) (asked_if asks op)
  asked_if_counts true op = asked_for_counts op
  asked_if_counts false op = give_counts _

  pub connections_asked_counts : (op : Opcode) (ts : Trees) → Counts {S = S} (connections_asked op ts) (connections_asked op ts)
  connections_asked_counts op ts = asked_if_counts (has_connection ts) op

-- aimed, stores: what finding a target does, and storing to it
module _ {S : Type 0} (accesses : Accesses S) (ev : Task → Run (S × ℕ) Flow) (uncounted : Task → Run S Flow) (parts : (t : Task) → RunCounts (ev t) (uncounted t))
    (aimed : (scope : List Seg) (depth : ℕ) (t : Tree) (i : ℕ) → RunCounts {S = S} (target_at ev scope depth t i) (target_at uncounted scope depth t i))
    (stores : (scope : List Seg) (depth : ℕ) (t : Tree) (i : ℕ) (v : Value) → RunCounts {S = S} (targeted (beside_counter accesses) ev scope depth t i v) (targeted accesses uncounted scope depth t i v)) where
  formed_at_counts : (scope : List Seg) (depth : ℕ) (t : Tree) (i : ℕ) (v : Value) → RunCounts {S = S} (formed_at (beside_counter accesses) ev scope depth t i v) (formed_at accesses uncounted scope depth t i v)
  unfolding formed_at
  formed_at_counts scope depth t i v = then_counts _ _ _ _ (aimed scope depth t i) (λ q. then_counts _ _ _ _ (lift_counts _ _ (formed_to_counts q v)) (λ s. then_counts _ _ _ _ (completed_counts accesses ev uncounted parts depth s v) (λ done. give_counts _)))

  convert_rule_counts : (k : Conversion) (scope : List Seg) (depth : ℕ) (t : Tree) → RunCounts {S = S} (convert_rule (beside_counter accesses) ev k scope depth t) (convert_rule accesses uncounted k scope depth t)
  unfolding convert_rule
  convert_rule_counts k scope depth t = then_counts _ _ _ _ (value_at_counts accesses ev uncounted parts scope depth t 0) (λ v. then_counts _ _ _ _ (lift_counts _ _ (converted_counts k v)) (λ r. formed_at_counts scope depth t 1 r))

  to_string_rule_counts : (scope : List Seg) (depth : ℕ) (t : Tree) → RunCounts {S = S} (to_string_rule (beside_counter accesses) ev scope depth t) (to_string_rule accesses uncounted scope depth t)
  unfolding to_string_rule
  to_string_rule_counts scope depth t = then_counts _ _ _ _ (two_values_counts accesses ev uncounted parts scope depth t) (λ y. then_counts _ _ _ _ (lift_counts _ _ (string_in_counts y.0 y.1)) (λ r. formed_at_counts scope depth t 2 r))

  middle_rule_counts : (scope : List Seg) (depth : ℕ) (t : Tree) → RunCounts {S = S} (middle_rule (beside_counter accesses) ev scope depth t) (middle_rule accesses uncounted scope depth t)
  unfolding middle_rule
  middle_rule_counts scope depth t = then_counts _ _ _ _ (two_values_counts accesses ev uncounted parts scope depth t) (λ y. then_counts _ _ _ _ (value_at_counts accesses ev uncounted parts scope depth t 2) (λ n. then_counts _ _ _ _ (lift_counts _ _ (middle_in_counts y.0 y.1 n)) (λ r. stores scope depth t 3 r)))

  bank_list_rule_counts : (scope : List Seg) (depth : ℕ) (t : Tree) → RunCounts {S = S} (bank_list_rule ev scope depth t) (bank_list_rule uncounted scope depth t)
  unfolding bank_list_rule banked_laid fields_laid
  bank_list_rule_counts scope depth t =
      then_counts _ _ _ _ (settle_counts _) (λ x. then_counts _ _ _ _ (lift_counts _ _ (region_found_counts scope x)) (λ region. then_counts _ _ _ _ (settle_counts _) (λ y. then_counts _ _ _ _ (lift_counts _ _ (field_found_counts scope y)) (λ bank.
      then_counts _ _ _ _ (value_at_counts accesses ev uncounted parts scope depth t 2) (λ v. then_counts _ _ _ _ (settle_counts _) (λ flags. then_counts _ _ _ _ (settle_counts _) (λ ts.
      then_counts _ _ _ _ (lift_counts _ _ (integer_in_counts v)) (λ n. then_counts _ _ _ _ (lift_counts _ _ (elements_laid_counts _ scope depth _ ts)) (λ laid. give_counts _)))))))))

  wide_rule_counts : (k : WideKind) (scope : List Seg) (depth : ℕ) (t : Tree) → RunCounts {S = S} (wide_rule (beside_counter accesses) ev k scope depth t) (wide_rule accesses uncounted k scope depth t)
  wide_rule_counts (wides.Convert k) scope depth t = convert_rule_counts k scope depth t
  wide_rule_counts wides.ToString scope depth t = to_string_rule_counts scope depth t
  wide_rule_counts wides.Mid scope depth t = middle_rule_counts scope depth t
  wide_rule_counts wides.Match scope depth t = match_rule_counts accesses ev uncounted parts scope depth t
  wide_rule_counts (wides.Event k) scope depth t = event_rule_counts accesses ev uncounted parts aimed k scope depth t
  wide_rule_counts wides.Wait scope depth t = wait_rule_counts accesses ev uncounted parts aimed scope depth t
  wide_rule_counts wides.BankField scope depth t = bank_list_rule_counts scope depth t

  -- the profile is asked first
  pub in_wide_counts : (op : Opcode) (k : WideKind) (scope : List Seg) (depth : ℕ) (t : Tree) → RunCounts {S = S} (in_wide op (wide_rule (beside_counter accesses) ev k scope depth t)) (in_wide op (wide_rule accesses uncounted k scope depth t))
  in_wide_counts op k scope depth t = then_counts _ _ _ _ (lift_counts _ _ (asked_for_counts op)) (λ wide. wide_rule_counts k scope depth t)
