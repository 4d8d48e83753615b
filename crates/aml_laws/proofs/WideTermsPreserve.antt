-- Terms of the wide profile preserve what relates worlds, where their operands do so.
use Rattle.std.specs.Prelude.{ℕ, List, [], Bool, true, false, refl, if◌then◌else◌}
use Rattle.ar_space.specs.Accesses.{Accesses}
use Rattle.ar_space.specs.Change.{Change}
use Rattle.aml_path.specs.declared.segment.Seg.{Seg}
use Rattle.aml_grammar.specs.declared.opcode.Opcode.{Opcode}
use Rattle.aml_grammar.specs.Tree.{Tree, Trees}
use Rattle.aml_objects.specs.declared.value.Value.{Value}
use Rattle.aml_objects.specs.declared.value.Value.TheVariants as value
use Rattle.aml_objects.specs.declared.value.Reference.{Reference}
use Rattle.aml_objects.specs.declared.value.Reference.TheVariants as reference
use Rattle.aml_world.specs.declared.values.store_target.StoreTarget.{StoreTarget}
use Rattle.aml_world.specs.declared.values.store_target.StoreTarget.TheVariants as targets
use Rattle.aml_world.specs.declared.values.store_target.Holding.{Holding}
use Rattle.aml_world.specs.declared.values.store_target.Holding.TheVariants as holding
use Rattle.aml_world.specs.declared.values.store_target.Stored.{Stored}
use Rattle.aml_world.specs.declared.values.operation_kind.Conversion.{Conversion}
use Rattle.aml_world.specs.declared.values.operation_kind.Conversion.TheVariants as conversions
use Rattle.aml_world.specs.state.State.{State}
use Rattle.aml_world.specs.state.Run.{Run}
use Rattle.aml_world.specs.values.WideOperations.{decoded_in, number_coded, coded_in, decimal_text, new_decimal_string, decimal_string_in, hexadecimal_text, new_hexadecimal_string, hexadecimal_string_in, string_text, string_in, middle_content, middle_in, converted}
use Rattle.aml_world.specs.values.FormedStores.{is_integer, is_string, is_buffer, formed_over_value, formed_over, formed_in_name, formed_in_declared, formed_through, formed_to}
use Rattle.aml_world.specs.state.Profiles.{asked_for}
use Rattle.aml_meaning.specs.declared.flow.Flow.{Flow}
use Rattle.aml_meaning.specs.declared.term_kind.WideKind.{WideKind}
use Rattle.aml_meaning.specs.declared.term_kind.WideKind.TheVariants as wides
use Rattle.aml_meaning.specs.Tasks.{Task}
use Rattle.aml_meaning.specs.TargetTerms.{target_at, targeted}
use Rattle.aml_meaning.specs.BankTerms.{banked_laid, bank_list_rule}
use Rattle.aml_meaning.specs.FieldTerms.{fields_laid, has_connection, asked_if, connections_asked}
use Rattle.aml_meaning.specs.WideTerms.{in_wide, formed_at, convert_rule, to_string_rule, middle_rule, wide_rule}
use Rattle.aml_laws.proofs.FieldUnitsFound.{lift_finds, formed_to_finds}
use Rattle.aml_laws.proofs.KnownFieldUnits.{give_by, then_by, found_then}
use Rattle.aml_laws.proofs.ObjectKinds.{make_string_keeps_kinds}
use Rattle.aml_laws.proofs.WorldRelations.{PartsLead, Levels, WorldRelationOf, Preserves, PreservesWhere, RunPreserves, TakesValues, preserves_anywhere, unchanged_preserves, give_preserves, stop_preserves, settle_preserves, then_preserves, on_objects_preserves, lift_preserves, run_give_preserves, run_then_preserves, run_settle_preserves}
use Rattle.aml_laws.proofs.ChangesPreserve.{integer_in_preserves, made_of_keeps_kinds}
use Rattle.aml_laws.proofs.StoreTargetsPreserve.{HoldsThere, over_name_preserves, over_declared_preserves, copy_into_name_preserves, store_over_value_preserves, store_in_slot_preserves, store_to_preserves}
use Rattle.aml_laws.proofs.OperandsAndCallsPreserve.{value_at_leads, two_values_leads, completed_preserves}
use Rattle.aml_laws.proofs.FieldsPreserve.{elements_laid_preserves, field_found_preserves, region_found_preserves}
use Rattle.aml_laws.proofs.MatchesPreserve.{match_rule_preserves}
use Rattle.aml_laws.proofs.EventsPreserve.{event_rule_preserves, wait_rule_preserves}

module _ {S : Type 0} {listed : Bool} {accesses : Accesses S} {relation : WorldRelationOf listed accesses} where
  decoded_in_preserves : (v : Value) → Preserves relation (decoded_in v)
  unfolding decoded_in
  decoded_in_preserves v = then_preserves _ _ (integer_in_preserves v) (λ n. settle_preserves _)

  number_coded_preserves : (n : ℕ) → Preserves relation (number_coded n)
  unfolding number_coded
  number_coded_preserves n = unchanged_preserves _ (λ w. refl)

  coded_in_preserves : (v : Value) → Preserves relation (coded_in v)
  unfolding coded_in
  coded_in_preserves v = then_preserves _ _ (integer_in_preserves v) (λ n. number_coded_preserves n)

  decimal_text_preserves : (v : Value) → Preserves relation (decimal_text v)
  unfolding decimal_text
  decimal_text_preserves v = unchanged_preserves _ (λ w. refl)

  new_decimal_string_preserves : (v : Value) → Preserves relation (new_decimal_string v)
  unfolding new_decimal_string
  new_decimal_string_preserves v = then_preserves _ _ (decimal_text_preserves v) (λ bytes. on_objects_preserves _ (make_string_keeps_kinds bytes))

  decimal_string_in_preserves : (v : Value) → Preserves relation (decimal_string_in v)
  decimal_string_in_preserves (value.String o) = give_preserves _
  decimal_string_in_preserves value.Uninitialized = new_decimal_string_preserves _
  decimal_string_in_preserves (value.Integer n) = new_decimal_string_preserves _
  decimal_string_in_preserves (value.Buffer o) = new_decimal_string_preserves _
  decimal_string_in_preserves (value.Package o) = new_decimal_string_preserves _
  decimal_string_in_preserves (value.Reference r) = new_decimal_string_preserves _

  hexadecimal_text_preserves : (v : Value) → Preserves relation (hexadecimal_text v)
  unfolding hexadecimal_text
  hexadecimal_text_preserves v = unchanged_preserves _ (λ w. refl)

  new_hexadecimal_string_preserves : (v : Value) → Preserves relation (new_hexadecimal_string v)
  unfolding new_hexadecimal_string
  new_hexadecimal_string_preserves v = then_preserves _ _ (hexadecimal_text_preserves v) (λ bytes. on_objects_preserves _ (make_string_keeps_kinds bytes))

  hexadecimal_string_in_preserves : (v : Value) → Preserves relation (hexadecimal_string_in v)
  hexadecimal_string_in_preserves (value.String o) = give_preserves _
  hexadecimal_string_in_preserves value.Uninitialized = new_hexadecimal_string_preserves _
  hexadecimal_string_in_preserves (value.Integer n) = new_hexadecimal_string_preserves _
  hexadecimal_string_in_preserves (value.Buffer o) = new_hexadecimal_string_preserves _
  hexadecimal_string_in_preserves (value.Package o) = new_hexadecimal_string_preserves _
  hexadecimal_string_in_preserves (value.Reference r) = new_hexadecimal_string_preserves _

  string_text_preserves : (v u : Value) → Preserves relation (string_text v u)
  unfolding string_text
  string_text_preserves v u = unchanged_preserves _ (λ w. refl)

  pub string_in_preserves : (v u : Value) → Preserves relation (string_in v u)
  unfolding string_in
  string_in_preserves v u = then_preserves _ _ (string_text_preserves v u) (λ bytes. on_objects_preserves _ (make_string_keeps_kinds bytes))

  middle_content_preserves : (v u t : Value) → Preserves relation (middle_content v u t)
  unfolding middle_content
  middle_content_preserves v u t = unchanged_preserves _ (λ w. refl)

  pub middle_in_preserves : (v u t : Value) → Preserves relation (middle_in v u t)
  unfolding middle_in
  middle_in_preserves v u t = then_preserves _ _ (middle_content_preserves v u t) (λ c. on_objects_preserves _ (made_of_keeps_kinds c))

  pub converted_preserves : (k : Conversion) (v : Value) → Preserves relation (converted k v)
  converted_preserves conversions.DecimalString v = decimal_string_in_preserves v
  converted_preserves conversions.HexadecimalString v = hexadecimal_string_in_preserves v
  converted_preserves conversions.FromDecimal v = decoded_in_preserves v
  converted_preserves conversions.ToDecimal v = coded_in_preserves v

  -- ---- stores of what was formed

  either_preserves : {IsSo : State S → Type 0} (b : Bool) (m n : Change (State S) Stored) → PreservesWhere IsSo relation m → PreservesWhere IsSo relation n → PreservesWhere IsSo relation (if b then m else n)
  either_preserves true m n h i = h
  either_preserves false m n h i = i

  formed_over_value_preserves : (old : Value) (q : List Seg) (v : Value) → PreservesWhere (TakesValues q) relation (formed_over_value old q v)
  formed_over_value_preserves (value.Integer n) q v = either_preserves (is_integer v) _ _ (store_over_value_preserves (value.Integer n) q v) (copy_into_name_preserves q v)
  formed_over_value_preserves (value.String o) q v = either_preserves (is_string v) _ _ (store_over_value_preserves (value.String o) q v) (copy_into_name_preserves q v)
  formed_over_value_preserves (value.Buffer o) q v = either_preserves (is_buffer v) _ _ (store_over_value_preserves (value.Buffer o) q v) (copy_into_name_preserves q v)
  formed_over_value_preserves (value.Package o) q v = store_over_value_preserves (value.Package o) q v
  formed_over_value_preserves (value.Reference r) q v = store_over_value_preserves (value.Reference r) q v
  formed_over_value_preserves value.Uninitialized q v = store_over_value_preserves value.Uninitialized q v

  formed_over_preserves : (h : Holding) (q : List Seg) (v : Value) → PreservesWhere (HoldsThere h q) relation (formed_over h q v)
  formed_over_preserves (holding.Value old) q v = formed_over_value_preserves old q v
  formed_over_preserves (holding.Field f) q v = preserves_anywhere _ (give_preserves _)
  formed_over_preserves holding.Nothing q v = preserves_anywhere _ (stop_preserves _)

  formed_through_preserves : (r : Reference) (v : Value) → Preserves relation (formed_through r v)
  unfolding formed_in_declared
  formed_through_preserves (reference.Name n) v = over_declared_preserves n (λ q h. formed_over h q v) (λ q h. formed_over_preserves h q v)
  formed_through_preserves (reference.Slot slot n) v = store_to_preserves (reference.Slot slot n) v
  formed_through_preserves (reference.Element o i) v = store_to_preserves (reference.Element o i) v
  formed_through_preserves (reference.Byte o i) v = store_to_preserves (reference.Byte o i) v

  pub formed_to_preserves : (at : StoreTarget) (v : Value) → Preserves relation (formed_to at v)
  unfolding formed_in_name
  formed_to_preserves targets.Nowhere v = give_preserves _
  formed_to_preserves (targets.Slot slot) v = store_in_slot_preserves slot v
  formed_to_preserves (targets.Name q) v = over_name_preserves q (λ h. formed_over h q v) (λ h. formed_over_preserves h q v)
  formed_to_preserves (targets.Refers r) v = formed_through_preserves r v

  -- ---- whether the terms are evaluated

  pub asked_for_preserves : (op : Opcode) → Preserves relation (asked_for op)
  unfolding asked_for
  asked_for_preserves op = unchanged_preserves _ (λ w. refl)

  asked_if_preserves : (asks : Bool) (op : Opcode) → Preserves relation (asked_if asks op)
  asked_if_preserves true op = asked_for_preserves op
  asked_if_preserves false op = give_preserves _

  pub connections_asked_preserves : (op : Opcode) (ts : Trees) → Preserves relation (connections_asked op ts)
  connections_asked_preserves op ts = asked_if_preserves (has_connection ts) op

-- aimed, stores: what finding a target does, and storing to it
module _ {S : Type 0} {accesses : Accesses S} {levels : Levels accesses} (ev : Task → Run S Flow) (parts : PartsLead levels ev)
    (aimed : (scope : List Seg) (depth : ℕ) (t : Tree) (i : ℕ) → RunPreserves (levels.at depth) (target_at ev scope depth t i))
    (stores : (scope : List Seg) (depth : ℕ) (t : Tree) (i : ℕ) (v : Value) → RunPreserves (levels.at depth) (targeted accesses ev scope depth t i v)) where
  formed_at_preserves : (scope : List Seg) (depth : ℕ) (t : Tree) (i : ℕ) (v : Value) → RunPreserves (levels.at depth) (formed_at accesses ev scope depth t i v)
  unfolding formed_at
  formed_at_preserves scope depth t i v = run_then_preserves _ _ (aimed scope depth t i) (λ q. found_then _ _ (lift_preserves _ (formed_to_preserves q v)) (lift_finds _ (formed_to_finds q v)) (λ s. then_by _ _ (completed_preserves ev parts [] depth s v) (λ done. give_by _)))

  convert_rule_preserves : (k : Conversion) (scope : List Seg) (depth : ℕ) (t : Tree) → RunPreserves (levels.at depth) (convert_rule accesses ev k scope depth t)
  unfolding convert_rule
  convert_rule_preserves k scope depth t = run_then_preserves _ _ (value_at_leads ev parts scope depth t 0) (λ v. run_then_preserves _ _ (lift_preserves _ (converted_preserves k v)) (λ r. formed_at_preserves scope depth t 1 r))

  to_string_rule_preserves : (scope : List Seg) (depth : ℕ) (t : Tree) → RunPreserves (levels.at depth) (to_string_rule accesses ev scope depth t)
  unfolding to_string_rule
  to_string_rule_preserves scope depth t = run_then_preserves _ _ (two_values_leads ev parts scope depth t) (λ y. run_then_preserves _ _ (lift_preserves _ (string_in_preserves y.0 y.1)) (λ r. formed_at_preserves scope depth t 2 r))

  middle_rule_preserves : (scope : List Seg) (depth : ℕ) (t : Tree) → RunPreserves (levels.at depth) (middle_rule accesses ev scope depth t)
  unfolding middle_rule
  middle_rule_preserves scope depth t = run_then_preserves _ _ (two_values_leads ev parts scope depth t) (λ y. run_then_preserves _ _ (value_at_leads ev parts scope depth t 2) (λ n. run_then_preserves _ _ (lift_preserves _ (middle_in_preserves y.0 y.1 n)) (λ r. stores scope depth t 3 r)))

  bank_list_rule_preserves : (scope : List Seg) (depth : ℕ) (t : Tree) → RunPreserves (levels.at depth) (bank_list_rule ev scope depth t)
  unfolding bank_list_rule banked_laid fields_laid
  bank_list_rule_preserves scope depth t =
      run_then_preserves _ _ (run_settle_preserves _) (λ x. run_then_preserves _ _ (lift_preserves _ (region_found_preserves scope x)) (λ region. run_then_preserves _ _ (run_settle_preserves _) (λ y. run_then_preserves _ _ (lift_preserves _ (field_found_preserves scope y)) (λ bank.
      run_then_preserves _ _ (value_at_leads ev parts scope depth t 2) (λ v. run_then_preserves _ _ (run_settle_preserves _) (λ flags. run_then_preserves _ _ (run_settle_preserves _) (λ ts.
      run_then_preserves _ _ (lift_preserves _ (integer_in_preserves v)) (λ n. run_then_preserves _ _ (lift_preserves _ (elements_laid_preserves _ scope depth _ ts)) (λ laid. run_give_preserves _)))))))))

  wide_rule_preserves : (k : WideKind) (scope : List Seg) (depth : ℕ) (t : Tree) → RunPreserves (levels.at depth) (wide_rule accesses ev k scope depth t)
  wide_rule_preserves (wides.Convert k) scope depth t = convert_rule_preserves k scope depth t
  wide_rule_preserves wides.ToString scope depth t = to_string_rule_preserves scope depth t
  wide_rule_preserves wides.Mid scope depth t = middle_rule_preserves scope depth t
  wide_rule_preserves wides.Match scope depth t = match_rule_preserves ev parts scope depth t
  wide_rule_preserves (wides.Event k) scope depth t = event_rule_preserves ev parts aimed k scope depth t
  wide_rule_preserves wides.Wait scope depth t = wait_rule_preserves ev parts aimed scope depth t
  wide_rule_preserves wides.BankField scope depth t = bank_list_rule_preserves scope depth t

  -- the profile is asked first
  pub in_wide_preserves : (op : Opcode) (k : WideKind) (scope : List Seg) (depth : ℕ) (t : Tree) → RunPreserves (levels.at depth) (in_wide op (wide_rule accesses ev k scope depth t))
  in_wide_preserves op k scope depth t = run_then_preserves _ _ (lift_preserves _ (asked_for_preserves op)) (λ wide. wide_rule_preserves k scope depth t)
