-- Where a term of the wide profile refuses by a fault of the register space, its last access answered with it, where its operands do so.
use Rattle.std.specs.Prelude.{ℕ, ◌*◌, ◌^◌, List, Bool, true, false, nat_lt, refl, if◌then◌else◌}
use Rattle.ar_space.specs.declared.integer_width.IntegerWidth.{IntegerWidth}
use Rattle.ar_space.specs.Accesses.{Accesses}
use Rattle.ar_space.specs.Change.{Change}
use Rattle.aml_objects.specs.Contents.{Buffer, Content, Integer, Other, String, content_in}
use Rattle.aml_convert.specs.Decimals.{coded_decimal, decoded_decimal, is_coded_decimal}
use Rattle.aml_convert.specs.Integers.{bytes_of}
use Rattle.aml_convert.specs.Strings.{decimal_string_of, hexadecimal_string_of, middle_of, part_of, string_of}
use Rattle.aml_world.specs.declared.state.profile.Profile.{Profile}
use Rattle.aml_world.specs.declared.state.profile.Profile.TheVariants as profiles
use Rattle.aml_world.specs.state.Profiles.{evaluated_in, asked_for}
use Rattle.aml_path.specs.declared.segment.Seg.{Seg}
use Rattle.aml_grammar.specs.declared.opcode.Opcode.{Opcode}
use Rattle.aml_grammar.specs.Tree.{Tree, Trees}
use Rattle.aml_objects.specs.declared.value.Value.{Value}
use Rattle.aml_objects.specs.declared.value.Value.TheVariants as value
use Rattle.aml_objects.specs.declared.value.Reference.{Reference}
use Rattle.aml_objects.specs.declared.value.Reference.TheVariants as reference
use Rattle.aml_world.specs.declared.values.store_target.StoreTarget.{StoreTarget}
use Rattle.aml_world.specs.declared.values.store_target.StoreTarget.TheVariants as targets
use Rattle.aml_world.specs.declared.values.store_target.Holding.{Holding}
use Rattle.aml_world.specs.declared.values.store_target.Holding.TheVariants as holding
use Rattle.aml_world.specs.declared.values.store_target.Stored.{Stored}
use Rattle.aml_world.specs.declared.values.operation_kind.Conversion.{Conversion}
use Rattle.aml_world.specs.declared.values.operation_kind.Conversion.TheVariants as conversions
use Rattle.aml_world.specs.state.State.{State}
use Rattle.aml_world.specs.state.Run.{Run}
use Rattle.aml_world.specs.values.WideOperations.{decoded_in, number_coded, coded_in, decimal_text, new_decimal_string, decimal_string_in, hexadecimal_text, new_hexadecimal_string, hexadecimal_string_in, string_text, string_in, middle_content, middle_in, converted}
use Rattle.aml_world.specs.values.FormedStores.{is_integer, is_string, is_buffer, formed_over_value, formed_over, formed_in_name, formed_in_declared, formed_through, formed_to}
use Rattle.aml_meaning.specs.declared.flow.Flow.{Flow}
use Rattle.aml_meaning.specs.declared.term_kind.WideKind.{WideKind}
use Rattle.aml_meaning.specs.declared.term_kind.WideKind.TheVariants as wides
use Rattle.aml_meaning.specs.Tasks.{Task}
use Rattle.aml_meaning.specs.TargetTerms.{target_at, targeted}
use Rattle.aml_meaning.specs.BankTerms.{banked_laid, bank_list_rule}
use Rattle.aml_meaning.specs.FieldTerms.{fields_laid, has_connection, asked_if, connections_asked}
use Rattle.aml_meaning.specs.WideTerms.{in_wide, formed_at, convert_rule, to_string_rule, middle_rule, wide_rule}
use Rattle.aml_laws.proofs.CleanObjects.{make_string_clean}
use Rattle.aml_laws.proofs.CleanOutcomes.{Clean, followed_clean, if_clean, seen_clean}
use Rattle.aml_laws.proofs.CleanValues.{to_buffer_of_clean, to_integer_of_clean, to_text_of_clean}
use Rattle.aml_laws.proofs.CleanWorlds.{made_of_clean, name_of_clean, number_of_clean, list_of_clean}
use Rattle.aml_laws.proofs.FaultsOfChanges.{RunExplains, WorldExplains, direct_explains, give_explains, lift_explains, on_objects_explains, settle_explains, stop_explains, then_explains}
use Rattle.aml_laws.proofs.FaultsOfOperations.{integer_in_explains}
use Rattle.aml_laws.proofs.FaultsOfStoreTargets.{held_at_explains, declaration_explains, copy_into_name_explains, store_over_value_explains, store_in_slot_explains, store_to_explains}
use Rattle.aml_laws.proofs.FaultsOfCalls.{value_at_explains, two_values_explains, completed_explains}
use Rattle.aml_laws.proofs.FaultsOfFields.{elements_laid_explains, field_found_explains, region_found_explains}
use Rattle.aml_laws.proofs.FaultsOfMatches.{match_rule_explains}
use Rattle.aml_laws.proofs.FaultsOfEvents.{event_rule_explains, wait_rule_explains}

decoded_decimal_clean : (n : ℕ) → Clean (decoded_decimal n)
decoded_decimal_clean n = if_clean (is_coded_decimal n) _ _ tt tt

coded_decimal_clean : (w : IntegerWidth) (n : ℕ) → Clean (coded_decimal w n)
coded_decimal_clean w n = if_clean (nat_lt n (10 ^ (2 * bytes_of w))) _ _ tt tt

decimal_string_of_clean : (c : Content) → Clean (decimal_string_of c)
decimal_string_of_clean (Integer n) = tt
decimal_string_of_clean (String s) = tt
decimal_string_of_clean (Buffer b) = tt
decimal_string_of_clean Other = tt

hexadecimal_string_of_clean : (w : IntegerWidth) (c : Content) → Clean (hexadecimal_string_of w c)
hexadecimal_string_of_clean w (Integer n) = to_text_of_clean w (Integer n)
hexadecimal_string_of_clean w (String s) = tt
hexadecimal_string_of_clean w (Buffer b) = tt
hexadecimal_string_of_clean w Other = tt

string_of_clean : (w : IntegerWidth) (c n : Content) → Clean (string_of w c n)
unfolding string_of
string_of_clean w c n = followed_clean _ _ (to_buffer_of_clean w c) (λ bytes. followed_clean _ _ (to_integer_of_clean w n) (λ k. tt))

part_of_clean : (w : IntegerWidth) (bytes : List ℕ) (i n : Content) → Clean (part_of w bytes i n)
unfolding part_of
part_of_clean w bytes i n = followed_clean _ _ (to_integer_of_clean w i) (λ j. followed_clean _ _ (to_integer_of_clean w n) (λ k. tt))

middle_of_clean : (w : IntegerWidth) (c i n : Content) → Clean (middle_of w c i n)
unfolding middle_of
middle_of_clean w (Integer m) i n = followed_clean _ _ (part_of_clean w _ i n) (λ b. tt)
middle_of_clean w (String s) i n = followed_clean _ _ (part_of_clean w s i n) (λ b. tt)
middle_of_clean w (Buffer b) i n = followed_clean _ _ (part_of_clean w b i n) (λ c. tt)
middle_of_clean w Other i n = tt

evaluated_in_clean : (p : Profile) (op : Opcode) → Clean (evaluated_in p op)
evaluated_in_clean profiles.Wide op = tt
evaluated_in_clean profiles.Core op = tt

module _ {S : Type 0} {accesses : Accesses S} where
  decoded_in_explains : (v : Value) → WorldExplains accesses (decoded_in v)
  unfolding decoded_in
  decoded_in_explains v = then_explains _ _ (integer_in_explains v) (λ n. settle_explains _ (seen_clean value.Integer (decoded_decimal n) (decoded_decimal_clean n)))

  number_coded_explains : (n : ℕ) → WorldExplains accesses (number_coded n)
  unfolding number_coded
  number_coded_explains n = direct_explains _ (λ w. seen_clean value.Integer (coded_decimal w.width n) (coded_decimal_clean w.width n)) (λ w. refl)

  coded_in_explains : (v : Value) → WorldExplains accesses (coded_in v)
  unfolding coded_in
  coded_in_explains v = then_explains _ _ (integer_in_explains v) (λ n. number_coded_explains n)

  decimal_text_explains : (v : Value) → WorldExplains accesses (decimal_text v)
  unfolding decimal_text
  decimal_text_explains v = direct_explains _ (λ w. decimal_string_of_clean (content_in w.objects v)) (λ w. refl)

  new_decimal_string_explains : (v : Value) → WorldExplains accesses (new_decimal_string v)
  unfolding new_decimal_string
  new_decimal_string_explains v = then_explains _ _ (decimal_text_explains v) (λ bytes. on_objects_explains _ (make_string_clean _))

  decimal_string_in_explains : (v : Value) → WorldExplains accesses (decimal_string_in v)
  decimal_string_in_explains (value.String o) = give_explains _
  decimal_string_in_explains value.Uninitialized = new_decimal_string_explains _
  decimal_string_in_explains (value.Integer n) = new_decimal_string_explains _
  decimal_string_in_explains (value.Buffer o) = new_decimal_string_explains _
  decimal_string_in_explains (value.Package o) = new_decimal_string_explains _
  decimal_string_in_explains (value.Reference r) = new_decimal_string_explains _

  hexadecimal_text_explains : (v : Value) → WorldExplains accesses (hexadecimal_text v)
  unfolding hexadecimal_text
  hexadecimal_text_explains v = direct_explains _ (λ w. hexadecimal_string_of_clean w.width (content_in w.objects v)) (λ w. refl)

  new_hexadecimal_string_explains : (v : Value) → WorldExplains accesses (new_hexadecimal_string v)
  unfolding new_hexadecimal_string
  new_hexadecimal_string_explains v = then_explains _ _ (hexadecimal_text_explains v) (λ bytes. on_objects_explains _ (make_string_clean _))

  hexadecimal_string_in_explains : (v : Value) → WorldExplains accesses (hexadecimal_string_in v)
  hexadecimal_string_in_explains (value.String o) = give_explains _
  hexadecimal_string_in_explains value.Uninitialized = new_hexadecimal_string_explains _
  hexadecimal_string_in_explains (value.Integer n) = new_hexadecimal_string_explains _
  hexadecimal_string_in_explains (value.Buffer o) = new_hexadecimal_string_explains _
  hexadecimal_string_in_explains (value.Package o) = new_hexadecimal_string_explains _
  hexadecimal_string_in_explains (value.Reference r) = new_hexadecimal_string_explains _

  string_text_explains : (v u : Value) → WorldExplains accesses (string_text v u)
  unfolding string_text
  string_text_explains v u = direct_explains _ (λ w. string_of_clean w.width (content_in w.objects v) (content_in w.objects u)) (λ w. refl)

  pub string_in_explains : (v u : Value) → WorldExplains accesses (string_in v u)
  unfolding string_in
  string_in_explains v u = then_explains _ _ (string_text_explains v u) (λ bytes. on_objects_explains _ (make_string_clean _))

  middle_content_explains : (v u t : Value) → WorldExplains accesses (middle_content v u t)
  unfolding middle_content
  middle_content_explains v u t = direct_explains _ (λ w. middle_of_clean w.width (content_in w.objects v) (content_in w.objects u) (content_in w.objects t)) (λ w. refl)

  pub middle_in_explains : (v u t : Value) → WorldExplains accesses (middle_in v u t)
  unfolding middle_in
  middle_in_explains v u t = then_explains _ _ (middle_content_explains v u t) (λ c. on_objects_explains _ (made_of_clean _))

  pub converted_explains : (k : Conversion) (v : Value) → WorldExplains accesses (converted k v)
  converted_explains conversions.DecimalString v = decimal_string_in_explains v
  converted_explains conversions.HexadecimalString v = hexadecimal_string_in_explains v
  converted_explains conversions.FromDecimal v = decoded_in_explains v
  converted_explains conversions.ToDecimal v = coded_in_explains v

  -- ---- stores of what was formed

  either_explains : (b : Bool) (m n : Change (State S) Stored) → WorldExplains accesses m → WorldExplains accesses n → WorldExplains accesses (if b then m else n)
  either_explains true m n h i = h
  either_explains false m n h i = i

  formed_over_value_explains : (old : Value) (q : List Seg) (v : Value) → WorldExplains accesses (formed_over_value old q v)
  formed_over_value_explains (value.Integer n) q v = either_explains (is_integer v) _ _ (store_over_value_explains (value.Integer n) q v) (copy_into_name_explains q v)
  formed_over_value_explains (value.String o) q v = either_explains (is_string v) _ _ (store_over_value_explains (value.String o) q v) (copy_into_name_explains q v)
  formed_over_value_explains (value.Buffer o) q v = either_explains (is_buffer v) _ _ (store_over_value_explains (value.Buffer o) q v) (copy_into_name_explains q v)
  formed_over_value_explains (value.Package o) q v = store_over_value_explains (value.Package o) q v
  formed_over_value_explains (value.Reference r) q v = store_over_value_explains (value.Reference r) q v
  formed_over_value_explains value.Uninitialized q v = store_over_value_explains value.Uninitialized q v

  formed_over_explains : (h : Holding) (q : List Seg) (v : Value) → WorldExplains accesses (formed_over h q v)
  formed_over_explains (holding.Value old) q v = formed_over_value_explains old q v
  formed_over_explains (holding.Field f) q v = give_explains _
  formed_over_explains holding.Nothing q v = stop_explains _ tt

  formed_through_explains : (r : Reference) (v : Value) → WorldExplains accesses (formed_through r v)
  unfolding formed_in_declared
  formed_through_explains (reference.Name n) v = then_explains _ _ (declaration_explains n) (λ e. formed_over_explains _ e.0 v)
  formed_through_explains (reference.Slot slot n) v = store_to_explains (reference.Slot slot n) v
  formed_through_explains (reference.Element o i) v = store_to_explains (reference.Element o i) v
  formed_through_explains (reference.Byte o i) v = store_to_explains (reference.Byte o i) v

  pub formed_to_explains : (at : StoreTarget) (v : Value) → WorldExplains accesses (formed_to at v)
  unfolding formed_in_name
  formed_to_explains targets.Nowhere v = give_explains _
  formed_to_explains (targets.Slot slot) v = store_in_slot_explains slot v
  formed_to_explains (targets.Name q) v = then_explains _ _ (held_at_explains q) (λ h. formed_over_explains h q v)
  formed_to_explains (targets.Refers r) v = formed_through_explains r v

  -- ---- whether the terms are evaluated

  asked_for_explains : (op : Opcode) → WorldExplains accesses (asked_for op)
  unfolding asked_for
  asked_for_explains op = direct_explains _ (λ w. evaluated_in_clean w.profile op) (λ w. refl)

  asked_if_explains : (asks : Bool) (op : Opcode) → WorldExplains accesses (asked_if asks op)
  asked_if_explains true op = asked_for_explains op
  asked_if_explains false op = give_explains _

  pub connections_asked_explains : (op : Opcode) (ts : Trees) → WorldExplains accesses (connections_asked op ts)
  connections_asked_explains op ts = asked_if_explains (has_connection ts) op

-- aimed, stores: what finding a target does, and storing to it
module _ {S : Type 0} (accesses : Accesses S) (ev : Task → Run S Flow) (parts : (t : Task) → RunExplains accesses (ev t))
    (aimed : (scope : List Seg) (depth : ℕ) (t : Tree) (i : ℕ) → RunExplains accesses (target_at ev scope depth t i))
    (stores : (scope : List Seg) (depth : ℕ) (t : Tree) (i : ℕ) (v : Value) → RunExplains accesses (targeted accesses ev scope depth t i v)) where
  formed_at_explains : (scope : List Seg) (depth : ℕ) (t : Tree) (i : ℕ) (v : Value) → RunExplains accesses (formed_at accesses ev scope depth t i v)
  unfolding formed_at
  formed_at_explains scope depth t i v = then_explains _ _ (aimed scope depth t i) (λ q. then_explains _ _ (lift_explains _ (formed_to_explains q v)) (λ s. then_explains _ _ (completed_explains accesses ev parts depth s v) (λ done. give_explains _)))

  convert_rule_explains : (k : Conversion) (scope : List Seg) (depth : ℕ) (t : Tree) → RunExplains accesses (convert_rule accesses ev k scope depth t)
  unfolding convert_rule
  convert_rule_explains k scope depth t = then_explains _ _ (value_at_explains accesses ev parts scope depth t 0) (λ v. then_explains _ _ (lift_explains _ (converted_explains k v)) (λ r. formed_at_explains scope depth t 1 r))

  to_string_rule_explains : (scope : List Seg) (depth : ℕ) (t : Tree) → RunExplains accesses (to_string_rule accesses ev scope depth t)
  unfolding to_string_rule
  to_string_rule_explains scope depth t = then_explains _ _ (two_values_explains accesses ev parts scope depth t) (λ y. then_explains _ _ (lift_explains _ (string_in_explains y.0 y.1)) (λ r. formed_at_explains scope depth t 2 r))

  middle_rule_explains : (scope : List Seg) (depth : ℕ) (t : Tree) → RunExplains accesses (middle_rule accesses ev scope depth t)
  unfolding middle_rule
  middle_rule_explains scope depth t = then_explains _ _ (two_values_explains accesses ev parts scope depth t) (λ y. then_explains _ _ (value_at_explains accesses ev parts scope depth t 2) (λ n. then_explains _ _ (lift_explains _ (middle_in_explains y.0 y.1 n)) (λ r. stores scope depth t 3 r)))

  bank_list_rule_explains : (scope : List Seg) (depth : ℕ) (t : Tree) → RunExplains accesses (bank_list_rule ev scope depth t)
  unfolding bank_list_rule banked_laid fields_laid
  bank_list_rule_explains scope depth t =
      then_explains _ _ (settle_explains _ (name_of_clean _)) (λ x. then_explains _ _ (lift_explains _ (region_found_explains scope x)) (λ region. then_explains _ _ (settle_explains _ (name_of_clean _)) (λ y. then_explains _ _ (lift_explains _ (field_found_explains scope y)) (λ bank.
      then_explains _ _ (value_at_explains accesses ev parts scope depth t 2) (λ v. then_explains _ _ (settle_explains _ (number_of_clean _)) (λ flags. then_explains _ _ (settle_explains _ (list_of_clean _)) (λ ts.
      then_explains _ _ (lift_explains _ (integer_in_explains v)) (λ n. then_explains _ _ (lift_explains _ (elements_laid_explains _ scope depth _ ts)) (λ laid. give_explains _)))))))))

  wide_rule_explains : (k : WideKind) (scope : List Seg) (depth : ℕ) (t : Tree) → RunExplains accesses (wide_rule accesses ev k scope depth t)
  wide_rule_explains (wides.Convert k) scope depth t = convert_rule_explains k scope depth t
  wide_rule_explains wides.ToString scope depth t = to_string_rule_explains scope depth t
  wide_rule_explains wides.Mid scope depth t = middle_rule_explains scope depth t
  wide_rule_explains wides.Match scope depth t = match_rule_explains accesses ev parts scope depth t
  wide_rule_explains (wides.Event k) scope depth t = event_rule_explains accesses ev parts aimed k scope depth t
  wide_rule_explains wides.Wait scope depth t = wait_rule_explains accesses ev parts aimed scope depth t
  wide_rule_explains wides.BankField scope depth t = bank_list_rule_explains scope depth t

  -- the profile is asked first
  pub in_wide_explains : (op : Opcode) (k : WideKind) (scope : List Seg) (depth : ℕ) (t : Tree) → RunExplains accesses (in_wide op (wide_rule accesses ev k scope depth t))
  in_wide_explains op k scope depth t = then_explains _ _ (lift_explains _ (asked_for_explains op)) (λ wide. wide_rule_explains k scope depth t)
