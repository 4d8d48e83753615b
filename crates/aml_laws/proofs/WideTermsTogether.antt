-- Terms of the wide profile over two register spaces side by side go the same way until they part, where their operands do so.
use Rattle.std.specs.Prelude.{◌≡◌, ◌⊎◌, ℕ, List, Bool, true, false, refl, if◌then◌else◌}
use Rattle.std.proofs.Common.{inl, inr, ap, sym, subst, ◌∙◌}
use Rattle.ar_space.specs.declared.refusal.Refusal.{Refusal}
use Rattle.ar_space.specs.declared.refusal.Refusal.TheVariants as refusal
use Rattle.ar_space.specs.declared.refusal.EvaluationFault.TheVariants.{Unsupported}
use Rattle.ar_space.specs.Accesses.{Accesses}
use Rattle.ar_space.specs.Change.{Change}
use Rattle.aml_path.specs.declared.segment.Seg.{Seg}
use Rattle.aml_grammar.specs.declared.opcode.Opcode.{Opcode}
use Rattle.aml_grammar.specs.Opcodes.{number_of}
use Rattle.aml_grammar.specs.Tree.{Tree, Trees}
use Rattle.aml_objects.specs.declared.value.Value.{Value}
use Rattle.aml_objects.specs.declared.value.Value.TheVariants as value
use Rattle.aml_objects.specs.declared.value.Reference.{Reference}
use Rattle.aml_objects.specs.declared.value.Reference.TheVariants as reference
use Rattle.aml_world.specs.declared.values.store_target.StoreTarget.{StoreTarget}
use Rattle.aml_world.specs.declared.values.store_target.StoreTarget.TheVariants as targets
use Rattle.aml_world.specs.declared.values.store_target.Holding.{Holding}
use Rattle.aml_world.specs.declared.values.store_target.Holding.TheVariants as holding
use Rattle.aml_world.specs.declared.values.store_target.Stored.{Stored}
use Rattle.aml_world.specs.declared.values.operation_kind.Conversion.{Conversion}
use Rattle.aml_world.specs.declared.values.operation_kind.Conversion.TheVariants as conversions
use Rattle.aml_world.specs.declared.state.profile.Profile.{Profile}
use Rattle.aml_world.specs.declared.state.profile.Profile.TheVariants as profiles
use Rattle.aml_world.specs.state.State.{State}
use Rattle.aml_world.specs.state.Run.{Run}
use Rattle.aml_world.specs.values.WideOperations.{decoded_in, number_coded, coded_in, decimal_text, new_decimal_string, decimal_string_in, hexadecimal_text, new_hexadecimal_string, hexadecimal_string_in, string_text, string_in, middle_content, middle_in, converted}
use Rattle.aml_world.specs.values.FormedStores.{is_integer, is_string, is_buffer, formed_over_value, formed_over, formed_in_name, formed_in_declared, formed_through, formed_to}
use Rattle.aml_world.specs.state.Profiles.{evaluated_in, asked_for}
use Rattle.aml_meaning.specs.declared.flow.Flow.{Flow}
use Rattle.aml_meaning.specs.declared.term_kind.WideKind.{WideKind}
use Rattle.aml_meaning.specs.declared.term_kind.WideKind.TheVariants as wides
use Rattle.aml_meaning.specs.Tasks.{Task}
use Rattle.aml_meaning.specs.TargetTerms.{target_at, targeted}
use Rattle.aml_meaning.specs.BankTerms.{banked_laid, bank_list_rule}
use Rattle.aml_meaning.specs.FieldTerms.{fields_laid, has_connection, asked_if, connections_asked}
use Rattle.aml_meaning.specs.WideTerms.{in_wide, formed_at, convert_rule, to_string_rule, middle_rule, wide_rule}
use Rattle.aml_laws.proofs.Together.{Sides, Together, Comes, IsEnded, give_together, plain, settle_together, stop_together, then_together}
use Rattle.aml_laws.proofs.WorldsTogether.{lift_together, objects_together, runs, world_over, worlds}
use Rattle.aml_laws.specs.Widened.{LeftOut}
use Rattle.aml_laws.proofs.ChangesTogether.{integer_in_together}
use Rattle.aml_laws.proofs.StoreTargetsTogether.{held_at_together, declaration_together, copy_into_name_together, store_over_value_together, store_in_slot_together, store_to_together}
use Rattle.aml_laws.proofs.Levels.{level}
use Rattle.aml_laws.proofs.OperandsTogether.{PartsTogether, value_at_together, two_values_together, completed_together}
use Rattle.aml_laws.proofs.FieldsTogether.{elements_laid_together, field_found_together, region_found_together}
use Rattle.aml_laws.proofs.MatchesTogether.{match_rule_together}
use Rattle.aml_laws.proofs.EventsTogether.{event_rule_together, wait_rule_together}

-- a profile that is asked for is the same on both sides, or the likeness ends
asked_comes : {S T : Type 0} {accesses : Accesses S} {accesses2 : Accesses T} (side : Sides accesses accesses2) (op : Opcode) (w : State S) (t : T) (p : Profile) → w.profile ≡ p → (side.raise.0 profiles.Core ≡ profiles.Core) ⊎ ((e : Refusal) → LeftOut e → side.Ends e) → side.beside.InStep w.space t
    → Comes side worlds (evaluated_in w.profile op, w) (evaluated_in (side.raise.0 w.profile) op, world_over side.raise w t)
asked_comes side op w t profiles.Wide is core i = inr (inr (t, ap (λ r. (evaluated_in r op, world_over side.raise w t)) (ap side.raise.0 is ∙ side.wide_stays ∙ sym is), i))
asked_comes side op w t profiles.Core is (inl stays) i = inr (inr (t, ap (λ r. (evaluated_in r op, world_over side.raise w t)) (ap side.raise.0 is ∙ stays ∙ sym is), i))
asked_comes side op w t profiles.Core is (inr ends) i = inr (inl (subst (λ p. IsEnded side.Ends (evaluated_in p op)) (sym is) (ends (refusal.Evaluation (Unsupported (number_of op))) (inl (number_of op, refl)))))

module _ {S T : Type 0} {accesses : Accesses S} {accesses2 : Accesses T} {side : Sides accesses accesses2} where
  decoded_in_together : (v : Value) → Together side worlds (decoded_in v) (decoded_in v)
  unfolding decoded_in
  decoded_in_together v = then_together (integer_in_together v) (λ n. settle_together _)

  number_coded_together : (n : ℕ) → Together side worlds (number_coded n) (number_coded n)
  unfolding number_coded
  number_coded_together n = plain (λ w. refl) (λ w. refl) (λ w t. refl)

  coded_in_together : (v : Value) → Together side worlds (coded_in v) (coded_in v)
  unfolding coded_in
  coded_in_together v = then_together (integer_in_together v) (λ n. number_coded_together n)

  decimal_text_together : (v : Value) → Together side worlds (decimal_text v) (decimal_text v)
  unfolding decimal_text
  decimal_text_together v = plain (λ w. refl) (λ w. refl) (λ w t. refl)

  new_decimal_string_together : (v : Value) → Together side worlds (new_decimal_string v) (new_decimal_string v)
  unfolding new_decimal_string
  new_decimal_string_together v = then_together (decimal_text_together v) (λ bytes. objects_together _)

  decimal_string_in_together : (v : Value) → Together side worlds (decimal_string_in v) (decimal_string_in v)
  decimal_string_in_together (value.String o) = give_together _
  decimal_string_in_together value.Uninitialized = new_decimal_string_together _
  decimal_string_in_together (value.Integer n) = new_decimal_string_together _
  decimal_string_in_together (value.Buffer o) = new_decimal_string_together _
  decimal_string_in_together (value.Package o) = new_decimal_string_together _
  decimal_string_in_together (value.Reference r) = new_decimal_string_together _

  hexadecimal_text_together : (v : Value) → Together side worlds (hexadecimal_text v) (hexadecimal_text v)
  unfolding hexadecimal_text
  hexadecimal_text_together v = plain (λ w. refl) (λ w. refl) (λ w t. refl)

  new_hexadecimal_string_together : (v : Value) → Together side worlds (new_hexadecimal_string v) (new_hexadecimal_string v)
  unfolding new_hexadecimal_string
  new_hexadecimal_string_together v = then_together (hexadecimal_text_together v) (λ bytes. objects_together _)

  hexadecimal_string_in_together : (v : Value) → Together side worlds (hexadecimal_string_in v) (hexadecimal_string_in v)
  hexadecimal_string_in_together (value.String o) = give_together _
  hexadecimal_string_in_together value.Uninitialized = new_hexadecimal_string_together _
  hexadecimal_string_in_together (value.Integer n) = new_hexadecimal_string_together _
  hexadecimal_string_in_together (value.Buffer o) = new_hexadecimal_string_together _
  hexadecimal_string_in_together (value.Package o) = new_hexadecimal_string_together _
  hexadecimal_string_in_together (value.Reference r) = new_hexadecimal_string_together _

  string_text_together : (v u : Value) → Together side worlds (string_text v u) (string_text v u)
  unfolding string_text
  string_text_together v u = plain (λ w. refl) (λ w. refl) (λ w t. refl)

  pub string_in_together : (v u : Value) → Together side worlds (string_in v u) (string_in v u)
  unfolding string_in
  string_in_together v u = then_together (string_text_together v u) (λ bytes. objects_together _)

  middle_content_together : (v u t : Value) → Together side worlds (middle_content v u t) (middle_content v u t)
  unfolding middle_content
  middle_content_together v u t = plain (λ w. refl) (λ w. refl) (λ w t. refl)

  pub middle_in_together : (v u t : Value) → Together side worlds (middle_in v u t) (middle_in v u t)
  unfolding middle_in
  middle_in_together v u t = then_together (middle_content_together v u t) (λ c. objects_together _)

  pub converted_together : (k : Conversion) (v : Value) → Together side worlds (converted k v) (converted k v)
  converted_together conversions.DecimalString v = decimal_string_in_together v
  converted_together conversions.HexadecimalString v = hexadecimal_string_in_together v
  converted_together conversions.FromDecimal v = decoded_in_together v
  converted_together conversions.ToDecimal v = coded_in_together v

  -- ---- stores of what was formed

  either_together : (b : Bool) {m n : Change (State S) Stored} {k l : Change (State T) Stored} → Together side worlds m k → Together side worlds n l → Together side worlds (if b then m else n) (if b then k else l)
  either_together true h i = h
  either_together false h i = i

  formed_over_value_together : (old : Value) (q : List Seg) (v : Value) → Together side worlds (formed_over_value old q v) (formed_over_value old q v)
  formed_over_value_together (value.Integer n) q v = either_together (is_integer v) (store_over_value_together (value.Integer n) q v) (copy_into_name_together q v)
  formed_over_value_together (value.String o) q v = either_together (is_string v) (store_over_value_together (value.String o) q v) (copy_into_name_together q v)
  formed_over_value_together (value.Buffer o) q v = either_together (is_buffer v) (store_over_value_together (value.Buffer o) q v) (copy_into_name_together q v)
  formed_over_value_together (value.Package o) q v = store_over_value_together (value.Package o) q v
  formed_over_value_together (value.Reference r) q v = store_over_value_together (value.Reference r) q v
  formed_over_value_together value.Uninitialized q v = store_over_value_together value.Uninitialized q v

  formed_over_together : (h : Holding) (q : List Seg) (v : Value) → Together side worlds (formed_over h q v) (formed_over h q v)
  formed_over_together (holding.Value old) q v = formed_over_value_together old q v
  formed_over_together (holding.Field f) q v = give_together _
  formed_over_together holding.Nothing q v = stop_together _

  formed_through_together : (r : Reference) (v : Value) → Together side worlds (formed_through r v) (formed_through r v)
  unfolding formed_in_declared
  formed_through_together (reference.Name n) v = then_together (declaration_together n) (λ e. formed_over_together _ e.0 v)
  formed_through_together (reference.Slot slot n) v = store_to_together (reference.Slot slot n) v
  formed_through_together (reference.Element o i) v = store_to_together (reference.Element o i) v
  formed_through_together (reference.Byte o i) v = store_to_together (reference.Byte o i) v

  pub formed_to_together : (at : StoreTarget) (v : Value) → Together side worlds (formed_to at v) (formed_to at v)
  unfolding formed_in_name
  formed_to_together targets.Nowhere v = give_together _
  formed_to_together (targets.Slot slot) v = store_in_slot_together slot v
  formed_to_together (targets.Name q) v = then_together (held_at_together q) (λ h. formed_over_together h q v)
  formed_to_together (targets.Refers r) v = formed_through_together r v

  -- ---- whether the terms are evaluated

  asked_for_together : (op : Opcode) → Together side worlds (asked_for op) (asked_for op)
  unfolding asked_for
  asked_for_together op = record {
    left_parted = λ w t p. p;
    right_parted = λ s w p. p;
    goes = λ w t i. asked_comes side op w t w.profile refl side.core_stays i;
  }

  asked_if_together : (asks : Bool) (op : Opcode) → Together side worlds (asked_if asks op) (asked_if asks op)
  asked_if_together true op = asked_for_together op
  asked_if_together false op = give_together _

  pub connections_asked_together : (op : Opcode) (ts : Trees) → Together side worlds (connections_asked op ts) (connections_asked op ts)
  connections_asked_together op ts = asked_if_together (has_connection ts) op

-- aimed, stores: what finding a target does, and storing to it
module _ {S T : Type 0} {accesses : Accesses S} {accesses2 : Accesses T} {side : Sides accesses accesses2} {ev : Task → Run S Flow} {ev2 : Task → Run T Flow} (parts : PartsTogether side ev ev2)
    (aimed : (scope : List Seg) (depth : ℕ) (t : Tree) (i : ℕ) → Together (level side depth) runs (target_at ev scope depth t i) (target_at ev2 scope depth t i))
    (stores : (scope : List Seg) (depth : ℕ) (t : Tree) (i : ℕ) (v : Value) → Together (level side depth) runs (targeted accesses ev scope depth t i v) (targeted accesses2 ev2 scope depth t i v)) where
  formed_at_together : (scope : List Seg) (depth : ℕ) (t : Tree) (i : ℕ) (v : Value) → Together (level side depth) runs (formed_at accesses ev scope depth t i v) (formed_at accesses2 ev2 scope depth t i v)
  unfolding formed_at
  formed_at_together scope depth t i v = then_together (aimed scope depth t i) (λ q. then_together (lift_together (formed_to_together q v)) (λ s. then_together (completed_together parts depth s v) (λ done. give_together _)))

  convert_rule_together : (k : Conversion) (scope : List Seg) (depth : ℕ) (t : Tree) → Together (level side depth) runs (convert_rule accesses ev k scope depth t) (convert_rule accesses2 ev2 k scope depth t)
  unfolding convert_rule
  convert_rule_together k scope depth t = then_together (value_at_together parts scope depth t 0) (λ v. then_together (lift_together (converted_together k v)) (λ r. formed_at_together scope depth t 1 r))

  to_string_rule_together : (scope : List Seg) (depth : ℕ) (t : Tree) → Together (level side depth) runs (to_string_rule accesses ev scope depth t) (to_string_rule accesses2 ev2 scope depth t)
  unfolding to_string_rule
  to_string_rule_together scope depth t = then_together (two_values_together parts scope depth t) (λ y. then_together (lift_together (string_in_together y.0 y.1)) (λ r. formed_at_together scope depth t 2 r))

  middle_rule_together : (scope : List Seg) (depth : ℕ) (t : Tree) → Together (level side depth) runs (middle_rule accesses ev scope depth t) (middle_rule accesses2 ev2 scope depth t)
  unfolding middle_rule
  middle_rule_together scope depth t = then_together (two_values_together parts scope depth t) (λ y. then_together (value_at_together parts scope depth t 2) (λ n. then_together (lift_together (middle_in_together y.0 y.1 n)) (λ r. stores scope depth t 3 r)))

  bank_list_rule_together : (scope : List Seg) (depth : ℕ) (t : Tree) → Together (level side depth) runs (bank_list_rule ev scope depth t) (bank_list_rule ev2 scope depth t)
  unfolding bank_list_rule banked_laid fields_laid
  bank_list_rule_together scope depth t =
      then_together (settle_together _) (λ x. then_together (lift_together (region_found_together scope x)) (λ region. then_together (settle_together _) (λ y. then_together (lift_together (field_found_together scope y)) (λ bank.
      then_together (value_at_together parts scope depth t 2) (λ v. then_together (settle_together _) (λ flags. then_together (settle_together _) (λ ts.
      then_together (lift_together (integer_in_together v)) (λ n. then_together (lift_together (elements_laid_together _ scope depth _ ts)) (λ laid. give_together _)))))))))

  wide_rule_together : (k : WideKind) (scope : List Seg) (depth : ℕ) (t : Tree) → Together (level side depth) runs (wide_rule accesses ev k scope depth t) (wide_rule accesses2 ev2 k scope depth t)
  wide_rule_together (wides.Convert k) scope depth t = convert_rule_together k scope depth t
  wide_rule_together wides.ToString scope depth t = to_string_rule_together scope depth t
  wide_rule_together wides.Mid scope depth t = middle_rule_together scope depth t
  wide_rule_together wides.Match scope depth t = match_rule_together parts scope depth t
  wide_rule_together (wides.Event k) scope depth t = event_rule_together parts aimed k scope depth t
  wide_rule_together wides.Wait scope depth t = wait_rule_together parts aimed scope depth t
  wide_rule_together wides.BankField scope depth t = bank_list_rule_together scope depth t

  -- the profile is asked first
  pub in_wide_together : (op : Opcode) (k : WideKind) (scope : List Seg) (depth : ℕ) (t : Tree) → Together (level side depth) runs (in_wide op (wide_rule accesses ev k scope depth t)) (in_wide op (wide_rule accesses2 ev2 k scope depth t))
  in_wide_together op k scope depth t = then_together (lift_together (asked_for_together op)) (λ wide. wide_rule_together k scope depth t)
