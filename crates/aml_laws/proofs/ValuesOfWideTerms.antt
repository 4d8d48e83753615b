-- Terms of the wide profile maintain that what a world holds fits a claim.
use Rattle.std.specs.Prelude.{◌≡◌, ◌≤◌, ◌<◌, ◌+◌, ◌*◌, ◌^◌, ℕ, zero, suc, List, [], ◌∷◌, length, Bool, true, false, Ok, Err, decimal, nat_lt, map, refl, if◌then◌else◌}
use Rattle.std.specs.List.{flat_map}
use Rattle.std.specs.Int.Digits.{digits_of, number_from_digits_after, AllBelowBase}
use Rattle.std.proofs.Common.{arith, subst, sym}
use Rattle.std.proofs.lemmas.Bool.{ltb-true}
use Rattle.std.proofs.lemmas.Fmt.{decimal_digit, decimal-digits_of}
use Rattle.std.proofs.lemmas.Int.Digits.{all_below_base_digits_of, length-digits_of-le, number_digits_of, number_lt}
use Rattle.std.proofs.lemmas.Nat.{mul-le}
use Rattle.std.proofs.Math.Nat.{pow-le-pow_right}
use Rattle.ar_space.specs.declared.integer_width.IntegerWidth.{IntegerWidth}
use Rattle.ar_space.specs.declared.integer_width.IntegerWidth.TheVariants.{Bits32, Bits64}
use Rattle.ar_space.specs.declared.refusal.Refusal.TheVariants as refusals
use Rattle.ar_space.specs.declared.refusal.ValueFault.TheVariants.{WrongType}
use Rattle.ar_space.specs.Accesses.{Accesses}
use Rattle.ar_space.specs.Change.{Change}
use Rattle.ar_space.specs.Outcome.{Outcome}
use Rattle.ar_space.specs.Outcome as outcome
use Rattle.aml_path.specs.declared.segment.Seg.{Seg}
use Rattle.aml_grammar.specs.declared.opcode.Opcode.{Opcode}
use Rattle.aml_grammar.specs.Tree.{Tree, Trees}
use Rattle.aml_objects.specs.Contents.{Content, Integer, String, Buffer, Other}
use Rattle.aml_objects.specs.declared.value.Value.{Value}
use Rattle.aml_objects.specs.declared.value.Value.TheVariants as value
use Rattle.aml_objects.specs.declared.value.Reference.{Reference}
use Rattle.aml_objects.specs.declared.value.Reference.TheVariants as reference
use Rattle.aml_convert.specs.Conversions.{to_buffer_of, to_integer_of, two_digits}
use Rattle.aml_convert.specs.Decimals.{respelled, is_coded_decimal, decoded_decimal, coded_decimal}
use Rattle.aml_convert.specs.Integers.{bits_of, bytes_of}
use Rattle.aml_convert.specs.Strings.{listed, prefixed, decimal_string_of, hexadecimal_string_of, before_zero, string_of, part, part_of, middle_of}
use Rattle.aml_world.specs.declared.values.store_target.StoreTarget.{StoreTarget}
use Rattle.aml_world.specs.declared.values.store_target.StoreTarget.TheVariants as targets
use Rattle.aml_world.specs.declared.values.store_target.Holding.{Holding}
use Rattle.aml_world.specs.declared.values.store_target.Holding.TheVariants as holding
use Rattle.aml_world.specs.declared.values.store_target.Stored.{Stored}
use Rattle.aml_world.specs.declared.values.operation_kind.Conversion.{Conversion}
use Rattle.aml_world.specs.declared.values.operation_kind.Conversion.TheVariants as conversions
use Rattle.aml_world.specs.state.State.{State}
use Rattle.aml_world.specs.state.Run.{Run}
use Rattle.aml_world.specs.values.WideOperations.{decoded_in, number_coded, coded_in, decimal_text, new_decimal_string, decimal_string_in, hexadecimal_text, new_hexadecimal_string, hexadecimal_string_in, string_text, string_in, middle_content, middle_in, converted}
use Rattle.aml_world.specs.values.FormedStores.{is_integer, is_string, is_buffer, formed_over_value, formed_over, formed_in_name, formed_in_declared, formed_through, formed_to}
use Rattle.aml_world.specs.fields.FieldLayouts.{region_found, field_found}
use Rattle.aml_world.specs.state.Profiles.{asked_for}
use Rattle.aml_meaning.specs.declared.flow.Flow.{Flow}
use Rattle.aml_meaning.specs.declared.term_kind.WideKind.{WideKind}
use Rattle.aml_meaning.specs.declared.term_kind.WideKind.TheVariants as wides
use Rattle.aml_meaning.specs.Tasks.{Task}
use Rattle.aml_meaning.specs.TargetTerms.{target_at, targeted}
use Rattle.aml_meaning.specs.BankTerms.{banked_laid, bank_list_rule}
use Rattle.aml_meaning.specs.FieldTerms.{fields_laid, has_connection, asked_if, connections_asked}
use Rattle.aml_meaning.specs.WideTerms.{in_wide, formed_at, convert_rule, to_string_rule, middle_rule, wide_rule}
use Rattle.aml_laws.proofs.ReadingStepsGiveBytes.{Any, drop_bytes, no_bytes, take_bytes}
use Rattle.aml_laws.proofs.Invariants.{Maintains, byte_before_bytes, joined_bytes, ok_fits, settled_maintained, give_maintains, stop_maintains, settle_maintains, then_maintains}
use Rattle.aml_laws.proofs.IntegersOfContents.{ContentFits, buffer_is_bytes, encode_upper_gives_bytes, flat_map_gives_bytes, integer_bytes_are_bytes, text_is_bytes, then_content_fits}
use Rattle.aml_laws.proofs.ValuesOfObjects.{make_string_maintains}
use Rattle.aml_laws.proofs.ValuesOfFields.{RunWithin, lift_maintains}
use Rattle.aml_laws.proofs.ValuesOfSizes.{elements_laid_maintains}
use Rattle.aml_laws.proofs.ValuesOfEvents.{event_rule_maintains, wait_rule_maintains}
use Rattle.aml_laws.proofs.ValuesOfMatches.{match_rule_maintains}
use Rattle.aml_laws.specs.Plain.{AreBytes}
use Rattle.aml_laws.proofs.Claims.{Claim, ReferenceFits, ValueFits, AreClaimedBytes, TreeFits}
use Rattle.aml_laws.proofs.ValuesOfWorlds.{WorldWithin, ClaimedContent, content_formed, content_in_fits, own_content_fits, as_integer_fits, seen_integer_fits, entry_found_maintains, integer_in_maintains, made_of_maintains, on_objects_maintains}
use Rattle.aml_laws.proofs.ValuesOfTargets.{TargetFits, HoldingFits, StoredFits, holding_of_fits, held_at_maintains, declaration_maintains, copy_into_name_maintains, store_over_value_maintains, store_in_slot_maintains, store_to_maintains}
use Rattle.aml_laws.proofs.ValuesOfOperands.{PartsMaintain, FlowFits, value_at_maintains, two_values_maintains, completed_maintains, any_settle_maintains}

-- ---- binary coded decimal

-- in a lower base digits spell no greater number
lower_after : (to from x y : ℕ) (ds : List ℕ) → to ≤ from → x ≤ y → number_from_digits_after to x ds ≤ number_from_digits_after from y ds
lower_after to from x y [] q le = le
lower_after to from x y (d ∷ ds) q le = lower_after to from (x * to + d) (y * from + d) ds q (let h = mul-le x to y from le q in omega (arith, h))

decimal_no_more : (n : ℕ) → respelled 16 10 n ≤ n
decimal_no_more n = let h : respelled 16 10 n ≤ respelled 16 16 n = lower_after 10 16 0 0 (digits_of 16 n) (omega arith) (omega arith) in let e : respelled 16 16 n ≡ n = number_digits_of 16 n (omega arith) in omega (arith, h, e)

below_a_greater_base : (a b : ℕ) (ds : List ℕ) → a ≤ b → AllBelowBase a ds → AllBelowBase b ds
below_a_greater_base a b [] q h = tt
below_a_greater_base a b (d ∷ ds) q h = (omega (arith, h.0), below_a_greater_base a b ds q h.1)

hexadecimal_within : (k n : ℕ) → n < 10 ^ k → respelled 10 16 n < 16 ^ k
hexadecimal_within k n l =
    let ds = digits_of 10 n in
    let below : AllBelowBase 16 ds = below_a_greater_base 10 16 ds (omega arith) (all_below_base_digits_of 10 n (omega arith)) in
    let h : respelled 10 16 n < 16 ^ length ds = number_lt 16 ds below in
    let short : length ds ≤ k = length-digits_of-le 10 k n (omega arith) l in
    let room : 16 ^ length ds ≤ 16 ^ k = pow-le-pow_right (omega arith) short in
    omega (arith, h, room)

decoded_by_cases : (width : IntegerWidth) (b : Bool) (n m : ℕ) → n < 2 ^ bits_of width → (if◌then◌else◌ {A = Outcome ℕ} b (Ok (respelled 16 10 n)) (Err (refusals.Value WrongType))) ≡ Ok m → m < 2 ^ bits_of width
decoded_by_cases width true n m f e = ok_fits (λ x. x < 2 ^ bits_of width) _ m e (let h = decimal_no_more n in omega (arith, h, f))
decoded_by_cases width false n m f e = absurd (cc e)

decoded_fits : (width : IntegerWidth) (n m : ℕ) → n < 2 ^ bits_of width → decoded_decimal n ≡ Ok m → m < 2 ^ bits_of width
decoded_fits width n m f e = decoded_by_cases width (is_coded_decimal n) n m f e

coded_width : (width : IntegerWidth) (n : ℕ) → n < 10 ^ (2 * bytes_of width) → respelled 10 16 n < 2 ^ bits_of width
coded_width Bits32 n l = let h = hexadecimal_within 8 n l in omega (arith, h)
coded_width Bits64 n l = let h = hexadecimal_within 16 n l in omega (arith, h)

coded_by_cases : (width : IntegerWidth) (b : Bool) (n m : ℕ) → (b ≡ true → n < 10 ^ (2 * bytes_of width)) → (if◌then◌else◌ {A = Outcome ℕ} b (Ok (respelled 10 16 n)) (Err (refusals.Value WrongType))) ≡ Ok m → m < 2 ^ bits_of width
coded_by_cases width true n m l e = ok_fits (λ x. x < 2 ^ bits_of width) _ m e (coded_width width n (l refl))
coded_by_cases width false n m l e = absurd (cc e)

coded_fits : (width : IntegerWidth) (n m : ℕ) → coded_decimal width n ≡ Ok m → m < 2 ^ bits_of width
coded_fits width n m e = coded_by_cases width (nat_lt n (10 ^ (2 * bytes_of width))) n m (λ t. ltb-true n (10 ^ (2 * bytes_of width)) t) e

-- ---- strings of numbers

digits_are_bytes : (ds : List ℕ) → AllBelowBase 10 ds → AreBytes (map (λ d. 48 + d) ds)
digits_are_bytes [] h = no_bytes
digits_are_bytes (d ∷ ds) h = byte_before_bytes (48 + d) _ (let l = h.0 in omega (arith, l)) (digits_are_bytes ds h.1)

decimal_is_bytes : (n : ℕ) → n < 2 ^ 64 → AreBytes (decimal n)
decimal_is_bytes zero l = subst AreBytes (sym (decimal_digit 0 (omega arith))) (byte_before_bytes 48 [] (omega arith) no_bytes)
decimal_is_bytes (suc n) l = subst AreBytes (sym (decimal-digits_of (suc n) (omega arith) l)) (digits_are_bytes (digits_of 10 (suc n)) (all_below_base_digits_of 10 (suc n) (omega arith)))

more_decimals_are_bytes : (bs : List ℕ) → AreBytes bs → AreBytes (flat_map (λ b. 44 ∷ decimal b) bs)
more_decimals_are_bytes [] h = no_bytes
more_decimals_are_bytes (b ∷ bs) h = joined_bytes (44 ∷ decimal b) _ (byte_before_bytes 44 (decimal b) (omega arith) (decimal_is_bytes b (let l = h 0 in omega (arith, l)))) (more_decimals_are_bytes bs (λ i. h (suc i)))

decimals_are_bytes : (bs : List ℕ) → AreBytes bs → AreBytes (listed decimal bs)
decimals_are_bytes [] h = no_bytes
decimals_are_bytes (b ∷ bs) h = joined_bytes (decimal b) _ (decimal_is_bytes b (let l = h 0 in omega (arith, l))) (more_decimals_are_bytes bs (λ i. h (suc i)))

prefixed_is_bytes : (b : ℕ) → AreBytes (prefixed b)
prefixed_is_bytes b = byte_before_bytes 48 (120 ∷ two_digits b) (omega arith) (byte_before_bytes 120 (two_digits b) (omega arith) (encode_upper_gives_bytes (b ∷ [])))

hexadecimals_are_bytes : (bs : List ℕ) → AreBytes (listed prefixed bs)
hexadecimals_are_bytes [] = no_bytes
hexadecimals_are_bytes (b ∷ bs) = joined_bytes (prefixed b) _ (prefixed_is_bytes b) (flat_map_gives_bytes (λ y. 44 ∷ prefixed y) bs (λ y. byte_before_bytes 44 (prefixed y) (omega arith) (prefixed_is_bytes y)))

below_two_to_64 : (width : IntegerWidth) (n : ℕ) → n < 2 ^ bits_of width → n < 2 ^ 64
below_two_to_64 Bits32 n f = omega (arith, f)
below_two_to_64 Bits64 n f = f

decimal_string_is_bytes : (width : IntegerWidth) (c : Content) (bs : List ℕ) → ContentFits width c → decimal_string_of c ≡ Ok bs → AreBytes bs
decimal_string_is_bytes width (Integer n) bs f e = ok_fits AreBytes _ bs e (decimal_is_bytes n (below_two_to_64 width n f))
decimal_string_is_bytes width (String s) bs f e = ok_fits AreBytes s bs e f
decimal_string_is_bytes width (Buffer b) bs f e = ok_fits AreBytes _ bs e (decimals_are_bytes b f)
decimal_string_is_bytes width Other bs f e = absurd (cc e)

hexadecimal_string_is_bytes : (width : IntegerWidth) (c : Content) (bs : List ℕ) → ContentFits width c → hexadecimal_string_of width c ≡ Ok bs → AreBytes bs
hexadecimal_string_is_bytes width (Integer n) bs f e = text_is_bytes width (Integer n) bs f e
hexadecimal_string_is_bytes width (String s) bs f e = ok_fits AreBytes s bs e f
hexadecimal_string_is_bytes width (Buffer b) bs f e = ok_fits AreBytes _ bs e (hexadecimals_are_bytes b)
hexadecimal_string_is_bytes width Other bs f e = absurd (cc e)

-- ---- parts of bytes

front_is_bytes : (x : Outcome ℕ) (front : ℕ → List ℕ) (bs : List ℕ) → ((n : ℕ) → AreBytes (front n)) → outcome.◌>>=◌ x (λ n. Ok (front n)) ≡ Ok bs → AreBytes bs
unfolding outcome.◌>>=◌
front_is_bytes (Ok n) front bs h e = ok_fits AreBytes (front n) bs e (h n)
front_is_bytes (Err x) front bs h e = absurd (cc e)

string_by_source : (width : IntegerWidth) (x : Outcome (List ℕ)) (n : Content) (bs : List ℕ) → ((b : List ℕ) → x ≡ Ok b → AreBytes b) → outcome.◌>>=◌ x (λ b. outcome.◌>>=◌ (to_integer_of width n) (λ k. Ok (before_zero k b))) ≡ Ok bs → AreBytes bs
unfolding outcome.◌>>=◌
string_by_source width (Ok b) n bs h e = front_is_bytes (to_integer_of width n) (λ k. before_zero k b) bs (λ k. take_bytes k _ (take_bytes _ b (h b refl))) e
string_by_source width (Err x) n bs h e = absurd (cc e)

string_is_bytes : (width : IntegerWidth) (c n : Content) (bs : List ℕ) → ContentFits width c → string_of width c n ≡ Ok bs → AreBytes bs
unfolding string_of
string_is_bytes width c n bs f e = string_by_source width (to_buffer_of width c) n bs (λ b is. buffer_is_bytes width c b f is) e

part_by_start : (width : IntegerWidth) (x : Outcome ℕ) (bytes : List ℕ) (n : Content) (bs : List ℕ) → AreBytes bytes → outcome.◌>>=◌ x (λ i. outcome.◌>>=◌ (to_integer_of width n) (λ k. Ok (part i k bytes))) ≡ Ok bs → AreBytes bs
unfolding outcome.◌>>=◌
part_by_start width (Ok i) bytes n bs h e = front_is_bytes (to_integer_of width n) (λ k. part i k bytes) bs (λ k. take_bytes k _ (drop_bytes i bytes h)) e
part_by_start width (Err x) bytes n bs h e = absurd (cc e)

part_is_bytes : (width : IntegerWidth) (bytes : List ℕ) (i n : Content) (bs : List ℕ) → AreBytes bytes → part_of width bytes i n ≡ Ok bs → AreBytes bs
unfolding part_of
part_is_bytes width bytes i n bs h e = part_by_start width (to_integer_of width i) bytes n bs h e

middle_fits : (width : IntegerWidth) (c i n d : Content) → ContentFits width c → middle_of width c i n ≡ Ok d → ContentFits width d
unfolding middle_of
middle_fits width (Integer m) i n d f e = then_content_fits width (part_of width _ i n) Buffer d (λ b is. part_is_bytes width _ i n b (integer_bytes_are_bytes width m) is) e
middle_fits width (String s) i n d f e = then_content_fits width (part_of width s i n) String d (λ b is. part_is_bytes width s i n b f is) e
middle_fits width (Buffer s) i n d f e = then_content_fits width (part_of width s i n) Buffer d (λ b is. part_is_bytes width s i n b f is) e
middle_fits width Other i n d f e = absurd (cc e)

module _ (S : Type 0) (claim : Claim) where
  decoded_in_maintains : (v : Value) → ValueFits claim v → Maintains (WorldWithin S claim) (ValueFits claim) (decoded_in v)
  unfolding decoded_in
  decoded_in_maintains v f = then_maintains _ _ (integer_in_maintains S claim v f) (λ n g. settle_maintains _ (λ r e. as_integer_fits S claim (decoded_decimal n) r (λ k is m. decoded_fits claim.width n k (g m) is) e))

  coded_in_maintains : (v : Value) → ValueFits claim v → Maintains (WorldWithin S claim) (ValueFits claim) (coded_in v)
  unfolding coded_in number_coded
  coded_in_maintains v f = then_maintains _ _ (integer_in_maintains S claim v f) (λ n g. record { maintains = λ w i. settled_maintained _ w i (λ r e. seen_integer_fits S claim w (coded_decimal w.width n) r i (λ k is m. coded_fits w.width n k is) e) })

  decimal_text_maintains : (v : Value) → ValueFits claim v → Maintains (WorldWithin S claim) (AreClaimedBytes claim) (decimal_text v)
  unfolding decimal_text
  decimal_text_maintains v f = record { maintains = λ w i. settled_maintained _ w i (λ bs e m. decimal_string_is_bytes claim.width _ bs (content_in_fits S claim w v i f m) e) }

  new_decimal_string_maintains : (v : Value) → ValueFits claim v → Maintains (WorldWithin S claim) (ValueFits claim) (new_decimal_string v)
  unfolding new_decimal_string
  new_decimal_string_maintains v f = then_maintains _ _ (decimal_text_maintains v f) (λ bs h. on_objects_maintains S claim _ (make_string_maintains claim bs h))

  hexadecimal_text_maintains : (v : Value) → ValueFits claim v → Maintains (WorldWithin S claim) (AreClaimedBytes claim) (hexadecimal_text v)
  unfolding hexadecimal_text
  hexadecimal_text_maintains v f = record { maintains = λ w i. settled_maintained _ w i (λ bs e m. hexadecimal_string_is_bytes w.width _ bs (own_content_fits S claim w v i f m) e) }

  new_hexadecimal_string_maintains : (v : Value) → ValueFits claim v → Maintains (WorldWithin S claim) (ValueFits claim) (new_hexadecimal_string v)
  unfolding new_hexadecimal_string
  new_hexadecimal_string_maintains v f = then_maintains _ _ (hexadecimal_text_maintains v f) (λ bs h. on_objects_maintains S claim _ (make_string_maintains claim bs h))

  decimal_string_in_maintains : (v : Value) → ValueFits claim v → Maintains (WorldWithin S claim) (ValueFits claim) (decimal_string_in v)
  decimal_string_in_maintains (value.String o) f = give_maintains _ f
  decimal_string_in_maintains value.Uninitialized f = new_decimal_string_maintains _ f
  decimal_string_in_maintains (value.Integer n) f = new_decimal_string_maintains _ f
  decimal_string_in_maintains (value.Buffer o) f = new_decimal_string_maintains _ f
  decimal_string_in_maintains (value.Package o) f = new_decimal_string_maintains _ f
  decimal_string_in_maintains (value.Reference r) f = new_decimal_string_maintains _ f

  hexadecimal_string_in_maintains : (v : Value) → ValueFits claim v → Maintains (WorldWithin S claim) (ValueFits claim) (hexadecimal_string_in v)
  hexadecimal_string_in_maintains (value.String o) f = give_maintains _ f
  hexadecimal_string_in_maintains value.Uninitialized f = new_hexadecimal_string_maintains _ f
  hexadecimal_string_in_maintains (value.Integer n) f = new_hexadecimal_string_maintains _ f
  hexadecimal_string_in_maintains (value.Buffer o) f = new_hexadecimal_string_maintains _ f
  hexadecimal_string_in_maintains (value.Package o) f = new_hexadecimal_string_maintains _ f
  hexadecimal_string_in_maintains (value.Reference r) f = new_hexadecimal_string_maintains _ f

  string_in_maintains : (v u : Value) → ValueFits claim v → Maintains (WorldWithin S claim) (ValueFits claim) (string_in v u)
  unfolding string_in string_text
  string_in_maintains v u f =
      then_maintains {Fit = AreClaimedBytes claim} _ _ (record { maintains = λ w i. settled_maintained _ w i (λ bs e m. string_is_bytes w.width _ _ bs (own_content_fits S claim w v i f m) e) }) (λ bs h. on_objects_maintains S claim _ (make_string_maintains claim bs h))

  middle_in_maintains : (v u t : Value) → ValueFits claim v → Maintains (WorldWithin S claim) (ValueFits claim) (middle_in v u t)
  unfolding middle_in middle_content
  middle_in_maintains v u t f =
      then_maintains {Fit = ClaimedContent S claim} _ _ (record { maintains = λ w i. settled_maintained _ w i (λ c e. content_formed S claim w c i (λ m. middle_fits w.width _ _ _ c (own_content_fits S claim w v i f m) e)) }) (λ c h. made_of_maintains S claim c h)

  converted_maintains : (k : Conversion) (v : Value) → ValueFits claim v → Maintains (WorldWithin S claim) (ValueFits claim) (converted k v)
  converted_maintains conversions.DecimalString v f = decimal_string_in_maintains v f
  converted_maintains conversions.HexadecimalString v f = hexadecimal_string_in_maintains v f
  converted_maintains conversions.FromDecimal v f = decoded_in_maintains v f
  converted_maintains conversions.ToDecimal v f = coded_in_maintains v f

  -- ---- stores of what was formed

  either_maintains : (b : Bool) (m n : Change (State S) Stored) → Maintains (WorldWithin S claim) (StoredFits claim) m → Maintains (WorldWithin S claim) (StoredFits claim) n → Maintains (WorldWithin S claim) (StoredFits claim) (if b then m else n)
  either_maintains true m n h i = h
  either_maintains false m n h i = i

  formed_over_value_maintains : (old : Value) (q : List Seg) (v : Value) → ValueFits claim old → ValueFits claim v → Maintains (WorldWithin S claim) (StoredFits claim) (formed_over_value old q v)
  formed_over_value_maintains (value.Integer n) q v h f = either_maintains (is_integer v) _ _ (store_over_value_maintains S claim (value.Integer n) q v h f) (copy_into_name_maintains S claim q v f)
  formed_over_value_maintains (value.String o) q v h f = either_maintains (is_string v) _ _ (store_over_value_maintains S claim (value.String o) q v h f) (copy_into_name_maintains S claim q v f)
  formed_over_value_maintains (value.Buffer o) q v h f = either_maintains (is_buffer v) _ _ (store_over_value_maintains S claim (value.Buffer o) q v h f) (copy_into_name_maintains S claim q v f)
  formed_over_value_maintains (value.Package o) q v h f = store_over_value_maintains S claim (value.Package o) q v h f
  formed_over_value_maintains (value.Reference r) q v h f = store_over_value_maintains S claim (value.Reference r) q v h f
  formed_over_value_maintains value.Uninitialized q v h f = store_over_value_maintains S claim value.Uninitialized q v h f

  formed_over_maintains : (h : Holding) (q : List Seg) (v : Value) → HoldingFits claim h → ValueFits claim v → Maintains (WorldWithin S claim) (StoredFits claim) (formed_over h q v)
  formed_over_maintains (holding.Value old) q v h f = formed_over_value_maintains old q v h f
  formed_over_maintains (holding.Field x) q v h f = give_maintains _ h
  formed_over_maintains holding.Nothing q v h f = stop_maintains _

  formed_through_maintains : (r : Reference) (v : Value) → ReferenceFits claim r → ValueFits claim v → Maintains (WorldWithin S claim) (StoredFits claim) (formed_through r v)
  unfolding formed_in_declared
  formed_through_maintains (reference.Name n) v fits f = then_maintains _ _ (declaration_maintains S claim n) (λ e g. formed_over_maintains _ e.0 v (holding_of_fits claim e.1.object g) f)
  formed_through_maintains (reference.Slot slot n) v fits f = store_to_maintains S claim (reference.Slot slot n) v fits f
  formed_through_maintains (reference.Element o i) v fits f = store_to_maintains S claim (reference.Element o i) v fits f
  formed_through_maintains (reference.Byte o i) v fits f = store_to_maintains S claim (reference.Byte o i) v fits f

  formed_to_maintains : (at : StoreTarget) (v : Value) → TargetFits claim at → ValueFits claim v → Maintains (WorldWithin S claim) (StoredFits claim) (formed_to at v)
  unfolding formed_in_name
  formed_to_maintains targets.Nowhere v fits f = give_maintains _ tt
  formed_to_maintains (targets.Slot slot) v fits f = store_in_slot_maintains S claim slot v f
  formed_to_maintains (targets.Name q) v fits f = then_maintains _ _ (held_at_maintains S claim q) (λ h g. formed_over_maintains h q v g f)
  formed_to_maintains (targets.Refers r) v fits f = formed_through_maintains r v fits f

  asked_for_maintains : (op : Opcode) → Maintains (WorldWithin S claim) Any (asked_for op)
  unfolding asked_for
  asked_for_maintains op = record { maintains = λ w i. settled_maintained _ w i (λ u e. tt) }

  asked_if_maintains : (asks : Bool) (op : Opcode) → Maintains (WorldWithin S claim) Any (asked_if asks op)
  asked_if_maintains true op = asked_for_maintains op
  asked_if_maintains false op = give_maintains _ tt

  pub connections_asked_maintains : (op : Opcode) (ts : Trees) → Maintains (WorldWithin S claim) Any (connections_asked op ts)
  connections_asked_maintains op ts = asked_if_maintains (has_connection ts) op

-- aimed, stores: what finding a target does, and storing to it
module _ (S : Type 0) (claim : Claim) (accesses : Accesses S) (ev : Task → Run S Flow) (parts : PartsMaintain S claim accesses ev)
    (aimed : (scope : List Seg) (depth : ℕ) (t : Tree) (i : ℕ) → TreeFits claim t → Maintains (RunWithin S claim) (TargetFits claim) (target_at ev scope depth t i))
    (stores : (scope : List Seg) (depth : ℕ) (t : Tree) (i : ℕ) (v : Value) → TreeFits claim t → ValueFits claim v → Maintains (RunWithin S claim) (FlowFits claim) (targeted accesses ev scope depth t i v)) where
  formed_at_maintains : (scope : List Seg) (depth : ℕ) (t : Tree) (i : ℕ) (v : Value) → TreeFits claim t → ValueFits claim v → Maintains (RunWithin S claim) (FlowFits claim) (formed_at accesses ev scope depth t i v)
  unfolding formed_at
  formed_at_maintains scope depth t i v h f = then_maintains _ _ (aimed scope depth t i h) (λ q u. then_maintains _ _ (lift_maintains S claim _ (formed_to_maintains S claim q v u f)) (λ s g. then_maintains _ _ (completed_maintains S claim accesses ev parts depth s v g f) (λ done x. give_maintains _ f)))

  bank_list_rule_maintains : (scope : List Seg) (depth : ℕ) (t : Tree) → TreeFits claim t → Maintains (RunWithin S claim) (FlowFits claim) (bank_list_rule ev scope depth t)
  unfolding bank_list_rule banked_laid fields_laid region_found field_found
  bank_list_rule_maintains scope depth t h =
      then_maintains _ _ (any_settle_maintains _) (λ x u. then_maintains _ _ (lift_maintains S claim _ (then_maintains _ _ (entry_found_maintains S claim scope x) (λ e f. any_settle_maintains _))) (λ region v. then_maintains _ _ (any_settle_maintains _) (λ y a. then_maintains _ _ (lift_maintains S claim _ (then_maintains _ _ (entry_found_maintains S claim scope y) (λ e f. any_settle_maintains _))) (λ bank b.
      then_maintains _ _ (value_at_maintains S claim accesses ev parts scope depth t 2 h) (λ z f. then_maintains _ _ (any_settle_maintains _) (λ flags c. then_maintains _ _ (any_settle_maintains _) (λ ts d.
      then_maintains _ _ (lift_maintains S claim _ (integer_in_maintains S claim z f)) (λ n g. then_maintains _ _ (lift_maintains S claim _ (elements_laid_maintains S claim _ scope depth _ ts)) (λ laid i. give_maintains _ tt)))))))))

  wide_rule_maintains : (k : WideKind) (scope : List Seg) (depth : ℕ) (t : Tree) → TreeFits claim t → Maintains (RunWithin S claim) (FlowFits claim) (wide_rule accesses ev k scope depth t)
  unfolding convert_rule to_string_rule middle_rule
  wide_rule_maintains (wides.Convert k) scope depth t h = then_maintains _ _ (value_at_maintains S claim accesses ev parts scope depth t 0 h) (λ v f. then_maintains _ _ (lift_maintains S claim _ (converted_maintains S claim k v f)) (λ r g. formed_at_maintains scope depth t 1 r h g))
  wide_rule_maintains wides.ToString scope depth t h = then_maintains _ _ (two_values_maintains S claim accesses ev parts scope depth t h) (λ x f. then_maintains _ _ (lift_maintains S claim _ (string_in_maintains S claim x.0 x.1 f.0)) (λ r g. formed_at_maintains scope depth t 2 r h g))
  wide_rule_maintains wides.Mid scope depth t h = then_maintains _ _ (two_values_maintains S claim accesses ev parts scope depth t h) (λ x f. then_maintains _ _ (value_at_maintains S claim accesses ev parts scope depth t 2 h) (λ n j. then_maintains _ _ (lift_maintains S claim _ (middle_in_maintains S claim x.0 x.1 n f.0)) (λ r g. stores scope depth t 3 r h g)))
  wide_rule_maintains wides.Match scope depth t h = match_rule_maintains S claim accesses ev parts scope depth t h
  wide_rule_maintains (wides.Event k) scope depth t h = event_rule_maintains S claim accesses ev parts aimed k scope depth t h
  wide_rule_maintains wides.Wait scope depth t h = wait_rule_maintains S claim accesses ev parts aimed scope depth t h
  wide_rule_maintains wides.BankField scope depth t h = bank_list_rule_maintains scope depth t h

  -- the profile is asked first
  pub in_wide_maintains : (op : Opcode) (k : WideKind) (scope : List Seg) (depth : ℕ) (t : Tree) → TreeFits claim t → Maintains (RunWithin S claim) (FlowFits claim) (in_wide op (wide_rule accesses ev k scope depth t))
  in_wide_maintains op k scope depth t h = then_maintains _ _ (lift_maintains S claim _ (asked_for_maintains S claim op)) (λ wide u. wide_rule_maintains k scope depth t h)
