-- Match finds the first element of any type that meets both tests.
use Rattle.std.specs.Prelude.{◌≡◌, ◌≢◌, ◌⊎◌, ◌<◌, ◌≤◌, ◌+◌, ◌-◌, ◌^◌, ◌∷◌, ℕ, zero, suc, List, length, take, slice_get, Bool, true, false, Some, Ok, Err, refl, if◌then◌else◌}
use Rattle.std.proofs.Common.{inl, inr, arith, ap, sym, subst, ◌∙◌}
use Rattle.std.specs.declared.cmp.Ordering.{Ordering}
use Rattle.std.specs.declared.cmp.Ordering.TheVariants.{Less, Equal, Greater}
use Rattle.ar_space.specs.declared.integer_width.IntegerWidth.{IntegerWidth}
use Rattle.ar_space.specs.declared.refusal.Refusal.{Refusal}
use Rattle.ar_space.specs.declared.refusal.Refusal.TheVariants as refusal
use Rattle.ar_space.specs.declared.refusal.EvaluationFault.TheVariants.{IndexLimit, ObjectLimit}
use Rattle.ar_space.specs.declared.refusal.NamespaceFault.TheVariants.{NotFound}
use Rattle.ar_space.specs.declared.refusal.ValueFault.TheVariants.{WrongType}
use Rattle.ar_space.specs.Accesses.{Accesses}
use Rattle.ar_space.specs.Outcome.{Outcome, seen}
use Rattle.ar_space.specs.Change.{give, settle, go_on, ◌>>=◌}
use Rattle.aml_path.specs.declared.segment.Seg.{Seg}
use Rattle.aml_path.specs.Paths.{Name}
use Rattle.aml_grammar.specs.declared.opcode.Opcode.TheVariants as opcodes
use Rattle.aml_grammar.specs.Tree.{Tree}
use Rattle.aml_objects.specs.Contents.{Content, Integer, Buffer, Other, content_in, buffer_held}
use Rattle.aml_objects.specs.Fields.{bits_of_field}
use Rattle.aml_objects.specs.Objects.{element_at}
use Rattle.aml_objects.specs.declared.entry.Entry.{Entry}
use Rattle.aml_objects.specs.declared.entry.Field.{Field}
use Rattle.aml_objects.specs.declared.entry.NamedObject.{NamedObject}
use Rattle.aml_objects.specs.declared.object.Element.{Element}
use Rattle.aml_objects.specs.declared.object.Element.TheVariants as element
use Rattle.aml_objects.specs.declared.object.Object.{Object}
use Rattle.aml_objects.specs.declared.object.Object.TheVariants as object
use Rattle.aml_objects.specs.declared.value.Value.{Value}
use Rattle.aml_objects.specs.declared.value.Value.TheVariants as value
use Rattle.aml_objects.specs.declared.value.Reference.TheVariants as reference
use Rattle.aml_convert.specs.Conversions.{compared}
use Rattle.aml_convert.specs.Integers.{bits_of, bytes_of}
use Rattle.aml_convert.specs.Matching.{match_operator, is_met, is_met_by, is_match}
use Rattle.aml_convert.specs.declared.matching.MatchOperator.{MatchOperator}
use Rattle.aml_convert.specs.declared.matching.MatchOperator.TheVariants as operators
use Rattle.aml_namespace.specs.Search.{found}
use Rattle.aml_world.specs.declared.values.searches.MatchTest.{MatchTest}
use Rattle.aml_world.specs.declared.values.searches.Search.{Search}
use Rattle.aml_world.specs.declared.values.store_target.Held.{Held}
use Rattle.aml_world.specs.declared.values.store_target.Held.TheVariants as held
use Rattle.aml_world.specs.state.State.{State, on_objects}
use Rattle.aml_world.specs.state.Run.{Run, lift}
use Rattle.aml_world.specs.fields.Fields.{field_value}
use Rattle.aml_world.specs.state.Readings.{integer_in, integer_kept, read_as}
use Rattle.aml_world.specs.fields.Regions.{value_of_bits}
use Rattle.aml_world.specs.values.StoreTargets.{named_once}
use Rattle.aml_world.specs.values.Operations.{size_held}
use Rattle.aml_world.specs.values.Searches.{test_of, search_begun, unless_uninitialized, where_named, name_held, element_held, meets, value_meets}
use Rattle.aml_meaning.specs.declared.flow.Flow.{Flow}
use Rattle.aml_meaning.specs.declared.flow.Flow.TheVariants as flow
use Rattle.aml_meaning.specs.FieldCalls.{field_read, held_value}
use Rattle.aml_meaning.specs.Tasks.{task, operand_value, value_at}
use Rattle.aml_meaning.specs.MatchTerms.{found_or, none_matches, held_meets, element_meets, searched_last, match_rule}
use Rattle.aml_meaning.specs.Evaluation.{rule}
use Rattle.aml_meaning.specs.Meaning.{meaning}
use Rattle.aml_laws.specs.FieldNames.{IsField, NamesField, of_unit, of_buffer, bits_read_at}
use Rattle.aml_laws.specs.IntegersOfValues.{lowest_first}
use Rattle.aml_laws.specs.JoinedTerms.{with_object, Fits}
use Rattle.aml_laws.specs.OperatorTerms.{Gives, IsRefused}
use Rattle.aml_laws.specs.StoredNames.{data_entry}
use Rattle.aml_laws.specs.MatchedTerms.{match, IsNumberOf, GivesOperands, HoldsNone, uninitialized, unfound, without_value}
use Rattle.aml_laws.specs.MatchedValues.{AsksOrder, meq_if_equal, mle_if_equal, mle_if_greater, mlt_if_greater, mge_if_equal, mge_if_less, mgt_if_less, MeetsTest, by_mtr, by_order, MeetsTests, ElementHolds, a_value, a_named_value, a_named_object, few_bits, many_bits, ElementRefuses, unsearched, unread, no_room, ElementStands, IsPassed, holds_nothing, unmet, ArePassed, no_more, one_more, IsCompared, an_integer, a_string, a_buffer, Searches}
use Rattle.aml_laws.proofs.ConstantsGiven.{all_kept}
use Rattle.aml_laws.proofs.CopiesApart.{there_now}
use Rattle.aml_laws.proofs.FieldNamesUsed.{bits_are, number_of_bits, buffer_of_bits, no_room_for_bits}
use Rattle.aml_laws.proofs.MatchesFound.{IsTold, numbered, is_below, is_past}
use Rattle.aml_laws.proofs.NamesInPackages.{nothing_named}
use Rattle.aml_laws.proofs.NamesMatched.{both_met, one_missed}
use Rattle.aml_laws.proofs.TreesCost.{term_begins}
use Rattle.aml_laws.proofs.WideAsked.{asked_in_wide}

-- ---- tests

module _ (width : IntegerWidth) (o e : Content) where
  asked_order : (k : MatchOperator) (order : Ordering) → AsksOrder k order → compared width o e ≡ Ok order → is_match width k o e ≡ true
  asked_order _ _ meq_if_equal is = rw is refl
  asked_order _ _ mle_if_equal is = rw is refl
  asked_order _ _ mle_if_greater is = rw is refl
  asked_order _ _ mlt_if_greater is = rw is refl
  asked_order _ _ mge_if_equal is = rw is refl
  asked_order _ _ mge_if_less is = rw is refl
  asked_order _ _ mgt_if_less is = rw is refl

  meets_matches : (k : MatchOperator) → MeetsTest width o e k → is_match width k o e ≡ true
  meets_matches _ by_mtr = refl
  meets_matches _ (by_order k order is asks) = asked_order k order asks is

  by_outcome : (k : MatchOperator) (r : Outcome Ordering) → compared width o e ≡ r → is_met_by k r ≡ true → MeetsTest width o e k
  by_outcome operators.Always r is met = by_mtr
  by_outcome k (Err x) is met = absurd (cc met)
  by_outcome operators.Equal (Ok Less) is met = absurd (cc met)
  by_outcome operators.Equal (Ok Equal) is met = by_order operators.Equal Equal is meq_if_equal
  by_outcome operators.Equal (Ok Greater) is met = absurd (cc met)
  by_outcome operators.LessOrEqual (Ok Less) is met = absurd (cc met)
  by_outcome operators.LessOrEqual (Ok Equal) is met = by_order operators.LessOrEqual Equal is mle_if_equal
  by_outcome operators.LessOrEqual (Ok Greater) is met = by_order operators.LessOrEqual Greater is mle_if_greater
  by_outcome operators.Less (Ok Less) is met = absurd (cc met)
  by_outcome operators.Less (Ok Equal) is met = absurd (cc met)
  by_outcome operators.Less (Ok Greater) is met = by_order operators.Less Greater is mlt_if_greater
  by_outcome operators.GreaterOrEqual (Ok Less) is met = by_order operators.GreaterOrEqual Less is mge_if_less
  by_outcome operators.GreaterOrEqual (Ok Equal) is met = by_order operators.GreaterOrEqual Equal is mge_if_equal
  by_outcome operators.GreaterOrEqual (Ok Greater) is met = absurd (cc met)
  by_outcome operators.Greater (Ok Less) is met = by_order operators.Greater Less is mgt_if_less
  by_outcome operators.Greater (Ok Equal) is met = absurd (cc met)
  by_outcome operators.Greater (Ok Greater) is met = absurd (cc met)

  matches_meets : (k : MatchOperator) → is_match width k o e ≡ true → MeetsTest width o e k
  matches_meets operators.Always met = by_mtr
  matches_meets operators.Equal met = by_outcome operators.Equal (compared width o e) refl met
  matches_meets operators.LessOrEqual met = by_outcome operators.LessOrEqual (compared width o e) refl met
  matches_meets operators.Less met = by_outcome operators.Less (compared width o e) refl met
  matches_meets operators.GreaterOrEqual met = by_outcome operators.GreaterOrEqual (compared width o e) refl met
  matches_meets operators.Greater met = by_outcome operators.Greater (compared width o e) refl met

  test_told : (k : MatchOperator) → IsTold (is_match width k o e) (MeetsTest width o e k)
  test_told k = (matches_meets k, λ missed h. absurd (cc (sym (meets_matches k h) ∙ missed)))

-- ---- values

read_value : (objects : List Object) (number : ℕ) (v : Value) → v ≢ value.Uninitialized → (read_as number v ≢ value.Uninitialized) × (content_in objects (read_as number v) ≡ content_in objects v)
read_value objects number value.Uninitialized some = absurd (some refl)
read_value objects number (value.Integer n) some = (some, refl)
read_value objects number (value.String o) some = (some, refl)
read_value objects number (value.Buffer o) some = (some, refl)
read_value objects number (value.Package o) some = (some, refl)
read_value objects number (value.Reference r) some = (λ e. absurd (cc e), refl)

unless_none : (v : Value) → v ≢ value.Uninitialized → unless_uninitialized v ≡ Some (held.Value v)
unless_none value.Uninitialized some = absurd (some refl)
unless_none (value.Integer n) some = refl
unless_none (value.String o) some = refl
unless_none (value.Buffer o) some = refl
unless_none (value.Package o) some = refl
unless_none (value.Reference r) some = refl

meets_some : {S : Type 0} (x : Search) (v : Value) → v ≢ value.Uninitialized → value_meets {S = S} x v ≡ meets x v
meets_some x value.Uninitialized some = absurd (some refl)
meets_some x (value.Integer n) some = refl
meets_some x (value.String o) some = refl
meets_some x (value.Buffer o) some = refl
meets_some x (value.Package o) some = refl
meets_some x (value.Reference r) some = refl

test_so : (n : ℕ) (k : MatchOperator) (u : Value) → IsNumberOf n k → IsCompared u → test_of n u ≡ Ok (record { operator = k; object = u })
test_so n k _ is (an_integer m) = rw (numbered n k is) refl
test_so n k _ is (a_string o) = rw (numbered n k is) refl
test_so n k _ is (a_buffer o) = rw (numbered n k is) refl

not_missing : (r : Refusal) → r ≢ refusal.Namespace NotFound → where_named (Err r) ≡ Err r
not_missing (refusal.Namespace NotFound) other = absurd (other refl)
not_missing r other = refl

named_field : (n : ℕ) (o : NamedObject) (f : Field) (bits : ℕ) → IsField o f bits → named_once n o ≡ held.Field f
named_field n _ _ _ (of_unit u) = refl
named_field n _ _ _ (of_buffer b) = refl

-- ---- elements

module _ {S : Type 0} (accesses : Accesses S) (depth : ℕ) (k l : MatchOperator) (u v : Value) (source count : ℕ) where
  abbrev sought : Search
  sought = record { source = source; count = count; first = record { operator = k; object = u }; second = record { operator = l; object = v } }

  abbrev both : State S → Content → Bool
  both w c = if is_match w.width k (content_in w.objects u) c then is_match w.width l (content_in w.objects v) c else false

  both_so : (w : State S) (c : Content) → MeetsTests w k l u v c → both w c ≡ true
  both_so w c h =
      both_met (is_match w.width k (content_in w.objects u) c) (is_match w.width l (content_in w.objects v) c) (MeetsTest w.width (content_in w.objects u) c k) (MeetsTest w.width (content_in w.objects v) c l)
      (test_told w.width (content_in w.objects u) c k) (test_told w.width (content_in w.objects v) c l) h.0 h.1

  both_not : (w : State S) (c : Content) → (MeetsTests w k l u v c → ⊥) → both w c ≡ false
  both_not w c not =
      one_missed (is_match w.width k (content_in w.objects u) c) (is_match w.width l (content_in w.objects v) c) (MeetsTest w.width (content_in w.objects u) c k) (MeetsTest w.width (content_in w.objects v) c l)
      (test_told w.width (content_in w.objects u) c k) (test_told w.width (content_in w.objects v) c l) not

  abbrev asked : ℕ → Run S Bool
  asked = element_meets accesses (meaning accesses) depth sought

  -- what is held, read
  value_told : (x : Value) → x ≢ value.Uninitialized → (s : State S × ℕ) → lift (value_meets sought x) s ≡ (Ok (both s.0 (content_in s.0.objects x)), s)
  unfolding meets lift
  value_told x some s = rw (meets_some {S = S} sought x some) refl

  abbrev held_now : Held → Run S Value
  held_now h = held_value accesses (meaning accesses) depth h

  held_told : (h : Held) (x : Value) (s end : State S × ℕ) → x ≢ value.Uninitialized → held_now h s ≡ (Ok x, end) → held_meets accesses (meaning accesses) depth sought h s ≡ (Ok (both end.0 (content_in end.0.objects x)), end)
  unfolding held_meets go_on ◌>>=◌
  held_told h x s end some is = rw is (value_told x some end)

  stands_told : (i : ℕ) (h : Held) (x : Value) (s end : State S × ℕ) → element_held source i s.0 ≡ (Ok (Some h), s.0) → x ≢ value.Uninitialized → held_now h s ≡ (Ok x, end) → asked i s ≡ (Ok (both end.0 (content_in end.0.objects x)), end)
  unfolding element_meets lift go_on ◌>>=◌
  stands_told i h x s end at some is = rw at (held_told h x s end some is)

  value_held : (x : Value) (s : State S × ℕ) → held_now (held.Value x) s ≡ (Ok x, s)
  unfolding give
  value_held x s = refl

  value_stands : (i : ℕ) (w : State S) (x : Value) → ElementStands w source i (element.Value x) → x ≢ value.Uninitialized → element_held source i w ≡ (Ok (Some (held.Value x)), w)
  unfolding element_held on_objects element_at give go_on ◌>>=◌
  value_stands i w x st some = rw (st.holds, st.stands, unless_none x some) refl

  name_stands : (i : ℕ) (w : State S) (n : Name) (home path : List Seg) (e : Entry) (h : Held) → ElementStands w source i (element.Name n home) → found w.names.map home n ≡ Ok (path, e) → named_once e.number e.object ≡ h → element_held source i w ≡ (Ok (Some h), w)
  unfolding element_held name_held on_objects element_at give go_on ◌>>=◌
  name_stands i w n home path e h st finds is = rw (st.holds, st.stands, finds, is) refl

  field_told : (s after : State S × ℕ) (end : State S) (f : Field) (bits : ℕ) (bytes : List ℕ) (x : Value) (o : NamedObject) → IsField o f bits → bits_read_at accesses depth f s ≡ (Ok bytes, after) → value_of_bits bits bytes after.0 ≡ (Ok x, end) → held_now (held.Field f) s ≡ (Ok x, (end, after.1))
  unfolding field_value lift go_on ◌>>=◌
  field_told s after end f bits bytes x o named is makes = rw (is, bits_are o f bits named, makes) refl

  bits_told : (i : ℕ) (s after : State S × ℕ) (end : State S) (n : Name) (home : List Seg) (f : Field) (bits : ℕ) (bytes : List ℕ) (x : Value) → ElementStands s.0 source i (element.Name n home) → NamesField s.0 home n f bits → bits_read_at accesses depth f s ≡ (Ok bytes, after)
      → value_of_bits bits bytes after.0 ≡ (Ok x, end) → x ≢ value.Uninitialized → asked i s ≡ (Ok (both end (content_in end.objects x)), (end, after.1))
  bits_told i s after end n home f bits bytes x st h is makes some =
      stands_told i (held.Field f) x s (end, after.1) (name_stands i s.0 n home h.path (record { number = h.number; object = h.object }) (held.Field f) st h.finds (named_field h.number h.object f bits h.is)) some (field_told s after end f bits bytes x h.object h.is is makes)

  element_told : (i : ℕ) (s : State S × ℕ) (e : Element) (c : Content) (end : State S × ℕ) → ElementStands s.0 source i e → ElementHolds accesses depth s e c end → asked i s ≡ (Ok (both end.0 c), end)
  element_told i s _ _ _ st (a_value x some) = stands_told i (held.Value x) x s s (value_stands i s.0 x st some) some (value_held x s)
  element_told i s _ _ _ st (a_named_value n home path number x finds some) =
      let read = read_value s.0.objects number x some in
      stands_told i (held.Value (read_as number x)) (read_as number x) s s (name_stands i s.0 n home path (data_entry number x) (held.Value (read_as number x)) st finds refl) read.0 (value_held (read_as number x) s)
      ∙ ap (λ c. (Ok (both s.0 c), s)) read.1
  element_told i s _ _ _ st (a_named_object n home path e finds none) =
      stands_told i (held.Value (value.Reference (reference.Name e.number))) (value.Reference (reference.Name e.number)) s s (name_stands i s.0 n home path e (held.Value (value.Reference (reference.Name e.number))) st finds (nothing_named e.number e.object none)) (λ e. absurd (cc e))
      (value_held (value.Reference (reference.Name e.number)) s)
  element_told i s _ _ _ st (few_bits n home f bits b bytes after h is few) =
      bits_told i s after after.0 n home f bits (b ∷ bytes) (value.Integer (lowest_first (take (bytes_of after.0.width) (b ∷ bytes)))) st h is (number_of_bits after.0 bits b bytes few) (λ e. absurd (cc e))
  element_told i s _ _ _ st (many_bits n home f bits bytes after h is many fits) =
      let made = with_object after.0 (object.Buffer bytes) in
      let there : content_in made.objects (value.Buffer (length after.0.objects)) ≡ Buffer bytes = ap buffer_held (there_now after.0.objects (object.Buffer bytes)) in
      bits_told i s after made n home f bits bytes (value.Buffer (length after.0.objects)) st h is (buffer_of_bits after.0 bits bytes many fits) (λ e. absurd (cc e)) ∙ ap (λ c. (Ok (both made c), (made, after.1))) there

  none_told : (i : ℕ) (s : State S × ℕ) (e : Element) → ElementStands s.0 source i e → HoldsNone s.0 e → asked i s ≡ (Ok false, s)
  unfolding element_meets element_held name_held held_meets on_objects element_at lift give go_on ◌>>=◌
  none_told i s _ st uninitialized = rw (st.holds, st.stands) refl
  none_told i s _ st (unfound name home finds) = rw (st.holds, st.stands, finds) refl
  none_told i s _ st (without_value name home path number finds) = rw (st.holds, st.stands, finds) refl

  passed_told : (i : ℕ) (s : State S × ℕ) (e : Element) (after : State S × ℕ) → ElementStands s.0 source i e → IsPassed accesses depth k l u v s e after → asked i s ≡ (Ok false, after)
  passed_told i s e _ st (holds_nothing none) = none_told i s e st none
  passed_told i s e _ st (unmet c after h not) = element_told i s e c after st h ∙ ap (λ (m : Bool). (Ok m, after)) (both_not after.0 c not)

  met_told : (i : ℕ) (s : State S × ℕ) (e : Element) (c : Content) (end : State S × ℕ) → ElementStands s.0 source i e → ElementHolds accesses depth s e c end → MeetsTests end.0 k l u v c → asked i s ≡ (Ok true, end)
  met_told i s e c end st h meets = element_told i s e c end st h ∙ ap (λ (m : Bool). (Ok m, end)) (both_so end.0 c meets)

  -- an element that can't be looked at
  held_refused : (i : ℕ) (s : State S × ℕ) (x : Refusal) → element_held source i s.0 ≡ (Err x, s.0) → asked i s ≡ (Err x, s)
  unfolding element_meets lift go_on ◌>>=◌
  held_refused i s x is = rw is refl

  name_refused : (i : ℕ) (w : State S) (n : Name) (home : List Seg) (x : Refusal) → ElementStands w source i (element.Name n home) → found w.names.map home n ≡ Err x → where_named (Err x) ≡ Err x → element_held source i w ≡ (Err x, w)
  unfolding element_held name_held on_objects element_at go_on ◌>>=◌
  name_refused i w n home x st finds is = rw (st.holds, st.stands, finds, is) refl

  field_refused : (i : ℕ) (s after : State S × ℕ) (f : Field) (x : Refusal) → element_held source i s.0 ≡ (Ok (Some (held.Field f)), s.0) → bits_read_at accesses depth f s ≡ (Err x, after) → asked i s ≡ (Err x, after)
  unfolding element_meets held_meets field_value lift go_on ◌>>=◌
  field_refused i s after f x at is = rw (at, is) refl

  room_refused : (i : ℕ) (s after : State S × ℕ) (f : Field) (bits : ℕ) (bytes : List ℕ) (o : NamedObject) → IsField o f bits → element_held source i s.0 ≡ (Ok (Some (held.Field f)), s.0) → bits_read_at accesses depth f s ≡ (Ok bytes, after)
      → value_of_bits bits bytes after.0 ≡ (Err (refusal.Evaluation ObjectLimit), after.0) → asked i s ≡ (Err (refusal.Evaluation ObjectLimit), after)
  unfolding element_meets held_meets field_value lift go_on ◌>>=◌
  room_refused i s after f bits bytes o named at is none = rw (at, is, bits_are o f bits named, none) refl

  refused_told : (i : ℕ) (s : State S × ℕ) (e : Element) (x : Refusal) (end : State S × ℕ) → ElementStands s.0 source i e → ElementRefuses accesses depth s e x end → asked i s ≡ (Err x, end)
  refused_told i s _ _ _ st (unsearched n home x finds other) = held_refused i s x (name_refused i s.0 n home x st finds (not_missing x other))
  refused_told i s _ _ _ st (unread n home f bits x after h is) =
      field_refused i s after f x (name_stands i s.0 n home h.path (record { number = h.number; object = h.object }) (held.Field f) st h.finds (named_field h.number h.object f bits h.is)) is
  refused_told i s _ _ _ st (no_room n home f bits bytes after h is many exceeds) =
      room_refused i s after f bits bytes h.object h.is (name_stands i s.0 n home h.path (record { number = h.number; object = h.object }) (held.Field f) st h.finds (named_field h.number h.object f bits h.is)) is (no_room_for_bits after.0 bits bytes many exceeds)

  -- ---- the search

  abbrev searched : ℕ → Run S Flow
  searched = searched_last accesses (meaning accesses) depth sought

  looked_at : (n i : ℕ) (b : Bool) (s after : State S × ℕ) → count - suc n ≡ i → asked i s ≡ (Ok b, after) → searched (suc n) s ≡ found_or b i (searched n) after
  unfolding searched_last go_on ◌>>=◌
  looked_at n i b s after e is = rw (e, is) refl

  found_there : (i : ℕ) (others : Run S Flow) (after : State S × ℕ) → found_or true i others after ≡ (Ok (flow.Value (value.Integer i)), after)
  unfolding give
  found_there i others after = refl

  stops_there : (n i : ℕ) (x : Refusal) (s after : State S × ℕ) → count - suc n ≡ i → asked i s ≡ (Err x, after) → searched (suc n) s ≡ (Err x, after)
  unfolding searched_last go_on ◌>>=◌
  stops_there n i x s after e is = rw (e, is) refl

  none_left : (s : State S × ℕ) → searched zero s ≡ (Ok (flow.Value (value.Integer (2 ^ bits_of s.0.width - 1))), s)
  unfolding searched_last none_matches integer_kept lift give go_on ◌>>=◌
  none_left s = ap (λ (n : ℕ). (Ok (flow.Value (value.Integer n)), s)) (all_kept s.0.width)

  abbrev Passed : ℕ → State S × ℕ → ℕ → State S × ℕ → Type 0
  Passed = ArePassed accesses depth k l u v source

  rises : (i j : ℕ) (s after : State S × ℕ) → Passed i s j after → i ≤ j
  rises _ _ _ _ (no_more i s) = omega arith
  rises _ _ _ _ (one_more i j s between after e st is rest) = let more = rises (suc i) j between after rest in omega (arith, more)

  goes_on_behind : (i j : ℕ) (s after : State S × ℕ) → Passed i s j after → j ≤ count → searched (count - i) s ≡ searched (count - j) after
  goes_on_behind _ _ _ _ (no_more i s) within = refl
  goes_on_behind _ _ _ _ (one_more i j s between after e st is rest) within =
      let more = rises (suc i) j between after rest in
      let left : count - i ≡ suc (count - suc i) = omega (arith, more, within) in
      let index : count - suc (count - suc i) ≡ i = omega (arith, more, within) in
      ap (λ n. searched n s) left ∙ (looked_at (count - suc i) i false s between index (passed_told i s e between st is) ∙ goes_on_behind (suc i) j between after rest within)

  found_at : (i q : ℕ) (s between : State S × ℕ) → Passed i s q between → q < count → (e : Element) (c : Content) (end : State S × ℕ) → ElementStands between.0 source q e → ElementHolds accesses depth between e c end → MeetsTests end.0 k l u v c
      → searched (count - i) s ≡ (Ok (flow.Value (value.Integer q)), end)
  found_at i q s between passed inside e c end st h meets =
      let left : count - q ≡ suc (count - suc q) = omega (arith, inside) in
      let index : count - suc (count - suc q) ≡ q = omega (arith, inside) in
      goes_on_behind i q s between passed (omega (arith, inside)) ∙ (ap (λ n. searched n between) left ∙ (looked_at (count - suc q) q true between end index (met_told q between e c end st h meets) ∙ found_there q (searched (count - suc q)) end))

  refused_at : (i q : ℕ) (s between : State S × ℕ) → Passed i s q between → q < count → (e : Element) (x : Refusal) (end : State S × ℕ) → ElementStands between.0 source q e → ElementRefuses accesses depth between e x end → searched (count - i) s ≡ (Err x, end)
  refused_at i q s between passed inside e x end st h =
      let left : count - q ≡ suc (count - suc q) = omega (arith, inside) in
      let index : count - suc (count - suc q) ≡ q = omega (arith, inside) in
      goes_on_behind i q s between passed (omega (arith, inside)) ∙ (ap (λ n. searched n between) left ∙ stops_there (count - suc q) q x between end index (refused_told q between e x end st h))

  none_at : (i : ℕ) (s end : State S × ℕ) → Passed i s count end → searched (count - i) s ≡ (Ok (flow.Value (value.Integer (2 ^ bits_of end.0.width - 1))), end)
  none_at i s end passed =
      let nothing : count - count ≡ 0 = omega arith in
      goes_on_behind i count s end passed (omega arith) ∙ (ap (λ n. searched n end) nothing ∙ none_left end)

-- ---- a start index that is no integer

module _ {S : Type 0} (accesses : Accesses S) (scope : List Seg) (depth : ℕ) (p x y i : Tree) (w : State S) (steps source : ℕ) (u v t : Value) (after : State S × ℕ) (h : GivesOperands accesses scope depth p x y i (w, steps) (value.Package source) u v t after) (j m : ℕ) (k l : MatchOperator) where
  begins_nowhere : IsNumberOf j k → IsNumberOf m l → IsCompared u → IsCompared v → (e : Refusal) → integer_in t after.0 ≡ (Err e, after.0) → search_begun (value.Package source) j u m v t after.0 ≡ (Err e, after.0)
  unfolding search_begun settle give go_on ◌>>=◌
  begins_nowhere one other first second e none = rw (test_so j k u one first, test_so m l v other second, none) refl

  stops_nowhere : (e : Refusal) → search_begun (value.Package source) j u m v t after.0 ≡ (Err e, after.0) → match_rule accesses (meaning accesses) scope depth (match p j x m y i) (w, steps) ≡ (Err e, after)
  unfolding match_rule value_at operand_value settle lift give go_on ◌>>=◌
  stops_nowhere e is = rw (h.gives_package, h.gives_first, h.gives_second, h.gives_start, is) refl

  ruled_so : meaning accesses (task scope depth (match p j x m y i)) (w, suc steps) ≡ match_rule accesses (meaning accesses) scope depth (match p j x m y i) (w, steps)
  unfolding rule
  ruled_so = (term_begins accesses (task scope depth (match p j x m y i))).paid w steps ∙ asked_in_wide opcodes.Match w steps h.wide (match_rule accesses (meaning accesses) scope depth (match p j x m y i))

  pub no_start : IsNumberOf j k → IsNumberOf m l → IsCompared u → IsCompared v → (e : Refusal) → integer_in t after.0 ≡ (Err e, after.0) → IsRefused accesses scope depth (match p j x m y i) (w, suc steps) e after
  no_start one other first second e none = ruled_so ∙ stops_nowhere e (begins_nowhere one other first second e none)

-- ---- the term

module _ {S : Type 0} (w : State S) (j m : ℕ) (k l : MatchOperator) (one : IsNumberOf j k) (other : IsNumberOf m l) (u v t : Value) (first : IsCompared u) (second : IsCompared v) (source start : ℕ) (es : List Element) (holds : slice_get w.objects source ≡ Some (object.Package es)) (converts : integer_in t w ≡ (Ok start, w)) where
  begins_so : start < length es → search_begun (value.Package source) j u m v t w ≡ (Ok (record { search = record { source = source; count = length es; first = record { operator = k; object = u }; second = record { operator = l; object = v } }; left = length es - start }), w)
  unfolding search_begun size_held settle give go_on ◌>>=◌
  begins_so less = rw (test_so j k u one first, test_so m l v other second, converts, holds, is_below start (length es) less) refl

  begins_past : length es ≤ start → search_begun (value.Package source) j u m v t w ≡ (Err (refusal.Evaluation IndexLimit), w)
  unfolding search_begun size_held settle give go_on ◌>>=◌
  begins_past past = rw (test_so j k u one first, test_so m l v other second, converts, holds, is_past start (length es) past) refl

module _ {S : Type 0} (accesses : Accesses S) (scope : List Seg) (depth : ℕ) (p x y i : Tree) (w : State S) (steps source count : ℕ) (u v : Value) (start : ℕ) (after : State S × ℕ) (h : Searches accesses scope depth p x y i (w, steps) source count u v start after) (j m : ℕ) (k l : MatchOperator) (one : IsNumberOf j k) (other : IsNumberOf m l) where
  abbrev told : Run S Flow
  told = match_rule accesses (meaning accesses) scope depth (match p j x m y i)

  ruled : meaning accesses (task scope depth (match p j x m y i)) (w, suc steps) ≡ told (w, steps)
  unfolding rule
  ruled = (term_begins accesses (task scope depth (match p j x m y i))).paid w steps ∙ asked_in_wide opcodes.Match w steps h.operands.wide told

  sought_so : start < length h.elements → told (w, steps) ≡ searched accesses depth k l u v source (length h.elements) (length h.elements - start) after
  unfolding match_rule value_at operand_value settle lift give go_on ◌>>=◌
  sought_so less = rw (h.operands.gives_package, h.operands.gives_first, h.operands.gives_second, h.operands.gives_start, begins_so after.0 j m k l one other u v h.t h.first h.second source start h.elements h.holds h.converts less) refl

  begun : start < count → meaning accesses (task scope depth (match p j x m y i)) (w, suc steps) ≡ searched accesses depth k l u v source count (count - start) after
  begun less = ruled ∙ (sought_so (omega (arith, less, h.counts)) ∙ ap (λ (n : ℕ). searched accesses depth k l u v source n (n - start) after) h.counts)

  refused_past : length h.elements ≤ start → told (w, steps) ≡ (Err (refusal.Evaluation IndexLimit), after)
  unfolding match_rule value_at operand_value settle lift give go_on ◌>>=◌
  refused_past past = rw (h.operands.gives_package, h.operands.gives_first, h.operands.gives_second, h.operands.gives_start, begins_past after.0 j m k l one other u v h.t h.first h.second source start h.elements h.holds h.converts past) refl

  pub value_found : (q : ℕ) (between : State S × ℕ) → ArePassed accesses depth k l u v source start after q between → q < count → (e : Element) (c : Content) (end : State S × ℕ) → ElementStands between.0 source q e → ElementHolds accesses depth between e c end → MeetsTests end.0 k l u v c
      → Gives accesses scope depth (match p j x m y i) (w, suc steps) q end
  value_found q between passed inside e c end st holds meets =
      let more = rises accesses depth k l u v source count start q after between passed in
      begun (omega (arith, more, inside)) ∙ found_at accesses depth k l u v source count start q after between passed inside e c end st holds meets

  pub no_value_found : start < count → (end : State S × ℕ) → ArePassed accesses depth k l u v source start after count end → Gives accesses scope depth (match p j x m y i) (w, suc steps) (2 ^ bits_of end.0.width - 1) end
  no_value_found less end passed = begun less ∙ none_at accesses depth k l u v source count start after end passed

  pub element_unread : (q : ℕ) (between : State S × ℕ) → ArePassed accesses depth k l u v source start after q between → q < count → (e : Element) (r : Refusal) (end : State S × ℕ) → ElementStands between.0 source q e → ElementRefuses accesses depth between e r end
      → IsRefused accesses scope depth (match p j x m y i) (w, suc steps) r end
  element_unread q between passed inside e r end st refuses =
      let more = rises accesses depth k l u v source count start q after between passed in
      begun (omega (arith, more, inside)) ∙ refused_at accesses depth k l u v source count start q after between passed inside e r end st refuses

  pub past_all : count ≤ start → IsRefused accesses scope depth (match p j x m y i) (w, suc steps) (refusal.Evaluation IndexLimit) after
  past_all past = ruled ∙ refused_past (omega (arith, past, h.counts))
