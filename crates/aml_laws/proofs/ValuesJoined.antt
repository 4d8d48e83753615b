-- What Concatenate, Mid and ToString form.
use Rattle.std.specs.Prelude.{◌≡◌, ◌≢◌, ◌⊎◌, ◌<◌, ◌≤◌, ◌-◌, ◌+◌, ◌==◌, ℕ, suc, min, List, [], ◌++◌, length, take, drop, slice_get, get_or, Bool, true, false, Some, Ok, Err, refl}
use Rattle.std.specs.List.{before_first, position_or_len}
use Rattle.std.proofs.Common.{inl, inr, arith, ap, sym, subst, ◌∙◌, append_assoc, length-drop}
use Rattle.std.proofs.lemmas.List.{take-append-drop, length-take, get_or-take, get_or-drop, drop_all}
use Rattle.std.proofs.lemmas.List.Sums.{fails_before_first, passes_at_first}
use Rattle.std.proofs.lemmas.Option.{slice_get_within, slice_get-get_or, get_or_from_slice_get}
use Rattle.std.proofs.lemmas.Bool.{eqb-true, cases_lt}
use Rattle.ar_space.specs.declared.integer_width.IntegerWidth.{IntegerWidth}
use Rattle.ar_space.specs.Accesses.{Accesses}
use Rattle.ar_space.specs.declared.refusal.Refusal.TheVariants as refusal
use Rattle.ar_space.specs.declared.refusal.EvaluationFault.TheVariants.{ObjectLimit}
use Rattle.ar_space.specs.Change.{give, settle, go_on, ◌>>=◌}
use Rattle.ar_space.specs.Outcome.{Outcome}
use Rattle.ar_space.specs.Outcome as outcome
use Rattle.aml_path.specs.declared.segment.Seg.{Seg}
use Rattle.aml_grammar.specs.declared.opcode.Opcode.TheVariants as opcodes
use Rattle.aml_grammar.specs.Tree.{Tree, Part}
use Rattle.aml_objects.specs.Contents.{Content, Integer, String, Buffer, Other, content_in}
use Rattle.aml_objects.specs.declared.object.Object.TheVariants as object
use Rattle.aml_objects.specs.declared.value.Value.{Value}
use Rattle.aml_objects.specs.declared.value.Value.TheVariants as value
use Rattle.aml_convert.specs.Conversions.{to_integer_of, to_text_of, to_buffer_of, integer_bytes}
use Rattle.aml_convert.specs.Concatenation.{concatenated, resources_joined}
use Rattle.aml_convert.specs.Strings.{string_of, part_of, middle_of}
use Rattle.aml_world.specs.declared.values.operation_kind.TwoOperands.TheVariants as two
use Rattle.aml_world.specs.state.State.{State, on_objects}
use Rattle.aml_world.specs.state.Run.{lift}
use Rattle.aml_world.specs.state.Readings.{integer_in}
use Rattle.aml_world.specs.values.Operations.{made_of, joined_contents, joined, joined_items, joined_resources}
use Rattle.aml_world.specs.values.WideOperations.{string_text, string_in, middle_content, middle_in}
use Rattle.aml_meaning.specs.declared.flow.Flow.TheVariants as flow
use Rattle.aml_meaning.specs.Tasks.{task, operand_value, value_at, two_values}
use Rattle.aml_meaning.specs.WideTerms.{formed_at, to_string_rule, middle_rule}
use Rattle.aml_meaning.specs.Evaluation.{rule}
use Rattle.aml_meaning.specs.Meaning.{meaning}
use Rattle.aml_laws.specs.MatchedValues.{Exceeds}
use Rattle.aml_laws.specs.OperatorTerms.{two_to, StoresTo, GivesValue, IsRefused}
use Rattle.aml_laws.specs.StoreTerms.{FormsTo}
use Rattle.aml_laws.specs.TestTerms.{TwoValues}
use Rattle.aml_laws.specs.JoinedTerms.{Fits, IsJoined, strings, buffers, integers, IsNew, new_string, new_buffer, middle, IsPart, TakesPart, HasBytes, of_string, of_buffer, of_integer, with_object, TakesText, IsTextOf}
use Rattle.aml_laws.proofs.TreesCost.{term_begins}
use Rattle.aml_laws.proofs.BeyondLimits.{no_string_made}
use Rattle.aml_laws.proofs.LimitsRefused.{no_buffer_made}
use Rattle.aml_laws.proofs.LimitsTaken.{string_made, buffer_made}
use Rattle.aml_laws.proofs.OperatorsComputed.{target_is, stored_at, two_gives}
use Rattle.aml_laws.proofs.TestsTold.{converted_so}
use Rattle.aml_laws.proofs.WideAsked.{asked_in_wide}

-- ---- new objects

abbrev bytes_in : Content → List ℕ
bytes_in (Integer n) = []
bytes_in (String bytes) = bytes
bytes_in (Buffer bytes) = bytes
bytes_in Other = []

module _ {S : Type 0} (w : State S) where
  new_made : (c : Content) (v : Value) (end : State S) → IsNew w c v end → Fits w (bytes_in c) → on_objects (made_of c) w ≡ (Ok v, end)
  unfolding on_objects
  new_made _ _ _ (new_string bytes) fits = rw (string_made bytes w.objects fits.0 fits.1) refl
  new_made _ _ _ (new_buffer bytes) fits = rw (buffer_made bytes w.objects fits.0 fits.1) refl

-- ---- Concatenate

joined_so : (width : IntegerWidth) (a b c : Content) (bytes : List ℕ) → IsJoined width a b c bytes → (concatenated width a b ≡ Ok c) × (bytes ≡ bytes_in c)
unfolding concatenated outcome.◌>>=◌
joined_so width _ _ _ _ (strings s t second is) = (rw is refl, refl)
joined_so width _ _ _ _ (buffers s t second is) = (rw is refl, refl)
joined_so width _ _ _ _ (integers n m s t second is first other) = let a : integer_bytes width n ≡ s = cc first in let b : integer_bytes width m ≡ t = cc other in (rw (is, a, b) refl, refl)

module _ {S : Type 0} (w : State S) (v u : Value) (c : Content) (bytes : List ℕ) (joins : IsJoined w.width (content_in w.objects v) (content_in w.objects u) c bytes) where
  pub joined_is : joined v u w ≡ on_objects (made_of c) w
  unfolding joined joined_contents go_on ◌>>=◌
  joined_is = rw (joined_so w.width (content_in w.objects v) (content_in w.objects u) c bytes joins).0 refl

  joined_to : (r : Value) (formed : State S) → IsNew w c r formed → Fits w bytes → joined v u w ≡ (Ok r, formed)
  joined_to r formed new fits = joined_is ∙ new_made w c r formed new (subst (λ bs. Fits w bs) (joined_so w.width (content_in w.objects v) (content_in w.objects u) c bytes joins).1 fits)

module _ {S : Type 0} (accesses : Accesses S) (scope : List Seg) (depth : ℕ) (x y : Tree) (w : State S) (steps : ℕ) (v u : Value) (after : State S × ℕ) (h : TwoValues accesses scope depth x y (w, steps) v u after) where
  pub joined_gives : (c : Content) (bytes : List ℕ) (r : Value) (formed end : State S) (p : Part) → IsJoined after.0.width (content_in after.0.objects v) (content_in after.0.objects u) c bytes → Fits after.0 bytes → IsNew after.0 c r formed → StoresTo scope p r formed end
      → GivesValue accesses scope depth (two_to opcodes.Concat x y p) (w, suc steps) r (end, after.1)
  joined_gives c bytes r formed end p joins fits new stores = two_gives accesses scope depth x y p two.Concatenate opcodes.Concat refl w steps h.between after v u h.first h.second r formed end (joined_to after.0 v u c bytes joins r formed new fits) stores

-- ---- ConcatenateResTemplate

module _ {S : Type 0} (w : State S) (v u : Value) (bytes : List ℕ) (joins : resources_joined (content_in w.objects v) (content_in w.objects u) ≡ Ok bytes) where
  resources_is : Fits w bytes → joined_resources v u w ≡ (Ok (value.Buffer (length w.objects)), with_object w (object.Buffer bytes))
  unfolding joined_resources joined_items on_objects go_on ◌>>=◌
  resources_is fits = rw (joins, buffer_made bytes w.objects fits.0 fits.1) refl

module _ {S : Type 0} (accesses : Accesses S) (scope : List Seg) (depth : ℕ) (x y : Tree) (w : State S) (steps : ℕ) (v u : Value) (after : State S × ℕ) (h : TwoValues accesses scope depth x y (w, steps) v u after) where
  pub resources_give : (bytes : List ℕ) (end : State S) (p : Part) → resources_joined (content_in after.0.objects v) (content_in after.0.objects u) ≡ Ok bytes → Fits after.0 bytes → StoresTo scope p (value.Buffer (length after.0.objects)) (with_object after.0 (object.Buffer bytes)) end
      → GivesValue accesses scope depth (two_to opcodes.ConcatRes x y p) (w, suc steps) (value.Buffer (length after.0.objects)) (end, after.1)
  resources_give bytes end p joins fits stores = two_gives accesses scope depth x y p two.ConcatenateResources opcodes.ConcatRes refl w steps h.between after v u h.first h.second (value.Buffer (length after.0.objects)) (with_object after.0 (object.Buffer bytes)) end (resources_is after.0 v u bytes joins fits) stores

-- ---- Mid

part_is : (i n : ℕ) (s : List ℕ) → IsPart i n s (take n (drop i s))
part_is i n s = record {
  front = take i s;
  back = drop n (drop i s);
  is = append_assoc (take i s) (take n (drop i s)) (drop n (drop i s)) ∙ (ap (λ l. take i s ++ l) (take-append-drop n (drop i s)) ∙ take-append-drop i s);
  begins = length-take i s;
  long = length-take n (drop i s) ∙ ap (min n) (length-drop i s);
}

middle_so : (width : IntegerWidth) (c b d : Content) (i n : ℕ) (whole : List ℕ) (made : List ℕ → Content) → HasBytes width c whole made → to_integer_of width b ≡ Ok i → to_integer_of width d ≡ Ok n → (middle_of width c b d ≡ Ok (made (take n (drop i whole)))) × ((bytes : List ℕ) → bytes ≡ bytes_in (made bytes))
unfolding middle_of part_of outcome.◌>>=◌
middle_so width _ b d i n _ _ (of_string s) starts counts = (rw (starts, counts) refl, λ bytes. refl)
middle_so width _ b d i n _ _ (of_buffer s) starts counts = (rw (starts, counts) refl, λ bytes. refl)
middle_so width _ b d i n _ _ (of_integer m s is) starts counts = let same : integer_bytes width m ≡ s = cc is in (rw (starts, counts, same) refl, λ bytes. refl)

part_not_made : {S : Type 0} (w : State S) (width : IntegerWidth) (c : Content) (whole bytes : List ℕ) (made : List ℕ → Content) → HasBytes width c whole made → Exceeds w bytes → on_objects (made_of (made bytes)) w ≡ (Err (refusal.Evaluation ObjectLimit), w)
unfolding on_objects
part_not_made w width _ _ bytes _ (of_string s) exceeds = rw (no_string_made bytes w.objects exceeds) refl
part_not_made w width _ _ bytes _ (of_buffer s) exceeds = rw (no_buffer_made bytes w.objects exceeds) refl
part_not_made w width _ _ bytes _ (of_integer n s is) exceeds = rw (no_buffer_made bytes w.objects exceeds) refl

module _ {S : Type 0} (accesses : Accesses S) (scope : List Seg) (depth : ℕ) (x y z : Tree) (w : State S) (steps : ℕ) (v : Value) (i n : ℕ) (after : State S × ℕ) (h : TakesPart accesses scope depth x y z (w, steps) v i n after) (whole : List ℕ) (made : List ℕ → Content) (has : HasBytes after.0.width (content_in after.0.objects v) whole made) where
  abbrev taken : List ℕ
  taken = take n (drop i whole)

  middle_is : middle_in v h.u h.r after.0 ≡ on_objects (made_of (made taken)) after.0
  unfolding middle_in middle_content go_on ◌>>=◌
  middle_is = rw (middle_so after.0.width (content_in after.0.objects v) (content_in after.0.objects h.u) (content_in after.0.objects h.r) i n whole made has (converted_so after.0 i h.u h.starts) (converted_so after.0 n h.r h.counts)).0 refl

  module _ (r : Value) (formed end : State S) (p : Part) (fits : Fits after.0 taken) (new : IsNew after.0 (made taken) r formed) (stores : StoresTo scope p r formed end) where
    middle_to : middle_in v h.u h.r after.0 ≡ (Ok r, formed)
    middle_to = middle_is ∙ new_made after.0 (made taken) r formed new (subst (λ bs. Fits after.0 bs) ((middle_so after.0.width (content_in after.0.objects v) (content_in after.0.objects h.u) (content_in after.0.objects h.r) i n whole made has (converted_so after.0 i h.u h.starts) (converted_so after.0 n h.r h.counts)).1 taken) fits)

    middle_by : middle_rule accesses (meaning accesses) scope depth (middle x y z p) (w, steps) ≡ (Ok (flow.Value r), (end, after.1))
    unfolding middle_rule two_values value_at operand_value settle lift give go_on ◌>>=◌
    middle_by = rw (h.operands.first, h.operands.second, h.third, middle_to) (stored_at accesses scope depth (middle x y z p) 3 formed after.1 p r end stores refl)

    middle_ruled : rule accesses (meaning accesses) (task scope depth (middle x y z p)) (w, steps) ≡ (Ok (flow.Value r), (end, after.1))
    unfolding rule
    middle_ruled = asked_in_wide opcodes.Mid w steps h.wide (middle_rule accesses (meaning accesses) scope depth (middle x y z p)) ∙ middle_by

    middle_gives : GivesValue accesses scope depth (middle x y z p) (w, suc steps) r (end, after.1)
    middle_gives = (term_begins accesses (task scope depth (middle x y z p))).paid w steps ∙ middle_ruled

  module _ (p : Part) (exceeds : Exceeds after.0 taken) where
    middle_too_long : middle_in v h.u h.r after.0 ≡ (Err (refusal.Evaluation ObjectLimit), after.0)
    middle_too_long = middle_is ∙ part_not_made after.0 after.0.width (content_in after.0.objects v) whole taken made has exceeds

    middle_stops_by : middle_rule accesses (meaning accesses) scope depth (middle x y z p) (w, steps) ≡ (Err (refusal.Evaluation ObjectLimit), after)
    unfolding middle_rule two_values value_at operand_value settle lift give go_on ◌>>=◌
    middle_stops_by = rw (h.operands.first, h.operands.second, h.third, middle_too_long) refl

    middle_stops : rule accesses (meaning accesses) (task scope depth (middle x y z p)) (w, steps) ≡ (Err (refusal.Evaluation ObjectLimit), after)
    unfolding rule
    middle_stops = asked_in_wide opcodes.Mid w steps h.wide (middle_rule accesses (meaning accesses) scope depth (middle x y z p)) ∙ middle_stops_by

    middle_refused : IsRefused accesses scope depth (middle x y z p) (w, suc steps) (refusal.Evaluation ObjectLimit) after
    middle_refused = (term_begins accesses (task scope depth (middle x y z p))).paid w steps ∙ middle_stops

  pub part_taken : (bytes : List ℕ) × IsPart i n whole bytes × ((r : Value) (formed end : State S) (p : Part) → Fits after.0 bytes → IsNew after.0 (made bytes) r formed → StoresTo scope p r formed end → GivesValue accesses scope depth (middle x y z p) (w, suc steps) r (end, after.1))
      × ((p : Part) → Exceeds after.0 bytes → IsRefused accesses scope depth (middle x y z p) (w, suc steps) (refusal.Evaluation ObjectLimit) after)
  part_taken = (taken, part_is i n whole, middle_gives, middle_refused)

-- ---- ToString

abbrev is_end : ℕ → Bool
is_end b = b == 0

abbrev place : List ℕ → ℕ
place bytes = position_or_len is_end bytes

plus_none : (k : ℕ) → k + 0 ≡ k
plus_none k = omega arith

module _ (n : ℕ) (bytes : List ℕ) where
  abbrev cut : List ℕ
  cut = take n (before_first is_end bytes)

  abbrev rest : List ℕ
  rest = drop n (before_first is_end bytes) ++ drop (place bytes) bytes

  all_bytes : cut ++ rest ≡ bytes
  all_bytes = sym (append_assoc cut (drop n (before_first is_end bytes)) (drop (place bytes) bytes)) ∙ (ap (λ l. l ++ drop (place bytes) bytes) (take-append-drop n (before_first is_end bytes)) ∙ take-append-drop (place bytes) bytes)

  cut_length : length cut ≡ min n (min (place bytes) (length bytes))
  cut_length = length-take n (before_first is_end bytes) ∙ ap (min n) (length-take (place bytes) bytes)

  no_end : (k : ℕ) → slice_get cut k ≢ Some 0
  no_end k e =
      let within = slice_get_within cut k 0 e in
      let low : k < n = omega (arith, within, cut_length) in
      let before : k < place bytes = omega (arith, within, cut_length) in
      let same : get_or bytes k 1 ≡ 0 = sym (get_or-take n (before_first is_end bytes) k 1 low ∙ get_or-take (place bytes) bytes k 1 before) ∙ get_or_from_slice_get cut k 0 1 e in
      let both : true ≡ false = sym (ap is_end same) ∙ fails_before_first is_end bytes k 1 before in
      absurd (cc both)

  at_end : (b : ℕ) → is_end b ≡ true → b ≡ 0
  at_end b e = eqb-true b 0 e

  rest_by : (place bytes < length bytes) ⊎ (length bytes ≤ place bytes) → drop n (before_first is_end bytes) ≡ [] → (rest ≡ []) ⊎ (slice_get rest 0 ≡ Some 0)
  rest_by (inl inside) none =
      let first : slice_get (drop (place bytes) bytes) 0 ≡ Some 0 =
      slice_get-get_or (drop (place bytes) bytes) 0 1 (omega (arith, length-drop (place bytes) bytes, inside))
      ∙ ap (λ b. Some b) (get_or-drop (place bytes) bytes 0 1 ∙ (ap (λ k. get_or bytes k 1) (plus_none (place bytes)) ∙ at_end (get_or bytes (place bytes) 1) (passes_at_first is_end bytes 1 inside)))
      in inr (ap (λ l. slice_get (l ++ drop (place bytes) bytes) 0) none ∙ first)
  rest_by (inr past) none = inl (ap (λ l. l ++ drop (place bytes) bytes) none ∙ drop_all (place bytes) bytes past)

  text_ends : length cut < n → (rest ≡ []) ⊎ (slice_get rest 0 ≡ Some 0)
  text_ends short = rest_by (cases_lt (place bytes) (length bytes)) (drop_all n (before_first is_end bytes) (omega (arith, short, length-take n (before_first is_end bytes))))

  text_is : IsTextOf n bytes cut
  text_is = record { back = rest; is = all_bytes; whole = no_end; few = omega (arith, cut_length); ends = text_ends }

module _ {S : Type 0} (accesses : Accesses S) (scope : List Seg) (depth : ℕ) (x y : Tree) (w : State S) (steps : ℕ) (bytes : List ℕ) (n : ℕ) (after : State S × ℕ) (h : TakesText accesses scope depth x y (w, steps) bytes n after) where
  string_so : string_of after.0.width (content_in after.0.objects h.v) (content_in after.0.objects h.u) ≡ Ok (cut n bytes)
  unfolding string_of outcome.◌>>=◌
  string_so = rw (h.source, converted_so after.0 n h.u h.counts) refl

  string_to : Fits after.0 (cut n bytes) → string_in h.v h.u after.0 ≡ (Ok (value.String (length after.0.objects)), with_object after.0 (object.String (cut n bytes)))
  unfolding string_in string_text on_objects go_on ◌>>=◌
  string_to fits = rw (string_so, string_made (cut n bytes) after.0.objects fits.0 fits.1) refl

  module _ (p : Part) (end : State S) (fits : Fits after.0 (cut n bytes)) (forms : FormsTo scope p (value.String (length after.0.objects)) (with_object after.0 (object.String (cut n bytes))) end) where
    string_by : to_string_rule accesses (meaning accesses) scope depth (two_to opcodes.ToString x y p) (w, steps) ≡ (Ok (flow.Value (value.String (length after.0.objects))), (end, after.1))
    unfolding to_string_rule two_values value_at operand_value formed_at settle lift give go_on ◌>>=◌
    string_by =
        rw (
          h.operands.first,
          h.operands.second,
          string_to fits,
          target_is accesses scope depth (two_to opcodes.ToString x y p) 2 (with_object after.0 (object.String (cut n bytes))) after.1 p forms.target forms.names refl,
          forms.is,
        ) refl

    string_ruled : rule accesses (meaning accesses) (task scope depth (two_to opcodes.ToString x y p)) (w, steps) ≡ (Ok (flow.Value (value.String (length after.0.objects))), (end, after.1))
    unfolding rule
    string_ruled = asked_in_wide opcodes.ToString w steps h.wide (to_string_rule accesses (meaning accesses) scope depth (two_to opcodes.ToString x y p)) ∙ string_by

    string_gives : GivesValue accesses scope depth (two_to opcodes.ToString x y p) (w, suc steps) (value.String (length after.0.objects)) (end, after.1)
    string_gives = (term_begins accesses (task scope depth (two_to opcodes.ToString x y p))).paid w steps ∙ string_ruled

  module _ (p : Part) (exceeds : Exceeds after.0 (cut n bytes)) where
    string_too_long : string_in h.v h.u after.0 ≡ (Err (refusal.Evaluation ObjectLimit), after.0)
    unfolding string_in string_text on_objects go_on ◌>>=◌
    string_too_long = rw (string_so, no_string_made (cut n bytes) after.0.objects exceeds) refl

    string_stops_by : to_string_rule accesses (meaning accesses) scope depth (two_to opcodes.ToString x y p) (w, steps) ≡ (Err (refusal.Evaluation ObjectLimit), after)
    unfolding to_string_rule two_values value_at operand_value settle lift give go_on ◌>>=◌
    string_stops_by = rw (h.operands.first, h.operands.second, string_too_long) refl

    string_stops : rule accesses (meaning accesses) (task scope depth (two_to opcodes.ToString x y p)) (w, steps) ≡ (Err (refusal.Evaluation ObjectLimit), after)
    unfolding rule
    string_stops = asked_in_wide opcodes.ToString w steps h.wide (to_string_rule accesses (meaning accesses) scope depth (two_to opcodes.ToString x y p)) ∙ string_stops_by

    string_refused : IsRefused accesses scope depth (two_to opcodes.ToString x y p) (w, suc steps) (refusal.Evaluation ObjectLimit) after
    string_refused = (term_begins accesses (task scope depth (two_to opcodes.ToString x y p))).paid w steps ∙ string_stops

  pub text_taken : (text : List ℕ) × IsTextOf n bytes text
      × ((p : Part) (end : State S) → Fits after.0 text → FormsTo scope p (value.String (length after.0.objects)) (with_object after.0 (object.String text)) end → GivesValue accesses scope depth (two_to opcodes.ToString x y p) (w, suc steps) (value.String (length after.0.objects)) (end, after.1))
      × ((p : Part) → Exceeds after.0 text → IsRefused accesses scope depth (two_to opcodes.ToString x y p) (w, suc steps) (refusal.Evaluation ObjectLimit) after)
  text_taken = (cut n bytes, text_is n bytes, string_gives, string_refused)
