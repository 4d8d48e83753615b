-- Readings, new objects, names and operators maintain that what a world holds fits a claim.
use Rattle.std.specs.Prelude.{◌≡◌, ◌^◌, ◌+◌, ◌-◌, ◌==◌, ℕ, List, slice_get, Bool, true, false, not, Option, Some, None, Ok, Err, refl, cond, if◌then◌else◌}
use Rattle.std.proofs.Common.{ap, sym, ◌∙◌, subst}
use Rattle.std.specs.Ordering.{eq_by_cmp}
use Rattle.std.specs.declared.cmp.Ordering.TheVariants.{Equal}
use Rattle.std.specs.FinMap.{get, get-insert, insert, retain_keys, get-retain_keys, contains_key}
use Rattle.ar_space.specs.declared.integer_width.IntegerWidth.{IntegerWidth}
use Rattle.ar_space.specs.declared.refusal.Refusal.{Refusal}
use Rattle.ar_space.specs.Outcome.{Outcome, seen}
use Rattle.ar_space.specs.Change.{Change}
use Rattle.aml_path.specs.declared.segment.Seg.{Seg}
use Rattle.aml_path.specs.Paths.{Name, path_cmp, is_below}
use Rattle.aml_objects.specs.Objects.{Objects}
use Rattle.aml_objects.specs.Contents.{Content, Integer, String, Buffer, Other, content_in}
use Rattle.aml_objects.specs.Contents as held
use Rattle.aml_objects.specs.declared.object.Element.{Element}
use Rattle.aml_objects.specs.declared.object.Element.TheVariants as element
use Rattle.aml_objects.specs.declared.object.Object.{Object}
use Rattle.aml_objects.specs.declared.object.Object.TheVariants as object
use Rattle.aml_objects.specs.declared.value.Value.{Value}
use Rattle.aml_objects.specs.declared.value.Value.TheVariants as value
use Rattle.aml_objects.specs.declared.entry.Entry.{Entry}
use Rattle.aml_objects.specs.declared.entry.MethodFlags.{MethodFlags}
use Rattle.aml_objects.specs.declared.entry.NamedObject.{NamedObject}
use Rattle.aml_convert.specs.declared.operators.Division.{Division}
use Rattle.ar_space.specs.declared.refusal.Refusal.TheVariants as refusal
use Rattle.ar_space.specs.declared.refusal.EvaluationFault.TheVariants.{ObjectLimit}
use Rattle.ar_space.specs.declared.refusal.NamespaceFault.TheVariants.{Exists, NotFound}
use Rattle.aml_namespace.specs.Namespace.{above, Map, Namespace, declared, replaced, replaced_in}
use Rattle.aml_namespace.specs.Search.{Found, found}
use Rattle.aml_namespace.proofs.Paths.{path_total, only_equal}
use Rattle.aml_world.specs.state.State.{State, on_objects, on_names}
use Rattle.aml_world.specs.state.Readings.{integer_kept, integer_in, read_as, entry_found, path_found, scope_found, arguments_found}
use Rattle.aml_world.specs.state.NewObjects.{within as at_most, new_buffer, new_package, sized, filled}
use Rattle.aml_world.specs.state.Declaring.{not_in_method, new_name, new_method}
use Rattle.aml_laws.proofs.FoundNamesStand.{FoundStands, found_stands}
use Rattle.aml_laws.proofs.ReadingStepsGiveBytes.{Any}
use Rattle.aml_laws.proofs.Invariants.{Maintained, Maintains, ok_fits, ok_maintained, settled_maintained, give_maintains, stop_maintains, settle_maintains, then_maintains, each_append, each_replicate, joined_bytes, zero_bytes}
use Rattle.aml_laws.proofs.ValuesOfObjects.{make_string_maintains, make_buffer_maintains, make_package_maintains}
use Rattle.aml_laws.proofs.IntegersOfContents.{ContentFits, content_is_within, concatenated_fits, buffer_is_bytes}
use Rattle.aml_convert.specs.Integers.{truncated, truth}
use Rattle.aml_convert.specs.declared.operators.BinaryOperator.{BinaryOperator}
use Rattle.aml_convert.specs.declared.operators.UnaryOperator.{UnaryOperator}
use Rattle.aml_convert.specs.declared.logic.LogicalOperator.{LogicalOperator}
use Rattle.aml_convert.specs.declared.logic.Comparison.{Comparison}
use Rattle.aml_convert.specs.Operators.{unary_result_of, logical_result_of, lnot, holds}
use Rattle.aml_world.specs.state.Osi.{is_known, osi_answer, osi_answered}
use Rattle.aml_world.specs.values.Operations.{as_integer, integers_operated, operated, divided_in, integer_operated, operated_on_one, integers_tested, operated_logically, integer_lnot, lnot_in, incremented, decremented, compared_in, made_of, joined_contents, joined, to_integer_in, buffer_bytes, new_buffer_of, to_buffer_in}
use Rattle.aml_laws.specs.Within.{WithinWidth, WithinContent}
use Rattle.aml_laws.specs.AllWithin.{Each}
use Rattle.aml_laws.proofs.IntegersOfOperators.{truncated_fits, to_integer_fits, binary_result_fits, unary_result_fits, logical_result_fits, explicit_integer_fits, truth_fits, division_by_cases}
use Rattle.aml_laws.proofs.Claims.{Claim, IntegerFits, ValueFits, AreClaimedBytes, ElementFits, ObjectsFit, NamedFits, WorldFits}

below_alike : (p r x : List Seg) → path_cmp r x ≡ Equal → not (is_below p x) ≡ not (is_below p r)
below_alike p r x e = ap (λ y. not (is_below p y)) (sym (only_equal r x e))

module _ (claim : Claim) where
  abbrev pub EntryFits : Entry → Type 0
  EntryFits e = NamedFits claim e.object

  abbrev pub FoundFits : List Seg × Entry → Type 0
  FoundFits x = NamedFits claim x.1.object

  put_fits_by_cases : (b : Bool) (v e : Entry) (o : Option Entry) → NamedFits claim v.object → ((x : Entry) → o ≡ Some x → NamedFits claim x.object) → cond b (Some v) o ≡ Some e → NamedFits claim e.object
  put_fits_by_cases true v e o f g is = let same : v ≡ e = cc is in subst EntryFits same f
  put_fits_by_cases false v e o f g is = g e is

  insert_fits : (m : Map) (q : List Seg) (v : Entry) → ((path : List Seg) (e : Entry) → get m path ≡ Some e → NamedFits claim e.object) → NamedFits claim v.object → (path : List Seg) (e : Entry) → get (insert m q v) path ≡ Some e → NamedFits claim e.object
  insert_fits m q v h f path e is = put_fits_by_cases (eq_by_cmp path_cmp path q) v e (get m path) f (λ x. h path x) (sym (get-insert path_total m q v path) ∙ is)

  kept_by_cases : (b : Bool) (o : Option Entry) (e : Entry) → cond b o None ≡ Some e → o ≡ Some e
  kept_by_cases true o e h = h
  kept_by_cases false o e h = absurd (cc h)

  pub fewer_names_fit : (m : Map) (q : List Seg) → ((path : List Seg) (e : Entry) → get m path ≡ Some e → NamedFits claim e.object) → (path : List Seg) (e : Entry) → get (retain_keys m (λ x. not (is_below q x))) path ≡ Some e → NamedFits claim e.object
  fewer_names_fit m q h path e is = h path e (kept_by_cases (not (is_below q path)) (get m path) e (sym (get-retain_keys m (λ x. not (is_below q x)) path (below_alike q path)) ∙ is))

module _ (S : Type 0) (claim : Claim) where
  abbrev pub WorldWithin : State S → Type 0
  WorldWithin w = WorldFits claim w

  -- ---- changes of a world

  pub on_objects_maintains : {A : Type 0} {Fit : A → Type 0} (m : Change Objects A) → Maintains (ObjectsFit claim) Fit m → Maintains WorldWithin Fit (on_objects m)
  unfolding on_objects
  on_objects_maintains m h = record { maintains = λ w i. let g = h.maintains w.objects i.objects in record { state = record { wide = i.wide; names = i.names; objects = g.state; frames = i.frames; next = i.next; latest = i.latest }; gives = g.gives } }

  declared_maintained : (b c d : Bool) (e f g : Refusal) (q : List Seg) (o : NamedObject) (w : State S) → WorldWithin w → NamedFits claim o
      → Maintained WorldWithin Any ((if◌then◌else◌ {A = Outcome ℕ × Namespace} b (if c then (Err e, w.names) else (if d then (Err f, w.names) else (Ok w.names.next, record { map = insert w.names.map q (record { number = w.names.next; object = o }); next = w.names.next + 1 }))) (Err g, w.names)).0, record w { names = (if◌then◌else◌ {A = Outcome ℕ × Namespace} b (if c then (Err e, w.names) else (if d then (Err f, w.names) else (Ok w.names.next, record { map = insert w.names.map q (record { number = w.names.next; object = o }); next = w.names.next + 1 }))) (Err g, w.names)).1 })
  declared_maintained true true d e f g q o w i fit = settled_maintained _ w i (λ a is. tt)
  declared_maintained true false true e f g q o w i fit = settled_maintained _ w i (λ a is. tt)
  declared_maintained true false false e f g q o w i fit = settled_maintained _ _ (record { wide = i.wide; names = insert_fits claim w.names.map q _ i.names fit; objects = i.objects; frames = i.frames; next = i.next; latest = i.latest }) (λ a is. tt)
  declared_maintained false c d e f g q o w i fit = settled_maintained _ w i (λ a is. tt)

  pub declared_maintains : (q : List Seg) (o : NamedObject) → NamedFits claim o → Maintains WorldWithin Any (on_names (declared q o))
  unfolding on_names declared
  declared_maintains q o fit = record { maintains = λ w i. declared_maintained (contains_key w.names.map (above q)) (contains_key w.names.map q) (w.names.next == 2 ^ 64 - 1) (refusal.Namespace Exists) (refusal.Evaluation ObjectLimit) (refusal.Namespace NotFound) q o w i fit }

  replaced_maintained : (q : List Seg) (o : NamedObject) (w : State S) (e : Option Entry) → WorldWithin w → NamedFits claim o → Maintained WorldWithin Any ((replaced_in q o w.names e).0, record w { names = (replaced_in q o w.names e).1 })
  replaced_maintained q o w None i fit = settled_maintained _ w i (λ a is. tt)
  replaced_maintained q o w (Some e) i fit = settled_maintained _ _ (record { wide = i.wide; names = insert_fits claim w.names.map q _ i.names fit; objects = i.objects; frames = i.frames; next = i.next; latest = i.latest }) (λ a is. tt)

  pub replaced_maintains : (q : List Seg) (o : NamedObject) → NamedFits claim o → Maintains WorldWithin Any (on_names (replaced q o))
  unfolding on_names replaced
  replaced_maintains q o fit = record { maintains = λ w i. replaced_maintained q o w (get w.names.map q) i fit }

  -- ---- what values hold, and what names find

  string_held_fits : (objects : Objects) (n : ℕ) (o : Option Object) → claim.Measured → ObjectsFit claim objects → slice_get objects n ≡ o → ContentFits claim.width (held.string_held o)
  string_held_fits objects n None m h at = tt
  string_held_fits objects n (Some (object.String bs)) m h at = (h.fit n _ at m).0
  string_held_fits objects n (Some (object.Buffer bs)) m h at = tt
  string_held_fits objects n (Some (object.Package es)) m h at = tt

  buffer_held_fits : (objects : Objects) (n : ℕ) (o : Option Object) → claim.Measured → ObjectsFit claim objects → slice_get objects n ≡ o → ContentFits claim.width (held.buffer_held o)
  buffer_held_fits objects n None m h at = tt
  buffer_held_fits objects n (Some (object.String bs)) m h at = tt
  buffer_held_fits objects n (Some (object.Buffer bs)) m h at = (h.fit n _ at m).0
  buffer_held_fits objects n (Some (object.Package es)) m h at = tt

  pub content_in_fits : (w : State S) (v : Value) → WorldWithin w → ValueFits claim v → claim.Measured → ContentFits claim.width (content_in w.objects v)
  content_in_fits w value.Uninitialized i f m = tt
  content_in_fits w (value.Integer n) i f m = f m
  content_in_fits w (value.String o) i f m = string_held_fits w.objects o _ m i.objects refl
  content_in_fits w (value.Buffer o) i f m = buffer_held_fits w.objects o _ m i.objects refl
  content_in_fits w (value.Package o) i f m = tt
  content_in_fits w (value.Reference r) i f m = tt

  -- at the width of the world, which is the claim's where integers are measured
  pub own_content_fits : (w : State S) (v : Value) → WorldWithin w → ValueFits claim v → claim.Measured → ContentFits w.width (content_in w.objects v)
  own_content_fits w v i f m = subst (λ (x : IntegerWidth). ContentFits x (content_in w.objects v)) (sym (i.wide m)) (content_in_fits w v i f m)

  pub own_content_within : (w : State S) (v : Value) → WorldWithin w → ValueFits claim v → claim.Measured → WithinContent w.width (content_in w.objects v)
  own_content_within w v i f m = content_is_within w.width _ (own_content_fits w v i f m)

  pub integer_at_width : (w : State S) (n : ℕ) → WorldWithin w → (claim.Measured → WithinWidth w.width (value.Integer n)) → IntegerFits claim n
  integer_at_width w n i h m = subst (λ (x : IntegerWidth). WithinWidth x (value.Integer n)) (i.wide m) (h m)

  integer_at_own_width : (w : State S) (n : ℕ) → WorldWithin w → IntegerFits claim n → claim.Measured → WithinWidth w.width (value.Integer n)
  integer_at_own_width w n i h m = subst (λ (x : IntegerWidth). WithinWidth x (value.Integer n)) (sym (i.wide m)) (h m)

  pub integer_kept_maintains : (n : ℕ) → Maintains WorldWithin (ValueFits claim) (integer_kept n)
  unfolding integer_kept
  integer_kept_maintains n = record { maintains = λ w i. ok_maintained (value.Integer (truncated w.width n)) w i (integer_at_width w (truncated w.width n) i (λ m. truncated_fits w.width n)) }

  pub integer_in_maintains : (v : Value) → ValueFits claim v → Maintains WorldWithin (IntegerFits claim) (integer_in v)
  unfolding integer_in
  integer_in_maintains v f = record { maintains = λ w i. settled_maintained _ w i (λ n e. integer_at_width w n i (λ m. to_integer_fits w.width _ n (own_content_within w v i f m) e)) }

  pub read_as_fits : (n : ℕ) (v : Value) → ValueFits claim v → ValueFits claim (read_as n v)
  read_as_fits n value.Uninitialized f = tt
  read_as_fits n (value.Integer x) f = f
  read_as_fits n (value.String o) f = f
  read_as_fits n (value.Buffer o) f = f
  read_as_fits n (value.Package o) f = f
  read_as_fits n (value.Reference r) f = tt

  pub seen_entry_fits : (m : Map) (r : Outcome Found) (e : Entry) → ((path : List Seg) (x : Entry) → get m path ≡ Some x → NamedFits claim x.object) → ((f : Found) → r ≡ Ok f → FoundStands m f) → seen (λ f. f.1) r ≡ Ok e → EntryFits claim e
  seen_entry_fits m (Ok f) e h s is = ok_fits (EntryFits claim) f.1 e is (h f.0 f.1 (s f refl).there)
  seen_entry_fits m (Err x) e h s is = absurd (cc is)

  pub entry_found_maintains : (scope : List Seg) (n : Name) → Maintains WorldWithin (EntryFits claim) (entry_found scope n)
  unfolding entry_found
  entry_found_maintains scope n = record { maintains = λ w i. settled_maintained _ w i (λ e is. seen_entry_fits w.names.map (found w.names.map scope n) e i.names (found_stands w.names.map scope n) is) }

  pub path_found_maintains : (scope : List Seg) (n : Name) → Maintains WorldWithin Any (path_found scope n)
  unfolding path_found
  path_found_maintains scope n = record { maintains = λ w i. settled_maintained _ w i (λ e is. tt) }

  pub scope_found_maintains : (scope : List Seg) (n : Name) → Maintains WorldWithin Any (scope_found scope n)
  unfolding scope_found
  scope_found_maintains scope n = then_maintains _ _ (entry_found_maintains scope n) (λ e f. then_maintains _ _ (settle_maintains {Fit = Any} _ (λ a is. tt)) (λ u v. path_found_maintains scope n))

  pub arguments_found_maintains : (scope : List Seg) (n : Name) → Maintains WorldWithin Any (arguments_found scope n)
  unfolding arguments_found
  arguments_found_maintains scope n = then_maintains _ _ (entry_found_maintains scope n) (λ e f. give_maintains _ tt)

  -- ---- new objects and names

  pub at_most_maintains : (most n : ℕ) → Maintains WorldWithin Any (at_most most n)
  unfolding at_most
  at_most_maintains most n = record { maintains = λ w i. settled_maintained _ w i (λ a is. tt) }

  pub new_buffer_maintains : (n : ℕ) (bytes : List ℕ) → AreClaimedBytes claim bytes → Maintains WorldWithin (ValueFits claim) (new_buffer n bytes)
  unfolding new_buffer
  new_buffer_maintains n bytes h = then_maintains _ _ (at_most_maintains _ n) (λ u v. on_objects_maintains _ (make_buffer_maintains claim (sized n bytes) (λ m. joined_bytes bytes _ (h m) (zero_bytes _))))

  pub new_package_maintains : (n : ℕ) (es : List Element) → Each (ElementFits claim) es → Maintains WorldWithin (ValueFits claim) (new_package n es)
  unfolding new_package
  new_package_maintains n es h = on_objects_maintains _ (make_package_maintains claim (filled n es) (each_append (ElementFits claim) es _ h (each_replicate (ElementFits claim) _ (element.Value value.Uninitialized) tt)))

  pub new_name_maintains : (module_level : Bool) (q : List Seg) (o : NamedObject) → NamedFits claim o → Maintains WorldWithin Any (new_name module_level q o)
  unfolding new_name not_in_method
  new_name_maintains module_level q o f = then_maintains {Fit = Any} _ _ (record { maintains = λ w i. settled_maintained _ w i (λ a is. tt) }) (λ u v. declared_maintains q o f)

  pub new_method_maintains : (module_level : Bool) (q : List Seg) (flags : MethodFlags) (body : List ℕ) → AreClaimedBytes claim body → Maintains WorldWithin Any (new_method module_level q flags body)
  unfolding new_method
  new_method_maintains module_level q flags body h = new_name_maintains module_level q _ h

  -- ---- operators

  -- integers that are formed
  formed_integer_fits : {A : Type 0} (w : State S) (form : A → ℕ) (r : Outcome A) (v : Value) → WorldWithin w → ((a : A) → r ≡ Ok a → claim.Measured → WithinWidth w.width (value.Integer (form a))) → seen (λ a. value.Integer (form a)) r ≡ Ok v → ValueFits claim v
  formed_integer_fits w form (Ok a) v i h e = ok_fits (ValueFits claim) (value.Integer (form a)) v e (integer_at_width w (form a) i (h a refl))
  formed_integer_fits w form (Err x) v i h e = absurd (cc e)

  pub as_integer_fits : (r : Outcome ℕ) (v : Value) → ((n : ℕ) → r ≡ Ok n → IntegerFits claim n) → as_integer r ≡ Ok v → ValueFits claim v
  as_integer_fits (Ok n) v h e = ok_fits (ValueFits claim) (value.Integer n) v e (h n refl)
  as_integer_fits (Err x) v h e = absurd (cc e)

  pub seen_integer_fits : (w : State S) (r : Outcome ℕ) (v : Value) → WorldWithin w → ((n : ℕ) → r ≡ Ok n → claim.Measured → WithinWidth w.width (value.Integer n)) → as_integer r ≡ Ok v → ValueFits claim v
  seen_integer_fits w r v i h e = as_integer_fits r v (λ n is. integer_at_width w n i (h n is)) e

  osi_answer_fits : (w : State S) (c : Content) (v : Value) → WorldWithin w → osi_answer w.width w.osi c ≡ Ok v → ValueFits claim v
  osi_answer_fits w (String text) v i e = ok_fits (ValueFits claim) _ v e (integer_at_width w _ i (λ m. truth_fits w.width (is_known w.osi text)))
  osi_answer_fits w (Integer n) v i e = absurd (cc e)
  osi_answer_fits w (Buffer bytes) v i e = absurd (cc e)
  osi_answer_fits w Other v i e = absurd (cc e)

  -- an operator that changes no world but by new objects
  pub operated_maintains : (op : BinaryOperator) (a b : Value) → ValueFits claim a → ValueFits claim b → Maintains WorldWithin (ValueFits claim) (operated op a b)
  unfolding operated integers_operated
  operated_maintains op a b f g =
      then_maintains _ _ (integer_in_maintains a f) (λ x fx. then_maintains _ _ (integer_in_maintains b g) (λ y fy. record { maintains = λ w i. settled_maintained _ w i (λ v e. seen_integer_fits w _ v i (λ n is m. binary_result_fits op w.width x y n (integer_at_own_width w x i fx m) (integer_at_own_width w y i fy m) is) e) }))

  abbrev pub Divided : Division → Type 0
  Divided d = IntegerFits claim d.quotient × IntegerFits claim d.remainder

  pub divided_in_maintains : (a b : Value) → ValueFits claim a → ValueFits claim b → Maintains WorldWithin Divided (divided_in a b)
  unfolding divided_in
  divided_in_maintains a b f g =
      then_maintains _ _ (integer_in_maintains a f) (λ x fx. then_maintains _ _ (integer_in_maintains b g) (λ y fy. settle_maintains _ (λ d e. (λ m. (division_by_cases claim.width (y == 0) _ x y d (fx m) e).0, λ m. (division_by_cases claim.width (y == 0) _ x y d (fx m) e).1))))

  pub operated_on_one_maintains : (op : UnaryOperator) (a : Value) → ValueFits claim a → Maintains WorldWithin (ValueFits claim) (operated_on_one op a)
  unfolding operated_on_one integer_operated
  operated_on_one_maintains op a f = then_maintains _ _ (integer_in_maintains a f) (λ x fx. record { maintains = λ w i. ok_maintained (value.Integer (unary_result_of op w.width x)) w i (integer_at_width w _ i (λ m. unary_result_fits op w.width x)) })

  pub operated_logically_maintains : (op : LogicalOperator) (a b : Value) → ValueFits claim a → ValueFits claim b → Maintains WorldWithin (ValueFits claim) (operated_logically op a b)
  unfolding operated_logically integers_tested
  operated_logically_maintains op a b f g =
      then_maintains _ _ (integer_in_maintains a f) (λ x fx. then_maintains _ _ (integer_in_maintains b g) (λ y fy. record { maintains = λ w i. ok_maintained (value.Integer (logical_result_of op w.width x y)) w i (integer_at_width w _ i (λ m. logical_result_fits op w.width x y)) }))

  pub lnot_maintains : (a : Value) → ValueFits claim a → Maintains WorldWithin (ValueFits claim) (lnot_in a)
  unfolding lnot_in integer_lnot
  lnot_maintains a f = then_maintains _ _ (integer_in_maintains a f) (λ x fx. record { maintains = λ w i. ok_maintained (value.Integer (lnot w.width x)) w i (integer_at_width w _ i (λ m. truth_fits w.width (x == 0))) })

  pub incremented_maintains : (n : ℕ) → Maintains WorldWithin (ValueFits claim) (incremented n)
  unfolding incremented
  incremented_maintains n = record { maintains = λ w i. ok_maintained (value.Integer (truncated w.width (n + 1))) w i (integer_at_width w _ i (λ m. truncated_fits w.width (n + 1))) }

  pub decremented_maintains : (n : ℕ) → Maintains WorldWithin (ValueFits claim) (decremented n)
  unfolding decremented
  decremented_maintains n = record { maintains = λ w i. settled_maintained _ w i (λ v e. ok_fits (ValueFits claim) _ v e (integer_at_width w _ i (λ m. truncated_fits w.width _))) }

  pub compared_in_maintains : (c : Comparison) (a b : Value) → Maintains WorldWithin (ValueFits claim) (compared_in c a b)
  unfolding compared_in
  compared_in_maintains c a b = record { maintains = λ w i. settled_maintained _ w i (λ v e. formed_integer_fits w (λ o. truth w.width (holds c o)) _ v i (λ o is m. truth_fits w.width (holds c o)) e) }

  pub osi_answered_maintains : (arguments : List Value) → Maintains WorldWithin (ValueFits claim) (osi_answered arguments)
  unfolding osi_answered
  osi_answered_maintains arguments = record { maintains = λ w i. settled_maintained _ w i (λ v e. osi_answer_fits w _ v i e) }

  pub made_of_maintains : (c : Content) → (claim.Measured → ContentFits claim.width c) → Maintains WorldWithin (ValueFits claim) (on_objects (made_of c))
  made_of_maintains (Integer n) h = on_objects_maintains _ (give_maintains _ h)
  made_of_maintains (String bs) h = on_objects_maintains _ (make_string_maintains claim bs h)
  made_of_maintains (Buffer bs) h = on_objects_maintains _ (make_buffer_maintains claim bs h)
  made_of_maintains Other h = on_objects_maintains _ (stop_maintains _)

  -- what is formed at the width of the world
  abbrev pub ClaimedContent : Content → Type 0
  ClaimedContent c = claim.Measured → ContentFits claim.width c

  pub content_formed : (w : State S) (c : Content) → WorldWithin w → (claim.Measured → ContentFits w.width c) → ClaimedContent c
  content_formed w c i h m = subst (λ (x : IntegerWidth). ContentFits x c) (i.wide m) (h m)

  pub joined_maintains : (a b : Value) → ValueFits claim a → ValueFits claim b → Maintains WorldWithin (ValueFits claim) (joined a b)
  unfolding joined joined_contents
  joined_maintains a b f g =
      then_maintains {Fit = ClaimedContent} _ _ (record { maintains = λ w i. settled_maintained _ w i (λ c e. content_formed w c i (λ m. concatenated_fits w.width _ _ c (own_content_fits w a i f m) (own_content_fits w b i g m) e)) }) (λ c h. made_of_maintains c h)

  pub buffer_bytes_maintains : (a : Value) → ValueFits claim a → Maintains WorldWithin (AreClaimedBytes claim) (buffer_bytes a)
  unfolding buffer_bytes
  buffer_bytes_maintains a f = record { maintains = λ w i. settled_maintained _ w i (λ bs e m. buffer_is_bytes w.width _ bs (own_content_fits w a i f m) e) }

  pub new_buffer_of_maintains : (a : Value) → ValueFits claim a → Maintains WorldWithin (ValueFits claim) (new_buffer_of a)
  unfolding new_buffer_of
  new_buffer_of_maintains a f = then_maintains _ _ (buffer_bytes_maintains a f) (λ bs h. on_objects_maintains _ (make_buffer_maintains claim bs h))

  pub to_buffer_in_maintains : (a : Value) → ValueFits claim a → Maintains WorldWithin (ValueFits claim) (to_buffer_in a)
  to_buffer_in_maintains (value.Buffer o) f = give_maintains _ f
  to_buffer_in_maintains value.Uninitialized f = new_buffer_of_maintains _ f
  to_buffer_in_maintains (value.Integer n) f = new_buffer_of_maintains _ f
  to_buffer_in_maintains (value.String o) f = new_buffer_of_maintains _ f
  to_buffer_in_maintains (value.Package o) f = new_buffer_of_maintains _ f
  to_buffer_in_maintains (value.Reference r) f = new_buffer_of_maintains _ f

  pub to_integer_in_maintains : (a : Value) → ValueFits claim a → Maintains WorldWithin (ValueFits claim) (to_integer_in a)
  unfolding to_integer_in
  to_integer_in_maintains a f = record { maintains = λ w i. settled_maintained _ w i (λ v e. seen_integer_fits w _ v i (λ n is m. explicit_integer_fits w.width _ n (own_content_within w a i f m) is) e) }
