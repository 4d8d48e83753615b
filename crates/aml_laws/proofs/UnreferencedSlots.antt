-- Where nothing that evaluation can reach refers to a slot of a frame, evaluation in a later frame leaves it alone, and objects that can't
-- be reached; and so does a call.
use Rattle.std.specs.Prelude.{◌≡◌, ◌⊎◌, ◌<◌, ◌≤◌, ◌+◌, ◌==◌, nat_lt, ℕ, List, [], ◌∷◌, length, cond, not, Bool, true, false, Option, Some, None, Ok, Err, slice_get, refl}
use Rattle.std.specs.List.{position_or_len}
use Rattle.std.proofs.Common.{arith, ap, sym, subst, ◌∙◌, inl, inr}
use Rattle.std.proofs.lemmas.Bool.{eqb-true, eqb-false}
use Rattle.std.proofs.lemmas.List.Quantifiers.{position-Some}
use Rattle.ar_space.specs.Accesses.{Accesses}
use Rattle.aml_path.specs.declared.segment.Seg.{Seg}
use Rattle.aml_grammar.specs.Tree.{Trees}
use Rattle.aml_objects.specs.declared.value.Reference.{Reference}
use Rattle.aml_objects.specs.declared.value.Reference.TheVariants as reference
use Rattle.aml_objects.specs.declared.value.Slot.{Slot}
use Rattle.aml_objects.specs.declared.value.Value.{Value}
use Rattle.aml_objects.specs.declared.value.Value.TheVariants as value
use Rattle.aml_objects.specs.declared.object.Element.{Element}
use Rattle.aml_objects.specs.declared.object.Element.TheVariants as elements
use Rattle.aml_objects.specs.declared.object.Object.{Object}
use Rattle.aml_objects.specs.declared.object.Object.TheVariants as object
use Rattle.aml_objects.specs.declared.entry.MethodBody.{MethodBody}
use Rattle.aml_objects.specs.declared.entry.MethodBody.TheVariants.{Osi, Aml}
use Rattle.aml_objects.specs.declared.entry.NamedObject.{NamedObject}
use Rattle.aml_objects.specs.declared.entry.NamedObject.TheVariants as named
use Rattle.aml_world.specs.declared.state.frame.Frame.{Frame}
use Rattle.aml_world.specs.state.State.{State}
use Rattle.aml_world.specs.state.Slots.{slot_in, frame_index, slot_found, slot_at, slot_of}
use Rattle.aml_meaning.specs.declared.flow.Flow.{Flow}
use Rattle.aml_meaning.specs.declared.flow.Flow.TheVariants as flow
use Rattle.aml_meaning.specs.Tasks.{Task, in_turn}
use Rattle.aml_meaning.specs.Calls.{invoked}
use Rattle.aml_meaning.specs.Meaning.{meaning}
use Rattle.aml_laws.specs.AllWithin.{Each}
use Rattle.aml_laws.specs.Numbers.{numbers_of, first_or, RiseTo}
use Rattle.aml_laws.proofs.FrameNumbers.{numbers_length, term_is_balanced, list_is_balanced, call_is_balanced}
use Rattle.aml_laws.proofs.ValuesOfOperands.{FlowFits, call_maintains}
use Rattle.aml_laws.proofs.ValuesOfRules.{meaning_maintains, meaning_parts, list_maintains}
use Rattle.std.proofs.lemmas.Option.{slice_get-get_or, slice_get_within}
use Rattle.std.specs.FinMap.{get}
use Rattle.ar_space.specs.Outcome.{Outcome}
use Rattle.aml_laws.specs.Histories.{numbered_entry}
use Rattle.aml_laws.specs.Unreferenced.{FrameStands, FrameStandsBelow, object_of, Reaches, handed_in, name, field, other_frame, referred, element, ReachesObject, Unreferenced, values_given, LeavesAlone}
use Rattle.aml_laws.proofs.Claims.{Claim, apart_from, ReferenceFits, ValueFits, ElementFits, ObjectFits, BodyFits, NamedFits, FrameFits, LastOpen, AllFit, WorldFits, all_fit, world_fits}
use Rattle.aml_laws.proofs.Invariants.{each_map, each_at, each_from}
use Rattle.aml_objects.specs.Objects.{Objects}

-- the frame that a frame with the number is
abbrev Is : ℕ → Frame → Frame → Type 0
Is n frame f = f.number ≡ n → f ≡ frame

-- ---- numbers that rise

module _ (n next : ℕ) where
  first_is_below : (m : ℕ) (ms : List ℕ) → RiseTo next (m ∷ ms) → m < next
  first_is_below m [] rise = rise.0
  first_is_below m (k ∷ ks) rise = let l = rise.0 in let h = first_is_below k ks rise.1 in omega (arith, l, h)

  pub stands_below_next : (ns : List ℕ) → RiseTo next ns → FrameStands n ns → n < next
  stands_below_next [] rise there = absurd there
  stands_below_next (m ∷ ms) rise (inl same) = let l = first_is_below m ms rise in omega (arith, l, same)
  stands_below_next (m ∷ ms) rise (inr there) = stands_below_next ms rise.1 there

  pub below_stands : (ns : List ℕ) → FrameStandsBelow n ns → FrameStands n ns
  below_stands [] there = absurd there
  below_stands (m ∷ []) there = absurd there
  below_stands (m ∷ k ∷ ks) (inl same) = inl same
  below_stands (m ∷ k ∷ ks) (inr there) = inr (below_stands (k ∷ ks) there)

  module _ (exposed : Slot → Type 0) (frame : Frame) (seen : ℕ → Type 0) (objects : Objects) where
    last_is_above : (k : ℕ) (ks : List ℕ) → n < k → RiseTo next (k ∷ ks) → LastOpen (apart_from n exposed frame seen objects) (k ∷ ks)
    last_is_above k [] above rise = λ slot same. absurd (omega (arith, above, same))
    last_is_above k (j ∷ js) above rise = last_is_above j js (let l = rise.0 in omega (arith, above, l)) rise.1

    pub last_is_open : (ns : List ℕ) → RiseTo next ns → FrameStandsBelow n ns → LastOpen (apart_from n exposed frame seen objects) ns
    last_is_open [] rise there = absurd there
    last_is_open (m ∷ []) rise there = absurd there
    last_is_open (m ∷ k ∷ ks) rise (inl same) = last_is_above k ks (let l = rise.0 in omega (arith, l, same)) rise.1
    last_is_open (m ∷ k ∷ ks) rise (inr there) = last_is_open (k ∷ ks) rise.1 there

  -- ---- one frame has a number

  all_above : (m : ℕ) (frames : List Frame) → m < first_or next (numbers_of frames) → RiseTo next (numbers_of frames) → Each (λ f. m < f.number) frames
  all_above m [] above rise = tt
  all_above m (f ∷ fs) above rise = (above, all_above m fs (let l = rise.0 in omega (arith, above, l)) rise.1)

  pub one_frame : (frames : List Frame) → RiseTo next (numbers_of frames) → (frame : Frame) × Each (Is n frame) frames
  one_frame [] rise = (record { number = n; locals = []; arguments = [] }, tt)
  one_frame (x ∷ xs) rise = by_number (x.number == n) refl (one_frame xs rise.1)
    where
      by_number : (b : Bool) → (x.number == n) ≡ b → ((frame : Frame) × Each (Is n frame) xs) → (frame : Frame) × Each (Is n frame) (x ∷ xs)
      by_number true holds others = (x, (λ same. refl, each_map (λ f above same. let e = eqb-true x.number n holds in absurd (omega (arith, above, same, e))) xs (all_above x.number xs rise.0 rise.1)))
      by_number false fails others = (others.0, (λ same. absurd (eqb-false x.number n fails same), others.1))

-- ---- slots by number

module _ (n : ℕ) where
  abbrev Found : Frame → Bool
  Found f = f.number == n

  first_alike : (xs ys : List Frame) → numbers_of xs ≡ numbers_of ys → position_or_len Found xs ≡ position_or_len Found ys
  first_alike [] [] is = refl
  first_alike [] (y ∷ ys) is = absurd (cc is)
  first_alike (x ∷ xs) [] is = absurd (cc is)
  first_alike (x ∷ xs) (y ∷ ys) is =
      let same : x.number ≡ y.number = cc is in
      let others : numbers_of xs ≡ numbers_of ys = cc is in
      ap (λ k. cond (not (k == n)) (1 + position_or_len Found xs) 0) same ∙ ap (λ i. cond (not (y.number == n)) (1 + i) 0) (first_alike xs ys others)

  pub index_alike : (xs ys : List Frame) → numbers_of xs ≡ numbers_of ys → frame_index n xs ≡ frame_index n ys
  index_alike xs ys is =
      let lengths : length xs ≡ length ys = sym (numbers_length xs) ∙ ap length is ∙ numbers_length ys in
      ap (λ i. cond (nat_lt i (length xs)) (Some i) None) (first_alike xs ys is) ∙ ap (λ k. cond (nat_lt (position_or_len Found ys) k) (Some (position_or_len Found ys)) None) lengths

  module _ (slot : Slot) (frame : Frame) where
    -- a frame with the number holds in the slot what that frame holds
    abbrev pub Holds : Frame → Type 0
    Holds f = f.number ≡ n → slot_in f slot ≡ slot_in frame slot

    found_holds : (xs : List Frame) (k : ℕ) → frame_index n xs ≡ Some k → Each Holds xs → slot_found slot (slice_get xs k) ≡ Ok (slot_in frame slot)
    found_holds xs k is each =
        let p = position-Some Found xs k frame is in
        let there = slice_get-get_or xs k frame p.0 in
        ap (slot_found slot) there ∙ ap Ok (each_at Holds xs k _ each there (eqb-true _ n p.1))

    slots_by_index : (o : Option ℕ) (xs ys : List Frame) → frame_index n xs ≡ o → frame_index n ys ≡ o → Each Holds xs → Each Holds ys → slot_at slot xs o ≡ slot_at slot ys o
    slots_by_index None xs ys is are h k = refl
    slots_by_index (Some i) xs ys is are h k = found_holds xs i is h ∙ sym (found_holds ys i are k)

    pub same_slots : (xs ys : List Frame) → numbers_of xs ≡ numbers_of ys → Each Holds xs → Each Holds ys → slot_at slot xs (frame_index n xs) ≡ slot_at slot ys (frame_index n ys)
    same_slots xs ys is h k = slots_by_index (frame_index n xs) xs ys refl (sym (index_alike xs ys is)) h k ∙ ap (slot_at slot ys) (index_alike xs ys is)

-- ---- what is claimed: what is reached fits, where a slot of the frame is open if a reference to it is reached

module _ {S : Type 0} (n : ℕ) (frame : Frame) (w : State S) (handed : List Value) where
  -- an object that is reached, or is made from now on
  abbrev pub Seen : ℕ → Type 0
  Seen o = ReachesObject n w handed o ⊎ (length w.objects ≤ o)

  abbrev pub Referred : Slot → Type 0
  Referred slot = Reaches n w handed (value.Reference (reference.Slot slot n))

  abbrev pub K : Claim
  K = apart_from n Referred frame Seen w.objects

  seen_by : (v : Value) (o : ℕ) → Reaches n w handed v → object_of v ≡ Some o → Seen o
  seen_by v o reached is = inl (record { value = v; reached = reached; is = is })

  reference_claimed : (r : Reference) → Reaches n w handed (value.Reference r) → ReferenceFits K r
  reference_claimed (reference.Name number) reached = tt
  reference_claimed (reference.Slot slot number) reached = λ is. subst (λ m. Reaches n w handed (value.Reference (reference.Slot slot m))) is reached
  reference_claimed (reference.Element o i) reached = seen_by _ o reached refl
  reference_claimed (reference.Byte o i) reached = seen_by _ o reached refl

  value_claimed : (v : Value) → Reaches n w handed v → ValueFits K v
  value_claimed value.Uninitialized reached = tt
  value_claimed (value.Integer x) reached = λ measured. absurd measured
  value_claimed (value.String o) reached = seen_by _ o reached refl
  value_claimed (value.Buffer o) reached = seen_by _ o reached refl
  value_claimed (value.Package o) reached = seen_by _ o reached refl
  value_claimed (value.Reference r) reached = reference_claimed r reached

  element_claimed : (e : Element) → ((v : Value) → e ≡ elements.Value v → Reaches n w handed v) → ElementFits K e
  element_claimed (elements.Value v) reached = value_claimed v (reached v refl)
  element_claimed (elements.Name x scope) reached = tt

  elements_claimed : (o : ℕ) (es : List Element) → slice_get w.objects o ≡ Some (object.Package es) → Seen o → Each (ElementFits K) es
  elements_claimed o es at (inl r) = each_from es (λ i e there. element_claimed e (λ v is. element o i es r.value v r.reached r.is at (there ∙ ap Some is)))
  elements_claimed o es at (inr unused) = let within = slice_get_within w.objects o (object.Package es) at in absurd (omega (arith, within, unused))

  object_claimed : (number : ℕ) (o : Object) → slice_get w.objects number ≡ Some o → ObjectFits K number o
  object_claimed number (object.String bytes) at = λ measured. absurd measured
  object_claimed number (object.Buffer bytes) at = λ measured. absurd measured
  object_claimed number (object.Package es) at = (elements_claimed number es at, λ measured. absurd measured)

  body_claimed : (body : MethodBody) → BodyFits K body
  body_claimed Osi = tt
  body_claimed (Aml bytes) = λ measured. absurd measured

  named_claimed : (path : List Seg) (number : ℕ) (o : NamedObject) → get w.names.map path ≡ Some (numbered_entry number o) → NamedFits K o
  named_claimed path number (named.Data v) is = value_claimed v (name path number v is)
  named_claimed path number (named.FieldUnit u) is = λ measured. absurd measured
  named_claimed path number (named.BufferField b) is = (λ measured. absurd measured, seen_by _ b.buffer (field path number b is) refl)
  named_claimed path number (named.Method method) is = body_claimed method.body
  named_claimed path number _ is = tt

  slot_claimed : (b : Bool) (k : ℕ) (f : Frame) (slot : Slot) → slice_get w.frames k ≡ Some f → (f.number == n) ≡ b → (f.number ≡ n → Referred slot) → Reaches n w handed (slot_in f slot)
  slot_claimed true k f slot at holds is_open = let same = eqb-true f.number n holds in referred k f slot at same (is_open same)
  slot_claimed false k f slot at fails is_open = other_frame k f slot at (eqb-false f.number n fails)

  frame_claimed : (k : ℕ) (f : Frame) → slice_get w.frames k ≡ Some f → Is n frame f → FrameFits K f
  frame_claimed k f at is = (λ slot is_open. value_claimed _ (slot_claimed (f.number == n) k f slot at refl is_open), λ same slot hidden. ap (λ (g : Frame). slot_in g slot) (is same))

  pub handed_claimed : Each (ValueFits K) handed
  handed_claimed = each_from handed (λ i v at. value_claimed v (handed_in i v at))

  pub world_claimed : Each (Is n frame) w.frames → n < w.started → AllFit K w
  world_claimed frames below = record {
    wide = λ measured. absurd measured;
    names = λ path e is. named_claimed path e.number e.object is;
    objects = record { fit = object_claimed; kept = λ number o at unseen. at; enough = omega arith; unused = λ number le. inr le };
    frames = each_from w.frames (λ k f at. frame_claimed k f at (each_at (Is n frame) w.frames k f frames at));
    next = λ m le slot same. absurd (omega (arith, le, same, below));
  }

-- ---- and what is reached then refers to no other slot of it

module _ {S : Type 0} (L : Claim) (w : State S) (a : AllFit L w) where
  object_seen : (v : Value) (o : ℕ) → ValueFits L v → object_of v ≡ Some o → L.Seen o
  object_seen (value.String p) o h is = let same : p ≡ o = cc is in subst L.Seen same h
  object_seen (value.Buffer p) o h is = let same : p ≡ o = cc is in subst L.Seen same h
  object_seen (value.Package p) o h is = let same : p ≡ o = cc is in subst L.Seen same h
  object_seen (value.Reference (reference.Element p i)) o h is = let same : p ≡ o = cc is in subst L.Seen same h
  object_seen (value.Reference (reference.Byte p i)) o h is = let same : p ≡ o = cc is in subst L.Seen same h
  object_seen _ o h is = absurd (cc is)

  in_package : (o : ℕ) (es : List Element) → slice_get w.objects o ≡ Some (object.Package es) → L.Seen o → Each (ElementFits L) es
  in_package o es at there = (a.objects.fit o (object.Package es) at).0 there

  module _ (n : ℕ) (handed : List Value) (others : (slot : Slot) (m : ℕ) → (m ≡ n → ⊥) → L.Open slot m) (fit : Each (ValueFits L) handed) where
    slot_fits : (k : ℕ) (f : Frame) (slot : Slot) → slice_get w.frames k ≡ Some f → L.Open slot f.number → ValueFits L (slot_in f slot)
    slot_fits k f slot at is_open = (each_at (FrameFits L) w.frames k f a.frames at).0 slot is_open

    pub reached_fits : (v : Value) → Reaches n w handed v → ValueFits L v
    reached_fits _ (handed_in i v at) = each_at (ValueFits L) handed i v fit at
    reached_fits _ (name path number v is) = a.names path (numbered_entry number (named.Data v)) is
    reached_fits _ (field path number b is) = (a.names path (numbered_entry number (named.BufferField b)) is).1
    reached_fits _ (other_frame k f slot at other) = slot_fits k f slot at (others slot f.number other)
    reached_fits _ (referred k f slot at same reached) = slot_fits k f slot at (subst (L.Open slot) (sym same) (reached_fits _ reached))
    reached_fits _ (element o i es u v reached is at there) = each_at (ElementFits L) es i (elements.Value v) (in_package o es at (object_seen u o (reached_fits u reached) is)) there

module _ {S : Type 0} (n : ℕ) (frame : Frame) (before : State S) (handed : List Value) where
  abbrev L : Claim
  L = K n frame before handed

  given_fits : (r : Outcome Flow) → ((f : Flow) → r ≡ Ok f → FlowFits L f) → Each (ValueFits L) (values_given r)
  given_fits (Ok (flow.Value v)) h = (h (flow.Value v) refl, tt)
  given_fits (Ok (flow.Return v)) h = (h (flow.Return v) refl, tt)
  given_fits (Ok _) h = tt
  given_fits (Err e) h = tt

  unseen : (o : ℕ) → o < length before.objects → (ReachesObject n before handed o → ⊥) → Seen n frame before handed o → ⊥
  unseen o within apart (inl reached) = apart reached
  unseen o within apart (inr le) = absurd (omega (arith, within, le))

  kept_object : (after : State S) (o : ℕ) → AllFit L after → o < length before.objects → (ReachesObject n before handed o → ⊥) → slice_get after.objects o ≡ slice_get before.objects o
  kept_object after o b within apart =
      let enough = b.objects.enough in
      let there = slice_get-get_or after.objects o (object.String []) (omega (arith, within, enough)) in
      there ∙ sym (b.objects.kept o _ there (unseen o within apart))

  -- in a slot to which no reference is reached the frame holds what it held
  holds : (slot : Slot) → Unreferenced n before handed slot → (f : Frame) → FrameFits L f → Holds n slot frame f
  holds slot hidden f h same = h.1 same slot hidden

  pub leaves_alone : (r : Outcome Flow) (after : State S × ℕ) → AllFit L before → AllFit L after.0 → ((f : Flow) → r ≡ Ok f → FlowFits L f) → numbers_of after.0.frames ≡ numbers_of before.frames → LeavesAlone n before handed (r, after)
  unfolding slot_of
  leaves_alone r after a b gives same = record {
    slots = λ slot hidden. same_slots n slot frame after.0.frames before.frames same (each_map (holds slot hidden) after.0.frames b.frames) (each_map (holds slot hidden) before.frames a.frames);
    objects = λ o within apart. kept_object after.0 o b within apart;
    unreferenced = λ slot hidden reached. hidden (reached_fits L after.0 b n (values_given r) (λ other m apart is. absurd (apart is)) (given_fits r gives) _ reached refl);
  }

-- ---- evaluations and calls

module _ {S : Type 0} (accesses : Accesses S) (n : ℕ) (s : State S × ℕ) (handed : List Value) (rise : RiseTo s.0.started (numbers_of s.0.frames)) where
  one : (frame : Frame) × Each (Is n frame) s.0.frames
  one = one_frame n s.0.started s.0.frames rise

  abbrev M : Claim
  M = K n one.0 s.0 handed

  before_call : FrameStands n (numbers_of s.0.frames) → AllFit M s.0
  before_call there = world_claimed n one.0 s.0 handed one.1 (stands_below_next n s.0.started (numbers_of s.0.frames) rise there)

  before_term : FrameStandsBelow n (numbers_of s.0.frames) → WorldFits M s.0
  before_term there = world_fits (before_call (below_stands n s.0.started (numbers_of s.0.frames) there)) (last_is_open n s.0.started (Referred n one.0 s.0 handed) one.0 (Seen n one.0 s.0 handed) s.0.objects (numbers_of s.0.frames) rise there)

  pub term_leaves_alone : (t : Task) → FrameStandsBelow n (numbers_of s.0.frames) → LeavesAlone n s.0 handed (meaning accesses t s)
  term_leaves_alone t there =
      let a = before_term there in
      let g = (meaning_maintains S M accesses t (λ measured. absurd measured)).maintains s a in
      leaves_alone n one.0 s.0 handed _ _ (all_fit a) (all_fit g.state) g.gives (term_is_balanced accesses t s)

  pub list_leaves_alone : (scope : List Seg) (depth : ℕ) (ts : Trees) → FrameStandsBelow n (numbers_of s.0.frames) → LeavesAlone n s.0 handed (in_turn (meaning accesses) scope depth ts s)
  list_leaves_alone scope depth ts there =
      let a = before_term there in
      let g = (list_maintains S M accesses scope depth ts (λ measured. absurd measured)).maintains s a in
      leaves_alone n one.0 s.0 handed _ _ (all_fit a) (all_fit g.state) g.gives (list_is_balanced accesses scope depth ts s)

  pub call_leaves_alone : (depth : ℕ) (p : List Seg) (body : List ℕ) → FrameStands n (numbers_of s.0.frames) → LeavesAlone n s.0 handed (invoked (meaning accesses) depth p body handed s)
  call_leaves_alone depth p body there =
      let a = before_call there in
      let g = (call_maintains S M accesses (meaning accesses) (meaning_parts S M accesses) depth p body handed (λ measured. absurd measured) (handed_claimed n one.0 s.0 handed)).maintains s a in
      leaves_alone n one.0 s.0 handed _ _ a g.state g.gives (call_is_balanced accesses depth p body handed s)
