-- Operands, lists of terms, calls of control methods and fields maintain that what a world holds fits a claim, where parts do.
use Rattle.std.specs.Prelude.{◌≡◌, ◌≤◌, ◌+◌, ◌-◌, ◌^◌, ◌==◌, ℕ, zero, suc, List, [], ◌∷◌, slice_index_or, Bool, true, false, Option, Some, None, Ok, Err, refl, if◌then◌else◌, replicate}
use Rattle.ar_space.specs.Accesses.{Accesses}
use Rattle.ar_space.specs.declared.refusal.Refusal.{Refusal}
use Rattle.ar_space.specs.Outcome.{Outcome, seen}
use Rattle.ar_space.specs.Change.{give, settle, go_on, ◌>>=◌}
use Rattle.aml_path.specs.declared.segment.Seg.{Seg}
use Rattle.aml_path.specs.Paths.{Name}
use Rattle.aml_grammar.specs.Tree.{Tree, term, Trees, no_trees, tree, Part, bytes, inner, list, Parts, no_parts, part}
use Rattle.aml_grammar.specs.Apart.{part_at, operand_of, bytes_of}
use Rattle.aml_grammar.specs.Shape.{trees_of}
use Rattle.aml_objects.specs.declared.value.Slot.{Slot}
use Rattle.aml_objects.specs.declared.value.Slot.TheVariants.{Local, Argument}
use Rattle.aml_objects.specs.declared.value.Value.{Value}
use Rattle.aml_objects.specs.declared.value.Value.TheVariants as value
use Rattle.aml_objects.specs.declared.entry.Field.{Field}
use Rattle.aml_objects.specs.declared.entry.MethodBody.{MethodBody}
use Rattle.aml_objects.specs.declared.entry.MethodBody.TheVariants.{Osi, Aml}
use Rattle.aml_objects.specs.declared.entry.NamedObject.{NamedObject}
use Rattle.aml_objects.specs.declared.entry.NamedObject.TheVariants as object
use Rattle.aml_namespace.specs.Namespace.{without_below}
use Rattle.aml_namespace.specs.Search.{Found, found}
use Rattle.aml_world.specs.declared.state.invocation.Invocation.{Invocation}
use Rattle.aml_world.specs.declared.state.invocation.Invocation.TheVariants as invocations
use Rattle.aml_world.specs.declared.values.store_target.Held.{Held}
use Rattle.aml_world.specs.declared.values.store_target.Held.TheVariants as held
use Rattle.aml_world.specs.declared.values.store_target.Stored.{Stored}
use Rattle.aml_world.specs.declared.values.store_target.Stored.TheVariants as store
use Rattle.aml_world.specs.declared.values.store_target.StoreTarget.{StoreTarget}
use Rattle.aml_world.specs.declared.values.object_type.Referent.{Referent}
use Rattle.aml_world.specs.declared.values.object_type.Referent.TheVariants as referent
use Rattle.aml_world.specs.state.State.{State}
use Rattle.aml_world.specs.state.Run.{Run, lift}
use Rattle.aml_world.specs.state.Slots.{slot_in, opened}
use Rattle.aml_world.specs.state.PassedOver.{is_passable}
use Rattle.aml_world.specs.state.Noting.{with_passed}
use Rattle.aml_world.specs.state.Invocations.{invocation_of_body, invocation_of_object, invocation_of, named_use, invocation_found, body_terms, call_allowed}
use Rattle.aml_world.specs.fields.Fields.{field_given}
use Rattle.aml_world.specs.values.StoreTargets.{is_element}
use Rattle.aml_meaning.specs.declared.flow.Flow.{Flow}
use Rattle.aml_meaning.specs.declared.flow.Flow.TheVariants as flow
use Rattle.aml_meaning.specs.Terms.{inner_of, list_of}
use Rattle.aml_meaning.specs.Tasks.{value_in, Task, task, operand_value, value_at, two_values, operand_integer, passes_over, goes_on, item, in_turn}
use Rattle.aml_meaning.specs.Passing.{item_done, passing}
use Rattle.aml_meaning.specs.Calls.{returned_by, leaving, frame_arguments, value_of_call, invoked, method_value}
use Rattle.aml_meaning.specs.FieldCalls.{asked, method_integer, answer_over, answer_within, called_at, field_read, held_integer, referent_read, completed, stored_to, stored_back, back_to, held_value}
use Rattle.aml_laws.specs.Plain.{AreBytes, PlainTree, PlainPart, PlainParts, PlainTrees}
use Rattle.aml_laws.proofs.FoundNamesStand.{FoundStands, found_stands}
use Rattle.aml_laws.proofs.ReadingStepsGiveBytes.{Any}
use Rattle.aml_laws.proofs.ReadTermsHoldBytes.{read_within_plain}
use Rattle.aml_laws.proofs.Invariants.{Maintained, Maintains, ok_fits, ok_maintained, err_maintained, settled_maintained, if_maintained, give_maintains, stop_maintains, settle_maintains, then_maintains, each_push, index_fits, each_take, each_replicate}
use Rattle.aml_laws.proofs.ValuesOfFields.{RunWithin, lift_maintains, field_value_maintains, field_integer_maintains, field_part_maintains, field_given_maintains, field_referent_maintains, field_stored_maintains}
use Rattle.std.proofs.Common.{arith, sym, subst}
use Rattle.ar_space.specs.declared.refusal.Refusal.TheVariants as refusal
use Rattle.ar_space.specs.declared.refusal.EvaluationFault.TheVariants.{ObjectLimit}
use Rattle.aml_laws.specs.AllWithin.{Each}
use Rattle.aml_laws.specs.Numbers.{numbers_of}
use Rattle.aml_laws.proofs.Claims.{Claim, IntegerFits, ValueFits, GivenFits, AreClaimedBytes, TreeFits, TreesFit, DeclaredFits, NamedFits, FrameFits, AllOpen, LastOpen, AllFit, WorldFits, all_fit, world_fits, last_open_pushed}
use Rattle.aml_laws.proofs.FrameNumbers.{numbers_pushed, frame_numbers_relation}
use Rattle.aml_laws.proofs.OperandsAndCallsPreserve.{invoked_preserves_from}
use Rattle.aml_laws.proofs.Preorders.{either_branch}
use Rattle.aml_laws.proofs.WorldRelations.{in_new_frame, never_told}
use Rattle.aml_laws.proofs.ValuesOfWorlds.{WorldWithin, fewer_names_fit, read_as_fits, integer_in_maintains, arguments_found_maintains}
use Rattle.aml_laws.proofs.ValuesOfTargets.{TargetFits, HeldFits, StoredFits, ReferentFits, stored_maintains}

-- ---- operands of terms that hold bytes

abbrev pub PlainOperand : Option Part → Type 0
PlainOperand None = Unit {0}
PlainOperand (Some p) = PlainPart p

part_at_plain : (ps : Parts) (i : ℕ) → PlainParts ps → PlainOperand (part_at ps i)
part_at_plain no_parts i h = tt
part_at_plain (part p ps) zero h = h.0
part_at_plain (part p ps) (suc i) h = part_at_plain ps i h.1

pub operand_of_plain : (t : Tree) (i : ℕ) → PlainTree t → PlainOperand (operand_of t i)
operand_of_plain (term code ps) i h = part_at_plain ps i h

inner_of_plain : (o : Option Part) (t : Tree) → PlainOperand o → inner_of o ≡ Ok t → PlainTree t
inner_of_plain (Some (inner u)) t h e = ok_fits PlainTree u t e h
inner_of_plain _ t h e = absurd (cc e)

list_of_plain : (o : Option Part) (ts : Trees) → PlainOperand o → list_of o ≡ Ok ts → PlainTrees ts
list_of_plain (Some (list us)) ts h e = ok_fits PlainTrees us ts e h
list_of_plain _ ts h e = absurd (cc e)

bytes_of_plain : (o : Option Part) (bs : List ℕ) → PlainOperand o → bytes_of o ≡ Ok bs → AreBytes bs
bytes_of_plain (Some (bytes cs)) bs h e = ok_fits AreBytes cs bs e h
bytes_of_plain _ bs h e = absurd (cc e)

module _ (claim : Claim) where
  abbrev pub OperandFits : Option Part → Type 0
  OperandFits o = claim.Measured → PlainOperand o

  pub operand_of_fits : (t : Tree) (i : ℕ) → TreeFits claim t → OperandFits (operand_of t i)
  operand_of_fits t i h m = operand_of_plain t i (h m)

module _ {H : Type 0} {I : H → Type 0} where
  pub inner_operand_maintains : (claim : Claim) (t : Tree) (i : ℕ) → TreeFits claim t → Maintains I (TreeFits claim) (settle (inner_of (operand_of t i)))
  inner_operand_maintains claim t i h = settle_maintains _ (λ u e m. inner_of_plain (operand_of t i) u (operand_of_plain t i (h m)) e)

  pub list_operand_maintains : (claim : Claim) (t : Tree) (i : ℕ) → TreeFits claim t → Maintains I (TreesFit claim) (settle (list_of (operand_of t i)))
  list_operand_maintains claim t i h = settle_maintains _ (λ u e m. list_of_plain (operand_of t i) u (operand_of_plain t i (h m)) e)

  pub bytes_operand_maintains : (claim : Claim) (t : Tree) (i : ℕ) → TreeFits claim t → Maintains I (AreClaimedBytes claim) (settle (bytes_of (operand_of t i)))
  bytes_operand_maintains claim t i h = settle_maintains _ (λ u e m. bytes_of_plain (operand_of t i) u (operand_of_plain t i (h m)) e)

  pub any_settle_maintains : {A : Type 0} (x : Outcome A) → Maintains I Any (settle x)
  any_settle_maintains x = settle_maintains x (λ a e. tt)

-- whether one more call may be made
pub call_allowed_maintains : {S : Type 0} {I : State S × ℕ → Type 0} (depth : ℕ) → Maintains I Any (lift (call_allowed {S = S} depth))
unfolding lift call_allowed
call_allowed_maintains depth = record { maintains = λ s a. settled_maintained _ s a (λ u e. tt) }

-- ---- what calls find, and their frames

module _ (claim : Claim) where
  abbrev pub FlowFits : Flow → Type 0
  FlowFits (flow.Value v) = ValueFits claim v
  FlowFits (flow.Return v) = ValueFits claim v
  FlowFits flow.Next = Unit {0}
  FlowFits flow.Break = Unit {0}
  FlowFits flow.Continue = Unit {0}

  abbrev pub InvocationFits : Invocation → Type 0
  InvocationFits (invocations.Value v) = ValueFits claim v
  InvocationFits (invocations.Field f) = DeclaredFits claim f
  InvocationFits (invocations.Method p body) = AreClaimedBytes claim body
  InvocationFits invocations.Osi = Unit {0}

  pub value_in_fits : (f : Flow) (v : Value) → FlowFits f → value_in f ≡ Ok v → ValueFits claim v
  value_in_fits (flow.Value u) v h e = ok_fits (ValueFits claim) u v e h
  value_in_fits flow.Next v h e = absurd (cc e)
  value_in_fits flow.Break v h e = absurd (cc e)
  value_in_fits flow.Continue v h e = absurd (cc e)
  value_in_fits (flow.Return u) v h e = absurd (cc e)

  returned_by_fits : (f : Flow) → FlowFits f → FlowFits (returned_by f)
  returned_by_fits (flow.Return v) h = h
  returned_by_fits (flow.Value v) h = tt
  returned_by_fits flow.Next h = tt
  returned_by_fits flow.Break h = tt
  returned_by_fits flow.Continue h = tt

  pub value_of_call_fits : (f : Flow) → FlowFits f → ValueFits claim (value_of_call f)
  value_of_call_fits (flow.Value v) h = h
  value_of_call_fits flow.Next h = tt
  value_of_call_fits flow.Break h = tt
  value_of_call_fits flow.Continue h = tt
  value_of_call_fits (flow.Return v) h = tt

  invocation_of_body_fits : (p : List Seg) (m : MethodBody) (i : Invocation) → NamedFits claim (object.Method (record { flags = record { byte = 0 }; body = m })) → invocation_of_body p m ≡ Ok i → InvocationFits i
  invocation_of_body_fits p Osi i h e = ok_fits InvocationFits _ i e tt
  invocation_of_body_fits p (Aml body) i h e = ok_fits InvocationFits _ i e h

  invocation_of_object_fits : (S : Type 0) (p : List Seg) (n : ℕ) (o : NamedObject) (i : Invocation) → NamedFits claim o → invocation_of_object p n o ≡ Ok i → InvocationFits i
  invocation_of_object_fits S p n (object.Data v) i h e = ok_fits InvocationFits _ i e (read_as_fits S claim n v h)
  invocation_of_object_fits S p n (object.Method m) i h e = invocation_of_body_fits p m.body i h e
  invocation_of_object_fits S p n (object.FieldUnit u) i h e = ok_fits InvocationFits _ i e h
  invocation_of_object_fits S p n (object.BufferField b) i h e = ok_fits InvocationFits _ i e h
  invocation_of_object_fits S p n _ i h e = ok_fits InvocationFits _ i e tt

  pub frame_arguments_fit : (vs : List Value) → Each (ValueFits claim) vs → Each (ValueFits claim) (frame_arguments vs)
  frame_arguments_fit vs h = (one_argument_fits vs 0 h, (one_argument_fits vs 1 h, (one_argument_fits vs 2 h, (one_argument_fits vs 3 h, (one_argument_fits vs 4 h, (one_argument_fits vs 5 h, (one_argument_fits vs 6 h, tt)))))))
    where
      one_argument_fits : (vs : List Value) (i : ℕ) → Each (ValueFits claim) vs → ValueFits claim (slice_index_or vs i value.Uninitialized)
      one_argument_fits [] i h = tt
      one_argument_fits (v ∷ vs) zero h = h.0
      one_argument_fits (v ∷ vs) (suc i) h = one_argument_fits vs i h.1

module _ (S : Type 0) (claim : Claim) where
  invocation_of_fits : (w : State S) (r : Outcome Found) (i : Invocation) → WorldWithin S claim w → ((f : Found) → r ≡ Ok f → FoundStands w.names.map f) → invocation_of r ≡ Ok i → InvocationFits claim i
  invocation_of_fits w (Ok f) i a s e = invocation_of_object_fits claim S f.0 f.1.number f.1.object i (a.names f.0 f.1 (s f refl).there) e
  invocation_of_fits w (Err x) i a s e = absurd (cc e)

  pub named_use_maintains : (scope : List Seg) (n : Name) → Maintains (WorldWithin S claim) (InvocationFits claim) (named_use scope n)
  unfolding named_use
  named_use_maintains scope n = record { maintains = λ w a. settled_maintained _ w a (λ i e. invocation_of_fits w (found w.names.map scope n) i a (found_stands w.names.map scope n) e) }

  pub invocation_found_maintains : (scope : List Seg) (n : Name) (many : ℕ) → Maintains (WorldWithin S claim) (InvocationFits claim) (invocation_found scope n many)
  unfolding invocation_found
  invocation_found_maintains scope n many = then_maintains _ _ (arguments_found_maintains S claim scope n) (λ wanted u. then_maintains _ _ (any_settle_maintains _) (λ fit v. named_use_maintains scope n))

  seen_terms_plain : (r : Outcome (List Tree)) (ts : Trees) → ((us : List Tree) → r ≡ Ok us → PlainTrees (trees_of us)) → seen trees_of r ≡ Ok ts → PlainTrees ts
  seen_terms_plain (Ok us) ts h e = ok_fits PlainTrees _ ts e (h us refl)
  seen_terms_plain (Err x) ts h e = absurd (cc e)

  -- ---- a call, where the latest frame need not be open

  abbrev pub RunsWithin : State S × ℕ → Type 0
  RunsWithin s = AllFit claim s.0

  body_terms_maintains : (p : List Seg) (body : List ℕ) → AreClaimedBytes claim body → Maintains RunsWithin (TreesFit claim) (lift (body_terms p body))
  unfolding lift body_terms
  body_terms_maintains p body h = record { maintains = λ s a. settled_maintained _ s a (λ ts e m. seen_terms_plain _ ts (λ us is. read_within_plain s.0.nesting.levels body p true _ us (h m) is) e) }

  later_is_open : (w : State S) → ((n : ℕ) → w.started ≤ n → AllOpen claim n) → (n : ℕ) → w.started + 1 ≤ n → AllOpen claim n
  later_is_open w next n le = next n (omega arith)

  new_slot_fits : (n : ℕ) (vs : List Value) → Each (ValueFits claim) vs → (slot : Slot) → ValueFits claim (slot_in (record { number = n; locals = replicate 8 value.Uninitialized; arguments = vs }) slot)
  new_slot_fits n vs h (Local i) = index_fits (ValueFits claim) (replicate 8 value.Uninitialized) i value.Uninitialized (each_replicate (ValueFits claim) 8 value.Uninitialized tt) tt
  new_slot_fits n vs h (Argument i) = index_fits (ValueFits claim) vs i value.Uninitialized h tt

  new_frame_fits : (w : State S) (vs : List Value) → AllFit claim w → Each (ValueFits claim) vs → WorldFits claim (in_new_frame vs w)
  new_frame_fits w vs a h =
      let is_open = a.next w.started (omega arith) in
      record {
        wide = a.wide;
        names = a.names;
        objects = a.objects;
        frames = each_push (FrameFits claim) w.frames _ a.frames (λ slot there. new_slot_fits w.started vs h slot, claim.open_stands _ is_open);
        next = later_is_open w a.next;
        latest = subst (LastOpen claim) (sym (numbers_pushed w.frames _)) (last_open_pushed claim (numbers_of w.frames) w.started is_open);
      }

  returned_flow_fits : (r : Outcome Flow) (f : Flow) → ((g : Flow) → r ≡ Ok g → FlowFits claim g) → seen returned_by r ≡ Ok f → FlowFits claim f
  returned_flow_fits (Ok g) f h e = ok_fits (FlowFits claim) _ f e (returned_by_fits claim g (h g refl))
  returned_flow_fits (Err x) f h e = absurd (cc e)

  pub opened_maintains : (vs : List Value) → Each (ValueFits claim) vs → Maintains (WorldWithin S claim) Any (opened vs)
  unfolding opened
  opened_maintains vs h = record { maintains = λ w a. if_maintained (w.started == 2 ^ 64 - 1) _ _ (λ b. err_maintained _ w a) (λ b. ok_maintained _ _ (new_frame_fits w vs (all_fit a) h) tt) }

  leaving_maintained : (q : List Seg) (m : Run S Flow) (s : State S × ℕ) → Maintains (RunWithin S claim) (FlowFits claim) m → RunWithin S claim s → Maintained RunsWithin (FlowFits claim) (leaving q m s)
  unfolding leaving without_below
  leaving_maintained q m s h a =
      let g = h.maintains s a in
      record {
        state = record { wide = g.state.wide; names = fewer_names_fit claim (m s).1.0.names.map q g.state.names; objects = g.state.objects; frames = each_take (FrameFits claim) _ (m s).1.0.frames g.state.frames; next = g.state.next };
        gives = λ f e. returned_flow_fits (m s).0 f g.gives e;
      }

  body_maintains : (q : List Seg) (vs : List Value) (m : Run S Flow) → Each (ValueFits claim) vs → Maintains (RunWithin S claim) (FlowFits claim) m → Maintains RunsWithin (FlowFits claim) (lift (opened vs) >>= (λ n. leaving q m))
  unfolding opened lift ◌>>=◌ go_on
  body_maintains q vs m f h = record {
    maintains = λ s a. either_branch (λ (x : Outcome ℕ × State S). Maintained RunsWithin (FlowFits claim) (go_on x.0 (x.1, s.1) (λ n. leaving q m))) (s.0.started == 2 ^ 64 - 1) (Err (refusal.Evaluation ObjectLimit), s.0) (Ok s.0.started, in_new_frame vs s.0)
        (err_maintained _ s a) (leaving_maintained q m (in_new_frame vs s.0, s.1) h (new_frame_fits s.0 vs a f));
  }

-- where terms are evaluated that fit, the parts of one maintain what is claimed, and close each frame that they open
pub record PartsMaintain (S : Type 0) (claim : Claim) (accesses : Accesses S) (ev : Task → Run S Flow) : Type 0 where
  pub fit : (t : Task) → TreeFits claim t.term → Maintains (RunWithin S claim) (FlowFits claim) (ev t)
  pub balanced : (t : Task) (s : State S × ℕ) → numbers_of (ev t s).1.0.frames ≡ numbers_of s.0.frames

-- ---- rules, where parts fit

module _ (S : Type 0) (claim : Claim) (accesses : Accesses S) (ev : Task → Run S Flow) (parts : PartsMaintain S claim accesses ev) where
  pub operand_value_maintains : (scope : List Seg) (depth : ℕ) (t : Tree) → TreeFits claim t → Maintains (RunWithin S claim) (ValueFits claim) (operand_value ev scope depth t)
  unfolding operand_value
  operand_value_maintains scope depth t h = then_maintains _ _ (parts.fit (task scope depth t) h) (λ f g. settle_maintains _ (λ v e. value_in_fits claim f v g e))

  pub value_at_maintains : (scope : List Seg) (depth : ℕ) (t : Tree) (i : ℕ) → TreeFits claim t → Maintains (RunWithin S claim) (ValueFits claim) (value_at ev scope depth t i)
  unfolding value_at
  value_at_maintains scope depth t i h = then_maintains _ _ (inner_operand_maintains claim t i h) (λ x g. operand_value_maintains scope depth x g)

  abbrev Both : Value × Value → Type 0
  Both x = ValueFits claim x.0 × ValueFits claim x.1

  pub two_values_maintains : (scope : List Seg) (depth : ℕ) (t : Tree) → TreeFits claim t → Maintains (RunWithin S claim) Both (two_values ev scope depth t)
  unfolding two_values
  two_values_maintains scope depth t h = then_maintains _ _ (value_at_maintains scope depth t 0 h) (λ v f. then_maintains _ _ (value_at_maintains scope depth t 1 h) (λ u g. give_maintains _ (f, g)))

  pub operand_integer_maintains : (scope : List Seg) (depth : ℕ) (t : Tree) → TreeFits claim t → Maintains (RunWithin S claim) (IntegerFits claim) (operand_integer ev scope depth t)
  unfolding operand_integer
  operand_integer_maintains scope depth t h = then_maintains _ _ (operand_value_maintains scope depth t h) (λ v f. lift_maintains S claim _ (integer_in_maintains S claim v f))

  after_item_maintains : (go : Bool) (f : Flow) (m : Run S Flow) → FlowFits claim f → Maintains (RunWithin S claim) (FlowFits claim) m → Maintains (RunWithin S claim) (FlowFits claim) (if go then m else give f)
  after_item_maintains true f m g h = h
  after_item_maintains false f m g h = give_maintains _ g

  refusal_maintained : (b : Bool) (scope : List Seg) (e : Refusal) (s : State S × ℕ) → RunWithin S claim s → Maintained (RunWithin S claim) (FlowFits claim) (if b then (Ok flow.Next, (with_passed scope e s.0, s.1)) else (Err e, s))
  refusal_maintained true scope e s i = ok_maintained _ _ (record { wide = i.wide; names = i.names; objects = i.objects; frames = i.frames; next = i.next; latest = i.latest }) tt
  refusal_maintained false scope e s i = err_maintained e s i

  done_maintained : (scope : List Seg) (r : Outcome Flow) (s : State S × ℕ) → Maintained (RunWithin S claim) (FlowFits claim) (r, s) → Maintained (RunWithin S claim) (FlowFits claim) (item_done scope r s)
  unfolding item_done
  done_maintained scope (Ok f) s g = g
  done_maintained scope (Err e) s g = refusal_maintained (is_passable e) scope e s g.state

  -- an item of a list, which may be passed over
  item_maintains : (scope : List Seg) (depth : ℕ) (t : Tree) → TreeFits claim t → Maintains (RunWithin S claim) (FlowFits claim) (item ev scope depth t)
  unfolding item passing
  item_maintains scope depth t h = record {
    maintains = λ s i.
        if_maintained (passes_over depth s.0.profile) _ _ (λ holds. done_maintained scope _ _ ((parts.fit (task scope depth t) h).maintains s i)) (λ fails. (parts.fit (task scope depth t) h).maintains s i);
  }

  pub in_turn_maintains : (scope : List Seg) (depth : ℕ) (ts : Trees) → TreesFit claim ts → Maintains (RunWithin S claim) (FlowFits claim) (in_turn ev scope depth ts)
  unfolding in_turn
  in_turn_maintains scope depth no_trees h = give_maintains _ tt
  in_turn_maintains scope depth (tree t ts) h = then_maintains _ _ (item_maintains scope depth t (λ m. (h m).0)) (λ f g. after_item_maintains (goes_on f) f _ g (in_turn_maintains scope depth ts (λ m. (h m).1)))

  -- a call, where the latest frame need not be open
  pub call_maintains : (depth : ℕ) (q : List Seg) (body : List ℕ) (vs : List Value) → AreClaimedBytes claim body → Each (ValueFits claim) vs → Maintains (RunsWithin S claim) (FlowFits claim) (invoked ev depth q body vs)
  unfolding invoked
  call_maintains depth q body vs h f = then_maintains _ _ (call_allowed_maintains depth) (λ few u. then_maintains _ _ (body_terms_maintains S claim q body h) (λ ts g. body_maintains S claim q _ _ (frame_arguments_fit claim vs f) (in_turn_maintains q _ ts g)))

  call_is_balanced : (depth : ℕ) (q : List Seg) (body : List ℕ) (vs : List Value) (s : State S × ℕ) → numbers_of (invoked ev depth q body vs s).1.0.frames ≡ numbers_of s.0.frames
  call_is_balanced depth q body vs s = (invoked_preserves_from {relation = frame_numbers_relation accesses} ev (λ t. record { preserves = parts.balanced t }) never_told s.0 depth q body vs (λ v h. h)).preserves_from s refl

  -- where it is, it is so again: the same frames stand
  pub invoked_maintains : (depth : ℕ) (q : List Seg) (body : List ℕ) (vs : List Value) → AreClaimedBytes claim body → Each (ValueFits claim) vs → Maintains (RunWithin S claim) (FlowFits claim) (invoked ev depth q body vs)
  invoked_maintains depth q body vs h f = record {
    maintains = λ s a. let g = (call_maintains depth q body vs h f).maintains s (all_fit a) in record { state = world_fits g.state (subst (LastOpen claim) (sym (call_is_balanced depth q body vs s)) a.latest); gives = g.gives };
  }

  pub method_value_maintains : (depth : ℕ) (q : List Seg) (body : List ℕ) (vs : List Value) → AreClaimedBytes claim body → Each (ValueFits claim) vs → Maintains (RunWithin S claim) (ValueFits claim) (method_value ev depth q body vs)
  unfolding method_value
  method_value_maintains depth q body vs h f = then_maintains _ _ (invoked_maintains depth q body vs h f) (λ g k. give_maintains _ (value_of_call_fits claim g k))

  -- ---- field units

  asked_maintains : (answer : Invocation → Run S ℕ) → ((i : Invocation) → InvocationFits claim i → Maintains (RunWithin S claim) Any (answer i)) → (q : List Seg) → Maintains (RunWithin S claim) Any (asked answer q)
  unfolding asked
  asked_maintains answer each q = then_maintains _ _ (lift_maintains S claim _ (invocation_found_maintains S claim _ _ _)) each

  pub any_value_maintains : {A : Type 0} {Fit : A → Type 0} (m : Run S A) → Maintains (RunWithin S claim) Fit m → Maintains (RunWithin S claim) Any m
  any_value_maintains m h = record { maintains = λ s a. record { state = (h.maintains s a).state; gives = λ x e. tt } }

  answer_over_maintains : (k : ℕ) (call : List Seg → Run S ℕ) → ((q : List Seg) → Maintains (RunWithin S claim) Any (call q)) → (i : Invocation) → InvocationFits claim i → Maintains (RunWithin S claim) Any (answer_over accesses ev k call i)
  unfolding method_integer
  answer_over_maintains k call each (invocations.Value v) h = any_settle_maintains _
  answer_over_maintains k call each (invocations.Field u) h = any_value_maintains _ (field_part_maintains S claim accesses call each u h)
  answer_over_maintains k call each (invocations.Method q body) h = then_maintains _ _ (method_value_maintains _ q body [] h tt) (λ v f. any_settle_maintains _)
  answer_over_maintains k call each invocations.Osi h = stop_maintains _

  answer_within_maintains : (k : ℕ) (i : Invocation) → InvocationFits claim i → Maintains (RunWithin S claim) Any (answer_within accesses ev k i)
  unfolding answer_within
  answer_within_maintains zero i h = stop_maintains _
  answer_within_maintains (suc k) i h = then_maintains _ _ (call_allowed_maintains (31 - k)) (λ few u. answer_over_maintains k _ (asked_maintains _ (answer_within_maintains k)) i h)

  called_at_maintains : (depth : ℕ) (q : List Seg) → Maintains (RunWithin S claim) Any (called_at accesses ev depth q)
  called_at_maintains depth q = asked_maintains _ (answer_within_maintains _) q

  pub field_read_maintains : (depth : ℕ) (u : Field) → DeclaredFits claim u → Maintains (RunWithin S claim) (ValueFits claim) (field_read accesses ev depth u)
  field_read_maintains depth u h = field_value_maintains S claim accesses _ (called_at_maintains depth) u h

  pub called_field_given_maintains : (depth : ℕ) (u : Field) → DeclaredFits claim u → Maintains (RunWithin S claim) (GivenFits claim) (field_given accesses (called_at accesses ev depth) u)
  called_field_given_maintains depth u h = field_given_maintains S claim accesses _ (called_at_maintains depth) u h

  pub held_integer_maintains : (depth : ℕ) (h : Held) → HeldFits claim h → Maintains (RunWithin S claim) (IntegerFits claim) (held_integer accesses ev depth h)
  held_integer_maintains depth (held.Value v) f = lift_maintains S claim _ (integer_in_maintains S claim v f)
  held_integer_maintains depth (held.Field u) f = field_integer_maintains S claim accesses _ (called_at_maintains depth) u f

  pub referent_read_maintains : (depth : ℕ) (r : Referent) → ReferentFits claim r → Maintains (RunWithin S claim) (ReferentFits claim) (referent_read accesses ev depth r)
  referent_read_maintains depth (referent.Value v) f = give_maintains _ f
  referent_read_maintains depth (referent.Object t) f = give_maintains _ tt
  referent_read_maintains depth (referent.Field u) f = field_referent_maintains S claim accesses _ (called_at_maintains depth) u f
  referent_read_maintains depth (referent.Bytes n) f = give_maintains _ f

  pub completed_maintains : (depth : ℕ) (s : Stored) (v : Value) → StoredFits claim s → ValueFits claim v → Maintains (RunWithin S claim) Any (completed accesses ev depth s v)
  completed_maintains depth store.Done v declared f = give_maintains _ tt
  completed_maintains depth (store.Field u) v declared f = field_stored_maintains S claim accesses _ (called_at_maintains depth) u v declared f

  pub stored_to_maintains : (depth : ℕ) (q : StoreTarget) (v : Value) → TargetFits claim q → ValueFits claim v → Maintains (RunWithin S claim) Any (stored_to accesses ev depth q v)
  unfolding stored_to
  stored_to_maintains depth q v t f = then_maintains _ _ (lift_maintains S claim _ (stored_maintains S claim q v t f)) (λ s g. completed_maintains depth s v g f)

  back_to_maintains : (b : Bool) (depth : ℕ) (h : Held) (q : StoreTarget) (v : Value) → HeldFits claim h → TargetFits claim q → ValueFits claim v → Maintains (RunWithin S claim) Any (back_to accesses ev b depth h q v)
  back_to_maintains true depth h q v declared t f = stored_to_maintains depth q v t f
  back_to_maintains false depth (held.Value old) q v declared t f = stored_to_maintains depth q v t f
  back_to_maintains false depth (held.Field u) q v declared t f = field_stored_maintains S claim accesses _ (called_at_maintains depth) u v declared f

  pub stored_back_maintains : (depth : ℕ) (h : Held) (q : StoreTarget) (v : Value) → HeldFits claim h → TargetFits claim q → ValueFits claim v → Maintains (RunWithin S claim) Any (stored_back accesses ev depth h q v)
  stored_back_maintains depth h q v declared t f = back_to_maintains (is_element q) depth h q v declared t f

  pub held_value_maintains : (depth : ℕ) (h : Held) → HeldFits claim h → Maintains (RunWithin S claim) (ValueFits claim) (held_value accesses ev depth h)
  held_value_maintains depth (held.Value v) f = give_maintains _ f
  held_value_maintains depth (held.Field u) f = field_read_maintains depth u f
