-- The frame that a call opens, and what the call gives.
use Rattle.std.specs.Prelude.{◌≡◌, ◌<◌, ◌+◌, ◌-◌, ◌^◌, ◌==◌, ◌++◌, ℕ, zero, suc, List, [], ◌∷◌, replicate, Bool, true, false, None, Ok, Err, slice_get, slice_index_or, refl, if◌then◌else◌}
use Rattle.std.proofs.Common.{ap, sym, subst, arith, ◌∙◌}
use Rattle.std.specs.Option.{unwrap_or}
use Rattle.std.proofs.lemmas.Option.{get_or_from_slice_get, unwrap_or-slice_get}
use Rattle.ar_space.specs.declared.refusal.Refusal.{Refusal}
use Rattle.ar_space.specs.declared.refusal.Refusal.TheVariants as refusal
use Rattle.ar_space.specs.declared.refusal.EvaluationFault.TheVariants.{ObjectLimit}
use Rattle.ar_space.specs.Outcome.{Outcome, seen}
use Rattle.ar_space.specs.Change.{give, settle, go_on, ◌>>=◌}
use Rattle.aml_path.specs.declared.segment.Seg.{Seg}
use Rattle.aml_grammar.specs.Tree.{Trees}
use Rattle.aml_objects.specs.declared.value.Value.{Value}
use Rattle.aml_objects.specs.declared.value.Value.TheVariants as value
use Rattle.aml_world.specs.declared.state.frame.Frame.{Frame}
use Rattle.aml_world.specs.state.Invocations.{call_allowed, body_terms, left}
use Rattle.aml_world.specs.state.Run.{Run, lift}
use Rattle.aml_world.specs.state.Slots.{opened}
use Rattle.aml_world.specs.state.State.{State}
use Rattle.aml_meaning.specs.declared.flow.Flow.{Flow}
use Rattle.aml_meaning.specs.declared.flow.Flow.TheVariants as flow
use Rattle.aml_meaning.specs.Calls.{frame_arguments, returned_by, leaving, invoked, method_value}
use Rattle.aml_meaning.specs.Tasks.{Task, in_turn}
use Rattle.aml_fields.proofs.UnitWrites.{steps}
use Rattle.aml_laws.specs.Calls.{body_frame}
use Rattle.aml_laws.specs.FramesOpened.{IsFrameOpened}

-- ---- the frame

pub empty_local : (i : ℕ) → i < 8 → slice_index_or (replicate 8 value.Uninitialized) i value.Uninitialized ≡ value.Uninitialized
empty_local zero less = refl
empty_local (suc zero) less = refl
empty_local (suc (suc zero)) less = refl
empty_local (suc (suc (suc zero))) less = refl
empty_local (suc (suc (suc (suc zero)))) less = refl
empty_local (suc (suc (suc (suc (suc zero))))) less = refl
empty_local (suc (suc (suc (suc (suc (suc zero)))))) less = refl
empty_local (suc (suc (suc (suc (suc (suc (suc zero))))))) less = refl
empty_local (suc (suc (suc (suc (suc (suc (suc (suc i)))))))) less = absurd (omega arith)

in_place : (vs : List Value) (i : ℕ) → i < 7 → slice_index_or (frame_arguments vs) i value.Uninitialized ≡ slice_index_or vs i value.Uninitialized
in_place vs zero less = refl
in_place vs (suc zero) less = refl
in_place vs (suc (suc zero)) less = refl
in_place vs (suc (suc (suc zero))) less = refl
in_place vs (suc (suc (suc (suc zero)))) less = refl
in_place vs (suc (suc (suc (suc (suc zero))))) less = refl
in_place vs (suc (suc (suc (suc (suc (suc zero)))))) less = refl
in_place vs (suc (suc (suc (suc (suc (suc (suc i))))))) less = absurd (omega arith)

-- behind the end of a list there is nothing
pub none_there : (vs : List Value) (i : ℕ) → slice_get vs i ≡ None → slice_index_or vs i value.Uninitialized ≡ value.Uninitialized
none_there vs i past = sym (unwrap_or-slice_get vs i value.Uninitialized) ∙ ap (λ o. unwrap_or o value.Uninitialized) past

module _ {S : Type 0} where
  new_frame : State S → List Value → Frame
  new_frame w vs = record { number = w.started; locals = replicate 8 value.Uninitialized; arguments = frame_arguments vs }

  frame_is : (w : State S) (vs : List Value) → IsFrameOpened w vs w.started (record w { frames = w.frames ++ new_frame w vs ∷ []; started = w.started + 1 })
  unfolding new_frame
  frame_is w vs = record {
    frame = new_frame w vs;
    is = refl;
    next = refl;
    numbered = refl;
    argument = λ i v less at. in_place vs i less ∙ get_or_from_slice_get vs i v value.Uninitialized at;
    none = λ i less past. in_place vs i less ∙ none_there vs i past;
    local = empty_local;
  }

  opened_so : (w after : State S) (vs : List Value) (n : ℕ) → opened (frame_arguments vs) w ≡ (Ok n, after) → IsFrameOpened w vs n after
  unfolding opened new_frame
  opened_so w after vs n e = by (w.started == 2 ^ 64 - 1) e
    where
      by : (b : Bool) → (if◌then◌else◌ {A = Outcome ℕ × State S} b (Err (refusal.Evaluation ObjectLimit), w) (Ok w.started, record w { frames = w.frames ++ new_frame w vs ∷ []; started = w.started + 1 })) ≡ (Ok n, after) → IsFrameOpened w vs n after
      by true i = absurd (cc (ap (λ (r : Outcome ℕ × State S). r.0) i))
      by false i =
          let number : w.started ≡ n = cc (ap (λ (r : Outcome ℕ × State S). r.0) i) in
          subst (λ (u : State S). IsFrameOpened w vs n u) (ap (λ (r : Outcome ℕ × State S). r.1) i) (subst (λ k. IsFrameOpened w vs k (record w { frames = w.frames ++ new_frame w vs ∷ []; started = w.started + 1 })) number (frame_is w vs))

  -- ---- the beginning of a call: it isn't too deep, and its body is read

  pub record Begins (depth : ℕ) (p : List Seg) (body : List ℕ) (arguments : List Value) (w after : State S) (n : ℕ) : Type 0 where
    pub few : call_allowed depth w ≡ (Ok tt, w)
    pub terms : Trees
    pub read : (body_terms p body w).0 ≡ Ok terms
    pub opens : opened (frame_arguments arguments) w ≡ (Ok n, after)

  unmoved : (depth : ℕ) (w v : State S) (u : Unit {0}) → call_allowed depth w ≡ (Ok u, v) → w ≡ v
  unfolding call_allowed
  unmoved depth w v u is = ap (λ (r : Outcome (Unit {0}) × State S). r.1) is

  pub begins : (depth : ℕ) (p : List Seg) (body : List ℕ) (arguments : List Value) (w after : State S) (n : ℕ) → body_frame depth p body arguments w ≡ (Ok n, after) → Begins depth p body arguments w after n
  unfolding body_frame body_terms call_allowed
  begins depth p body arguments w after n e =
      let one = steps (call_allowed depth) _ w n after e in
      let here : w ≡ one.middle = unmoved depth w one.middle one.value one.first in
      let two = steps (body_terms p body) (λ ts. opened (frame_arguments arguments)) one.middle n after one.second in
      let same : one.middle ≡ two.middle = ap (λ (r : Outcome Trees × State S). r.1) two.first in
      record {
        few = subst (λ (u : State S). call_allowed depth w ≡ (Ok tt, u)) (sym here) one.first;
        terms = two.value;
        read = subst (λ (u : State S). (body_terms p body u).0 ≡ Ok two.value) (sym here) (ap (λ (r : Outcome Trees × State S). r.0) two.first);
        opens = subst (λ (u : State S). opened (frame_arguments arguments) u ≡ (Ok n, after)) (sym (here ∙ same)) two.second;
      }

  pub frame_opened : (depth : ℕ) (p : List Seg) (body : List ℕ) (arguments : List Value) (w after : State S) (n : ℕ) → body_frame depth p body arguments w ≡ (Ok n, after) → IsFrameOpened w arguments n after
  frame_opened depth p body arguments w after n e = opened_so w after arguments n (begins depth p body arguments w after n e).opens

-- ---- the body

module _ {S : Type 0} (ev : Task → Run S Flow) (depth : ℕ) (p : List Seg) (body : List ℕ) (arguments : List Value) (w inside : State S) (steps n : ℕ) (begun : body_frame depth p body arguments w ≡ (Ok n, inside)) (ts : Trees) (read : body_terms p body w ≡ (Ok ts, w)) where
  pub body_evaluated : invoked ev depth p body arguments (w, steps) ≡ leaving p (in_turn ev p (depth + 1) ts) (inside, steps)
  unfolding invoked settle lift ◌>>=◌ go_on
  body_evaluated = let b = begins depth p body arguments w inside n begun in rw (b.few, read, b.opens) refl

  module _ (end : State S × ℕ) where
    ends_so : (f : Outcome Flow) → in_turn ev p (depth + 1) ts (inside, steps) ≡ (f, end) → invoked ev depth p body arguments (w, steps) ≡ (seen returned_by f, (left p end.0, end.1))
    unfolding leaving
    ends_so f is = body_evaluated ∙ rw is refl

    pub returned : (v : Value) → in_turn ev p (depth + 1) ts (inside, steps) ≡ (Ok (flow.Return v), end) → invoked ev depth p body arguments (w, steps) ≡ (Ok (flow.Value v), (left p end.0, end.1))
    returned v is = ends_so (Ok (flow.Return v)) is

    pub ran_to_its_end : in_turn ev p (depth + 1) ts (inside, steps) ≡ (Ok flow.Next, end) → invoked ev depth p body arguments (w, steps) ≡ (Ok flow.Next, (left p end.0, end.1))
    ran_to_its_end is = ends_so (Ok flow.Next) is

    pub refused_inside : (e : Refusal) → in_turn ev p (depth + 1) ts (inside, steps) ≡ (Err e, end) → invoked ev depth p body arguments (w, steps) ≡ (Err e, (left p end.0, end.1))
    refused_inside e is = ends_so (Err e) is

-- ---- the value of a call

module _ {S : Type 0} (ev : Task → Run S Flow) (depth : ℕ) (p : List Seg) (body : List ℕ) (arguments : List Value) (s after : State S × ℕ) where
  pub value_given : (v : Value) → invoked ev depth p body arguments s ≡ (Ok (flow.Value v), after) → method_value ev depth p body arguments s ≡ (Ok v, after)
  unfolding method_value give ◌>>=◌ go_on
  value_given v is = rw is refl

  pub none_given : invoked ev depth p body arguments s ≡ (Ok flow.Next, after) → method_value ev depth p body arguments s ≡ (Ok value.Uninitialized, after)
  unfolding method_value give ◌>>=◌ go_on
  none_given is = rw is refl

  pub refusal_given : (e : Refusal) → invoked ev depth p body arguments s ≡ (Err e, after) → method_value ev depth p body arguments s ≡ (Err e, after)
  unfolding method_value give ◌>>=◌ go_on
  refusal_given e is = rw is refl
