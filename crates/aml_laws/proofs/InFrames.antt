-- Two runs that come to the same where at most 33 frames stand, one more than calls are made, and leave as many frames as they found.
use Rattle.std.specs.Prelude.{◌≡◌, ◌≤◌, ◌<◌, ◌+◌, ◌-◌, ◌^◌, ◌==◌, ℕ, List, length, nat_lt, Bool, true, false, Ok, Err, refl, if◌then◌else◌}
use Rattle.std.proofs.Common.{arith, ap, sym, ◌∙◌}
use Rattle.std.proofs.lemmas.Bool.Decides.{nat_tests}
use Rattle.std.proofs.lemmas.List.{length_push}
use Rattle.ar_space.specs.Accesses.{Accesses}
use Rattle.ar_space.specs.Outcome.{Outcome}
use Rattle.ar_space.specs.Change.{Change, give, stop, settle, go_on, ◌>>=◌}
use Rattle.ar_space.specs.declared.refusal.Refusal.{Refusal}
use Rattle.ar_space.specs.declared.refusal.Refusal.TheVariants as refusal
use Rattle.ar_space.specs.declared.refusal.EvaluationFault.TheVariants.{ObjectLimit}
use Rattle.aml_path.specs.declared.segment.Seg.{Seg}
use Rattle.aml_grammar.specs.Tree.{Tree}
use Rattle.aml_objects.specs.declared.value.Value.{Value}
use Rattle.aml_world.specs.state.State.{State, on_space}
use Rattle.aml_world.specs.state.Run.{Run, lift, charge}
use Rattle.aml_world.specs.state.PassedOver.{is_passable}
use Rattle.aml_world.specs.state.Noting.{with_passed}
use Rattle.aml_world.specs.state.Slots.{opened}
use Rattle.aml_world.specs.state.Invocations.{call_allowed}
use Rattle.aml_meaning.specs.declared.flow.Flow.{Flow}
use Rattle.aml_meaning.specs.declared.flow.Flow.TheVariants as flow
use Rattle.aml_meaning.specs.Passing.{item_done, passing}
use Rattle.aml_meaning.specs.Tasks.{Task, task, passes_over, item}
use Rattle.aml_meaning.specs.Calls.{leaving}
use Rattle.aml_laws.specs.Numbers.{numbers_of}
use Rattle.aml_laws.proofs.FrameNumbers.{frame_numbers_relation, numbers_length, numbers_pushed, numbers_of_closed}
use Rattle.aml_laws.proofs.WorldRelations.{Preserves, RunPreserves, charge_preserves, in_new_frame}
use Rattle.aml_laws.proofs.ChangesPreserve.{call_allowed_preserves}

-- depth: how many control methods are being called
pub record InFrames {S A : Type 0} (depth : ℕ) (m k : Run S A) : Type 0 where
  pub same : (s : State S × ℕ) → depth ≤ 32 → length s.0.frames ≤ depth + 1 → m s ≡ k s
  pub kept : (s : State S × ℕ) → numbers_of (m s).1.0.frames ≡ numbers_of s.0.frames

-- as many frames
pub as_many : {S : Type 0} (w v : State S) → numbers_of v.frames ≡ numbers_of w.frames → length v.frames ≡ length w.frames
as_many w v is = sym (numbers_length v.frames) ∙ ap length is ∙ numbers_length w.frames

charge_is_kept : {S : Type 0} (accesses : Accesses S) → RunPreserves (frame_numbers_relation accesses) charge
charge_is_kept accesses = charge_preserves

module _ {S : Type 0} {depth : ℕ} where
  pub give_in_frames : {A : Type 0} (a : A) → InFrames {S = S} depth (give a) (give a)
  unfolding give
  give_in_frames a = record { same = λ s deep few. refl; kept = λ s. refl }

  pub stop_in_frames : {A : Type 0} (e : Refusal) → InFrames {S = S} {A = A} depth (stop e) (stop e)
  unfolding stop
  stop_in_frames e = record { same = λ s deep few. refl; kept = λ s. refl }

  pub settle_in_frames : {A : Type 0} (x : Outcome A) → InFrames {S = S} depth (settle x) (settle x)
  unfolding settle
  settle_in_frames x = record { same = λ s deep few. refl; kept = λ s. refl }

  -- changes that leave the frames as they are
  pub lift_in_frames : {A : Type 0} (accesses : Accesses S) (p : Change (State S) A) → Preserves (frame_numbers_relation accesses) p → InFrames depth (lift p) (lift p)
  unfolding lift
  lift_in_frames accesses p h = record { same = λ s deep few. refl; kept = λ s. h.preserves s.0 }

  pub still_in_frames : {A : Type 0} (p : Change (State S) A) → ((w : State S) → (p w).1.frames ≡ w.frames) → InFrames depth (lift p) (lift p)
  unfolding lift
  still_in_frames p h = record { same = λ s deep few. refl; kept = λ s. ap numbers_of (h s.0) }

  pub space_in_frames : {A : Type 0} (p : Change S A) → InFrames depth (lift (on_space p)) (lift (on_space p))
  unfolding on_space
  space_in_frames p = still_in_frames (on_space p) (λ w. refl)

  pub charge_in_frames : (accesses : Accesses S) → InFrames {S = S} depth charge charge
  charge_in_frames accesses = record { same = λ s deep few. refl; kept = λ s. (charge_is_kept accesses).preserves s }

  -- ---- one after another

  go_on_same : {A B : Type 0} (r : Outcome A) (s : State S × ℕ) (k l : A → Run S B) → ((a : A) → InFrames depth (k a) (l a)) → depth ≤ 32 → length s.0.frames ≤ depth + 1 → go_on r s k ≡ go_on r s l
  unfolding go_on
  go_on_same (Ok a) s k l h deep few = (h a).same s deep few
  go_on_same (Err e) s k l h deep few = refl

  go_on_kept : {A B : Type 0} (r : Outcome A) (s : State S × ℕ) (k l : A → Run S B) → ((a : A) → InFrames depth (k a) (l a)) → numbers_of (go_on r s k).1.0.frames ≡ numbers_of s.0.frames
  unfolding go_on
  go_on_kept (Ok a) s k l h = (h a).kept s
  go_on_kept (Err e) s k l h = refl

  pub then_in_frames : {A B : Type 0} (m n : Run S A) (k l : A → Run S B) → InFrames depth m n → ((a : A) → InFrames depth (k a) (l a)) → InFrames depth (m >>= k) (n >>= l)
  unfolding ◌>>=◌
  then_in_frames m n k l h i = record {
    same = λ s deep few.
        let many = as_many s.0 (m s).1.0 (h.kept s) in
        go_on_same (m s).0 (m s).1 k l i deep (omega (arith, many, few)) ∙ ap (λ a. go_on a.0 a.1 l) (h.same s deep few);
    kept = λ s. go_on_kept (m s).0 (m s).1 k l i ∙ h.kept s;
  }

-- what is so inside of more calls
pub deeper_in_frames : {S A : Type 0} (depth d : ℕ) (m k : Run S A) → depth ≤ d → d ≤ 32 → InFrames d m k → InFrames depth m k
deeper_in_frames depth d m k le most h = record { same = λ s deep few. h.same s most (omega (arith, le, few)); kept = h.kept }

-- ---- a call opens a frame, one call deeper

module _ {S : Type 0} (depth : ℕ) (vs : List Value) (p : List Seg) (m k : Run S Flow) (h : InFrames (depth + 1) m k) where
  abbrev inside : State S × ℕ → State S × ℕ
  inside s = (in_new_frame vs s.0, s.1)

  leaving_same : (s : State S × ℕ) → depth < 32 → length s.0.frames ≤ depth + 1 → leaving p m (inside s) ≡ leaving p k (inside s)
  unfolding leaving
  leaving_same s less few =
      let longer : length (inside s).0.frames ≡ length s.0.frames + 1 = length_push s.0.frames _ in
      rw (h.same (inside s) (omega (arith, less)) (omega (arith, few, longer))) refl

  leaving_kept : (s : State S × ℕ) → numbers_of (leaving p m (inside s)).1.0.frames ≡ numbers_of s.0.frames
  unfolding leaving
  leaving_kept s = numbers_of_closed (m (inside s)).1.0.frames (numbers_of s.0.frames) s.0.started (h.kept (inside s) ∙ numbers_pushed s.0.frames _)

  opened_same : (b : Bool) (e : Refusal) (s : State S × ℕ) → depth < 32 → length s.0.frames ≤ depth + 1
      → go_on (if◌then◌else◌ {A = Outcome ℕ × State S} b (Err e, s.0) (Ok s.0.started, in_new_frame vs s.0)).0 ((if◌then◌else◌ {A = Outcome ℕ × State S} b (Err e, s.0) (Ok s.0.started, in_new_frame vs s.0)).1, s.1) (λ n. leaving p m)
      ≡ go_on (if◌then◌else◌ {A = Outcome ℕ × State S} b (Err e, s.0) (Ok s.0.started, in_new_frame vs s.0)).0 ((if◌then◌else◌ {A = Outcome ℕ × State S} b (Err e, s.0) (Ok s.0.started, in_new_frame vs s.0)).1, s.1) (λ n. leaving p k)
  unfolding go_on
  opened_same true e s less few = refl
  opened_same false e s less few = leaving_same s less few

  opened_kept : (b : Bool) (e : Refusal) (s : State S × ℕ)
      → numbers_of (go_on (if◌then◌else◌ {A = Outcome ℕ × State S} b (Err e, s.0) (Ok s.0.started, in_new_frame vs s.0)).0 ((if◌then◌else◌ {A = Outcome ℕ × State S} b (Err e, s.0) (Ok s.0.started, in_new_frame vs s.0)).1, s.1) (λ n. leaving p m)).1.0.frames ≡ numbers_of s.0.frames
  unfolding go_on
  opened_kept true e s = refl
  opened_kept false e s = leaving_kept s

  pub body_in_frames : depth < 32 → InFrames depth (lift (opened vs) >>= (λ n. leaving p m)) (lift (opened vs) >>= (λ n. leaving p k))
  unfolding opened lift ◌>>=◌
  body_in_frames less = record {
    same = λ s deep few. opened_same (s.0.started == 2 ^ 64 - 1) (refusal.Evaluation ObjectLimit) s less few;
    kept = λ s. opened_kept (s.0.started == 2 ^ 64 - 1) (refusal.Evaluation ObjectLimit) s;
  }

-- where a call is allowed, it is made inside fewer than 32 others
module _ {S A : Type 0} (accesses : Accesses S) (depth : ℕ) (m k : Run S A) where
  allowed_by : (b : Bool) → nat_lt depth 32 ≡ b → (depth < 32 → InFrames depth m k) → InFrames depth (lift (call_allowed depth) >>= (λ few. m)) (lift (call_allowed depth) >>= (λ few. k))
  unfolding call_allowed lift go_on ◌>>=◌
  allowed_by true is h = let less : depth < 32 = grind (arith, nat_tests) in then_in_frames _ _ _ _ (lift_in_frames accesses _ (call_allowed_preserves depth)) (λ few. h less)
  allowed_by false is h = record { same = λ s deep few. rw is refl; kept = λ s. rw is refl }

  pub allowed_in_frames : (depth < 32 → InFrames depth m k) → InFrames depth (lift (call_allowed depth) >>= (λ few. m)) (lift (call_allowed depth) >>= (λ few. k))
  allowed_in_frames h = allowed_by (nat_lt depth 32) refl h

-- ---- items of lists

module _ {S : Type 0} where
  refusal_kept : (b : Bool) (scope : List Seg) (e : Refusal) (s : State S × ℕ) → numbers_of (if◌then◌else◌ {A = Outcome Flow × (State S × ℕ)} b (Ok flow.Next, (with_passed scope e s.0, s.1)) (Err e, s)).1.0.frames ≡ numbers_of s.0.frames
  refusal_kept true scope e s = refl
  refusal_kept false scope e s = refl

  done_kept : (scope : List Seg) (r : Outcome Flow) (s : State S × ℕ) → numbers_of (item_done scope r s).1.0.frames ≡ numbers_of s.0.frames
  unfolding item_done
  done_kept scope (Ok f) s = refl
  done_kept scope (Err e) s = refusal_kept (is_passable e) scope e s

  passing_in_frames : {depth : ℕ} (scope : List Seg) (m k : Run S Flow) → InFrames depth m k → InFrames depth (passing scope m) (passing scope k)
  unfolding passing
  passing_in_frames scope m k h = record {
    same = λ s deep few. ap (λ a. item_done scope a.0 a.1) (h.same s deep few);
    kept = λ s. done_kept scope (m s).0 (m s).1 ∙ h.kept s;
  }

  either_same : (b : Bool) (m n k l : Run S Flow) (s : State S × ℕ) → m s ≡ n s → k s ≡ l s → (if b then m s else k s) ≡ (if b then n s else l s)
  either_same true m n k l s h i = h
  either_same false m n k l s h i = i

  either_kept : (b : Bool) (m k : Run S Flow) (s : State S × ℕ) → numbers_of (m s).1.0.frames ≡ numbers_of s.0.frames → numbers_of (k s).1.0.frames ≡ numbers_of s.0.frames → numbers_of (if◌then◌else◌ {A = Outcome Flow × (State S × ℕ)} b (m s) (k s)).1.0.frames ≡ numbers_of s.0.frames
  either_kept true m k s h i = h
  either_kept false m k s h i = i

  pub item_in_frames : (ev ew : Task → Run S Flow) → ((t : Task) → InFrames t.depth (ev t) (ew t)) → (scope : List Seg) (depth : ℕ) (t : Tree) → InFrames depth (item ev scope depth t) (item ew scope depth t)
  unfolding item
  item_in_frames ev ew parts scope depth t =
      let one : InFrames depth (ev (task scope depth t)) (ew (task scope depth t)) = parts (task scope depth t) in
      let h = passing_in_frames scope (ev (task scope depth t)) (ew (task scope depth t)) one in
      record {
        same = λ s deep few. either_same (passes_over depth s.0.profile) (passing scope (ev (task scope depth t))) (passing scope (ew (task scope depth t))) (ev (task scope depth t)) (ew (task scope depth t)) s (h.same s deep few) (one.same s deep few);
        kept = λ s. either_kept (passes_over depth s.0.profile) (passing scope (ev (task scope depth t))) (ev (task scope depth t)) s (h.kept s) (one.kept s);
      }
