-- A frame is opened as long as a number is left, and a call opens one frame within the limits on calls.
use Rattle.std.specs.Prelude.{◌≡◌, ◌<◌, ◌+◌, ◌-◌, ◌^◌, ◌==◌, ◌++◌, ◌∷◌, [], ℕ, List, length, nat_lt, Bool, true, false, Ok, Err, refl, if◌then◌else◌}
use Rattle.std.proofs.Common.{arith, ap}
use Rattle.std.proofs.lemmas.Bool.Decides.{nat_tests}
use Rattle.std.proofs.lemmas.List.{length_push}
use Rattle.ar_space.specs.declared.refusal.Refusal.TheVariants as refusal
use Rattle.ar_space.specs.declared.refusal.EvaluationFault.TheVariants.{ObjectLimit, CallDepth, DepthSetting}
use Rattle.ar_space.specs.Accesses.{Accesses}
use Rattle.ar_space.specs.Outcome.{Outcome}
use Rattle.ar_space.specs.Change.{go_on, ◌>>=◌}
use Rattle.aml_path.specs.declared.segment.Seg.{Seg}
use Rattle.aml_grammar.specs.Tree.{Trees}
use Rattle.aml_objects.specs.declared.value.Value.{Value}
use Rattle.aml_world.specs.state.State.{State}
use Rattle.aml_world.specs.state.Run.{lift}
use Rattle.aml_world.specs.state.Slots.{opened}
use Rattle.aml_world.specs.state.Invocations.{call_allowed, body_terms}
use Rattle.aml_meaning.specs.Calls.{frame_arguments, invoked}
use Rattle.aml_meaning.specs.Meaning.{meaning}
use Rattle.aml_laws.specs.Calls.{body_frame}
use Rattle.aml_laws.proofs.FramesOpened.{begins, frame_opened}
use Rattle.aml_laws.proofs.LimitsRefused.{call_is_allowed}

-- ---- the numbers of frames

module _ {S : Type 0} where
  pub frame_is_numbered : (arguments : List Value) (w : State S) → w.started < 2 ^ 64 - 1 → (opened arguments w).0 ≡ Ok w.started
  unfolding opened
  frame_is_numbered arguments w less = let apart : (w.started == 2 ^ 64 - 1) ≡ false = grind (arith, nat_tests) in rw apart refl

  pub frame_is_refused : (arguments : List Value) (w : State S) → w.started ≡ 2 ^ 64 - 1 → opened arguments w ≡ (Err (refusal.Evaluation ObjectLimit), w)
  unfolding opened
  frame_is_refused arguments w is = let last : (w.started == 2 ^ 64 - 1) ≡ true = ap (λ n. n == 2 ^ 64 - 1) is in rw last refl

pub call_without_number : {S : Type 0} (accesses : Accesses S) (depth : ℕ) (p : List Seg) (body : List ℕ) (arguments : List Value) (s : State S × ℕ) (ts : Trees) → depth < 32 → depth < s.0.nesting.calls → (body_terms p body s.0).0 ≡ Ok ts → s.0.started ≡ 2 ^ 64 - 1
    → invoked (meaning accesses) depth p body arguments s ≡ (Err (refusal.Evaluation ObjectLimit), s)
unfolding invoked body_terms lift go_on ◌>>=◌
call_without_number accesses depth p body arguments s ts less few read is = rw (call_is_allowed depth s.0 less few, read, frame_is_refused (frame_arguments arguments) s.0 is) refl

pub ruleset frames_are_numbered_while_a_number_is_left = (frame_is_numbered, frame_is_refused, call_without_number)

-- ---- the frame of a call

allowed_by : (b c : Bool) → (if◌then◌else◌ {A = Outcome (Unit {0})} b (if c then Ok tt else Err (refusal.Evaluation DepthSetting)) (Err (refusal.Evaluation CallDepth))) ≡ Ok tt → (b ≡ true) × (c ≡ true)
allowed_by true true is = (refl, refl)
allowed_by true false is = absurd (cc is)
allowed_by false c is = absurd (cc is)

module _ {S : Type 0} where
  within_calls : (depth : ℕ) (w : State S) → call_allowed depth w ≡ (Ok tt, w) → (depth < 32) × (depth < w.nesting.calls)
  unfolding call_allowed
  within_calls depth w is =
      let both = allowed_by (nat_lt depth 32) (nat_lt depth w.nesting.calls) (ap (λ (r : Outcome (Unit {0}) × State S). r.0) is) in
      let few = both.0 in
      let set = both.1 in
      (grind (arith, nat_tests), grind (arith, nat_tests))

  pub one_frame_more : (depth : ℕ) (p : List Seg) (body : List ℕ) (arguments : List Value) (w inside : State S) (n : ℕ) → body_frame depth p body arguments w ≡ (Ok n, inside) → length inside.frames ≡ length w.frames + 1
  one_frame_more depth p body arguments w inside n is =
      let opened = frame_opened depth p body arguments w inside n is in
      let frames : inside.frames ≡ w.frames ++ opened.frame ∷ [] = ap (λ (u : State S). u.frames) opened.is in
      let long = ap length frames in
      let longer = length_push w.frames opened.frame in
      omega (arith, long, longer)

  pub begins_within : (depth : ℕ) (p : List Seg) (body : List ℕ) (arguments : List Value) (w inside : State S) (n : ℕ) → body_frame depth p body arguments w ≡ (Ok n, inside) → (depth < 32) × (depth < w.nesting.calls)
  begins_within depth p body arguments w inside n is = let b = begins depth p body arguments w inside n is in within_calls depth w b.few
