-- The number of a frame that ended stays below the next one, and the next one stays as it was.
use Rattle.std.specs.Prelude.{◌≡◌, ◌<◌, ℕ, ◌+◌, List, Ok, refl}
use Rattle.std.proofs.Common.{arith, ap}
use Rattle.ar_space.specs.Accesses.{Accesses}
use Rattle.ar_space.specs.Outcome.{Outcome}
use Rattle.aml_path.specs.declared.segment.Seg.{Seg}
use Rattle.aml_grammar.specs.Tree.{Trees}
use Rattle.aml_objects.specs.declared.value.Value.{Value}
use Rattle.aml_world.specs.state.State.{State}
use Rattle.aml_world.specs.state.Slots.{closed}
use Rattle.aml_world.specs.state.Invocations.{body_terms, left}
use Rattle.aml_meaning.specs.declared.flow.Flow.{Flow}
use Rattle.aml_meaning.specs.Calls.{leaving, invoked}
use Rattle.aml_meaning.specs.Meaning.{meaning}
use Rattle.aml_meaning.specs.Tasks.{in_turn}
use Rattle.aml_laws.specs.Becomes.{same, list}
use Rattle.aml_laws.specs.Calls.{body_frame}
use Rattle.aml_laws.proofs.FramesOpened.{begins, frame_opened, body_evaluated}
use Rattle.aml_laws.proofs.NumbersRise.{next_frame_rises}

module _ {S : Type 0} (accesses : Accesses S) (depth : ℕ) (p : List Seg) (body : List ℕ) (arguments : List Value) (w inside : State S) (steps n : ℕ) (begun : body_frame depth p body arguments w ≡ (Ok n, inside)) where
  frame_ended : n < (invoked (meaning accesses) depth p body arguments (w, steps)).1.0.started
  unfolding body_terms leaving
  frame_ended =
      let b = begins depth p body arguments w inside n begun in
      let opened = frame_opened depth p body arguments w inside n begun in
      let next = opened.next in
      let started : inside.started ≡ w.started + 1 = ap (λ (u : State S). u.started) opened.is in
      let rises = next_frame_rises accesses inside _ (list inside p (depth + 1) b.terms steps same) in
      let read : body_terms p body w ≡ (Ok b.terms, w) = ap (λ (r : Outcome Trees). (r, w)) b.read in
      let run = body_evaluated (meaning accesses) depth p body arguments w inside steps n begun b.terms read in
      let left : (invoked (meaning accesses) depth p body arguments (w, steps)).1.0.started ≡ (in_turn (meaning accesses) p (depth + 1) b.terms (inside, steps)).1.0.started = ap (λ (r : Outcome Flow × (State S × ℕ)). r.1.0.started) run in
      omega (arith, next, started, rises, left)

pub number_is_spent : {S : Type 0} (accesses : Accesses S) (depth : ℕ) (p : List Seg) (body : List ℕ) (arguments : List Value) (s : State S × ℕ) (n : ℕ) → (body_frame depth p body arguments s.0).0 ≡ Ok n → n < (invoked (meaning accesses) depth p body arguments s).1.0.started
number_is_spent accesses depth p body arguments s n is = frame_ended accesses depth p body arguments s.0 (body_frame depth p body arguments s.0).1 s.1 n (ap (λ (r : Outcome ℕ). (r, (body_frame depth p body arguments s.0).1)) is)

-- the end of a call, and of any frame, leaves the next number as it was
pub next_stays_behind_call : {S : Type 0} (p : List Seg) (w : State S) → (left p w).started ≡ w.started
next_stays_behind_call p w = refl

pub next_stays_behind_frame : {S : Type 0} (w : State S) → (closed w).started ≡ w.started
next_stays_behind_frame w = refl

pub ruleset numbers_stay_given = (number_is_spent, next_stays_behind_call, next_stays_behind_frame)
