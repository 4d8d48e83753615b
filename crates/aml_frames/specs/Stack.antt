-- The machine: what is on its stack means what is still to do.
use Rattle.std.specs.Prelude.{◌≡◌, ℕ, ◌+◌, ◌-◌, ◌<◌, ◌≤◌, List, [], ◌∷◌, ◌++◌, length, slice_get, true, Some, Ok, Err, OnOk, IfOk, IfErr}
use Rattle.ar_space.specs.Accesses.{Accesses}
use Rattle.ar_space.specs.Outcome.{Outcome, NotMemory, seen}
use Rattle.ar_space.specs.Change.{give, stop, settle, go_on}
use Rattle.ar_space.specs.declared.refusal.Refusal.TheVariants.{OutOfMemory}
use Rattle.aml_marks.specs.Marked.{walk_levels}
use Rattle.aml_world.specs.state.State.{State}
use Rattle.aml_world.specs.state.Run.{Run}
use Rattle.aml_world.specs.state.PassedOver.{is_passable}
use Rattle.aml_world.specs.state.Invocations.{left}
use Rattle.aml_meaning.specs.declared.flow.Flow.{Flow}
use Rattle.aml_meaning.specs.Passing.{item_done}
use Rattle.aml_meaning.specs.Tasks.{Task}
use Rattle.aml_meaning.specs.Calls.{returned_by}
use Rattle.aml_meaning.specs.Meaning.{meaning}
use Rattle.aml_frames.specs.declared.frames.Control.{Control}
use Rattle.aml_frames.specs.declared.frames.Control.TheVariants as control
use Rattle.aml_frames.specs.declared.frames.Entry.{Entry}
use Rattle.aml_frames.specs.declared.frames.Entry.TheVariants as entry
use Rattle.aml_frames.specs.declared.frames.Frame.{Frame}
use Rattle.aml_frames.specs.declared.frames.Frame.TheVariants as frames
use Rattle.aml_frames.specs.declared.frames.Items.{Items}
use Rattle.aml_frames.specs.declared.frames.ListItem.{ListItem}
use Rattle.aml_frames.specs.declared.frames.Loop.{Loop}
use Rattle.aml_frames.specs.declared.frames.Next.{Next}
use Rattle.aml_frames.specs.declared.frames.Next.TheVariants as next
use Rattle.aml_frames.specs.Places.{Site, behind_term}
use Rattle.aml_frames.specs.Data.{package_run}
use Rattle.aml_frames.specs.Follow.{at_position, ends, term_run, items_run, resumed, next_run, next_ends}
use Rattle.aml_frames.specs.Uses.{target_ends, target_run, access_run}
use Rattle.aml_frames.specs.Weights.{weight, access_weight, target_weight, charged}

-- what goes on with an outcome, where evaluation stands
abbrev pub Rest : Type 0 → Type 0
Rest S = Site → Outcome Flow → Run S Flow

-- all of the list of a body; where it ends doesn't matter, since the call ends there
abbrev pub whole : Site → Items
whole b = record { left = length b.place.rest; levels = walk_levels; outer = record { at = 0; end = 0 } }

-- where evaluation stands when what is controlled is done
abbrev pub control_ends : Control → Site → Site
control_ends (control.Term levels) c = behind_term c levels
control_ends (control.Items i) c = at_position c i.outer
control_ends (control.Package k) c = at_position c k.outer
control_ends (control.Target t u) c = target_ends t u c
control_ends (control.Access a) c = c
control_ends (control.Flow f) c = c

module _ {S : Type 0} (accesses : Accesses S) (ev : Task → Run S Flow) where
  -- an outcome meets a frame, and what it leaves goes on: a refusal passes it by
  abbrev pub frame_met : Frame → Rest S → Rest S
  frame_met x k c r s = let b = go_on r s (resumed accesses ev x c) in k (ends x c) b.0 b.1

  -- an outcome meets an item of a list that may be passed over: where it is a refusal, the list goes on as the item found it
  abbrev pub item_met : ListItem → Rest S → Rest S
  item_met x k c (Ok f) s = frame_met (frames.Items x.behind) k c (Ok f) s
  item_met x k c (Err e) s = let b = item_done x.list.scope (Err e) s in frame_met (frames.Items x.behind) k (behind_term x.list x.behind.levels) b.0 b.1

  -- an outcome meets an entry; a refusal ends calls
  abbrev pub met : Entry → Rest S → Rest S
  met (entry.Frame x) k c r s = frame_met x k c r s
  met (entry.Item x) k c r s = item_met x k c r s
  met (entry.Leave caller p) k c r s = k caller (seen returned_by r) (left p s.0, s.1)

  -- the entries from the bottom of the stack
  unfoldable pub unwinding : List Entry → Rest S → Rest S
  unwinding [] k = k
  unwinding (x ∷ xs) k = unwinding xs (met x k)

  abbrev pub at_bottom : Rest S
  at_bottom c r = settle r

  -- what is still to do, after what is done first, which ends at a site
  unfoldable pub then_all : Run S Flow → Site → List Entry → Run S Flow
  then_all m c xs s = let b = m s in unwinding xs at_bottom c b.0 b.1

  abbrev pub controlled : Control → Site → Run S Flow
  controlled (control.Term levels) c = term_run accesses ev c levels
  controlled (control.Items i) c = items_run accesses ev i c
  controlled (control.Package k) c = package_run ev k c
  controlled (control.Target t u) c = target_run accesses ev t u c
  controlled (control.Access a) c = access_run accesses ev a
  controlled (control.Flow f) c = give f

  -- the machine's meaning
  abbrev pub machine : Control → Site → List Entry → Run S Flow
  machine x c xs = then_all (controlled x c) (control_ends x c) xs

  -- what is still to do after a step of the machine
  abbrev pub gone : Outcome Control → Site → List Entry → Run S Flow
  gone (Ok x) c xs = machine x c xs
  gone (Err e) c xs = then_all (stop e) c xs

  pub record Goes (r : Outcome Control) (c : Site) (xs : List Entry) (after : State S × ℕ) (m : Run S Flow) (before : State S × ℕ) : Type 0 where
    pub is : NotMemory r → m before ≡ gone r c xs after

  -- what steps leave to do that are taken one after another: nothing where they came to a flow
  abbrev pub left_over : Outcome Flow → Site → List Entry → Run S Flow
  left_over (Ok f) c xs = give f
  left_over (Err e) c xs = then_all (stop e) c xs

  pub record Stepped (r : Outcome Flow) (c : Site) (xs : List Entry) (after : State S × ℕ) (m : Run S Flow) (before : State S × ℕ) : Type 0 where
    pub is : NotMemory r → m before ≡ left_over r c xs after

-- what a step leaves to do is given up: a call ends that it has begun
abbrev pub given_up : {S : Type 0} → Next → State S × ℕ → State S × ℕ
given_up (next.Body b) s = (left b.scope s.0, s.1)
given_up (next.BodyThen b x) s = (left b.scope s.0, s.1)
given_up _ s = s

-- a While waits on the top of the stack
abbrev pub TurnWaits : Loop → List Entry → Type 0
TurnWaits l xs = slice_get xs (length xs - 1) ≡ Some (entry.Frame (frames.Turn l))

-- ---- how much entries may ask for without a step being paid

abbrev pub entry_weight : Entry → ℕ
entry_weight (entry.Frame x) = weight x
entry_weight (entry.Item x) = weight (frames.Items x.behind)
entry_weight (entry.Leave caller p) = 1

unfoldable pub stack_weight : List Entry → ℕ
stack_weight [] = 0
stack_weight (x ∷ xs) = entry_weight x + stack_weight xs

abbrev pub control_weight : Control → ℕ
control_weight (control.Term levels) = 0
control_weight (control.Items i) = 4
control_weight (control.Package k) = 4
control_weight (control.Target t u) = target_weight u
control_weight (control.Access a) = access_weight a
control_weight (control.Flow f) = 3

-- ---- what steps of the machine promise

-- a step of the machine: what waits on the stack after it and is done next weighs less than the limit and what the steps may pay for that it
-- took, also where it is refused and the machine goes on behind an item that is passed over; what is to do after it is what was to do before
pub record Turns {S : Type 0} (ac : Accesses S) (limit : ℕ) (r : Outcome Control) (c : Site) (xs : List Entry) (after : State S × ℕ) (m : Run S Flow) (before : State S × ℕ) : Type 0 where
  pub falls : IfOk r (λ x. charged after.1 + (stack_weight xs + control_weight x) < charged before.1 + limit)
  pub refused : IfErr r (λ e. is_passable e ≡ true → charged after.1 + (stack_weight xs + 1) < charged before.1 + limit)
  pub means : Goes ac (meaning ac) r c xs after m before

-- what a step of a rule left to do is put on the stack, or is done next: both weigh no more than the limit and what the steps may pay for
-- that were taken; where memory runs out for the stack, a call ends that the step has begun, and nothing else is refused
pub record Follows {S : Type 0} (ac : Accesses S) (limit : ℕ) (r : Outcome Control) (c : Site) (xs : List Entry) (after : State S × ℕ) (n : Next) (d : Site) (ys : List Entry) (before : State S × ℕ) : Type 0 where
  pub falls : IfOk r (λ x. charged after.1 + (stack_weight xs + control_weight x) ≤ charged before.1 + limit)
  pub ended : IfErr r (λ e. after ≡ given_up n before)
  pub memory : IfErr r (λ e. e ≡ OutOfMemory)
  pub means : Goes ac (meaning ac) r c xs after (then_all ac (meaning ac) (next_run ac (meaning ac) n d) (next_ends n d) ys) before

-- an entry is put on the stack, and this is done next; it is refused only where memory runs out
pub record Waits (r : Outcome Control) (c : Site) (xs : List Entry) (x : Entry) (y : Control) (d : Site) (ys : List Entry) : Type 0 where
  pub act : OnOk r (c ≡ d)
  pub pushed : OnOk r (xs ≡ ys ++ x ∷ [])
  pub goes : IfOk r (λ z. z ≡ y)
  pub memory : IfErr r (λ e. e ≡ OutOfMemory)
