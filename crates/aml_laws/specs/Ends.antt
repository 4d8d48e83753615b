-- What tables, answers and calls leave where they end (ACPI 6.5, 5.4 and 5.5.2).
use Rattle.std.specs.Prelude.{◌≡◌, ◌++◌, ◌∷◌, [], ℕ, List, replicate, true, false, Some, None, Ok, Err}
use Rattle.std.specs.FinMap.{get}
use Rattle.ar_space.specs.declared.refusal.Refusal.TheVariants as refusal
use Rattle.ar_space.specs.declared.refusal.EvaluationFault.TheVariants.{OutOfSteps}
use Rattle.ar_space.specs.Accesses.{Accesses}
use Rattle.ar_space.specs.Outcome.{Outcome, seen}
use Rattle.aml_path.specs.declared.segment.Seg.{Seg}
use Rattle.aml_path.specs.Paths.{is_below}
use Rattle.aml_grammar.specs.Tree.{Trees}
use Rattle.aml_objects.specs.declared.entry.Entry.{Entry}
use Rattle.aml_objects.specs.declared.value.Value.TheVariants as value
use Rattle.aml_world.specs.declared.state.frame.Frame.{Frame}
use Rattle.aml_world.specs.state.State.{State}
use Rattle.aml_meaning.specs.declared.flow.Flow.{Flow}
use Rattle.aml_meaning.specs.Calling.{table_terms}
use Rattle.aml_meaning.specs.Meaning.{meaning}
use Rattle.aml_meaning.specs.Tasks.{in_turn}
use Rattle.aml_laws.specs.FramesOpened.{IsFrameOpened}
use Rattle.aml_laws.specs.Mutexes.{mutex_entry, IsNoMutex}

-- the same world, in which each mutex is free
pub record IsReleased {S : Type 0} (before after : State S) : Type 0 where
  pub rest : after ≡ record before { names = record before.names { map = after.names.map } }
  pub mutex : (path : List Seg) (number count : ℕ) → get before.names.map path ≡ Some (mutex_entry number count) → get after.names.map path ≡ Some (mutex_entry number 0)
  pub other : (path : List Seg) (e : Entry) → get before.names.map path ≡ Some e → IsNoMutex e.object → get after.names.map path ≡ Some e
  pub none : (path : List Seg) → get before.names.map path ≡ None → get after.names.map path ≡ None

-- frames without the latest one, which has this number
pub record IsFrameEnded (number : ℕ) (before after : List Frame) : Type 0 where
  pub frame : Frame
  pub numbered : frame.number ≡ number
  pub latest : before ≡ after ++ frame ∷ []

-- the world without the frame of a call, and without the names below its control method
pub record IsCallLeft {S : Type 0} (path : List Seg) (number : ℕ) (before after : State S) : Type 0 where
  pub frame : IsFrameEnded number before.frames after.frames
  pub rest : after ≡ record before { frames = after.frames; names = record before.names { map = after.names.map } }
  pub gone : (q : List Seg) → is_below path q ≡ true → get after.names.map q ≡ None
  pub others : (q : List Seg) → is_below path q ≡ false → get after.names.map q ≡ get before.names.map q

-- an answer comes to what its evaluation came to, and leaves the world that this left, in which each mutex is free
pub record EndsAs {S A : Type 0} (evaluation : Outcome A × (State S × ℕ)) (end : Outcome A × State S) : Type 0 where
  pub outcome : end.0 ≡ evaluation.0
  pub world : IsReleased evaluation.1.0 end.1

-- the terms of a table, evaluated in turn at the root
abbrev pub at_the_root : {S : Type 0} → Accesses S → Trees → State S → ℕ → Outcome Flow × (State S × ℕ)
at_the_root accesses ts w steps = in_turn (meaning accesses) [] 0 ts (w, steps)

-- A table comes to what its terms come to, evaluated in turn at the root and in a frame of their own, whose slots hold nothing. It leaves
-- the world that they left, without this frame, and in which each mutex is free.
pub record TableEnds {S : Type 0} (accesses : Accesses S) (steps : ℕ) (ts : Trees) (before : State S) (end : Outcome (Unit {0}) × State S) : Type 0 where
  pub number : ℕ
  pub inside : State S
  pub begins : IsFrameOpened before (replicate 7 value.Uninitialized) number inside
  pub outcome : end.0 ≡ seen (λ last. tt) (at_the_root accesses ts inside steps).0
  pub frame : IsFrameEnded number (at_the_root accesses ts inside steps).1.0.frames end.1.frames
  pub world : IsReleased (record (at_the_root accesses ts inside steps).1.0 { frames = end.1.frames }) end.1

-- the terms of a table are read and begin in such a frame, and are refused for want of steps with none left
pub record TableRunsOut {S : Type 0} (accesses : Accesses S) (bytes : List ℕ) (steps : ℕ) (before : State S) : Type 0 where
  pub terms : Trees
  pub told : State S
  pub read : table_terms bytes before ≡ (Ok terms, told)
  pub number : ℕ
  pub inside : State S
  pub begins : IsFrameOpened told (replicate 7 value.Uninitialized) number inside
  pub refused : (at_the_root accesses terms inside steps).0 ≡ Err (refusal.Evaluation OutOfSteps)
  pub none_left : (at_the_root accesses terms inside steps).1.1 ≡ 0
