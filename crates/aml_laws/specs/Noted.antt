-- A register space with notes: all accesses that were made to it, each with its answer.
use Rattle.std.specs.Prelude.{◌≡◌, ℕ, List, [], ◌∷◌, ◌++◌, Option, Some, None, Result, Ok, Err}
use Rattle.std.specs.List.{All}
use Rattle.ar_space.specs.declared.refusal.SpaceFault.{SpaceFault}
use Rattle.ar_space.specs.declared.refusal.Refusal.{Refusal}
use Rattle.ar_space.specs.declared.refusal.Refusal.TheVariants as refusal
use Rattle.ar_space.specs.Accesses.{Accesses}
use Rattle.ar_space.specs.Outcome.{Outcome}
use Rattle.recorded_space.specs.declared.exchange.Exchange.{Exchange}
use Rattle.recorded_space.specs.declared.exchange.Exchange.TheVariants.{Read, Write}
use Rattle.aml_world.specs.state.State.{State}

-- a space, and the accesses that were made to it, the first of them first
abbrev pub WithNotes : Type 0 → Type 0
WithNotes S = S × List Exchange

-- each access does what it does in the space below, and is noted with its answer behind those before
abbrev pub noted : {S : Type 0} → Accesses S → Accesses (WithNotes S)
noted below = record {
  reads = λ s place width. let done = below.reads s.0 place width in (done.0, (done.1, s.1 ++ Read place width done.0 ∷ []));
  writes = λ s place width value. let done = below.writes s.0 place width value in (done.0, (done.1, s.1 ++ Write place width value done.0 ∷ []));
}

-- a world without its notes
abbrev pub without_notes : {S : Type 0} → State (WithNotes S) → State S
without_notes w = record { names = w.names; arities = w.arities; objects = w.objects; frames = w.frames; started = w.started; space = w.space.0; osi = w.osi; width = w.width; profile = w.profile; nesting = w.nesting; passed = w.passed }

-- what an evaluation gives and leaves, without the notes
abbrev pub outcome_without_notes : {S A : Type 0} → Outcome A × (State (WithNotes S) × ℕ) → Outcome A × (State S × ℕ)
outcome_without_notes r = (r.0, (without_notes r.1.0, r.1.1))

-- ---- what notes tell

abbrev pub fault_in : {A : Type 0} → Result A SpaceFault → Option SpaceFault
fault_in (Ok value) = None
fault_in (Err fault) = Some fault

-- the fault that an access was answered with, if it was no value
abbrev pub fault_of : Exchange → Option SpaceFault
fault_of (Read place width answer) = fault_in answer
fault_of (Write place width value answer) = fault_in answer

-- accesses that were all answered with values
abbrev pub AllAnswered : List Exchange → Type 0
AllAnswered notes = All (λ note. fault_of note ≡ None) notes

-- accesses of which the last was answered with a fault, and all before it with values
pub record EndsWith (fault : SpaceFault) (notes : List Exchange) : Type 0 where
  pub earlier : List Exchange
  pub last : Exchange
  pub are : notes ≡ earlier ++ last ∷ []
  pub answered : AllAnswered earlier
  pub faults : fault_of last ≡ Some fault

-- what a refusal tells of the accesses that were made until then
abbrev pub RefusalTells : Refusal → List Exchange → Type 0
RefusalTells (refusal.Space fault) notes = EndsWith fault notes
RefusalTells _ notes = AllAnswered notes

-- what an outcome tells of the accesses that were made for it: a fault of the register space is the answer of the last, and no other
-- one was answered with a fault
abbrev pub Tells : {A : Type 0} → Outcome A → List Exchange → Type 0
Tells (Ok value) notes = AllAnswered notes
Tells (Err e) notes = RefusalTells e notes

-- the notes after are those before, and then those of which the outcome tells
pub record TellsNotes {S A : Type 0} (outcome : Outcome A) (before after : WithNotes S) : Type 0 where
  pub made : List Exchange
  pub are : after.1 ≡ before.1 ++ made
  pub told : Tells outcome made
