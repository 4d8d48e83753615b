-- Where a call may stop that evaluates objects, and wants memory of its own in between.
use Rattle.std.specs.Prelude.{◌≡◌, ◌⊎◌, List, [], ◌∷◌, true, false, Ok}
use Rattle.ar_space.specs.Change.{Change}
use Rattle.acpi_machine.specs.MachineStates.{MachineState}

-- how a machine may stand to what it was before
abbrev pub Stop : Type 0 → Type 1
Stop S = MachineState S → MachineState S → Type 0

-- the machine is as a change leaves it, unless memory ran out in an evaluation: then it is spent, and it wasn't before
pub record Made {S A : Type 0} (m : Change (MachineState S) A) (before after : MachineState S) : Type 0 where
  pub is : ((before.spent ≡ false) × (after.spent ≡ true)) ⊎ ((m before).1 ≡ after)

-- the same, or it is as it was: for changes that evaluate one object at most
pub record AllOrNone {S A : Type 0} (m : Change (MachineState S) A) (before after : MachineState S) : Type 0 where
  pub is : (before ≡ after) ⊎ Made m before after

-- within the first of two changes, or, where that gives a value, within the second
pub record StopsThen {S A : Type 0} (first : Change (MachineState S) A) (within : Stop S) (next : A → Stop S) (before after : MachineState S) : Type 0 where
  pub is : within before after ⊎ ((a : A) × (middle : MachineState S) × (first before ≡ (Ok a, middle)) × next a middle after)

-- before the change for the first of a list, within one of them, or behind the last; the next follows where one gives a value
abbrev pub StopsEach : {S A B : Type 0} → (A → Change (MachineState S) B) → (A → Stop S) → List A → Stop S
StopsEach f within [] before after = before ≡ after
StopsEach f within (x ∷ xs) before after = StopsThen (f x) (within x) (λ _. StopsEach f within xs) before after
