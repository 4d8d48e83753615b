-- Tables that are loaded one after another (ACPI 6.5, 5.4).
use Rattle.std.specs.Prelude.{◌≡◌, ℕ, List, [], ◌∷◌, drop, Ok, Err}
use Rattle.ar_space.specs.Accesses.{Accesses}
use Rattle.ar_space.specs.Outcome.{Outcome}
use Rattle.ar_space.specs.declared.refusal.Refusal.{Refusal}
use Rattle.aml_world.specs.state.State.{State}
use Rattle.aml_meaning.specs.Calling.{loaded}

-- The AML of a table stands behind its header of 36 bytes. Each table is loaded in the world that the one before it left; the first that is
-- refused ends it, in the world that it left.
pub data LoadedInTurn {S : Type 0} (accesses : Accesses S) (steps : ℕ) : List (List ℕ) → State S → Outcome (Unit {0}) → State S → Type 0 where
  no_more : (w : State S) → LoadedInTurn accesses steps [] w (Ok tt) w
  refused : (table : List ℕ) (tables : List (List ℕ)) (w after : State S) (e : Refusal) → loaded accesses (drop 36 table) steps w ≡ (Err e, after)
      → LoadedInTurn accesses steps (table ∷ tables) w (Err e) after
  next : (table : List ℕ) (tables : List (List ℕ)) (w after end : State S) (r : Outcome (Unit {0})) → loaded accesses (drop 36 table) steps w ≡ (Ok tt, after)
      → LoadedInTurn accesses steps tables after r end → LoadedInTurn accesses steps (table ∷ tables) w r end
