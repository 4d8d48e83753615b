-- Terms that count the part to which an Index refers (ACPI 6.5, 19.6: Decrement, Increment, Index).
use Rattle.std.specs.Prelude.{◌≡◌, ◌≢◌, ◌<◌, ℕ, suc, List, Ok}
use Rattle.ar_space.specs.declared.integer_width.IntegerWidth.{IntegerWidth}
use Rattle.ar_space.specs.Accesses.{Accesses}
use Rattle.aml_path.specs.declared.segment.Seg.{Seg}
use Rattle.aml_grammar.specs.declared.opcode.Opcode.{Opcode}
use Rattle.aml_grammar.specs.declared.opcode.Opcode.TheVariants as opcodes
use Rattle.aml_grammar.specs.Tree.{Tree, null, inner}
use Rattle.aml_objects.specs.declared.value.Reference.{Reference}
use Rattle.aml_objects.specs.declared.value.Value.{Value}
use Rattle.aml_objects.specs.declared.value.Value.TheVariants as value
use Rattle.aml_world.specs.declared.values.store_target.StoreTarget.TheVariants as targets
use Rattle.aml_world.specs.declared.values.store_target.Stored.TheVariants as store
use Rattle.aml_world.specs.state.State.{State}
use Rattle.aml_world.specs.state.Readings.{integer_in}
use Rattle.aml_world.specs.values.Stores.{stored}
use Rattle.aml_laws.specs.OperatorTerms.{two_to, counting, Gives}
use Rattle.aml_laws.specs.ReferringTerms.{HasParts, HasPart, Indexes}

-- what an operator makes of the integer that a part of an object converts to, which is stored to this part and is its value
abbrev pub CountsPart : Type 0 → Opcode → (IntegerWidth → ℕ → ℕ → Type 0) → Type 0
CountsPart S op Is = (accesses : Accesses S) (scope : List Seg) (depth : ℕ) (x y : Tree) (w : State S) (steps : ℕ) (v : Value) (i : ℕ) (after : State S × ℕ) → Indexes accesses scope depth x y (w, steps) v i after → (n : ℕ) (f : ℕ → Reference) → HasParts after.0 v n f → i < n → (r : Value) (a : ℕ) → HasPart after.0 v i r
    → r ≢ value.Uninitialized → integer_in r after.0 ≡ (Ok a, after.0)
    → (m : ℕ) × Is after.0.width a m × ((end : State S) → stored (targets.Refers (f i)) (value.Integer m) after.0 ≡ (Ok store.Done, end) → Gives accesses scope depth (counting op (inner (two_to opcodes.Index x y null))) (w, suc (suc steps)) m (end, after.1))
