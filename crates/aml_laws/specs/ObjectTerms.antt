-- Terms that act on what a name stands for, and that end or pause (ACPI 6.5, 19.6: Acquire, Fatal, Notify, RefOf,
-- Release, Reset, Signal, Sleep, Stall, Wait).
use Rattle.std.specs.Prelude.{◌≡◌, ℕ, List, Some, Ok}
use Rattle.std.specs.FinMap.{get}
use Rattle.ar_space.specs.Accesses.{Accesses}
use Rattle.aml_path.specs.declared.segment.Seg.{Seg}
use Rattle.aml_grammar.specs.declared.opcode.Opcode.{Opcode}
use Rattle.aml_grammar.specs.declared.opcode.Opcode.TheVariants as opcodes
use Rattle.aml_grammar.specs.Tree.{Tree, Part, number, inner, no_parts, part}
use Rattle.aml_objects.specs.declared.entry.Entry.{Entry}
use Rattle.aml_objects.specs.declared.value.Reference.{Reference}
use Rattle.aml_objects.specs.declared.value.Reference.TheVariants as reference
use Rattle.aml_objects.specs.declared.value.Slot.TheVariants.{Local, Argument}
use Rattle.aml_objects.specs.declared.value.Value.{Value}
use Rattle.aml_objects.specs.declared.value.Value.TheVariants as value
use Rattle.aml_namespace.specs.Numbering.{Numbered}
use Rattle.aml_world.specs.declared.values.store_target.StoreTarget.{StoreTarget}
use Rattle.aml_world.specs.declared.values.store_target.StoreTarget.TheVariants as targets
use Rattle.aml_world.specs.state.State.{State}
use Rattle.aml_meaning.specs.declared.flow.Flow.TheVariants as flow
use Rattle.aml_meaning.specs.Tasks.{task}
use Rattle.aml_meaning.specs.Meaning.{meaning}
use Rattle.aml_laws.specs.OperatorTerms.{of_opcode, NamesTarget}
use Rattle.aml_laws.specs.StoredParts.{ArgumentHolds}

-- ---- terms

-- the target, and the time to wait, which says nothing here
abbrev pub acquire : Part → ℕ → Tree
acquire p time = of_opcode opcodes.Acquire (part p (part (number time) no_parts))

-- a target alone
abbrev pub on_target : Opcode → Part → Tree
on_target op p = of_opcode op (part p no_parts)

-- a target and a term behind it
abbrev pub on_target_with : Opcode → Part → Tree → Tree
on_target_with op p x = of_opcode op (part p (part (inner x) no_parts))

-- a type, a code and an argument
abbrev pub fatal : ℕ → ℕ → Tree → Tree
fatal kind code x = of_opcode opcodes.Fatal (part (number kind) (part (number code) (part (inner x) no_parts)))

-- ---- what they do

-- a term gives no value, and the list goes on behind it
abbrev pub Passes : {S : Type 0} → Accesses S → List Seg → ℕ → Tree → State S × ℕ → State S × ℕ → Type 0
Passes accesses scope depth t s after = meaning accesses (task scope depth t) s ≡ (Ok flow.Next, after)

-- ---- declarations that targets name

-- a target names a declaration, by its number: the name does, an argument that holds a reference to it, and a
-- reference to it
pub data Declared {S : Type 0} (w : State S) : StoreTarget → ℕ → Type 0 where
  by_name : (path : List Seg) (e : Entry) → get w.names.map path ≡ Some e → Declared w (targets.Name path) e.number
  by_argument : (i last : ℕ) (path : List Seg) (e : Entry) → ArgumentHolds w i last (value.Reference (reference.Name e.number)) → Numbered w.names → get w.names.map path ≡ Some e → Declared w (targets.Slot (Argument i)) e.number
  by_reference : (path : List Seg) (e : Entry) → Numbered w.names → get w.names.map path ≡ Some e → Declared w (targets.Refers (reference.Name e.number)) e.number

-- or it names none: Debug, a local, an argument that holds no reference to a name, and a reference to a slot, to an
-- element or to a byte, whatever these hold
pub data Undeclared {S : Type 0} (w : State S) : StoreTarget → Type 0 where
  nowhere : Undeclared w targets.Nowhere
  a_local : (i : ℕ) → Undeclared w (targets.Slot (Local i))
  an_argument : (i last : ℕ) (v : Value) → ArgumentHolds w i last v → ((n : ℕ) → v ≡ value.Reference (reference.Name n) → ⊥) → Undeclared w (targets.Slot (Argument i))
  a_reference : (r : Reference) → ((n : ℕ) → r ≡ reference.Name n → ⊥) → Undeclared w (targets.Refers r)

-- an operand names a declaration, by its number: its target does
pub record NamesDeclaration {S : Type 0} (scope : List Seg) (w : State S) (p : Part) (at : ℕ) : Type 0 where
  pub target : StoreTarget
  pub names : NamesTarget scope w p target
  pub declared : Declared w target at

-- or it names none
pub record NamesNoDeclaration {S : Type 0} (scope : List Seg) (w : State S) (p : Part) : Type 0 where
  pub target : StoreTarget
  pub names : NamesTarget scope w p target
  pub undeclared : Undeclared w target
