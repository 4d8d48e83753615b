-- Terms that declare names, and what stands at their paths then (ACPI 6.5, 5.3 and 19.6: Alias, Event, Method, Mutex, Name).
use Rattle.std.specs.Prelude.{◌≡◌, ◌<◌, ◌+◌, ◌-◌, ◌^◌, ℕ, List, Some, None}
use Rattle.std.specs.FinMap.{get, insert}
use Rattle.ar_space.specs.declared.refusal.Refusal.{Refusal}
use Rattle.ar_space.specs.declared.refusal.Refusal.TheVariants as refusal
use Rattle.ar_space.specs.declared.refusal.EvaluationFault.TheVariants.{ObjectLimit}
use Rattle.ar_space.specs.declared.refusal.NamespaceFault.TheVariants.{Exists, NotFound}
use Rattle.aml_path.specs.declared.segment.Seg.{Seg}
use Rattle.aml_path.specs.Paths.{Name}
use Rattle.aml_grammar.specs.declared.opcode.Opcode.TheVariants as opcodes
use Rattle.aml_grammar.specs.Tree.{Tree, name, number, bytes, inner, no_parts, part}
use Rattle.aml_objects.specs.declared.entry.Entry.{Entry}
use Rattle.aml_objects.specs.declared.entry.Method.{Method}
use Rattle.aml_objects.specs.declared.entry.MethodBody.TheVariants.{Aml}
use Rattle.aml_objects.specs.declared.entry.NamedObject.{NamedObject}
use Rattle.aml_objects.specs.declared.entry.NamedObject.TheVariants as named
use Rattle.aml_namespace.specs.Namespace.{above}
use Rattle.aml_world.specs.state.State.{State}
use Rattle.aml_laws.specs.OperatorTerms.{of_opcode}

-- ---- terms

-- a name and the term of its value
abbrev pub name_term : Name → Tree → Tree
name_term n x = of_opcode opcodes.Name (part (name n) (part (inner x) no_parts))

-- a name, the byte of the flags, and the bytes of the body
abbrev pub method_term : Name → ℕ → List ℕ → Tree
method_term n flags body = of_opcode opcodes.Method (part (name n) (part (number flags) (part (bytes body) no_parts)))

-- the name that stands, and the one that is declared
abbrev pub alias_term : Name → Name → Tree
alias_term source n = of_opcode opcodes.Alias (part (name source) (part (name n) no_parts))

-- a name and a level, which says nothing here
abbrev pub mutex_term : Name → ℕ → Tree
mutex_term n level = of_opcode opcodes.Mutex (part (name n) (part (number level) no_parts))

abbrev pub event_term : Name → Tree
event_term n = of_opcode opcodes.Event (part (name n) no_parts)

-- ---- what stands

-- a control method with these flags and this body
abbrev pub method_of : ℕ → List ℕ → NamedObject
method_of flags body = named.Method (record { flags = record { byte = flags }; body = Aml body })

-- a path is free for a name: one stands above it, which at module level is no control method, and a number is left
pub record IsFree {S : Type 0} (depth : ℕ) (w : State S) (path : List Seg) : Type 0 where
  pub parent : Entry
  pub stands : get w.names.map (above path) ≡ Some parent
  pub outside : depth ≡ 0 → (m : Method) → parent.object ≡ named.Method m → ⊥
  pub free : get w.names.map path ≡ None
  pub room : w.names.next < 2 ^ 64 - 1

-- a path takes no name, and a declaration there is refused so: a name stands there, none stands above it, at module level a control
-- method does, or no number is left for one
pub data TakesNoName {S : Type 0} (depth : ℕ) (w : State S) (path : List Seg) : Refusal → Type 0 where
  taken : (parent e : Entry) → get w.names.map (above path) ≡ Some parent → (depth ≡ 0 → (m : Method) → parent.object ≡ named.Method m → ⊥) → get w.names.map path ≡ Some e → TakesNoName depth w path (refusal.Namespace Exists)
  below_nothing : get w.names.map (above path) ≡ None → TakesNoName depth w path (refusal.Namespace NotFound)
  below_method : (parent : Entry) (m : Method) → depth ≡ 0 → get w.names.map (above path) ≡ Some parent → parent.object ≡ named.Method m → TakesNoName depth w path (refusal.Namespace NotFound)
  without_number : (parent : Entry) → get w.names.map (above path) ≡ Some parent → (depth ≡ 0 → (m : Method) → parent.object ≡ named.Method m → ⊥) → get w.names.map path ≡ None → w.names.next ≡ 2 ^ 64 - 1 → TakesNoName depth w path (refusal.Evaluation ObjectLimit)

-- the same world with this object at a path, under the next number
abbrev pub with_name : {S : Type 0} → State S → List Seg → NamedObject → State S
with_name w path o = record w { names = record { map = insert w.names.map path (record { number = w.names.next; object = o }); next = w.names.next + 1 } }
