-- Operands that name targets, by themselves or behind RefOf, DerefOf and Index (ACPI 6.5, 20.2.2: SuperName), and
-- values that SizeOf and ObjectType tell of.
use Rattle.std.specs.Prelude.{◌≡◌, ◌≢◌, ◌≤◌, ◌<◌, ℕ, List, None, Err}
use Rattle.ar_space.specs.Accesses.{Accesses}
use Rattle.ar_space.specs.declared.refusal.Refusal.{Refusal}
use Rattle.aml_path.specs.declared.segment.Seg.{Seg}
use Rattle.aml_path.specs.Paths.{Name}
use Rattle.aml_grammar.specs.declared.opcode.Opcode.TheVariants as opcodes
use Rattle.aml_grammar.specs.Tree.{Tree, Part, name, inner, Parts}
use Rattle.aml_objects.specs.declared.value.Reference.{Reference}
use Rattle.aml_objects.specs.declared.value.Reference.TheVariants as reference
use Rattle.aml_objects.specs.declared.value.Slot.TheVariants.{Argument}
use Rattle.aml_objects.specs.declared.value.Value.{Value}
use Rattle.aml_objects.specs.declared.value.Value.TheVariants as value
use Rattle.aml_namespace.specs.Namespace.{numbered}
use Rattle.aml_namespace.specs.Search.{found}
use Rattle.aml_world.specs.declared.values.object_type.Referent.{Referent}
use Rattle.aml_world.specs.declared.values.object_type.Referent.TheVariants as referent
use Rattle.aml_world.specs.declared.values.store_target.StoreTarget.{StoreTarget}
use Rattle.aml_world.specs.declared.values.store_target.StoreTarget.TheVariants as targets
use Rattle.aml_world.specs.state.State.{State}
use Rattle.aml_meaning.specs.Meaning.{meaning}
use Rattle.aml_meaning.specs.TargetTerms.{target_of}
use Rattle.aml_laws.specs.Dereferenced.{IsEmpty, Leads}
use Rattle.aml_laws.specs.Limits.{Chain}
use Rattle.aml_laws.specs.OperatorTerms.{of_opcode, NamesTarget}
use Rattle.aml_laws.specs.ReferringTargets.{NamesBehind}
use Rattle.aml_laws.specs.StoredParts.{ArgumentHolds}

-- ---- targets

-- the target that an operand names, and what this leaves
pub data NamesAt {S : Type 0} (accesses : Accesses S) (scope : List Seg) (depth : ℕ) (s : State S × ℕ) : Part → StoreTarget → State S × ℕ → Type 0 where
  by_itself : (p : Part) (t : StoreTarget) → NamesTarget scope s.0 p t → NamesAt accesses scope depth s p t s
  behind : (u : Tree) (t : StoreTarget) (after : State S × ℕ) → NamesBehind accesses scope depth u s t after → NamesAt accesses scope depth s (inner u) t after

-- it names none, and is refused: a name finds nothing, or the target of a term is refused
pub data NamesNone {S : Type 0} (accesses : Accesses S) (scope : List Seg) (depth : ℕ) (s : State S × ℕ) : Part → Refusal → State S × ℕ → Type 0 where
  unfound : (n : Name) (e : Refusal) → found s.0.names.map scope n ≡ Err e → NamesNone accesses scope depth s (name n) e s
  refused_behind : (u : Tree) (e : Refusal) (after : State S × ℕ) → target_of (meaning accesses) scope depth u s ≡ (Err e, after) → NamesNone accesses scope depth s (inner u) e after

-- a target is an argument that holds a reference to a name whose declaration is gone
pub data NamesGone {S : Type 0} (w : State S) : StoreTarget → Type 0 where
  an_argument : (i last n : ℕ) → ArgumentHolds w i last (value.Reference (reference.Name n)) → numbered n w.names.map ≡ None → NamesGone w (targets.Slot (Argument i))

-- ---- values that are asked

-- a term is a RefOf, a DerefOf or an Index
pub data IsReferring : Tree → Type 0 where
  of_refof : (ps : Parts) → IsReferring (of_opcode opcodes.RefOf ps)
  of_derefof : (ps : Parts) → IsReferring (of_opcode opcodes.DerefOf ps)
  of_index : (ps : Parts) → IsReferring (of_opcode opcodes.Index ps)

-- what a value stands for in the end: for itself, or for what at most 64 references lead to, a slot or an element without a value too
pub data EndsAt {S : Type 0} (w : State S) : Value → Referent → Type 0 where
  to_itself : (v : Value) → ((r : Reference) → v ≢ value.Reference r) → EndsAt w v (referent.Value v)
  through_references : (r : Reference) (k : ℕ) (x : Referent) → Chain w k r x → k ≤ 64 → EndsAt w (value.Reference r) x
  to_nothing : (r q : Reference) (k : ℕ) → Leads w k r q → k < 64 → IsEmpty w q → EndsAt w (value.Reference r) (referent.Value value.Uninitialized)
