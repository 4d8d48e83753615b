-- Operands that name a target, which is read or stored to (ACPI 6.5, 20.2.2: SuperName, SimpleName, Target). A name, a local, an
-- argument or Debug costs no step there, nor does the null target; RefOf, DerefOf and Index do.
use Rattle.std.specs.Prelude.{ℕ, List, Option, Some, None}
use Rattle.ar_space.specs.declared.refusal.Refusal.TheVariants as refusal
use Rattle.ar_space.specs.declared.refusal.NameFault.TheVariants.{BadName}
use Rattle.ar_space.specs.Accesses.{Accesses}
use Rattle.ar_space.specs.Change.{give, stop, settle, ◌>>=◌, ◌>>◌}
use Rattle.aml_path.specs.declared.segment.Seg.{Seg}
use Rattle.aml_path.specs.Paths.{Name}
use Rattle.aml_grammar.specs.Tree.{Tree, term, Part, null, name, number, bytes, inner, list, Parts, no_parts, part}
use Rattle.aml_grammar.specs.Apart.{operand_of, name_of}
use Rattle.aml_objects.specs.declared.value.Value.{Value}
use Rattle.aml_world.specs.declared.values.store_target.StoreTarget.{StoreTarget}
use Rattle.aml_world.specs.declared.values.store_target.StoreTarget.TheVariants as targets
use Rattle.aml_world.specs.state.Run.{Run, lift, charge}
use Rattle.aml_world.specs.values.StoreTargets.{tested, target_named, reference_in}
use Rattle.aml_meaning.specs.declared.flow.Flow.{Flow}
use Rattle.aml_meaning.specs.declared.flow.Flow.TheVariants as flow
use Rattle.aml_meaning.specs.declared.term_kind.TargetKind.{TargetKind}
use Rattle.aml_meaning.specs.declared.term_kind.TargetKind.TheVariants as kinds
use Rattle.aml_meaning.specs.Terms.{target_kind}
use Rattle.aml_meaning.specs.Tasks.{Task, operand_value, value_at}
use Rattle.aml_meaning.specs.FieldCalls.{stored_to}

module _ {S : Type 0} (ev : Task → Run S Flow) where
  unfoldable pub name_target : List Seg → Tree → ℕ → Run S StoreTarget
  name_target scope t i = do
    n ← settle (name_of (operand_of t i))
    lift (target_named scope n)

  -- Index: what its value refers to, whose own target is stored to first
  unfoldable pub indexed_target : List Seg → ℕ → Tree → Run S StoreTarget
  indexed_target scope depth t = do
    v ← operand_value ev scope depth t
    r ← settle (reference_in v)
    give (targets.Refers r)

  -- DerefOf: what its operand refers to, which has to stand there and isn't read
  unfoldable pub dereferenced_target : List Seg → ℕ → Tree → Run S StoreTarget
  dereferenced_target scope depth t = do
    step ← charge
    v ← value_at ev scope depth t 0
    r ← settle (reference_in v)
    there ← lift (tested r)
    give (targets.Refers r)

  -- within: the target that the first operand names
  abbrev pub target_by_kind : List Seg → ℕ → Tree → Run S StoreTarget → TargetKind → Run S StoreTarget
  target_by_kind scope depth t within kinds.Nowhere = give targets.Nowhere
  target_by_kind scope depth t within (kinds.Slot slot) = give (targets.Slot slot)
  target_by_kind scope depth t within kinds.RefOf = charge >> within
  target_by_kind scope depth t within kinds.DerefOf = dereferenced_target scope depth t
  target_by_kind scope depth t within kinds.Index = indexed_target scope depth t
  target_by_kind scope depth t within kinds.Other = stop (refusal.Name BadName)

  -- the target that a term is; RefOf is what its operand names, which may be a RefOf again
  unfoldable mutual
    pub target_of : List Seg → ℕ → Tree → Run S StoreTarget
    target_of scope depth (term c ps) = target_by_kind scope depth (term c ps) (first_target scope depth ps) (target_kind c)

    pub first_target : List Seg → ℕ → Parts → Run S StoreTarget
    first_target scope depth no_parts = stop (refusal.Name BadName)
    first_target scope depth (part p ps) = part_target scope depth p

    pub part_target : List Seg → ℕ → Part → Run S StoreTarget
    part_target scope depth null = give targets.Nowhere
    part_target scope depth (name n) = lift (target_named scope n)
    part_target scope depth (number n) = stop (refusal.Name BadName)
    part_target scope depth (bytes bs) = stop (refusal.Name BadName)
    part_target scope depth (inner u) = target_of scope depth u
    part_target scope depth (list ts) = stop (refusal.Name BadName)

  abbrev pub target_by : List Seg → ℕ → Tree → ℕ → Option Part → Run S StoreTarget
  target_by scope depth t i None = stop (refusal.Name BadName)
  target_by scope depth t i (Some null) = give targets.Nowhere
  target_by scope depth t i (Some (name n)) = name_target scope t i
  target_by scope depth t i (Some (number n)) = stop (refusal.Name BadName)
  target_by scope depth t i (Some (bytes bs)) = stop (refusal.Name BadName)
  target_by scope depth t i (Some (inner u)) = target_of scope depth u
  target_by scope depth t i (Some (list ts)) = stop (refusal.Name BadName)

  -- the target that the operand at a position names
  abbrev pub target_at : List Seg → ℕ → Tree → ℕ → Run S StoreTarget
  target_at scope depth t i = target_by scope depth t i (operand_of t i)

  -- RefOf: what its operand names
  abbrev pub operand_target : List Seg → ℕ → Tree → Run S StoreTarget
  operand_target scope depth t = charge >> target_at scope depth t 0

-- accesses: what the register space makes of them
module _ {S : Type 0} (accesses : Accesses S) (ev : Task → Run S Flow) where
  -- a value that is stored to a target, and is the value of the term
  unfoldable pub targeted : List Seg → ℕ → Tree → ℕ → Value → Run S Flow
  targeted scope depth t i v = do
    p ← target_at ev scope depth t i
    done ← stored_to accesses ev depth p v
    give (flow.Value v)
