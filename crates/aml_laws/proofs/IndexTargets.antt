-- An Index as a target: the part that it refers to, which a Store puts its value into.
use Rattle.std.specs.Prelude.{◌≡◌, ◌<◌, ℕ, suc, List, Ok, refl}
use Rattle.std.proofs.Common.{◌∙◌}
use Rattle.ar_space.specs.Accesses.{Accesses}
use Rattle.ar_space.specs.Change.{give, settle, go_on, ◌>>=◌}
use Rattle.aml_path.specs.declared.segment.Seg.{Seg}
use Rattle.aml_grammar.specs.declared.opcode.Opcode.TheVariants as opcodes
use Rattle.aml_grammar.specs.Tree.{Tree, Part, inner}
use Rattle.aml_objects.specs.declared.value.Reference.{Reference}
use Rattle.aml_objects.specs.declared.value.Value.{Value}
use Rattle.aml_objects.specs.declared.value.Value.TheVariants as value
use Rattle.aml_world.specs.declared.values.store_target.StoreTarget.TheVariants as targets
use Rattle.aml_world.specs.declared.values.store_target.Stored.TheVariants as store
use Rattle.aml_world.specs.state.State.{State}
use Rattle.aml_world.specs.state.Run.{lift}
use Rattle.aml_world.specs.values.Stores.{stored}
use Rattle.aml_meaning.specs.declared.flow.Flow.TheVariants as flow
use Rattle.aml_meaning.specs.FieldCalls.{stored_to}
use Rattle.aml_meaning.specs.Tasks.{task, operand_value, value_at}
use Rattle.aml_meaning.specs.TargetTerms.{indexed_target, target_of, targeted}
use Rattle.aml_meaning.specs.OperatorTerms.{store_rule}
use Rattle.aml_meaning.specs.Evaluation.{rule}
use Rattle.aml_meaning.specs.Meaning.{meaning}
use Rattle.aml_laws.specs.OperatorTerms.{one_to, two_to, StoresTo, GivesValue}
use Rattle.aml_laws.specs.ReferringTerms.{HasParts, Indexes}
use Rattle.aml_laws.proofs.PartsIndexed.{index_refers}
use Rattle.aml_laws.proofs.TreesCost.{term_begins}

module _ {S : Type 0} (accesses : Accesses S) (scope : List Seg) (depth : ℕ) (x y : Tree) (w : State S) (steps : ℕ) (v : Value) (i : ℕ) (after : State S × ℕ) (h : Indexes accesses scope depth x y (w, steps) v i after) (n : ℕ) (f : ℕ → Reference) (parts : HasParts after.0 v n f)
    (less : i < n) (p : Part) (end : State S) (stores : StoresTo scope p (value.Reference (f i)) after.0 end) where
  pub index_is_target : target_of (meaning accesses) scope depth (two_to opcodes.Index x y p) (w, suc steps) ≡ (Ok (targets.Refers (f i)), (end, after.1))
  unfolding target_of indexed_target operand_value settle give go_on ◌>>=◌
  index_is_target = rw (index_refers accesses scope depth x y w steps v i after h n f parts less p end stores) refl

module _ {S : Type 0} (accesses : Accesses S) (scope : List Seg) (depth : ℕ) (z x y : Tree) (w : State S) (steps : ℕ) (u : Value) (between : State S) (rest : ℕ) (gives : GivesValue accesses scope depth z (w, steps) u (between, suc rest)) (v : Value) (i : ℕ) (after : State S × ℕ)
    (h : Indexes accesses scope depth x y (between, rest) v i after) (n : ℕ) (f : ℕ → Reference) (parts : HasParts after.0 v n f) (less : i < n) (p : Part) (referred : State S) (stores : StoresTo scope p (value.Reference (f i)) after.0 referred) (end : State S)
    (is : stored (targets.Refers (f i)) u referred ≡ (Ok store.Done, end)) where
  part_stored : rule accesses (meaning accesses) (task scope depth (one_to opcodes.Store z (inner (two_to opcodes.Index x y p)))) (w, steps) ≡ (Ok (flow.Value u), (end, after.1))
  unfolding rule store_rule value_at operand_value targeted stored_to settle lift give go_on ◌>>=◌
  part_stored = rw (gives, index_is_target accesses scope depth x y between rest v i after h n f parts less p referred stores, is) refl

  pub store_gives_part : GivesValue accesses scope depth (one_to opcodes.Store z (inner (two_to opcodes.Index x y p))) (w, suc steps) u (end, after.1)
  store_gives_part = (term_begins accesses (task scope depth (one_to opcodes.Store z (inner (two_to opcodes.Index x y p))))).paid w steps ∙ part_stored
