-- Store and CopyObject evaluate their source, and store it to their target.
use Rattle.std.specs.Prelude.{◌≡◌, ℕ, suc, List, Ok, refl}
use Rattle.std.proofs.Common.{◌∙◌}
use Rattle.ar_space.specs.Accesses.{Accesses}
use Rattle.ar_space.specs.Change.{give, settle, go_on, ◌>>=◌}
use Rattle.aml_path.specs.declared.segment.Seg.{Seg}
use Rattle.aml_grammar.specs.declared.opcode.Opcode.TheVariants as opcodes
use Rattle.aml_grammar.specs.Tree.{Tree, Part}
use Rattle.aml_objects.specs.declared.value.Value.{Value}
use Rattle.aml_world.specs.state.State.{State}
use Rattle.aml_world.specs.state.Run.{lift}
use Rattle.aml_meaning.specs.declared.flow.Flow.TheVariants as flow
use Rattle.aml_meaning.specs.Tasks.{task, operand_value, value_at}
use Rattle.aml_meaning.specs.OperatorTerms.{store_rule, copy_rule}
use Rattle.aml_meaning.specs.Evaluation.{rule}
use Rattle.aml_meaning.specs.Meaning.{meaning}
use Rattle.aml_laws.specs.OperatorTerms.{one_to, StoresTo, GivesValue}
use Rattle.aml_laws.specs.StoreTerms.{CopiesTo}
use Rattle.aml_laws.proofs.TreesCost.{term_begins}
use Rattle.aml_laws.proofs.OperatorsComputed.{target_is, stored_at}

module _ {S : Type 0} (accesses : Accesses S) (scope : List Seg) (depth : ℕ) (x : Tree) (p : Part) (w : State S) (steps : ℕ) (v : Value) (after : State S × ℕ) (end : State S) (gives : GivesValue accesses scope depth x (w, steps) v after) where
  store_so : StoresTo scope p v after.0 end → rule accesses (meaning accesses) (task scope depth (one_to opcodes.Store x p)) (w, steps) ≡ (Ok (flow.Value v), (end, after.1))
  unfolding rule store_rule value_at operand_value settle go_on ◌>>=◌
  store_so h = rw gives (stored_at accesses scope depth (one_to opcodes.Store x p) 1 after.0 after.1 p v end h refl)

  pub store_gives : StoresTo scope p v after.0 end → GivesValue accesses scope depth (one_to opcodes.Store x p) (w, suc steps) v (end, after.1)
  store_gives h = (term_begins accesses (task scope depth (one_to opcodes.Store x p))).paid w steps ∙ store_so h

  copy_so : CopiesTo scope p v after.0 end → rule accesses (meaning accesses) (task scope depth (one_to opcodes.CopyObject x p)) (w, steps) ≡ (Ok (flow.Value v), (end, after.1))
  unfolding rule copy_rule value_at operand_value settle lift give go_on ◌>>=◌
  copy_so h = rw (gives, target_is accesses scope depth (one_to opcodes.CopyObject x p) 1 after.0 after.1 p h.target h.names refl, h.is) refl

  pub copy_gives : CopiesTo scope p v after.0 end → GivesValue accesses scope depth (one_to opcodes.CopyObject x p) (w, suc steps) v (end, after.1)
  copy_gives h = (term_begins accesses (task scope depth (one_to opcodes.CopyObject x p))).paid w steps ∙ copy_so h
