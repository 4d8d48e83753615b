-- What Return, Break, Continue and Noop give.
use Rattle.std.specs.Prelude.{◌≡◌, ℕ, suc, List, Ok, refl}
use Rattle.std.proofs.Common.{◌∙◌}
use Rattle.ar_space.specs.declared.refusal.Refusal.{Refusal}
use Rattle.ar_space.specs.Accesses.{Accesses}
use Rattle.ar_space.specs.Change.{give, settle, go_on, ◌>>=◌}
use Rattle.aml_path.specs.declared.segment.Seg.{Seg}
use Rattle.aml_grammar.specs.Tree.{Tree}
use Rattle.aml_grammar.specs.declared.opcode.Opcode.TheVariants as opcodes
use Rattle.aml_objects.specs.declared.value.Value.{Value}
use Rattle.aml_world.specs.state.State.{State}
use Rattle.aml_meaning.specs.declared.flow.Flow.TheVariants as flow
use Rattle.aml_meaning.specs.Evaluation.{rule}
use Rattle.aml_meaning.specs.Meaning.{meaning}
use Rattle.aml_meaning.specs.StatementTerms.{return_rule}
use Rattle.aml_meaning.specs.Tasks.{task, operand_value, value_at}
use Rattle.aml_laws.specs.OperatorTerms.{alone, of_one, GivesValue, IsRefused}
use Rattle.aml_laws.proofs.TreesCost.{term_begins}

module _ {S : Type 0} (accesses : Accesses S) (scope : List Seg) (depth : ℕ) where
  module _ (x : Tree) (w : State S) (steps : ℕ) where
    pub return_gives_back : (v : Value) (after : State S × ℕ) → GivesValue accesses scope depth x (w, steps) v after
        → meaning accesses (task scope depth (of_one opcodes.Return x)) (w, suc steps) ≡ (Ok (flow.Return v), after)
    unfolding rule return_rule value_at operand_value settle give go_on ◌>>=◌
    return_gives_back v after is = (term_begins accesses (task scope depth (of_one opcodes.Return x))).paid w steps ∙ rw is refl

    pub return_is_refused : (e : Refusal) (after : State S × ℕ) → IsRefused accesses scope depth x (w, steps) e after
        → IsRefused accesses scope depth (of_one opcodes.Return x) (w, suc steps) e after
    unfolding rule return_rule value_at operand_value settle give go_on ◌>>=◌
    return_is_refused e after is = (term_begins accesses (task scope depth (of_one opcodes.Return x))).paid w steps ∙ rw is refl

  module _ (w : State S) (steps : ℕ) where
    pub break_breaks : meaning accesses (task scope depth (alone opcodes.Break)) (w, suc steps) ≡ (Ok flow.Break, (w, steps))
    unfolding rule give
    break_breaks = (term_begins accesses (task scope depth (alone opcodes.Break))).paid w steps

    pub continue_continues : meaning accesses (task scope depth (alone opcodes.Continue)) (w, suc steps) ≡ (Ok flow.Continue, (w, steps))
    unfolding rule give
    continue_continues = (term_begins accesses (task scope depth (alone opcodes.Continue))).paid w steps

    pub noop_gives_nothing : (meaning accesses (task scope depth (alone opcodes.Noop)) (w, suc steps) ≡ (Ok flow.Next, (w, steps))) × (meaning accesses (task scope depth (alone opcodes.BreakPoint)) (w, suc steps) ≡ (Ok flow.Next, (w, steps)))
    unfolding rule give
    noop_gives_nothing = ((term_begins accesses (task scope depth (alone opcodes.Noop))).paid w steps, (term_begins accesses (task scope depth (alone opcodes.BreakPoint))).paid w steps)
