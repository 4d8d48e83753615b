-- An Index of what has no parts is refused.
use Rattle.std.specs.Prelude.{◌≡◌, ℕ, suc, List, Err, refl}
use Rattle.ar_space.specs.declared.refusal.Refusal.TheVariants as refusal
use Rattle.ar_space.specs.declared.refusal.ValueFault.TheVariants.{WrongType}
use Rattle.ar_space.specs.Accesses.{Accesses}
use Rattle.ar_space.specs.Change.{stop}
use Rattle.aml_path.specs.declared.segment.Seg.{Seg}
use Rattle.aml_grammar.specs.declared.opcode.Opcode.TheVariants as opcodes
use Rattle.aml_grammar.specs.Tree.{Tree, Part}
use Rattle.aml_objects.specs.declared.value.Value.{Value}
use Rattle.aml_world.specs.declared.values.operation_kind.TwoOperands.TheVariants as two
use Rattle.aml_world.specs.state.State.{State}
use Rattle.aml_world.specs.values.Operations.{indexed}
use Rattle.aml_laws.specs.OperatorTerms.{two_to, IsRefused}
use Rattle.aml_laws.specs.ReferringTerms.{HasNoParts, an_integer_has_none, a_reference_has_none}
use Rattle.aml_laws.specs.TestTerms.{TwoValues}
use Rattle.aml_laws.proofs.OperatorsComputed.{two_refused}

no_part : {S : Type 0} (w : State S) (v u : Value) → HasNoParts v → indexed v u w ≡ (Err (refusal.Value WrongType), w)
unfolding stop
no_part w _ u (an_integer_has_none n) = refl
no_part w _ u (a_reference_has_none r) = refl

pub no_part_indexed : {S : Type 0} (accesses : Accesses S) (scope : List Seg) (depth : ℕ) (x y : Tree) (w : State S) (steps : ℕ) (v u : Value) (after : State S × ℕ) → TwoValues accesses scope depth x y (w, steps) v u after → HasNoParts v → (p : Part)
    → IsRefused accesses scope depth (two_to opcodes.Index x y p) (w, suc steps) (refusal.Value WrongType) after
no_part_indexed accesses scope depth x y w steps v u after h none p = two_refused accesses scope depth x y p two.Index opcodes.Index refl w steps h.between after v u h.first h.second (refusal.Value WrongType) after.0 (no_part after.0 v u none)
