-- Divide and Mod give quotient and remainder, and are refused where the divisor is 0.
use Rattle.std.specs.Prelude.{◌≡◌, ◌<◌, ◌+◌, ◌*◌, ◌/◌, ◌%◌, ◌==◌, ℕ, suc, false, List, Ok, Err, refl}
use Rattle.std.proofs.Common.{rules, ◌∙◌}
use Rattle.std.proofs.Math.Nat.{mod-lt}
use Rattle.std.proofs.lemmas.Nat.{div-add-mod'}
use Rattle.ar_space.specs.declared.refusal.Refusal.{Refusal}
use Rattle.ar_space.specs.declared.refusal.Refusal.TheVariants as refusal
use Rattle.ar_space.specs.declared.refusal.ValueFault.TheVariants.{DivideByZero}
use Rattle.ar_space.specs.Accesses.{Accesses}
use Rattle.ar_space.specs.Change.{give, settle, go_on, ◌>>=◌}
use Rattle.aml_path.specs.declared.segment.Seg.{Seg}
use Rattle.aml_grammar.specs.declared.opcode.Opcode.TheVariants as opcodes
use Rattle.aml_grammar.specs.Tree.{Tree, Part}
use Rattle.aml_objects.specs.declared.value.Value.{Value}
use Rattle.aml_objects.specs.declared.value.Value.TheVariants as value
use Rattle.aml_convert.specs.declared.operators.BinaryOperator.TheVariants as binary
use Rattle.aml_convert.specs.Operators.{result_of}
use Rattle.aml_world.specs.state.State.{State}
use Rattle.aml_world.specs.state.Run.{lift}
use Rattle.aml_world.specs.values.Operations.{divided_in}
use Rattle.aml_meaning.specs.declared.flow.Flow.TheVariants as flow
use Rattle.aml_meaning.specs.Tasks.{task, operand_value, value_at, two_values}
use Rattle.aml_meaning.specs.OperatorTerms.{divide_rule}
use Rattle.aml_meaning.specs.Evaluation.{rule}
use Rattle.aml_meaning.specs.Meaning.{meaning}
use Rattle.aml_laws.specs.OperatorTerms.{two_to, divide, IsDivision, StoresTo, Gives, IsRefused, TwoIntegers}
use Rattle.aml_laws.proofs.TreesCost.{term_begins}
use Rattle.aml_laws.proofs.OperatorsComputed.{stored_at, operator_gives, operator_refused}

pub not_nothing : (b : ℕ) → 0 < b → (b == 0) ≡ false
not_nothing b some = search rules

pub is_division : (a b : ℕ) → 0 < b → IsDivision a b (a / b) (a % b)
is_division a b some = record { less = mod-lt a some; whole = div-add-mod' a b }

module _ {S : Type 0} (accesses : Accesses S) (scope : List Seg) (depth : ℕ) (x y : Tree) (w : State S) (steps a : ℕ) (after : State S × ℕ) where
  module _ (b : ℕ) (h : TwoIntegers accesses scope depth x y (w, steps) a b after) (some : 0 < b) where
    -- the remainder is stored first
    divide_gives : (r q : Part) (between end : State S) → StoresTo scope r (value.Integer (a % b)) after.0 between → StoresTo scope q (value.Integer (a / b)) between end → rule accesses (meaning accesses) (task scope depth (divide x y r q)) (w, steps) ≡ (Ok (flow.Value (value.Integer (a / b))), (end, after.1))
    unfolding rule divide_rule two_values value_at operand_value divided_in settle lift give go_on ◌>>=◌
    divide_gives r q between end one other =
        rw (h.first, h.second, h.one, h.other, not_nothing b some, stored_at accesses scope depth (divide x y r q) 2 after.0 after.1 r (value.Integer (a % b)) between one refl) (stored_at accesses scope depth (divide x y r q) 3 between after.1 q (value.Integer (a / b)) end other refl)

    pub divides : (n : ℕ) × (m : ℕ) × IsDivision a b n m × ((r q : Part) (between end : State S) → StoresTo scope r (value.Integer m) after.0 between → StoresTo scope q (value.Integer n) between end → Gives accesses scope depth (divide x y r q) (w, suc steps) n (end, after.1))
    divides = (a / b, a % b, is_division a b some, λ r q between end one other. (term_begins accesses (task scope depth (divide x y r q))).paid w steps ∙ divide_gives r q between end one other)

    remainder_is : result_of binary.Mod after.0.width a b ≡ Ok (a % b)
    remainder_is = rw (not_nothing b some) refl

    pub remains : (n : ℕ) × (m : ℕ) × IsDivision a b m n × ((p : Part) (end : State S) → StoresTo scope p (value.Integer n) after.0 end → Gives accesses scope depth (two_to opcodes.Mod x y p) (w, suc steps) n (end, after.1))
    remains = (a % b, a / b, is_division a b some, operator_gives accesses scope depth x y w steps a b after h binary.Mod opcodes.Mod (a % b) refl remainder_is)

  module _ (h : TwoIntegers accesses scope depth x y (w, steps) a 0 after) where
    divide_refused : (r q : Part) → rule accesses (meaning accesses) (task scope depth (divide x y r q)) (w, steps) ≡ (Err (refusal.Value DivideByZero), after)
    unfolding rule divide_rule two_values value_at operand_value divided_in settle lift give go_on ◌>>=◌
    divide_refused r q = rw (h.first, h.second, h.one, h.other) refl

    pub refused_by_zero : (p q : Part) → IsRefused accesses scope depth (two_to opcodes.Mod x y p) (w, suc steps) (refusal.Value DivideByZero) after × IsRefused accesses scope depth (divide x y p q) (w, suc steps) (refusal.Value DivideByZero) after
    refused_by_zero p q = (
      operator_refused accesses scope depth x y w steps a 0 after h binary.Mod opcodes.Mod (refusal.Value DivideByZero) refl refl p,
      (term_begins accesses (task scope depth (divide x y p q))).paid w steps ∙ divide_refused p q,
    )
