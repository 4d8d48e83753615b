-- Divide puts the remainder and the quotient into its targets.
use Rattle.std.specs.Prelude.{◌≡◌, ◌<◌, ◌/◌, ◌%◌, ℕ, suc, List, Ok, Err, refl}
use Rattle.std.proofs.Common.{◌∙◌}
use Rattle.ar_space.specs.Accesses.{Accesses}
use Rattle.ar_space.specs.Change.{give, settle, go_on, ◌>>=◌}
use Rattle.ar_space.specs.declared.refusal.Refusal.{Refusal}
use Rattle.aml_path.specs.declared.segment.Seg.{Seg}
use Rattle.aml_grammar.specs.Tree.{Tree, Part}
use Rattle.aml_objects.specs.declared.value.Value.{Value}
use Rattle.aml_objects.specs.declared.value.Value.TheVariants as value
use Rattle.aml_convert.specs.declared.operators.Division.{Division}
use Rattle.aml_world.specs.state.State.{State}
use Rattle.aml_world.specs.state.Run.{Run, lift}
use Rattle.aml_world.specs.values.Operations.{divided_in}
use Rattle.aml_world.specs.values.Stores.{stored}
use Rattle.aml_meaning.specs.declared.flow.Flow.{Flow}
use Rattle.aml_meaning.specs.Tasks.{Task, task, operand_value, value_at, two_values}
use Rattle.aml_meaning.specs.TargetTerms.{targeted}
use Rattle.aml_meaning.specs.OperatorTerms.{divide_rule}
use Rattle.aml_meaning.specs.Evaluation.{rule}
use Rattle.aml_meaning.specs.Meaning.{meaning}
use Rattle.aml_laws.specs.OperatorTerms.{divide, Gives, IsRefused, TwoIntegers, IsDivision}
use Rattle.aml_laws.specs.PutIntoTargets.{IsTaken, IsNotTaken}
use Rattle.aml_laws.proofs.Divisions.{not_nothing, is_division}
use Rattle.aml_laws.proofs.PutIntoTargets.{targeted_so}
use Rattle.aml_laws.proofs.TreesCost.{term_begins}

divide_goes_on : {S : Type 0} (accesses : Accesses S) (ev : Task → Run S Flow) (scope : List Seg) (depth : ℕ) (t : Tree) (s after : State S × ℕ) (v u : Value) (d : Division) → two_values ev scope depth t s ≡ (Ok (v, u), after) → divided_in v u after.0 ≡ (Ok d, after.0)
    → divide_rule accesses ev scope depth t s ≡ (targeted accesses ev scope depth t 2 (value.Integer d.remainder) >>= (λ done. targeted accesses ev scope depth t 3 (value.Integer d.quotient))) after
unfolding divide_rule lift go_on ◌>>=◌
divide_goes_on accesses ev scope depth t s after v u d gives divides = rw (gives, divides) refl

module _ {S : Type 0} (accesses : Accesses S) (scope : List Seg) (depth : ℕ) (x y : Tree) (w : State S) (steps a : ℕ) (after : State S × ℕ) (b : ℕ) (h : TwoIntegers accesses scope depth x y (w, steps) a b after) (some : 0 < b) where
  module _ (r q : Part) where
    abbrev term : Tree
    term = divide x y r q

    abbrev quotient_put : Run S Flow
    quotient_put = targeted accesses (meaning accesses) scope depth term 3 (value.Integer (a / b))

    operands_given : two_values (meaning accesses) scope depth term (w, steps) ≡ (Ok (h.v, h.u), after)
    unfolding two_values value_at operand_value settle give go_on ◌>>=◌
    operands_given = rw (h.first, h.second) refl

    division_is : divided_in h.v h.u after.0 ≡ (Ok (record { quotient = a / b; remainder = a % b }), after.0)
    unfolding divided_in settle go_on ◌>>=◌
    division_is = rw (h.one, h.other, not_nothing b some) refl

    divided : rule accesses (meaning accesses) (task scope depth term) (w, steps) ≡ (targeted accesses (meaning accesses) scope depth term 2 (value.Integer (a % b)) >>= (λ done. quotient_put)) after
    unfolding rule
    divided = divide_goes_on accesses (meaning accesses) scope depth term (w, steps) after h.v h.u (record { quotient = a / b; remainder = a % b }) operands_given division_is

    begins : meaning accesses (task scope depth term) (w, suc steps) ≡ (targeted accesses (meaning accesses) scope depth term 2 (value.Integer (a % b)) >>= (λ done. quotient_put)) after
    begins = (term_begins accesses (task scope depth term)).paid w steps ∙ divided

    goes_on : (between : State S × ℕ) → IsTaken accesses scope depth stored r (value.Integer (a % b)) after between → meaning accesses (task scope depth term) (w, suc steps) ≡ quotient_put between
    unfolding give go_on ◌>>=◌
    goes_on between one = begins ∙ rw (targeted_so accesses scope depth term 2 r refl (value.Integer (a % b)) after (Ok tt) between one) refl

  both_taken : (r q : Part) (between end : State S × ℕ) → IsTaken accesses scope depth stored r (value.Integer (a % b)) after between → IsTaken accesses scope depth stored q (value.Integer (a / b)) between end → Gives accesses scope depth (divide x y r q) (w, suc steps) (a / b) end
  unfolding give go_on
  both_taken r q between end one other = goes_on r q between one ∙ targeted_so accesses scope depth (divide x y r q) 3 q refl (value.Integer (a / b)) between (Ok tt) end other

  remainder_not_taken : (r q : Part) (e : Refusal) (end : State S × ℕ) → IsNotTaken accesses scope depth stored r (value.Integer (a % b)) after e end → IsRefused accesses scope depth (divide x y r q) (w, suc steps) e end
  unfolding go_on ◌>>=◌
  remainder_not_taken r q e end one = begins r q ∙ rw (targeted_so accesses scope depth (divide x y r q) 2 r refl (value.Integer (a % b)) after (Err e) end one) refl

  quotient_not_taken : (r q : Part) (e : Refusal) (between end : State S × ℕ) → IsTaken accesses scope depth stored r (value.Integer (a % b)) after between → IsNotTaken accesses scope depth stored q (value.Integer (a / b)) between e end
      → IsRefused accesses scope depth (divide x y r q) (w, suc steps) e end
  unfolding go_on
  quotient_not_taken r q e between end one other = goes_on r q between one ∙ targeted_so accesses scope depth (divide x y r q) 3 q refl (value.Integer (a / b)) between (Err e) end other

  pub division_puts : (n : ℕ) × (m : ℕ) × IsDivision a b n m × (
      ((r q : Part) (between end : State S × ℕ) → IsTaken accesses scope depth stored r (value.Integer m) after between → IsTaken accesses scope depth stored q (value.Integer n) between end → Gives accesses scope depth (divide x y r q) (w, suc steps) n end)
      × ((r q : Part) (e : Refusal) (end : State S × ℕ) → IsNotTaken accesses scope depth stored r (value.Integer m) after e end → IsRefused accesses scope depth (divide x y r q) (w, suc steps) e end)
      × ((r q : Part) (e : Refusal) (between end : State S × ℕ) → IsTaken accesses scope depth stored r (value.Integer m) after between → IsNotTaken accesses scope depth stored q (value.Integer n) between e end → IsRefused accesses scope depth (divide x y r q) (w, suc steps) e end)
      )
  division_puts = (a / b, a % b, is_division a b some, (both_taken, remainder_not_taken, quotient_not_taken))
