use Rattle.std.specs.Prelude.{◌≡◌, ◌<◌}
use Rattle.std.proofs.Common.{ap, arith, refl, subst, sym, rules}
use Rattle.aml_frames.specs.Weights.{next_weight, step_weight}
use Rattle.aml_evaluation.proofs.Machine.{falls_item, falls_operated}
use Rattle.aml_frames.proofs.PassedItems.{refused_begun}
use Rattle.aml_frames.proofs.Weighing.{step_enough}
use Rattle.aml_evaluation.proofs.Machine.{listing_on}
use Rattle.aml_evaluation.proofs.lists.step_items.Goals as goal
use Rattle.aml_evaluation.proofs.lists.step_items.Goals.{in-None+in_ok-next-in-None, in-Some+in-None-try_operator+in_ok-next-in-None-try_operator}

pub returns-in_err-next-in-None : goal.returns-in_err-next-in-None
returns-in_err-next-in-None g c = record {
  falls = search (rules, listing_on);
  refused =
      let paid = rw (c.in-None.ensures.none refl) at c.in_err-next-in-None.ensures.refused in
      refused_begun _ c.from_residual.result _ _ _ paid c.from_residual.ensures;
  means = search (rules, listing_on);
}

pub returns-in-Some-try_operator : goal.returns-in-Some-try_operator
returns-in-Some-try_operator g c = record {
  falls = falls_operated c.try_operator.new.run.1 c.take_operator.new.run.1 c.args.run.now.1 _ c.in-Some-try_operator.ensures.spent c.in-Some.ensures.paid;
  refused = search (rules, listing_on);
  means = search (rules, listing_on);
}

pub returns-in_err-next-in-None-try_operator : goal.returns-in_err-next-in-None-try_operator
returns-in_err-next-in-None-try_operator g c = record {
  falls = search (rules, listing_on);
  refused =
      let spent = rw (c.in-None-try_operator.ensures.none refl) at c.in_err-next-in-None-try_operator.ensures.spent in
      let paid = c.in-Some.ensures.paid in
      refused_begun _ c.from_residual-in_err-next-in-None-try_operator.result _ _ _ (λ holds. omega (arith, spent, paid)) c.from_residual-in_err-next-in-None-try_operator.ensures;
  means = search (rules, listing_on);
}

pub returns : goal.returns
returns g c = record {
  falls =
      let paid : c.match-take_operator.run.1 < c.args.run.now.1 = elim c.match-take_operator.branch [
        | in-None+in_ok-next-in-None w ↦ subst (λ run. run.1 < c.args.run.now.1) (sym w.run-is) (rw (w.in-None.ensures.none refl) at w.in_ok-next-in-None.ensures.paid)
        | in-Some+in-None-try_operator+in_ok-next-in-None-try_operator w ↦
            let spent = rw (w.in-None-try_operator.ensures.none refl) at w.in_ok-next-in-None-try_operator.ensures.spent in
            let first = w.in-Some.ensures.paid in
            subst (λ run. run.1 < c.args.run.now.1) (sym w.run-is) (omega (arith, spent, first))
      ] in
      let few : next_weight c.match-take_operator.next < step_weight = elim c.match-take_operator.branch [
        | in-None+in_ok-next-in-None w ↦ subst (λ n. next_weight n < step_weight) (sym w.next-is) w.in_ok-next-in-None.ensures.falls
        | in-Some+in-None-try_operator+in_ok-next-in-None-try_operator w ↦
            let less = w.in_ok-next-in-None-try_operator.ensures.falls in
            let enough = step_enough in
            subst (λ n. next_weight n < step_weight) (sym w.next-is) (omega (arith, less, enough))
      ] in
      let same : c.match-take_operator.stack.entries ≡ c.args.stack.now.entries = elim c.match-take_operator.branch [
        | in-None+in_ok-next-in-None w ↦ ap (λ stack. stack.entries) w.stack-is
        | in-Some+in-None-try_operator+in_ok-next-in-None-try_operator w ↦ ap (λ stack. stack.entries) w.stack-is
      ] in
      let falls = rw same at c.follow_item.ensures.falls in
      falls_item c.follow_item.result c.match-take_operator.run.1 c.args.run.now.1 _ _ _ _ paid few falls;
  refused = search (rules, listing_on);
  means = search (rules, listing_on);
}
