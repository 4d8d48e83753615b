use Rattle.std.proofs.Common.{◌∙◌, ap, arith, sym, rules}
use Rattle.aml_frames.specs.at_once.ShortTerms.{is_made}
use Rattle.aml_frames.proofs.ShortTerms.{charged_one}
use Rattle.aml_declarations.proofs.MadeValues.{done_begun, handed_on, refused_begun}
use Rattle.aml_operators.proofs.short_values.made_value.Goals as goal

pub returns-in_err-paid_value : goal.returns-in_err-paid_value
returns-in_err-paid_value g c = record {
  value = first_of (search rules, grind arith);
  refused =
      let paid = charged_one c.run.inside.world c.run.inside.steps (omega (arith, c.if-run-eq0.false)) in
      rw (← c.run.view_is) (handed_on _ c.from_residual.result _ (refused_begun c.args.act.now c.args.levels _ paid c.in_err-paid_value.ensures.refused) c.from_residual.ensures);
  spent = first_of (search rules, grind arith);
  paid = first_of (search rules, grind arith);
  charged = first_of (search rules, grind arith);
  memory = λ other. absurd (cc (sym c.if-not-is_made.false ∙ c.is_made.ensures ∙ ap is_made c.next_byte.ensures ∙ other));
  behind = first_of (search rules, grind arith);
  none = first_of (search rules, grind arith);
  stays = first_of (search rules, grind arith);
}

pub returns-in-Some : goal.returns-in-Some
returns-in-Some g c = record {
  value =
      let paid = charged_one c.run.inside.world c.run.inside.steps (omega (arith, c.if-run-eq0.false)) in
      let leads = rw c.in-Some.is at c.in_ok-paid_value.ensures.value in
      rw (← c.run.view_is) (done_begun c.args.act.now c.args.levels c.in-Some.value paid leads);
  refused = first_of (search rules, grind arith);
  spent = first_of (search rules, grind arith);
  paid = first_of (search rules, grind arith);
  charged = first_of (search rules, grind arith);
  memory = first_of (search rules, grind arith);
  behind = first_of (search rules, grind arith);
  none = first_of (search rules, grind arith);
  stays = first_of (search rules, grind arith);
}
