use Rattle.std.proofs.Common.{◌∙◌, rules, arith}
use Rattle.aml_frames.proofs.Forming.{leads_unfilled}
use Rattle.aml_frames.proofs.Stepping.{leads_settle_ok, leads_lift_ok}
use Rattle.aml_declarations.proofs.packages.resume_var_package.Goals as goal

pub returns : goal.returns
returns g c = record {
  spent = omega arith;
  falls = first_of (search rules, grind arith);
  means =
      let e = c.run.view_is in
      let last = leads_unfilled {ac = g.S.Space.accesses} {s = c.args.run.now} c.args.act.now c.in_ok-new.field-0 c.in_ok-count.count c.args.levels c.args.outer (c.in_ok-new.ensures ∙ c.unfilled-filling.ensures) in
      rw (← e) (leads_settle_ok _ _ c.in_ok-value.ensures.answer
      (leads_lift_ok c.run.inside.steps _ _ c.in_ok-count.ensures.answer
      (leads_lift_ok c.run.inside.steps _ _ c.in_ok-within.ensures.change (rw e last))));
  ends = search rules;
}
