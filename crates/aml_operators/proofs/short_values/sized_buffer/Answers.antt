use Rattle.std.proofs.Common.{rules, arith}
use Rattle.aml_declarations.proofs.MadeValues.{filled_leads, filled_refused, handed_on, sized_leads}
use Rattle.aml_operators.proofs.short_values.sized_buffer.Goals as goal

pub returns : goal.returns
returns g c = record {
  value =
      sized_leads c.args.act.now c.open-outer.new.self c.short_integer.new.act c.args.levels c.in-Some.size c.open-outer.result c.open-outer.ensures.inside c.in-Some.ensures.integer c.in-Some.ensures.behind (filled_leads c.short_integer.new.act c.in-Some.size _ c.in_ok-buffer.ensures.made);
  refused = first_of (search rules, grind arith);
  behind = first_of (search rules, grind arith);
  spent = first_of (search rules, grind arith);
  kept = first_of (search rules, grind arith);
  moves = first_of (search rules, grind arith);
}

pub returns-in_err-buffer : goal.returns-in_err-buffer
returns-in_err-buffer g c = record {
  value = first_of (search rules, grind arith);
  refused =
      handed_on _ c.from_residual.result _ (sized_leads c.args.act.now c.open-outer.new.self c.short_integer.new.act c.args.levels c.in-Some.size c.open-outer.result c.open-outer.ensures.inside c.in-Some.ensures.integer c.in-Some.ensures.behind (filled_refused c.short_integer.new.act c.in-Some.size _ c.in_err-buffer.ensures.made)) c.from_residual.ensures;
  behind = first_of (search rules, grind arith);
  spent = first_of (search rules, grind arith);
  kept = first_of (search rules, grind arith);
  moves = first_of (search rules, grind arith);
}
