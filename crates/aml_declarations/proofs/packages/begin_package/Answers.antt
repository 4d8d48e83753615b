use Rattle.std.proofs.Common.{rules, ◌∙◌, arith}
use Rattle.aml_frames.proofs.Forming.{leads_package}
use Rattle.aml_declarations.proofs.packages.begin_package.Goals as goal

pub returns : goal.returns
returns g c = record {
  spent = omega arith;
  falls = first_of (search rules, grind arith);
  means = leads_package c.args.act.now c.open-outer.new.self c.advance.new.self c.in_ok-new.field-0 c.from-count.result c.args.levels c.open-outer.result c.open-outer.ensures.inside (search rules) c.advance.ensures (c.in_ok-new.ensures ∙ c.unfilled-filling.ensures);
  ends = search rules;
}
