use Rattle.std.proofs.Common.{rules, arith}
use Rattle.aml_meaning.specs.InvocationTerms.{call_rule}
use Rattle.aml_operators.proofs.names.begin_invocation.Goals as goal

pub returns-in-Method : goal.returns-in-Method
unfolding call_rule
returns-in-Method g c = record {
  spent = omega arith;
  falls = first_of (search rules, grind arith);
  means = let h = rw c.new.ensures.items at c.begin_call.ensures.means in rw c.in-Method.is h;
  ends = search rules;
}
