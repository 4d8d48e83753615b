use Rattle.std.proofs.Common.{rules, arith}
use Rattle.aml_frames.specs.declared.frames.Frame.TheVariants as frames
use Rattle.aml_frames.specs.declared.frames.Next.TheVariants as next
use Rattle.aml_frames.specs.declared.uses.Dyadic.TheVariants as dyadic
use Rattle.aml_frames.specs.declared.uses.Monadic.TheVariants as monadic
use Rattle.aml_frames.proofs.Knowing.{leads_on}
use Rattle.aml_frames.proofs.Using.{leads_store, leads_copy, leads_one, leads_not, leads_deref_of, leads_two, leads_divide, leads_test}
use Rattle.aml_operators.proofs.operators.begin_operator.Goals as goal

pub returns-in-Store : goal.returns-in-Store
returns-in-Store g c = record {
  spent = omega arith;
  falls = first_of (search rules, grind arith);
  means = rw c.in-Store.is (leads_on (next.Term c.args.levels (frames.Operand monadic.Store c.args.levels)) c.args.act.now _ c.begin_monadic.ensures.steps.means (leads_store c.args.levels));
  ends = search rules;
}

pub returns-in-CopyObject : goal.returns-in-CopyObject
returns-in-CopyObject g c = record {
  spent = omega arith;
  falls = first_of (search rules, grind arith);
  means = rw c.in-CopyObject.is (leads_on (next.Term c.args.levels (frames.Operand monadic.CopyObject c.args.levels)) c.args.act.now _ c.begin_monadic-in-CopyObject.ensures.steps.means (leads_copy c.args.levels));
  ends = search rules;
}

pub returns-in-Two : goal.returns-in-Two
returns-in-Two g c = record {
  spent = omega arith;
  falls = first_of (search rules, grind arith);
  means = rw c.in-Two.is (leads_on (next.Term c.args.levels (frames.First (dyadic.Two c.in-Two.two) c.args.levels)) c.args.act.now _ c.begin_dyadic.ensures.steps.means (leads_two c.args.levels c.in-Two.two));
  ends = search rules;
}

pub returns-in-Divide : goal.returns-in-Divide
returns-in-Divide g c = record {
  spent = omega arith;
  falls = first_of (search rules, grind arith);
  means = rw c.in-Divide.is (leads_on (next.Term c.args.levels (frames.First dyadic.Divide c.args.levels)) c.args.act.now _ c.begin_dyadic-in-Divide.ensures.steps.means (leads_divide c.args.levels));
  ends = search rules;
}

pub returns-in-One : goal.returns-in-One
returns-in-One g c = record {
  spent = omega arith;
  falls = first_of (search rules, grind arith);
  means = rw c.in-One.is (leads_on (next.Term c.args.levels (frames.Operand (monadic.One c.in-One.one) c.args.levels)) c.args.act.now _ c.begin_monadic-in-One.ensures.steps.means (leads_one c.args.levels c.in-One.one));
  ends = search rules;
}

pub returns-in-Test : goal.returns-in-Test
returns-in-Test g c = record {
  spent = omega arith;
  falls = first_of (search rules, grind arith);
  means = rw c.in-Test.is (leads_on (next.Term c.args.levels (frames.First (dyadic.Test c.in-Test.test) c.args.levels)) c.args.act.now _ c.begin_dyadic-in-Test.ensures.steps.means (leads_test c.args.levels c.in-Test.test));
  ends = search rules;
}

pub returns-in-LNot : goal.returns-in-LNot
returns-in-LNot g c = record {
  spent = omega arith;
  falls = first_of (search rules, grind arith);
  means = rw c.in-LNot.is (leads_on (next.Term c.args.levels (frames.Operand monadic.LNot c.args.levels)) c.args.act.now _ c.begin_monadic-in-LNot.ensures.steps.means (leads_not c.args.levels));
  ends = search rules;
}

pub returns-in-DerefOf : goal.returns-in-DerefOf
returns-in-DerefOf g c = record {
  spent = omega arith;
  falls = first_of (search rules, grind arith);
  means = rw c.in-DerefOf.is (leads_on (next.Term c.args.levels (frames.Operand monadic.DerefOf c.args.levels)) c.args.act.now _ c.begin_monadic-in-DerefOf.ensures.steps.means (leads_deref_of c.args.levels));
  ends = search rules;
}
