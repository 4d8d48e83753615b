use Rattle.std.proofs.Common.{◌<◌, rules, arith}
use Rattle.aml_frames.specs.Weights.{behind_weight}
use Rattle.aml_accesses.proofs.BankSteps.{falls_banked, banked}
use Rattle.aml_accesses.proofs.bank_access.begin_banked.Goals as goal

pub returns-clause-steps : goal.returns-clause-steps
unfolding behind_weight
returns-clause-steps g c = record {
  spent = omega arith;
  falls =
      let few : c.args.access.0.bits < 4294967296 = first_of (search rules, grind arith) in
      falls_banked c.begin_declared.result c.args.calls c.args.access.0 few c.begin_declared.ensures.steps.falls;
  means = search (rules, banked);
  ends = search rules;
}
