use Rattle.std.proofs.Common.{ap, sym, ◌∙◌, length, rules, arith}
use Rattle.aml_frames.specs.Indexed.{put_unit}
use Rattle.aml_accesses.proofs.UnitSteps.{items_put}
use Rattle.aml_accesses.proofs.BankSteps.{leads_put}
use Rattle.aml_accesses.proofs.bank_access.meet_unit.Goals as goal

pub returns-in-Reads : goal.returns-in-Reads
returns-in-Reads g c = record {
  spent = omega arith;
  falls = first_of (search rules, grind arith);
  means =
      let old = c.in-Reads.reads.bytes in
      let many = c.put_unit.ensures.len ∙ ap length c.deref_mut.ensures.value ∙ sym old.ok.0 in
      let bits = items_put old.len c.put_unit.new.bits old.items many ∙ c.put_unit.ensures.put ∙ ap (λ bs. put_unit bs c.args.unit c.args.number) c.deref_mut.ensures.value in
      rw c.in-Reads.is (leads_put c.in-Reads.reads c.args.unit c.args.number _ bits c.next_bank_read.ensures.means);
  ends = search rules;
}
