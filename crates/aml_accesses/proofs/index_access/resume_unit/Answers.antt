use Rattle.std.proofs.Common.{ap, sym, ◌∙◌, length, rules, arith}
use Rattle.aml_frames.specs.Indexed.{put_unit}
use Rattle.aml_accesses.proofs.UnitSteps.{leads_put, items_put}
use Rattle.aml_accesses.proofs.index_access.resume_unit.Goals as goal

pub returns-in-Reads : goal.returns-in-Reads
returns-in-Reads g c = record {
  spent = omega arith;
  falls = first_of (search rules, grind arith);
  means =
      let old = c.in-Reads.reads.bytes in
      let many = c.put_unit.ensures.len ∙ ap length c.deref_mut.ensures.value ∙ sym old.ok.0 in
      let bits = items_put old.len c.put_unit.new.bits old.items many ∙ c.put_unit.ensures.put ∙ ap (λ bs. put_unit bs c.args.unit c.in_ok-number.number) c.deref_mut.ensures.value in
      let number = rw c.value_of_call.ensures at c.in_ok-number.ensures.answer in
      rw (sym c.into_inner.ensures ∙ c.in-Reads.is) (leads_put c.in-Reads.reads c.args.unit c.args.flow c.in_ok-number.number _ number bits c.next_read.ensures.means);
  ends = search rules;
}
