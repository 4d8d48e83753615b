use Rattle.std.proofs.Common.{◌<◌, rules, arith}
use Rattle.aml_marks.specs.Marked.{a_name}
use Rattle.aml_declarations.proofs.DeclaringFields.{byte_read, leads_operation_region}
use Rattle.aml_declarations.proofs.regions.begin_operation_region.Goals as goal

pub returns : goal.returns
unfolding a_name
returns g c = record {
  spent = omega arith;
  falls = first_of (search rules, grind arith);
  means =
      let few : c.next_byte-space.result < 256 = first_of (search rules, grind arith) in
      leads_operation_region c.args.act.now c.over_name.new.self c.advance.new.self c.args.levels c.next_byte-space.result c.position-name.result c.position-name.ensures c.over_name.ensures (byte_read c.next_byte-space.result c.over_name.new.self.place c.next_byte-space.ensures few) c.advance.ensures;
  ends = search rules;
}
