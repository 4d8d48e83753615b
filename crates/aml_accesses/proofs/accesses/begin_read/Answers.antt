use Rattle.std.proofs.Common.{rules, arith}
use Rattle.aml_frames.proofs.Weighing.{read_free}
use Rattle.aml_accesses.proofs.accesses.begin_read.Goals as goal

pub returns : goal.returns
returns g c = record {
  spent = omega arith;
  falls =
      let h = rw c.read_access.ensures at c.begin_access.ensures.falls in
      read_free c.begin_access.result c.args.act.now.depth h;
  means = let h = rw c.read_access.ensures at c.begin_access.ensures.means in h;
  ends = search rules;
}
