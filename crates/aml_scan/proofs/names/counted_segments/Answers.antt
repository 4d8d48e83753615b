use Rattle.std.proofs.Common.{arith}
use Rattle.aml_grammar.specs.Names.{segment}
use Rattle.aml_scan.proofs.Loops.{times_init, times_turn, times_err, times_done}
use Rattle.aml_scan.proofs.names.counted_segments.Goals as goal

pub segments-init : goal.segments-init
segments-init g c = record {
  so_far = rw c.new-list.ensures.items (times_init segment c.args.count c.args.reader.now);
  shorter = omega arith;
}

pub returns-in_err-next-clause-reads : goal.returns-in_err-next-clause-reads
returns-in_err-next-clause-reads g c =
    times_err _ _ c.segments.list.items segment c.args.count c.segments.counter c.segments-test.true c.segments.invariant.so_far c.in_err-next.ensures.reads c.from_residual.ensures

pub segments-preserved : goal.segments-preserved
segments-preserved g c = record {
  so_far = rw c.in_ok-push.ensures.items (times_turn c.segments.list.items segment c.args.count c.segments.counter c.segments-test.true c.segments.invariant.so_far c.in_ok-next.ensures.reads);
  shorter = omega (arith, c.in_ok-next.ensures.shorter, c.segments.invariant.shorter);
}

pub returns-clause-reads : goal.returns-clause-reads
returns-clause-reads g c = times_done c.segments.list.items segment c.args.count c.segments.counter c.segments-test.false c.segments.invariant.so_far
