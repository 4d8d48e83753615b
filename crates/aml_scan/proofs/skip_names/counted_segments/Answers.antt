use Rattle.std.proofs.Common.{arith}
use Rattle.aml_grammar.specs.Names.{segment}
use Rattle.aml_scan.proofs.ScanLoops.{scanned_known, scanned_refused, times_turn, times_err, times_done}
use Rattle.aml_scan.proofs.skip_names.counted_segments.Goals as goal

pub returns-in_err-segment-clause-reads : goal.returns-in_err-segment-clause-reads
returns-in_err-segment-clause-reads g c = times_err segment c.args.count c.segments.counter c.segments-test.true c.segments.invariant.so_far (scanned_refused segment c.in_err-segment.ensures.reads) c.from_residual.ensures

pub segments-preserved : goal.segments-preserved
segments-preserved g c = record {
  so_far = times_turn segment c.args.count c.segments.counter c.segments-test.true c.segments.invariant.so_far (scanned_known segment c.in_ok-segment.ensures.reads);
  shorter = omega (arith, c.in_ok-segment.ensures.shorter, c.segments.invariant.shorter);
}

pub returns-clause-reads : goal.returns-clause-reads
returns-clause-reads g c = times_done segment c.args.count c.segments.counter c.segments-test.false c.segments.invariant.so_far
