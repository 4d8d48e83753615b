use Rattle.std.proofs.Common.{arith}
use Rattle.acpi_links.proofs.Posed.{set_more, set_end, set_grown, set_few}
use Rattle.acpi_links.proofs.problem.set_of.Goals as goal

pub loop-n-preserved : goal.loop-n-preserved
loop-n-preserved c = (
  set_more _ c.loop-n.set.keys _ c.args.numbers.now c.loop-n.n-index c.loop-n.invariant.0 (omega arith) c.in_ok-insert.ensures.keys,
  set_grown _ c.loop-n.set.keys c.loop-n.n-index _ c.in_ok-insert.ensures.keys c.loop-n.invariant.1,
)

pub returns-clause-value : goal.returns-clause-value
returns-clause-value c = set_end _ c.loop-n.set.keys _ c.args.numbers.now c.loop-n.n-index c.loop-n.invariant.0 (omega arith) c.in_ok-ascending.ensures.value

pub returns-clause-few : goal.returns-clause-few
returns-clause-few c = set_few _ _ c.loop-n.n-index _ c.in_ok-ascending.ensures.value c.loop-n.invariant.1 (omega arith)
