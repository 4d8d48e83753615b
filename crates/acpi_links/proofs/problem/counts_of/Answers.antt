use Rattle.std.proofs.Common.{arith}
use Rattle.acpi_links.proofs.Tally.{one_count_more, one_key_more, one_entry_more, few_so_far, numbers_of, tallied}
use Rattle.acpi_links.proofs.problem.counts_of.Goals as goal

pub count_one-requires : goal.count_one-requires
count_one-requires c = few_so_far c.loop-n.counts c.args.numbers.now c.loop-n.n-index _ c.loop-n.invariant.0 (omega arith) c.requires

pub loop-n-preserved : goal.loop-n-preserved
loop-n-preserved c = (
  one_count_more c.loop-n.counts c.count_one.new.counts c.args.numbers.now c.loop-n.n-index c.loop-n.invariant.0 (omega arith) c.in_ok-count_one.ensures.count,
  one_key_more c.loop-n.counts c.count_one.new.counts c.args.numbers.now _ c.loop-n.n-index _ c.loop-n.invariant.1 (omega arith) c.in_ok-count_one.ensures.entries,
  one_entry_more c.loop-n.counts c.count_one.new.counts c.loop-n.n-index _ _ c.loop-n.invariant.2 c.in_ok-count_one.ensures.entries,
)

pub returns-clause-value : goal.returns-clause-value
returns-clause-value c = tallied c.loop-n.counts _ c.args.numbers.now c.loop-n.n-index c.loop-n.invariant.0 (omega arith) c.loop-n.invariant.1 c.in_ok-counts_in_order.ensures.value c.in_ok-counts_in_order.ensures.ascending

pub returns-clause-keys : goal.returns-clause-keys
returns-clause-keys c = numbers_of c.loop-n.counts _ c.args.numbers.now c.loop-n.n-index (omega arith) c.loop-n.invariant.1 c.in_ok-counts_in_order.ensures.value
