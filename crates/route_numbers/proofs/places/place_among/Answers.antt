use Rattle.std.proofs.Common.{arith, ◌+◌, ◌-◌, ◌/◌}
use Rattle.route_numbers.proofs.Numbered.{earlier_less, later_more, not_there}
use Rattle.route_numbers.proofs.places.place_among.Goals as goal

pub loop-low-preserved-then-numbers-middle-2 : goal.loop-low-preserved-then-numbers-middle-2
loop-low-preserved-then-numbers-middle-2 c = record {
  ordered = omega arith;
  within = omega arith;
  below = earlier_less c.args.numbers.now c.requires (c.loop-low.low + (c.loop-low.high - c.loop-low.low) / 2) c.args.n (omega arith) c.if-numbers-middle-2.true;
  above = c.loop-low.invariant.above;
}

pub loop-low-preserved : goal.loop-low-preserved
loop-low-preserved c = record {
  ordered = omega arith;
  within = omega arith;
  below = c.loop-low.invariant.below;
  above = later_more c.args.numbers.now c.requires (c.loop-low.low + (c.loop-low.high - c.loop-low.low) / 2) c.args.n (omega arith);
}

pub returns : goal.returns
returns c = not_there c.args.numbers.now c.args.n c.loop-low.low c.loop-low.invariant.below (λ k le b. c.loop-low.invariant.above k (omega arith) b)
