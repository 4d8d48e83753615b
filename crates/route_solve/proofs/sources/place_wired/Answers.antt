use Rattle.std.proofs.Common.{arith, ◌<◌, length, ◌+◌, ◌-◌, ◌/◌}
use Rattle.route_solve.proofs.Wired.{earlier_wired, later_wired, count_there, none_wired}
use Rattle.route_solve.proofs.sources.place_wired.Goals as goal

pub returns-then-wired-middle : goal.returns-then-wired-middle
returns-then-wired-middle c =
    let within : c.loop-low.low + (c.loop-low.high - c.loop-low.low) / 2 < length c.args.wired.now = omega arith in
    (within, count_there c.args.wired.now c.requires.ascending c.args.n (c.loop-low.low + (c.loop-low.high - c.loop-low.low) / 2) within c.if-wired-middle.true)

pub loop-low-preserved-then-wired-middle-2 : goal.loop-low-preserved-then-wired-middle-2
loop-low-preserved-then-wired-middle-2 c = record {
  ordered = omega arith;
  within = omega arith;
  below = earlier_wired c.args.wired.now c.requires.ascending c.args.n (c.loop-low.low + (c.loop-low.high - c.loop-low.low) / 2) (omega arith) c.if-wired-middle-2.true;
  above = c.loop-low.invariant.above;
}

pub loop-low-preserved : goal.loop-low-preserved
loop-low-preserved c = record {
  ordered = omega arith;
  within = omega arith;
  below = c.loop-low.invariant.below;
  above = later_wired c.args.wired.now c.requires.ascending c.args.n (c.loop-low.low + (c.loop-low.high - c.loop-low.low) / 2) (let e = c.if-wired-middle.false in let f = c.if-wired-middle-2.false in omega arith);
}

pub returns : goal.returns
returns c = none_wired c.args.wired.now c.requires.ascending c.args.n c.loop-low.low c.loop-low.invariant.below (λ k le b. c.loop-low.invariant.above k (omega arith) b)
