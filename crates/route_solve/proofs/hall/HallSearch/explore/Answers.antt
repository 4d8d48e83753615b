use Rattle.std.proofs.Common.{arith, subst, sym}
use Rattle.route_model.specs.Placement.{Offers}
use Rattle.route_solve.specs.Graphs.{edges}
use Rattle.route_solve.proofs.Reaching.{longer_still, held_still, done_kept, done_more}
use Rattle.route_solve.proofs.hall.HallSearch.explore.Goals as goal

pub loop-pos-preserved : goal.loop-pos-preserved
loop-pos-preserved c =
    let inv = c.loop-pos.invariant in
    let g = c.args.graph.now in
    let s0 = c.args.self.now in
    let s1 = c.loop-pos.self in
    let s2 = c.visit.new.self in
    let pos = c.loop-pos.pos in
    let e = c.visit.ensures in
    let more = e.further.longer.longer in
    let same = e.further.longer.kept pos c.loop-pos-test.true in
    record {
      within = let t = c.loop-pos-test.true in omega arith;
      search = e.search;
      further = record {
        longer = longer_still s0.queue.items s0.tail s1.queue.items s1.tail s2.queue.items s2.tail inv.further.longer e.further.longer;
        reached = λ k h. e.further.reached k (inv.further.reached k h);
        seen = λ k h. e.further.seen k (inv.further.seen k h);
      };
      held = held_still c.args.matching.now.choice.items s1.queue.items s1.tail s2.queue.items s2.tail s0.tail inv.further.longer.longer e.further.longer inv.held e.held;
      done = done_more (edges g) s2.seen.items s2.queue.items 0 pos
          (done_kept (edges g) s1.seen.items s2.seen.items s1.queue.items s2.queue.items 0 pos e.further.seen (λ k b. e.further.longer.kept k (let w = inv.within in omega arith)) inv.done)
          (λ i o. c.in-None.ensures.done i (subst (λ l. Offers (edges g) l i) same o));
    }

pub returns-in-Some-clause-further : goal.returns-in-Some-clause-further
returns-in-Some-clause-further c =
    let inv = c.loop-pos.invariant in
    let s0 = c.args.self.now in
    let s1 = c.loop-pos.self in
    let s2 = c.visit.new.self in
    let e = c.visit.ensures in
    record {
      longer = longer_still s0.queue.items s0.tail s1.queue.items s1.tail s2.queue.items s2.tail inv.further.longer e.further.longer;
      reached = λ k h. e.further.reached k (inv.further.reached k h);
      seen = λ k h. e.further.seen k (inv.further.seen k h);
    }

pub returns-in-Some-clause-found : goal.returns-in-Some-clause-found
returns-in-Some-clause-found c =
    let e = c.visit.ensures in
    let more = e.further.longer.longer in
    let same = e.further.longer.kept c.loop-pos.pos c.loop-pos-test.true in
    record {
      within = let t = c.loop-pos-test.true in omega arith;
      offered = subst (λ l. Offers (edges c.args.graph.now) l c.in-Some.i) (sym same) c.in-Some.ensures.done.0;
      free = c.in-Some.ensures.done.1;
    }

pub returns-in-Some-clause-held : goal.returns-in-Some-clause-held
returns-in-Some-clause-held c =
    let inv = c.loop-pos.invariant in
    let s0 = c.args.self.now in
    let s1 = c.loop-pos.self in
    let s2 = c.visit.new.self in
    held_still c.args.matching.now.choice.items s1.queue.items s1.tail s2.queue.items s2.tail s0.tail inv.further.longer.longer c.visit.ensures.further.longer inv.held c.visit.ensures.held

pub returns-clause-found : goal.returns-clause-found
returns-clause-found c k i le b o = c.loop-pos.invariant.done k i le (let t = c.loop-pos-test.false in omega arith) o
