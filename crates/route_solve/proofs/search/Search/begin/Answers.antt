use Rattle.std.proofs.Common.{◌≡◌, length, ◌<◌, true, arith, ap, below_more}
use Rattle.std.proofs.lemmas.Bool.{OnFalse_at}
use Rattle.route_model.specs.Placement.{taken, is_reached}
use Rattle.route_solve.specs.Graphs.{capacity, edges}
use Rattle.route_solve.specs.Capacities.{at}
use Rattle.route_solve.proofs.Searching.{search_none}
use Rattle.route_solve.proofs.search.Search.begin.Goals as goal
use Rattle.route_solve.proofs.search.Search.begin.Goals.{then-has_room, else-has_room}

pub loop-interrupt-init : goal.loop-interrupt-init
loop-interrupt-init c =
    let g = c.args.graph.now in
    let sized = c.requires.sized in
    record {
      search = record {
        sized = record {
          words = let a = c.begin_left.auto.left in let b = sized.words in omega arith;
          marks = let a = c.clear_marks.ensures.same in let b = sized.marks in omega arith;
          ways = sized.ways;
        };
        search = search_none (edges g) (capacity g) c.args.matching.now.choice.items g.low c.begin_left.new.left c.clear_marks.new.marks.items c.args.self.now.ways.items (let a = c.clear_marks.ensures.same in let b = sized.marks in let d = sized.ways in omega arith) c.clear_marks.ensures.none (λ j b le. c.begin_left.ensures.all j (let f = c.requires.graph.few in let e = c.requires.matching.links in omega arith) le (let e = c.len.ensures in omega arith)) c.begin_left.ensures.only;
      };
      rooms = λ i b. absurd (omega arith);
    }

pub loop-interrupt-preserved : goal.loop-interrupt-preserved
loop-interrupt-preserved c =
    let inv = c.loop-interrupt.invariant in
    let i = c.loop-interrupt.interrupt in
    let p = c.args.matching.now.choice.items in
    let room = capacity c.args.graph.now in
    elim c.if-has_room.branch [
      | then-has_room w ↦
          rw w.self-is (record {
            search = w.add_way.ensures.search;
            rooms = below_more (λ k. taken p k < room k → is_reached w.add_way.new.self.visited.items k ≡ true) i (λ k b more. w.add_way.ensures.further.kept k (inv.rooms k b more)) (λ more. w.add_way.ensures.visited);
          })
      | else-has_room w ↦
          rw w.self-is (record {
            search = inv.search;
            rooms = below_more (λ k. taken p k < room k → is_reached c.loop-interrupt.self.visited.items k ≡ true) i inv.rooms (λ more. let n = OnFalse_at w.if-has_room.false c.has_room.ensures.no in let a = ap (λ xs. at xs i) c.deref-counts.ensures.value in let t = c.loop-interrupt-test.true in let l = ap length c.deref-counts.ensures.value in let e = c.requires.matching.counted i (omega arith) in absurd (omega arith));
          })
    ]
