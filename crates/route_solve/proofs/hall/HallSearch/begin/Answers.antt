use Rattle.std.proofs.Common.{◌≡◌, ◌∙◌, ℕ, Option, Some, None, length, sym, ap, arith, length-set}
use Rattle.std.proofs.lemmas.Bool.{true≢false}
use Rattle.route_model.specs.Placement.{place_of}
use Rattle.route_solve.specs.Graphs.{edges}
use Rattle.route_solve.proofs.Reaching.{trail_none, queue_none, trail_more, queue_more}
use Rattle.route_solve.proofs.hall.HallSearch.begin.Goals as goal

none_is : {A : Type 0} {x : ℕ} (o : Option ℕ) → o ≡ None → o ≡ Some x → A
none_is o e f = cc

pub returns-clause-search : goal.returns-clause-search
returns-clause-search c =
    let p = c.args.matching.now.choice.items in
    let g = c.args.graph.now in
    let s = c.clear.new.self in
    let link = c.args.link in
    let e = c.clear.ensures in
    let sized = c.requires.sized in
    let long = c.requires.matching.links in
    let within = c.requires.link.within in
    let marks : length s.reached.items ≡ length p = let a = e.same_reached in let b = sized.marks in omega arith in
    let queue : length s.queue.items ≡ length p = let a = ap length e.queue in let b = sized.queue in omega arith in
    let trail = trail_none (edges g) p g.low s.queue.items in
    let listed = queue_none s.reached.items s.queue.items e.reached in
    record {
      sized = record {
        marks = length-set s.reached.items link _ ∙ (marks ∙ long);
        queue = length-set s.queue.items 0 link ∙ (queue ∙ long);
        seen = e.same_seen ∙ sized.seen;
      };
      trail = trail_more (edges g) p g.low s.queue.items 0 s.reached.items link 0 trail listed marks queue within (e.reached link) c.requires.movable (λ x h. none_is (place_of p link) c.requires.link.unplaced h);
      listed = queue_more (edges g) p g.low s.queue.items 0 s.reached.items link 0 trail listed marks queue within (e.reached link);
      closed = λ i h. absurd (true≢false (sym h ∙ e.seen i));
    }
