use Rattle.std.proofs.Common.{◌∙◌, ◌<◌, ◌≤◌, ℕ, subst, arith}
use Rattle.std.specs.Prelude.{IsSome}
use Rattle.route_model.specs.Placement.{place_of}
use Rattle.route_solve.specs.Graphs.{capacity, edges}
use Rattle.route_solve.specs.Capacities.{at}
use Rattle.route_solve.specs.Levels.{IsTrail, IsFound, AreClosed}
use Rattle.route_solve.proofs.Crowded.{certificate, last_is, nothing, unfound}
use Rattle.route_solve.proofs.hall.mark_hall_set.Goals as goal

pub returns-clause-set : goal.returns-clause-set
returns-clause-set c =
    let e = c.explore.ensures in
    let r = c.requires in
    let g = c.args.graph.now in
    let offers = edges g in
    let room = capacity g in
    let p = c.args.matching.now.choice.items in
    let link = c.args.link in
    let s = c.explore.new.self in
    let queue = s.queue.items in
    let tail = s.tail in
    let one = c.begin.ensures.one in
    let more = e.further.longer.longer in
    let root = e.further.longer.kept 0 (omega arith) ∙ c.begin.ensures.root in
    let held : (k : ℕ) → 1 ≤ k → k < tail → IsSome (place_of p (at queue k)) = λ k le. e.held k (omega arith) in
    let rooted = last_is offers room p link r.link r.matching.placed r.whole r.unplaced queue tail root held in
    let blocked = r.blocked in
    let done = nothing (λ f. IsFound offers room p queue tail f.0 f.1) c.explore.result e.found (λ f is. unfound offers room p g.low blocked.ready blocked.all link blocked.none queue tail e.search.trail rooted f.0 f.1 is (let b = r.graph.below _ _ is.offered in let k = blocked.known in omega arith)) in
    certificate offers room p link r.link r.matching.placed r.whole r.unplaced queue tail root held s.reached.items s.seen.items (omega arith)
    (subst (λ low. IsTrail offers p low queue tail) r.all e.search.trail) e.search.listed
    (subst (λ low. AreClosed room p low s.reached.items s.seen.items) r.all e.search.closed) done
