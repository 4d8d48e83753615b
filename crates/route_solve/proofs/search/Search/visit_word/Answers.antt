use Rattle.std.proofs.Common.{arith, sym, ap, subst, ◌∙◌}
use Rattle.route_model.specs.Placement.{Offers}
use Rattle.route_solve.specs.declared.ways.Way.{Way}
use Rattle.route_solve.specs.Graphs.{capacity, edges}
use Rattle.route_solve.specs.Ready.{ready_at}
use Rattle.route_solve.specs.Rows.{HasBit}
use Rattle.route_solve.proofs.Parts.{placed_within}
use Rattle.route_solve.proofs.Searching.{marked_within, further_still, search_less}
use Rattle.route_solve.proofs.search.Search.visit_word.Goals as goal

pub next_left-requires-clause-within : goal.next_left-requires-clause-within
next_left-requires-clause-within c =
    let s = c.args.self.now in
    let known = marked_within s.visited.items (ready_at s.ways.items c.args.pos) (c.requires.search.search.marked c.args.pos c.requires.pos) in
    let way = c.requires.way in
    let m = c.requires.search.sized.marks in
    let r = c.requires.graph.bits.long in
    omega arith

pub visit_link-requires-clause-offered : goal.visit_link-requires-clause-offered
visit_link-requires-clause-offered c =
    let s = c.args.self.now in
    let g = c.args.graph.now in
    let way = c.requires.way in
    let known = marked_within s.visited.items (ready_at s.ways.items c.args.pos) (c.requires.search.search.marked c.args.pos c.requires.pos) in
    let m = c.requires.search.sized.marks in
    let w = c.requires.word in
    let here = c.in-Some.ensures.0 in
    let o = c.requires.graph.bits.only c.in-Some.link c.args.interrupt (omega arith) (omega arith) c.in-Some.ensures.2 in
    subst (Offers (edges g) c.in-Some.link) (sym way ∙ sym (ap (λ (v : Way). v.interrupt) (c.loop-link.invariant.further.same c.args.pos c.requires.pos))) o

pub loop-link-preserved : goal.loop-link-preserved
loop-link-preserved c =
    let g = c.args.graph.now in
    let s = c.visit_link.ensures.search in
    let s0 = c.args.self.now in
    let s1 = c.loop-link.self in
    let s2 = c.visit_link.new.self in
    record {
      search = record {
        sized = record { words = let a = c.clear_left.auto.left in let b = s.sized.words in omega arith; marks = s.sized.marks; ways = s.sized.ways };
        search = search_less (edges g) (capacity g) c.args.matching.now.choice.items g.low s2.left c.clear_left.new.left s2.visited.items s2.ways.items s2.found c.in-Some.link s.search c.clear_left.ensures c.visit_link.ensures.visited;
      };
      further = further_still s0.visited.items s0.ways.items s0.found s1.visited.items s1.ways.items s1.found s2.visited.items s2.ways.items s2.found c.loop-link.invariant.further c.visit_link.ensures.further;
    }

pub returns-clause-visited : goal.returns-clause-visited
returns-clause-visited c l x here low o h =
    let b = placed_within c.args.matching.now.choice.items l x h in
    let few = c.requires.graph.few in
    let long = c.requires.matching.links in
    let out : HasBit c.loop-link.self.left l → ⊥ = λ bit. c.in_default.ensures l here bit (c.requires.graph.bits.has l c.args.interrupt (omega arith) (c.requires.graph.below l c.args.interrupt o) o) in
    c.loop-link.invariant.search.search.gone l x low out h
