use Rattle.std.proofs.Common.{◌≡◌, ◌≤◌, ◌<◌, ◌+◌, ◌/◌, ◌∙◌, ℕ, Some, true, get_or, arith, sym, ap, subst, inl, inr}
use Rattle.std.specs.Prelude.{◌⊎◌}
use Rattle.std.proofs.lemmas.Bool.{cases_lt}
use Rattle.std.proofs.lemmas.List.{get_or_default}
use Rattle.route_model.specs.Placement.{place_of, is_reached, Offers}
use Rattle.route_solve.specs.declared.graph.Graph.{Graph}
use Rattle.route_solve.specs.declared.matching.Matching.{Matching}
use Rattle.route_solve.specs.declared.search.Search.{Search}
use Rattle.route_solve.specs.declared.ways.Way.{Way}
use Rattle.route_solve.specs.Graphs.{capacity, edges, Searches}
use Rattle.route_solve.specs.Ready.{no_way, ready_at}
use Rattle.route_solve.proofs.Parts.{placed_within}
use Rattle.route_solve.proofs.Searching.{further_still, ways_within}
use Rattle.route_solve.proofs.search.Search.visit_from.Goals as goal

-- the interrupt that is read is that of the way
read : (g : Graph) (m : Matching) (s : Search) (pos : ℕ) (v : Way) → Searches g m s → pos < s.found → v ≡ get_or s.ways.items pos v → ready_at s.ways.items pos ≡ v.interrupt
read g m s pos v h b is = ap (λ (w : Way). w.interrupt) (get_or_default s.ways.items pos no_way v (ways_within (edges g) (capacity g) m.choice.items g.low s.left s.visited.items s.ways.items s.found h.search pos b) ∙ sym is)

pub visit_word-requires-clause-way : goal.visit_word-requires-clause-way
visit_word-requires-clause-way c = ap (λ (v : Way). v.interrupt) (c.loop-w.invariant.further.same c.args.pos c.requires.pos) ∙ read c.args.graph.now c.args.matching.now c.args.self.now c.args.pos c.index.result.now c.requires.search c.requires.pos c.index.ensures

pub loop-w-preserved : goal.loop-w-preserved
loop-w-preserved c =
    let s0 = c.args.self.now in
    let s1 = c.loop-w.self in
    let s2 = c.visit_word.new.self in
    record {
      search = c.visit_word.ensures.search;
      further = further_still s0.visited.items s0.ways.items s0.found s1.visited.items s1.ways.items s1.found s2.visited.items s2.ways.items s2.found c.loop-w.invariant.further c.visit_word.ensures.further;
      made = λ m x b low o h. made m x b low o h (cases_lt (m / 64) c.loop-w.w);
    }
  where
    made : (m x : ℕ) → m / 64 < c.loop-w.w + 1 → c.args.graph.now.low ≤ m → Offers (edges c.args.graph.now) m (ready_at c.args.self.now.ways.items c.args.pos) → place_of c.args.matching.now.choice.items m ≡ Some x → (m / 64 < c.loop-w.w) ⊎ (c.loop-w.w ≤ m / 64) → is_reached c.visit_word.new.self.visited.items x ≡ true
    made m x b low o h (inl before) = c.visit_word.ensures.further.kept x (c.loop-w.invariant.made m x before low o h)
    made m x b low o h (inr past) = c.visit_word.ensures.visited m x (omega arith) low (subst (Offers (edges c.args.graph.now) m) (read c.args.graph.now c.args.matching.now c.args.self.now c.args.pos c.index.result.now c.requires.search c.requires.pos c.index.ensures) o) h

pub returns-clause-visited : goal.returns-clause-visited
returns-clause-visited c l x low o h = c.loop-w.invariant.made l x (let b = placed_within c.args.matching.now.choice.items l x h in let few = c.requires.graph.few in let long = c.requires.matching.links in let t = c.loop-w-test.false in omega arith) low o h
