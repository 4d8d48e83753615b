use Rattle.std.proofs.Common.{◌≡◌, arith, false, length, true, ◌∙◌, sym, ◌<◌, length-set}
use Rattle.std.proofs.lemmas.List.{get_or_default}
use Rattle.route_model.specs.Placement.{is_reached}
use Rattle.route_solve.specs.Graphs.{capacity, edges}
use Rattle.route_solve.proofs.Searching.{search_more}
use Rattle.route_solve.proofs.search.Search.add_way.Goals as goal

pub returns-clause-search : goal.returns-clause-search
returns-clause-search c =
    let s = c.args.self.now in
    let g = c.args.graph.now in
    let i = c.args.way.interrupt in
    let sized = c.requires.search.sized in
    let known : i < length s.visited.items = let e = sized.marks in let b = c.requires.known in omega arith in
    let fresh : is_reached s.visited.items i ≡ false = get_or_default s.visited.items i false c.index.result.now known ∙ (sym c.index.ensures ∙ c.if-index.false) in
    record {
      sized = record {
        words = sized.words;
        marks = length-set s.visited.items i true ∙ sized.marks;
        ways = length-set s.ways.items s.found c.args.way ∙ sized.ways;
      };
      search = search_more (edges g) (capacity g) c.args.matching.now.choice.items g.low s.left s.visited.items s.ways.items s.found c.args.way c.requires.search.search known c.requires.is_way fresh;
    }
