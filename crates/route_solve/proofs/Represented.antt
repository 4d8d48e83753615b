-- The graph of a problem is a graph.
use Rattle.std.proofs.Common.{ℕ, List, length, arith, subst, sym}
use Rattle.std.specs.Global.{Vec}
use Rattle.route_model.specs.Links.{offers_of}
use Rattle.route_model.proofs.Offers.{offers_length}
use Rattle.route_solve.specs.Fits.{IsSolvable}
use Rattle.route_solve.specs.Graphs.{AreEdges, IsNumbering}
use Rattle.route_numbers.specs.Numbers.{lists_of}
use Rattle.route_solve.specs.Problems.{RoutingProblem}
use Rattle.route_solve.specs.Rows.{AreRows}
use Rattle.route_solve.proofs.Assigned.{places_up, places_some, rows_by_place}
use Rattle.route_numbers.proofs.Numbered.{lists_length}

pub represented : (p : RoutingProblem) (numbers : List ℕ) (offers : List (Vec ℕ)) (rows sources : List ℕ) → IsSolvable p → IsNumbering p numbers offers rows sources → AreEdges offers rows (length sources)
represented p numbers offers rows sources fits n =
    let long = n.long in
    record {
      few = let f = fits.few in omega arith;
      some = λ l b. places_some (offers_of p.links) p.wired numbers (lists_of offers) sources n.ascending n.numbered n.wired (λ k bk. (fits.offers k (let e = offers_length p.links in omega arith)).some) l (let e = lists_length offers in omega arith);
      ascending = λ l b. places_up (offers_of p.links) p.wired numbers (lists_of offers) sources n.ascending n.numbered n.wired l (fits.offers l (omega arith)).ascending;
      below = λ l i o. let b = n.numbered.below l i o in let e = n.wired.long in omega arith;
      bits = subst (λ count. AreRows (lists_of offers) count rows) (sym n.wired.long) (rows_by_place (offers_of p.links) p.wired numbers (lists_of offers) sources n.ascending n.numbered n.wired rows n.bits);
    }
