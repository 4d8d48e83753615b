use Rattle.std.proofs.Common.{◌≡◌, ◌<◌, ◌≤◌, ◌+◌, ◌*◌, ℕ, List, arith, ap, length, get_or, subst, sym, ◌∙◌}
use Rattle.std.proofs.lemmas.List.{get_or_default}
use Rattle.route_model.specs.Links.{offers_of}
use Rattle.route_model.proofs.Offers.{offers_length}
use Rattle.route_model.proofs.Filtered.{any_contains, contains_any}
use Rattle.route_numbers.specs.Numbers.{number_at}
use Rattle.std.specs.Prelude.{Contains}
use Rattle.route_solve.proofs.RowsOf.{row_is}
use Rattle.route_solve.proofs.solver.Solver.row.Goals as goal

pub returns-in-Some : goal.returns-in-Some
returns-in-Some c =
    let self = c.args.self.now in
    let offers = offers_of self.problem.now.links in
    let numbers = self.numbers.items in
    let n = c.args.n in
    let i = c.in-Some.i in
    let b : i < length numbers = subst (λ (xs : List ℕ). i < length xs) c.deref.ensures.value c.in-Some.ensures.0 in
    let is : number_at numbers i ≡ n = subst (λ (xs : List ℕ). get_or xs i 0 ≡ n) c.deref.ensures.value c.in-Some.ensures.1 in
    let few = let e = offers_length self.problem.now.links in let f = self.fits.few in let r : length offers ≤ 256 = omega arith in r in (
      self.graph.offered.none n (contains_any n numbers (i, b, sym (get_or_default numbers i 0 n b) ∙ is)),
      row_is offers numbers self.rows.items c.row_at.result n i self.graph.bits few b is c.row_at.ensures.four (λ k bk. c.row_at.ensures.words k bk ∙ ap (λ (ws : List ℕ). get_or ws (4 * i + k) 0) c.deref-in-Some.ensures.value),
    )

pub returns-in-None : goal.returns-in-None
returns-in-None c l o =
    let self = c.args.self.now in
    c.in-None.ensures (subst (λ (xs : List ℕ). Contains xs c.args.n) (sym c.deref.ensures.value) (any_contains c.args.n self.numbers.items (self.graph.offered.all l c.args.n o)))
