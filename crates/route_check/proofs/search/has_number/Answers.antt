use Rattle.std.proofs.Common.{rules}
use Rattle.std.proofs.lemmas.Fn.{always_returns_same}
use Rattle.std.specs.Ordering.{nat_cmp}
use Rattle.route_check.proofs.Ascending.{nat_exact, search_tells}
use Rattle.route_check.proofs.search.has_number.Goals as goal

pub returns-then-ascend : goal.returns-then-ascend
returns-then-ascend g c =
    search_tells nat_cmp nat_exact g.T.Numbered.number c.args.xs.now c.args.n c.binary_search_by.result c.is_ok.result c.is_ok.ensures.value c.binary_search_by.ensures.bound
    (c.binary_search_by.ensures.position (λ x. nat_cmp (g.T.Numbered.number x) c.args.n) (always_returns_same _ _ _ (λ a r f' k. search rules))) (c.requires c.if-ascend.true)
