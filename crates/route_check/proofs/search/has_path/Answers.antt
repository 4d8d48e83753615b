use Rattle.std.proofs.Common.{rules}
use Rattle.std.proofs.lemmas.Fn.{always_returns_same}
use Rattle.aml_path.specs.Paths.{path_cmp}
use Rattle.route_check.proofs.Ascending.{path_exact, search_tells}
use Rattle.route_check.proofs.search.has_path.Goals as goal

pub returns-then-ascend : goal.returns-then-ascend
returns-then-ascend g c =
    search_tells path_cmp path_exact g.T.Named.path c.args.xs.now c.args.path.now c.binary_search_by.result c.is_ok.result c.is_ok.ensures.value c.binary_search_by.ensures.bound
    (c.binary_search_by.ensures.position (λ x. path_cmp (g.T.Named.path x) c.args.path.now) (always_returns_same _ _ _ (λ a r f' k. search rules))) (c.requires c.if-ascend.true)
