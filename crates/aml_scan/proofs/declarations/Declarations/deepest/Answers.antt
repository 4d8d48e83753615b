use Rattle.std.proofs.Common.{◌∙◌, ◌++◌, ap, length, List}
use Rattle.aml_arities.specs.declared.arities.Arity.{Arity}
use Rattle.aml_arities.specs.Arities.{greatest, is_known_below}
use Rattle.aml_scan.proofs.Searches.{deepest_in_both}
use Rattle.aml_scan.proofs.declarations.Declarations.deepest.Goals as goal

pub returns : goal.returns
returns g c =
    let lent = g.C.ArgumentCounts.counts c.self.inside.lent.now in
    let added = c.self.inside.added in
    let scope = c.args.scope.now in
    let segments = c.args.segments.now in
    c.deeper.ensures (is_known_below added scope segments) (is_known_below lent scope segments) (length scope) c.deepest-added.ensures c.deepest-lent.ensures
    ∙ deepest_in_both lent added scope segments (length scope)
    ∙ ap (λ (l : List Arity). greatest (is_known_below l scope segments) (length scope)) (ap (λ (l : List Arity). l ++ added) c.self.invariant ∙ c.self.view_is)
