use Rattle.std.proofs.Common.{◌∙◌, ap, length, List}
use Rattle.aml_arities.specs.declared.arities.Arity.{Arity}
use Rattle.aml_arities.specs.Arities.{greatest, is_known_below}
use Rattle.aml_arities.proofs.Deepest.{known_any}
use Rattle.aml_arities.proofs.arities.AritiesArgumentCounts.deepest.Goals as goal

pub returns : goal.returns
returns c =
    c.deepest.ensures
    ∙ known_any c.self.inside.names c.self.inside.entries.items c.self.invariant c.args.scope.now c.args.segments.now (length c.args.scope.now)
    ∙ ap (λ (l : List Arity). greatest (is_known_below l c.args.scope.now c.args.segments.now) (length c.args.scope.now)) c.self.view_is
