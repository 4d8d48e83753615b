use Rattle.std.proofs.Common.{◌∙◌, ◌||◌, ap, length, arith}
use Rattle.aml_arities.specs.Arities.{greatest, is_told_below}
use Rattle.aml_world.specs.state.Known.{Known}
use Rattle.aml_world.proofs.BodyDepths.{stands_below, search_depth, deepest_in_body}
use Rattle.aml_world.proofs.state.argument_counts.DeclarationsArgumentCounts.deepest.Goals as goal

pub returns : goal.returns
returns c =
    let scope = c.args.scope.now in
    let segments = c.args.segments.now in
    let names = c.self.inside.names in
    let arities = c.self.inside.arities in
    let known = c.args.self.now in
    c.deeper.ensures (stands_below names.map scope segments) (is_told_below arities scope segments) (length scope)
    (c.depth_of-named.ensures ∙ c.nearest.ensures.depth ∙ search_depth names.map scope segments (length scope) (omega arith))
    c.deepest_external-told.ensures
    ∙ ap (λ (k : Known). greatest (λ n. stands_below k.names.map scope segments n || is_told_below k.arities scope segments n) (length scope)) c.self.view_is
    ∙ deepest_in_body known.names.map known.arities scope segments (length scope)
