use Rattle.std.proofs.Common.{◌∙◌, ap, cond, None}
use Rattle.std.specs.Ordering.{eq_by_cmp}
use Rattle.aml_namespace.specs.Tree.{Index, index_cmp, child_in}
use Rattle.aml_namespace.proofs.Marking.{taken_out, still_there}
use Rattle.aml_namespace.proofs.index.Index.remove.Goals as goal

pub returns : goal.returns
returns c = λ p s.
    taken_out c.self.inside.places.entries c.remove.new.self.entries c.args.parent c.args.segment c.remove.ensures.updates.0 p s
    ∙ ap (λ (es : Index). cond (eq_by_cmp index_cmp (c.args.parent, c.args.segment) (p, s)) None (child_in es p s)) c.self.view_is

pub invariant_of-self : goal.invariant_of-self
invariant_of-self c =
    let left = still_there c.self.inside.places.entries c.remove.new.self.entries c.args.parent c.args.segment
    (taken_out c.self.inside.places.entries c.remove.new.self.entries c.args.parent c.args.segment c.remove.ensures.updates.0) in
    (λ p s stands. c.self.invariant.0 p s (left p s stands), λ p s stands. c.self.invariant.1 p s (left p s stands))
