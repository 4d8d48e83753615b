use Rattle.std.proofs.Common.{◌∙◌, ap, sym}
use Rattle.std.specs.FinMap.{get}
use Rattle.aml_namespace.proofs.Slots.{by_key}
use Rattle.aml_namespace.proofs.nodes.Nodes.numbered.Goals as goal

pub returns-in-Some : goal.returns-in-Some
returns-in-Some c =
    sym (by_key c.self.inside.slab.slots c.self.inside.keys.entries c.self.invariant.0 c.args.number c.args.number c.in-Some.node.now (sym c.in-Some.ensures) c.if-node-number.true)
    ∙ ap (λ m. get m c.args.number) c.self.view_is
