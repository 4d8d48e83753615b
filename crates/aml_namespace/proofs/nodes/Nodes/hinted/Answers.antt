use Rattle.std.proofs.Common.{◌∙◌, ap, sym}
use Rattle.std.specs.FinMap.{get}
use Rattle.aml_namespace.proofs.Slots.{by_key}
use Rattle.aml_namespace.proofs.nodes.Nodes.hinted.Goals as goal

pub returns-in-Some : goal.returns-in-Some
returns-in-Some c =
    let x = c.in-Some.ensures in (
      x.0,
      sym (ap (λ m. get m c.in-Some.id.number) c.self.view_is) ∙ by_key c.self.inside.slab.slots c.self.inside.keys.entries c.self.invariant.0 c.in_ok-key.key c.in-Some.id.number x.0 x.1 x.2,
      x.3,
      x.4,
    )
