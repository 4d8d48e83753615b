use Rattle.std.proofs.Common.{◌∙◌, ap, sym}
use Rattle.std.specs.FinMap.{get}
use Rattle.aml_namespace.proofs.Slots.{by_number, no_number}
use Rattle.aml_namespace.proofs.nodes.Nodes.searched.Goals as goal

pub returns-in-None : goal.returns-in-None
returns-in-None c =
    sym (no_number c.self.inside.slab.slots c.self.inside.keys.entries c.self.invariant.0 c.args.number (sym c.in-None.ensures.value))
    ∙ ap (λ m. get m c.args.number) c.self.view_is

pub returns-in-Some : goal.returns-in-Some
returns-in-Some c =
    c.get-in-Some.ensures ∙ sym (by_number c.self.inside.slab.slots c.self.inside.keys.entries c.self.invariant.0 c.args.number c.in-Some.key.now (sym c.in-Some.ensures.value))
    ∙ ap (λ m. get m c.args.number) c.self.view_is
