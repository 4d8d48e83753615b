use Rattle.std.proofs.Common.{◌≡◌, ◌∙◌, ap, sym, arith}
use Rattle.std.specs.Option.{option_map}
use Rattle.std.specs.FinMap.{get}
use Rattle.aml_namespace.specs.Nodes.{acquired_in, node_released}
use Rattle.aml_namespace.proofs.Slots.{released_is, released_keyed}
use Rattle.aml_namespace.proofs.Counting.{all_released, none_acquired}
use Rattle.aml_namespace.proofs.nodes.Nodes.release.Goals as goal

pub invariant_of-self : goal.invariant_of-self
invariant_of-self c = (
  released_keyed c.self.inside.slab.slots c.self.inside.keys.entries c.self.invariant.0 c.release_all.new.slab.slots c.release_all.ensures,
  sym (all_released c.self.inside.slab.slots c.release_all.new.slab.slots c.release_all.ensures),
)

pub returns-then-self-gt0 : goal.returns-then-self-gt0
returns-then-self-gt0 c = λ number.
    released_is c.self.inside.slab.slots c.self.inside.keys.entries c.self.invariant.0 c.release_all.new.slab.slots c.release_all.ensures number
    ∙ ap (λ m. option_map node_released (get m number)) c.self.view_is

pub returns-else-self-gt0 : goal.returns-else-self-gt0
returns-else-self-gt0 c = λ number.
    let none : acquired_in c.self.inside.slab.slots ≡ 0 = omega (arith, c.self.invariant.1, c.if-self-gt0.false) in
    sym (ap (λ m. get m number) c.self.view_is)
    ∙ released_is c.self.inside.slab.slots c.self.inside.keys.entries c.self.invariant.0 c.self.inside.slab.slots (λ j. none_acquired c.self.inside.slab.slots j none) number
    ∙ ap (λ m. option_map node_released (get m number)) c.self.view_is
