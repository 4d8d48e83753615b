use Rattle.std.proofs.Common.{◌≡◌, ◌∙◌, ap, sym, inl, inr, None, arith}
use Rattle.std.specs.Option.{option_map}
use Rattle.std.proofs.lemmas.Bool.{cases_lt, cases_eq}
use Rattle.slab.specs.Slab as slots
use Rattle.aml_namespace.specs.Nodes.{node_released}
use Rattle.aml_namespace.proofs.Slots.{past}
use Rattle.aml_namespace.proofs.nodes.release_all.Goals as goal

pub loop-key-preserved : goal.loop-key-preserved
loop-key-preserved c = record {
  done = λ k lt. elim (cases_eq k c.loop-key.key) [
    | inl e ↦
        let last : slots.get c.release_at.new.slab c.loop-key.key ≡ option_map node_released (slots.get c.args.slab.now c.loop-key.key) =
        c.release_at.ensures.here ∙ ap (option_map node_released) (c.loop-key.invariant.left c.loop-key.key (omega arith)) in
        ap (slots.get c.release_at.new.slab) e ∙ last ∙ ap (λ j. option_map node_released (slots.get c.args.slab.now j)) (sym e)
    | inr ne ↦ c.release_at.ensures.others k ne ∙ c.loop-key.invariant.done k (omega (arith, lt, ne))
  ];
  left = λ k le. c.release_at.ensures.others k (λ e. absurd (omega (arith, le, e))) ∙ c.loop-key.invariant.left k (omega (arith, le));
}

pub returns : goal.returns
returns c = λ k. elim (cases_lt k c.loop-key.key) [
  | inl lt ↦ c.loop-key.invariant.done k lt
  | inr le ↦
      let none : slots.get c.args.slab.now k ≡ None = past c.args.slab.now.slots k (omega (arith, le, c.capacity-key-end.ensures.slots, c.loop-key-test.false)) in
      c.loop-key.invariant.left k le ∙ none ∙ ap (option_map node_released) (sym none)
]
