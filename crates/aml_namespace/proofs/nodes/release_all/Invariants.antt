use Rattle.std.proofs.Common.{◌≡◌, ℕ, ◌<◌, ◌≤◌, option_map}
use Rattle.slab.specs.Slab as slots
use Rattle.aml_namespace.specs.Nodes.{node_released}
use Rattle.aml_namespace.proofs.nodes.release_all.Given as goal

abbrev pub invariant-loop-key : goal.invariant-loop-key
invariant-loop-key l = record {
  done : (k : ℕ) → k < l.key → slots.get l.slab k ≡ option_map node_released (slots.get l.initial.slab k);
  left : (k : ℕ) → l.key ≤ k → slots.get l.slab k ≡ slots.get l.initial.slab k;
}
