use Rattle.std.proofs.Common.{◌≡◌, ◌<◌, ◌+◌, ℕ, [], length, get_or, Some}
use Rattle.aml_arities.specs.PathTree.{number_of, Kept}
use Rattle.aml_arities.proofs.path_tree.PathTree.make_all.Given as goal

abbrev pub invariant-loop-before : goal.invariant-loop-before
invariant-loop-before l = record {
  kept : Kept l.fn.self l.self;
  many : length l.nodes.items ≡ l.before + 1;
  each : (n : ℕ) → n < l.before + 1 → number_of (get_or l.others n []) l.self ≡ Some (get_or l.nodes.items n 0);
}
