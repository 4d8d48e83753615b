use Rattle.std.proofs.Common.{◌≡◌, ℕ, ◌||◌, true, is_some}
use Rattle.aml_path.specs.declared.segment.Seg.{Seg}
use Rattle.aml_namespace.specs.Places.{may_be, place_of}
use Rattle.aml_namespace.specs.Tree.{child_in}
use Rattle.aml_namespace.proofs.index.mark_all.Given as goal

-- the place of a node is marked, or the node is left
abbrev pub invariant-loop-place : goal.invariant-loop-place
invariant-loop-place l = (p : ℕ) (s : Seg) → is_some (child_in l.places.entries p s) ≡ true → (is_some (child_in l.place-iterator p s) || may_be l.taken (place_of p s)) ≡ true
