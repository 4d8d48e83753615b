use Rattle.std.proofs.Common.{◌≡◌, ◌≤◌, take}
use Rattle.std.specs.Prelude.{sum_by}
use Rattle.route_solve.proofs.conditions.few_sources.Given as goal

abbrev pub invariant-loop-w : goal.invariant-loop-w
invariant-loop-w l = record {
  sum : l.total ≡ sum_by (λ w. w.1) (take l.w-index l.wired);
  small : l.total ≤ 4096;
}
