-- what stands already, and then the run that is left, is the whole run
use Rattle.std.proofs.Common.{◌≡◌, ◌+◌, ◌^◌, ◌≤◌, ◌++◌}
use Rattle.std.specs.FinMap as map
use Rattle.ar_space.specs.Runs.{run_from}
use Rattle.ar_space.proofs.byte_map.ByteMap.append_run.Given as goal

abbrev pub invariant-loop-left : goal.invariant-loop-left
invariant-loop-left l = record {
  room : l.next + l.left ≤ 2 ^ 64;
  same : l.bytes.items ++ run_from (map.get l.self) l.next l.left ≡ l.fn.bytes.items ++ run_from (map.get l.self) l.address l.count;
}

abbrev pub decreases-loop-left : goal.decreases-loop-left
decreases-loop-left l = l.left
