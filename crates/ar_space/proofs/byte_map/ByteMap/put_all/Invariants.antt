-- what is left, put from the next address on, gives the map that all bytes give
use Rattle.std.proofs.Common.{◌≡◌, ◌+◌, ◌^◌, ◌≤◌, length}
use Rattle.ar_space.specs.Runs.{with_bytes}
use Rattle.ar_space.proofs.byte_map.ByteMap.put_all.Given as goal

abbrev pub invariant-loop-rest : goal.invariant-loop-rest
invariant-loop-rest l = record {
  room : l.next + length l.rest ≤ 2 ^ 64;
  same : with_bytes l.self l.next l.rest ≡ with_bytes l.fn.self l.fn.address l.fn.bytes;
}

abbrev pub decreases-loop-rest : goal.decreases-loop-rest
decreases-loop-rest l = length l.rest
