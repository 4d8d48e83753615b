use Rattle.std.proofs.Common.{◌≡◌, ◌%◌, sum, take}
use Rattle.ar_tables.proofs.image_bytes.summed.Given as goal

abbrev pub invariant-loop-byte : goal.invariant-loop-byte
invariant-loop-byte l = l.sum ≡ sum (take l.byte-index l.bytes) % 256
