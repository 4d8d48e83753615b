use Rattle.std.proofs.Common.{length}
use Rattle.aml_scan.proofs.reader.+little_endian.Given as goal

abbrev pub decreases-little_endian : goal.decreases-little_endian
decreases-little_endian l = length l.bytes.now
