-- so many bits are copied
use Rattle.std.proofs.Common.{◌≡◌, ◌<◌, ℕ, length, slice_index}
use Rattle.aml_fields.specs.Bits.{bits_of, field_bits, put}
use Rattle.aml_fields.proofs.bits.copy_bits.Given as goal

abbrev pub invariant-loop-n : goal.invariant-loop-n
invariant-loop-n l = (length l.target ≡ length l.fn.target) × (bits_of l.target ≡ put l.to (field_bits l.source l.from l.n) (bits_of l.fn.target)) × ((i : ℕ) → slice_index l.target i < 256)
