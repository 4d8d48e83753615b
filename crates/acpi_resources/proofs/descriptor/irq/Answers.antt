-- A mask has 16 bits.
use Rattle.std.proofs.Common.{refl}
use Rattle.acpi_resources.proofs.Counts.{mask_is_sound}
use Rattle.acpi_resources.proofs.descriptor.irq.Goals as goal

pub invariant_of-result : goal.invariant_of-result
invariant_of-result c = mask_is_sound c.read_u16.result _ refl
