-- A count is one byte.
use Rattle.std.proofs.Common.{ℕ, refl, arith, length-take}
use Rattle.acpi_resources.proofs.Counts.{table_is_sound}
use Rattle.acpi_resources.proofs.descriptor.extended_interrupt.Goals as goal

pub invariant_of-result : goal.invariant_of-result
invariant_of-result c = table_is_sound _ c.from-size.result _ refl refl (omega (arith, length-take {A = ℕ})) (omega (arith, c.type_inv.body 1))
