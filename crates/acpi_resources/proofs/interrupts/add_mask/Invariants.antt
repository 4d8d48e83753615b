-- what is left to add to the numbers so far gives what there is to add to those at the start
use Rattle.std.proofs.Common.{◌≡◌}
use Rattle.acpi_resources.specs.Numbers.{numbers_of_mask, with_numbers}
use Rattle.acpi_resources.proofs.Listed.{mask_from}
use Rattle.acpi_resources.proofs.interrupts.add_mask.Given as goal

abbrev pub invariant-loop-n : goal.invariant-loop-n
invariant-loop-n l =
    with_numbers l.numbers.keys (mask_from l.mask l.n) ≡ with_numbers l.initial.numbers.keys (numbers_of_mask l.mask)
