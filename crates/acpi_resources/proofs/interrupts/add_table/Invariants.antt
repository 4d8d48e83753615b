-- what is left to add to the numbers so far gives what there is to add to those at the start
use Rattle.std.proofs.Common.{◌≡◌, ◌*◌, drop}
use Rattle.acpi_resources.specs.Numbers.{numbers_of_table, with_numbers}
use Rattle.acpi_resources.proofs.interrupts.add_table.Given as goal

abbrev pub invariant-loop-place : goal.invariant-loop-place
invariant-loop-place l =
    with_numbers l.numbers.keys (numbers_of_table (drop (4 * l.place) l.table)) ≡ with_numbers l.initial.numbers.keys (numbers_of_table l.table)
