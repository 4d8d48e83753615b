-- The number at a place of the table is the next one of the list.
use Rattle.std.proofs.Common.{◌+◌, ◌-◌, ◌*◌, ◌≤◌, length, drop, sym, ap, ◌∙◌, arith}
use Rattle.byteorder.specs.Numbers.{little_from-take}
use Rattle.acpi_resources.specs.Numbers.{numbers_of_table, with_numbers}
use Rattle.acpi_resources.proofs.Listed.{table_more}
use Rattle.acpi_resources.proofs.interrupts.add_table.Goals as goal

pub loop-place-preserved : goal.loop-place-preserved
loop-place-preserved c =
    let table = c.args.table.now in
    let place = c.loop-place.place in
    let fits : 4 * place + 4 ≤ length table = omega arith in
    let read = c.read_u32.ensures ∙ little_from-take 0 4 (length table - 4 * place) (drop (4 * place) table) (omega arith) in
    ap (λ keys. with_numbers keys (numbers_of_table (drop (4 * (place + 1)) table))) c.in_ok-insert.ensures.keys
    ∙ sym (table_more c.loop-place.numbers.keys table place c.read_u32.result fits read)
    ∙ c.loop-place.invariant
