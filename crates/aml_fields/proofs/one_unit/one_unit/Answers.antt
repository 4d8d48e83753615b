use Rattle.std.proofs.Common.{◌≡◌, ◌≤◌, ◌<◌, ◌+◌, ◌-◌, ◌/◌, ◌∷◌, [], ◌∙◌, ap, sym, arith}
use Rattle.ar_space.specs.Accesses.{bit_count}
use Rattle.aml_fields.proofs.OneUnit.{single_unit}
use Rattle.aml_fields.proofs.one_unit.one_unit.Goals as goal

pub returns-clause-units : goal.returns-clause-units
returns-clause-units c =
    let f = c.args.field in
    let first = c.unit_and_bit-first.result.1 in
    let count : c.from-count.result ≡ f.bits = c.from-count.ensures in
    let some : 0 < f.bits = omega arith in
    let inside : first + f.bits ≤ bit_count f.access = omega arith in
    single_unit f.access f.bit_offset f.bits c.unit_and_bit-first.result.0 first c.unit_and_bit-first.ensures.sum c.unit_and_bit-first.ensures.within some inside
    ∙ ap (λ n. record { offset = (f.bit_offset - first) / 8; first = first; count = n; position = 0 } ∷ []) (sym count)
