use Rattle.std.proofs.Common.{ap, sym, ◌∙◌}
use Rattle.byteorder.specs.Endian.{little_number}
use Rattle.aml_fields.proofs.Numbers.{one_number}
use Rattle.aml_fields.proofs.unit.unit_of.Goals as goal

pub returns : goal.returns
returns c = c.read_u64.ensures ∙ ap (λ k. little_number k c.args.bytes.now) (sym c.requires) ∙ one_number c.args.bytes.now (λ i. (c.type_inv.bytes i).fits)
