use Rattle.aml_fields.proofs.Plain.{leaves_others}
use Rattle.aml_fields.proofs.laws.a_write_that_preserves_leaves_other_bits.Goals as goal

pub returns : goal.returns
returns c = leaves_others
