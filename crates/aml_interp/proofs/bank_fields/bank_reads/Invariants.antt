use Rattle.std.proofs.Common.{◌≡◌}
use Rattle.aml_fields.proofs.UnitLoops.{Reading}
use Rattle.aml_world.specs.fields.Fields.{bank_unit}
use Rattle.aml_meaning.specs.Meaning.{meaning}
use Rattle.aml_frames.specs.Uses.{asking}
use Rattle.aml_interp.proofs.bank_fields.bank_reads.Given as goal

abbrev pub invariant-loop-unit : goal.invariant-loop-unit
invariant-loop-unit g l = Reading (bank_unit g.S.Space.accesses (asking g.S.Space.accesses (meaning g.S.Space.accesses) l.calls) l.bank.field l.bank.value l.region l.field.access) l.field l.fn.run l.bits.items l.unit-iterator l.run
