use Rattle.std.proofs.Common.{◌≡◌}
use Rattle.aml_fields.proofs.UnitLoops.{Reading}
use Rattle.aml_world.specs.fields.Fields.{index_unit}
use Rattle.aml_meaning.specs.Meaning.{meaning}
use Rattle.aml_frames.specs.Uses.{asking}
use Rattle.aml_interp.proofs.index_fields.index_reads.Given as goal

abbrev pub invariant-loop-unit : goal.invariant-loop-unit
invariant-loop-unit g l = Reading (index_unit g.S.Space.accesses (asking g.S.Space.accesses (meaning g.S.Space.accesses) l.calls) l.index l.behind l.field.access) l.field l.fn.run l.bits.items l.unit-iterator l.run
