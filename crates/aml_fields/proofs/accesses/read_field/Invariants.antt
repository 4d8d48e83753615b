use Rattle.aml_fields.specs.Regions.{read_unit}
use Rattle.aml_fields.proofs.UnitLoops.{Reading}
use Rattle.aml_fields.proofs.accesses.read_field.Given as goal

abbrev pub invariant-loop-unit : goal.invariant-loop-unit
invariant-loop-unit g l = Reading (read_unit g.S.Space.accesses l.region l.field.access) l.field l.fn.space l.bits.items l.unit-iterator l.space
