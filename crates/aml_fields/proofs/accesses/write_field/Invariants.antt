use Rattle.aml_fields.specs.Regions.{write_unit}
use Rattle.aml_fields.proofs.UnitLoops.{Writing}
use Rattle.aml_fields.proofs.accesses.write_field.Given as goal

abbrev pub invariant-loop-unit : goal.invariant-loop-unit
invariant-loop-unit g l = Writing (write_unit g.S.Space.accesses l.region l.field l.source) l.field l.fn.space l.unit-iterator l.space
