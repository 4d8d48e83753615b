use Rattle.aml_fields.specs.Regions.{read_unit, write_unit}
use Rattle.aml_fields.specs.Units.{units_of}
use Rattle.aml_laws.proofs.UnitsInOrder.{field_read, field_unread, units_written, units_unwritten}
use Rattle.aml_laws.proofs.units.units_are_accessed_lowest_first.Goals as goal

pub returns-clause-read : goal.returns-clause-read
returns-clause-read g c = λ read f s ns after turns. field_read read f s ns after turns

pub returns-clause-unread : goal.returns-clause-unread
returns-clause-unread g c = λ read f e s after ends. field_unread read f e s after ends

pub returns-clause-written : goal.returns-clause-written
returns-clause-written g c = units_written

pub returns-clause-unwritten : goal.returns-clause-unwritten
returns-clause-unwritten g c = λ write units e s after ends. units_unwritten write e units s after ends

pub returns-clause-read_in_region : goal.returns-clause-read_in_region
returns-clause-read_in_region g c = λ accesses region f s ns after turns. field_read (read_unit accesses region f.access) f s ns after turns

pub returns-clause-unread_in_region : goal.returns-clause-unread_in_region
returns-clause-unread_in_region g c = λ accesses region f e s after ends. field_unread (read_unit accesses region f.access) f e s after ends

pub returns-clause-written_in_region : goal.returns-clause-written_in_region
returns-clause-written_in_region g c = λ accesses region f source s answers after turns. units_written (write_unit accesses region f source) (units_of f.bit_offset f.bits f.access) s answers after turns

pub returns-clause-unwritten_in_region : goal.returns-clause-unwritten_in_region
returns-clause-unwritten_in_region g c = λ accesses region f source e s after ends. units_unwritten (write_unit accesses region f source) e (units_of f.bit_offset f.bits f.access) s after ends
