use Rattle.aml_laws.proofs.UnitsPlaced.{unit_placed, unit_beyond, unit_read, unit_written, unit_unread, unit_unwritten, unit_unmerged}
use Rattle.aml_laws.proofs.units.a_unit_is_accessed_within_its_region_alone.Goals as goal

pub returns-clause-placed : goal.returns-clause-placed
returns-clause-placed g c = unit_placed

pub returns-clause-beyond : goal.returns-clause-beyond
returns-clause-beyond g c = unit_beyond

pub returns-clause-read : goal.returns-clause-read
returns-clause-read g c = unit_read

pub returns-clause-written : goal.returns-clause-written
returns-clause-written g c = unit_written

pub returns-clause-unread : goal.returns-clause-unread
returns-clause-unread g c = unit_unread

pub returns-clause-unwritten : goal.returns-clause-unwritten
returns-clause-unwritten g c = unit_unwritten

pub returns-clause-unmerged : goal.returns-clause-unmerged
returns-clause-unmerged g c = unit_unmerged
