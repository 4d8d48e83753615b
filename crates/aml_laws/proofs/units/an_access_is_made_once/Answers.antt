use Rattle.aml_laws.proofs.UnitsPlaced.{read_once, written_once}
use Rattle.aml_laws.proofs.units.an_access_is_made_once.Goals as goal

pub returns-clause-read : goal.returns-clause-read
returns-clause-read g c = read_once

pub returns-clause-written : goal.returns-clause-written
returns-clause-written g c = written_once
