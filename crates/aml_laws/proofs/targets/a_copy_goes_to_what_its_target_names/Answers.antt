use Rattle.aml_laws.proofs.TargetsActedOn.{copies_at, writes_at, converts_not, copies_to_nothing}
use Rattle.aml_laws.proofs.targets.a_copy_goes_to_what_its_target_names.Goals as goal

pub returns-clause-copied : goal.returns-clause-copied
returns-clause-copied g c = copies_at

pub returns-clause-written : goal.returns-clause-written
returns-clause-written g c = writes_at

pub returns-clause-unconverted : goal.returns-clause-unconverted
returns-clause-unconverted g c = converts_not

pub returns-clause-unnamed : goal.returns-clause-unnamed
returns-clause-unnamed g c = copies_to_nothing
