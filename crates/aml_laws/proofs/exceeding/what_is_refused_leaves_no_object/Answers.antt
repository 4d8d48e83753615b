use Rattle.aml_laws.proofs.NothingLeft.{refused_copy_leaves_none, refused_data_leaves_none}
use Rattle.aml_laws.proofs.exceeding.what_is_refused_leaves_no_object.Goals as goal

pub returns-clause-copied : goal.returns-clause-copied
returns-clause-copied g c = refused_copy_leaves_none

pub returns-clause-handed_in : goal.returns-clause-handed_in
returns-clause-handed_in g c = refused_data_leaves_none
