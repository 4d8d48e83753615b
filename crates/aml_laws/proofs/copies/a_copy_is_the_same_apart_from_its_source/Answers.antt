use Rattle.aml_laws.proofs.CopiesApart.{copy_adds}
use Rattle.aml_laws.proofs.copies.a_copy_is_the_same_apart_from_its_source.Goals as goal

pub returns-clause-added : goal.returns-clause-added
returns-clause-added c = copy_adds
