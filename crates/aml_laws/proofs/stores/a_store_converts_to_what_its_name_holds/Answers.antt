use Rattle.aml_laws.proofs.StoredNames.{no_integer_stored}
use Rattle.aml_laws.proofs.stores.a_store_converts_to_what_its_name_holds.Goals as goal

pub returns-clause-no_integer : goal.returns-clause-no_integer
returns-clause-no_integer g c = no_integer_stored
