use Rattle.aml_laws.proofs.NamesInPackages.{named_data, named_object, named_field, not_named}
use Rattle.aml_laws.proofs.NamesTyped.{named_typed}
use Rattle.aml_laws.proofs.names_in_packages.a_name_in_a_package_is_searched_where_it_is_used.Goals as goal

pub returns-clause-held : goal.returns-clause-held
returns-clause-held g c = named_data

pub returns-clause-no_data : goal.returns-clause-no_data
returns-clause-no_data g c = named_object

pub returns-clause-field : goal.returns-clause-field
returns-clause-field g c = named_field

pub returns-clause-unfound : goal.returns-clause-unfound
returns-clause-unfound g c = not_named

pub returns-clause-typed : goal.returns-clause-typed
returns-clause-typed g c = named_typed
