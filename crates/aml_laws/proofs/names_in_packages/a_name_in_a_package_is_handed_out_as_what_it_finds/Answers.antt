use Rattle.aml_laws.proofs.NamesHandedOut.{name_handed_out}
use Rattle.aml_laws.proofs.names_in_packages.a_name_in_a_package_is_handed_out_as_what_it_finds.Goals as goal

pub returns : goal.returns
returns g c = name_handed_out
