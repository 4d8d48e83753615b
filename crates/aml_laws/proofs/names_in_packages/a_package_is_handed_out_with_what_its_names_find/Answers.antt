use Rattle.aml_laws.proofs.HandedOut.{handed_out, kept_back}
use Rattle.aml_laws.proofs.names_in_packages.a_package_is_handed_out_with_what_its_names_find.Goals as goal

pub returns-clause-handed_out : goal.returns-clause-handed_out
returns-clause-handed_out g c = handed_out

pub returns-clause-kept_back : goal.returns-clause-kept_back
returns-clause-kept_back g c = kept_back
