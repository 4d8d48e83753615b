use Rattle.aml_laws.proofs.ReferencesHandedIn.{reference_refused, handed_in_has_paths}
use Rattle.aml_laws.proofs.handed.a_reference_without_a_path_is_not_handed_in.Goals as goal

pub returns-clause-alone : goal.returns-clause-alone
returns-clause-alone g c = reference_refused

pub returns-clause-inside : goal.returns-clause-inside
returns-clause-inside g c = handed_in_has_paths
