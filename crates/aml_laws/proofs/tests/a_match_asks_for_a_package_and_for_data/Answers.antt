use Rattle.aml_laws.proofs.MatchesRefused.{no_match}
use Rattle.aml_laws.proofs.tests.a_match_asks_for_a_package_and_for_data.Goals as goal

pub returns : goal.returns
returns g c = no_match
