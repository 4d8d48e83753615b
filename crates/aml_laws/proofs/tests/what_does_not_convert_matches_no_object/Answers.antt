use Rattle.aml_laws.proofs.MatchesRefused.{unordered_matches_not, always_matches}
use Rattle.aml_laws.proofs.tests.what_does_not_convert_matches_no_object.Goals as goal

pub returns-clause-other : goal.returns-clause-other
returns-clause-other c = unordered_matches_not

pub returns-clause-mtr : goal.returns-clause-mtr
returns-clause-mtr c = always_matches
