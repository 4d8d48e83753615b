use Rattle.aml_laws.proofs.UncountedTargets.{counts_no_value}
use Rattle.aml_laws.proofs.target_terms.a_count_of_what_holds_no_value_is_refused.Goals as goal

pub returns : goal.returns
returns g c = counts_no_value
