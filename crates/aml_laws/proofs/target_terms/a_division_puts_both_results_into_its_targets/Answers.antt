use Rattle.aml_laws.proofs.DivisionsPut.{division_puts}
use Rattle.aml_laws.proofs.target_terms.a_division_puts_both_results_into_its_targets.Goals as goal

pub returns : goal.returns
returns g c = division_puts
