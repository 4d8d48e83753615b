use Rattle.aml_laws.proofs.CountsPut.{puts_up, puts_down, field_puts_up, field_puts_down, puts_nothing}
use Rattle.aml_laws.proofs.target_terms.a_count_is_put_back_into_its_target.Goals as goal

pub returns-clause-up : goal.returns-clause-up
returns-clause-up g c = puts_up

pub returns-clause-down : goal.returns-clause-down
returns-clause-down g c = puts_down

pub returns-clause-field_up : goal.returns-clause-field_up
returns-clause-field_up g c = field_puts_up

pub returns-clause-field_down : goal.returns-clause-field_down
returns-clause-field_down g c = field_puts_down

pub returns-clause-refused : goal.returns-clause-refused
returns-clause-refused g c = puts_nothing
