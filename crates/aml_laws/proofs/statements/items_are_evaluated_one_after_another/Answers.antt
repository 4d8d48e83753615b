use Rattle.aml_laws.proofs.ListsGoOn.{behind_nothing, behind_a_value, ends_at_a_return, ends_at_a_break, ends_at_a_continue, comes_to_its_end}
use Rattle.aml_laws.proofs.statements.items_are_evaluated_one_after_another.Goals as goal

pub returns-clause-nothing : goal.returns-clause-nothing
returns-clause-nothing g c = behind_nothing

pub returns-clause-value : goal.returns-clause-value
returns-clause-value g c = behind_a_value

pub returns-clause-returned : goal.returns-clause-returned
returns-clause-returned g c = ends_at_a_return

pub returns-clause-broken : goal.returns-clause-broken
returns-clause-broken g c = ends_at_a_break

pub returns-clause-continued : goal.returns-clause-continued
returns-clause-continued g c = ends_at_a_continue

pub returns-clause-end : goal.returns-clause-end
returns-clause-end g c = comes_to_its_end
