use Rattle.aml_laws.proofs.ListsWithinTerms.{scope_list, scope_of_other, scope_of_none, declared_scope_list}
use Rattle.aml_laws.proofs.inner_lists.lists_of_scopes_are_evaluated_in_turn.Goals as goal

pub returns-clause-scopes : goal.returns-clause-scopes
returns-clause-scopes g c = scope_list

pub returns-clause-no_scope : goal.returns-clause-no_scope
returns-clause-no_scope g c = scope_of_other

pub returns-clause-not_found : goal.returns-clause-not_found
returns-clause-not_found g c = scope_of_none

pub returns-clause-declared : goal.returns-clause-declared
returns-clause-declared g c = declared_scope_list
