use Rattle.aml_laws.proofs.ListsWithinTerms.{if_true, if_else, if_alone, else_list}
use Rattle.aml_laws.proofs.inner_lists.lists_of_branches_are_evaluated_in_turn.Goals as goal

pub returns-clause-holds : goal.returns-clause-holds
returns-clause-holds g c = if_true

pub returns-clause-fails : goal.returns-clause-fails
returns-clause-fails g c = if_else

pub returns-clause-no_else : goal.returns-clause-no_else
returns-clause-no_else g c = if_alone

pub returns-clause-otherwise : goal.returns-clause-otherwise
returns-clause-otherwise g c = else_list
