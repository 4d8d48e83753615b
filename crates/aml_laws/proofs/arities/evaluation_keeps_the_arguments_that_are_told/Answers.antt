use Rattle.aml_laws.proofs.AritiesKept.{term_keeps_arities, list_keeps_arities, call_keeps_arities, field_keeps_arities, store_keeps_arities, value_keeps_arities, answer_keeps_arities, passed_keeps_arities, table_leaves_told, table_unread_keeps_arities}
use Rattle.aml_laws.proofs.arities.evaluation_keeps_the_arguments_that_are_told.Goals as goal

pub returns-clause-terms : goal.returns-clause-terms
returns-clause-terms g c = term_keeps_arities

pub returns-clause-lists : goal.returns-clause-lists
returns-clause-lists g c = list_keeps_arities

pub returns-clause-calls : goal.returns-clause-calls
returns-clause-calls g c = call_keeps_arities

pub returns-clause-fields : goal.returns-clause-fields
returns-clause-fields g c = field_keeps_arities

pub returns-clause-stores : goal.returns-clause-stores
returns-clause-stores g c = store_keeps_arities

pub returns-clause-values : goal.returns-clause-values
returns-clause-values g c = value_keeps_arities

pub returns-clause-answers : goal.returns-clause-answers
returns-clause-answers g c = answer_keeps_arities

pub returns-clause-notes : goal.returns-clause-notes
returns-clause-notes g c = passed_keeps_arities

pub returns-clause-tables : goal.returns-clause-tables
returns-clause-tables g c = table_leaves_told

pub returns-clause-unread : goal.returns-clause-unread
returns-clause-unread g c = table_unread_keeps_arities
