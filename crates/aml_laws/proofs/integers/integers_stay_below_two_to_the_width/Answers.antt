use Rattle.aml_laws.proofs.IntegersOfAnswers.{answer_within, answer_value_within}
use Rattle.aml_laws.proofs.IntegersOfPredefined.{predefined_world_within}
use Rattle.aml_laws.proofs.IntegersOfTables.{term_within, list_within}
use Rattle.aml_laws.proofs.IntegersOfTables.{table_within, object_within, object_value_within}
use Rattle.aml_laws.proofs.integers.integers_stay_below_two_to_the_width.Goals as goal

pub returns-clause-first : goal.returns-clause-first
returns-clause-first g c = λ profile width osi space. predefined_world_within profile width osi space

pub returns-clause-terms : goal.returns-clause-terms
returns-clause-terms g c = λ width accesses t s. term_within width accesses t s

pub returns-clause-lists : goal.returns-clause-lists
returns-clause-lists g c = λ width accesses scope depth ts s. list_within width accesses scope depth ts s

pub returns-clause-tables : goal.returns-clause-tables
returns-clause-tables g c = λ width accesses bytes steps w. table_within width accesses bytes steps w

pub returns-clause-objects : goal.returns-clause-objects
returns-clause-objects g c = λ width accesses path arguments steps w. object_within width accesses path arguments steps w

pub returns-clause-object_values : goal.returns-clause-object_values
returns-clause-object_values g c = λ width accesses path arguments steps w x. object_value_within width accesses path arguments steps w x

pub returns-clause-answers : goal.returns-clause-answers
returns-clause-answers g c = λ width accesses path arguments steps w. answer_within width accesses path arguments steps w

pub returns-clause-answer_values : goal.returns-clause-answer_values
returns-clause-answer_values g c = λ width accesses path arguments steps w x. answer_value_within width accesses path arguments steps w x
