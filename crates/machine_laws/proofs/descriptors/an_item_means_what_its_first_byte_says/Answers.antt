use Rattle.machine_laws.proofs.ItemsTold.{interrupts_told, refused_told, several_told, numbers_told, refused_numbers_told, short_told, short_numbers_told, end_told, end_of_none_told, end_of_numbers_told, no_end_told, no_end_of_numbers_told, dependent_told, dependent_numbers_told, other_told, other_numbers_told}
use Rattle.machine_laws.proofs.descriptors.an_item_means_what_its_first_byte_says.Goals as goal

pub returns-clause-interrupts : goal.returns-clause-interrupts
returns-clause-interrupts c = interrupts_told

pub returns-clause-refused : goal.returns-clause-refused
returns-clause-refused c = refused_told

pub returns-clause-several : goal.returns-clause-several
returns-clause-several c = several_told

pub returns-clause-numbers : goal.returns-clause-numbers
returns-clause-numbers c = numbers_told

pub returns-clause-refused_numbers : goal.returns-clause-refused_numbers
returns-clause-refused_numbers c = refused_numbers_told

pub returns-clause-short : goal.returns-clause-short
returns-clause-short c = short_told

pub returns-clause-short_numbers : goal.returns-clause-short_numbers
returns-clause-short_numbers c = short_numbers_told

pub returns-clause-end : goal.returns-clause-end
returns-clause-end c = end_told

pub returns-clause-end_of_none : goal.returns-clause-end_of_none
returns-clause-end_of_none c = end_of_none_told

pub returns-clause-end_of_numbers : goal.returns-clause-end_of_numbers
returns-clause-end_of_numbers c = end_of_numbers_told

pub returns-clause-no_end : goal.returns-clause-no_end
returns-clause-no_end c = no_end_told

pub returns-clause-no_end_of_numbers : goal.returns-clause-no_end_of_numbers
returns-clause-no_end_of_numbers c = no_end_of_numbers_told

pub returns-clause-dependent : goal.returns-clause-dependent
returns-clause-dependent c = dependent_told

pub returns-clause-dependent_numbers : goal.returns-clause-dependent_numbers
returns-clause-dependent_numbers c = dependent_numbers_told

pub returns-clause-other : goal.returns-clause-other
returns-clause-other c = other_told

pub returns-clause-other_numbers : goal.returns-clause-other_numbers
returns-clause-other_numbers c = other_numbers_told
