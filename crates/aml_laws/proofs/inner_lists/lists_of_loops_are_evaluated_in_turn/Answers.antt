use Rattle.aml_laws.proofs.ListsWithinTerms.{loop_refused, loop_broken, loop_returned, loop_goes_on, loop_continued, loop_is_over}
use Rattle.aml_laws.proofs.inner_lists.lists_of_loops_are_evaluated_in_turn.Goals as goal

pub returns-clause-refused : goal.returns-clause-refused
returns-clause-refused g c = loop_refused

pub returns-clause-broken : goal.returns-clause-broken
returns-clause-broken g c = loop_broken

pub returns-clause-returned : goal.returns-clause-returned
returns-clause-returned g c = loop_returned

pub returns-clause-goes_on : goal.returns-clause-goes_on
returns-clause-goes_on g c = loop_goes_on

pub returns-clause-continued : goal.returns-clause-continued
returns-clause-continued g c = loop_continued

pub returns-clause-over : goal.returns-clause-over
returns-clause-over g c = loop_is_over
