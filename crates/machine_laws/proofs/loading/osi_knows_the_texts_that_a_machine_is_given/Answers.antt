use Rattle.machine_laws.proofs.TextsKept.{loaded_with_texts, texts_set, texts_refused, none_taken}
use Rattle.machine_laws.proofs.loading.osi_knows_the_texts_that_a_machine_is_given.Goals as goal

pub returns-clause-loaded : goal.returns-clause-loaded
returns-clause-loaded g c = loaded_with_texts

pub returns-clause-set : goal.returns-clause-set
returns-clause-set g c = texts_set

pub returns-clause-too_many : goal.returns-clause-too_many
returns-clause-too_many g c = texts_refused

pub returns-clause-spent : goal.returns-clause-spent
returns-clause-spent g c = none_taken
