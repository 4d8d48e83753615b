use Rattle.acpiroute_c.proofs.Words.{not_all, all_words}
use Rattle.acpiroute_c.proofs.call_words.words_of.Goals as goal

pub returns-in-Ok-clause-fault : goal.returns-in-Ok-clause-fault
returns-in-Ok-clause-fault c = not_all _ _ _ (rw c.as_slice.ensures.value c.in-Ok.ensures) c.texts.ensures.fault

pub returns-in-Ok-clause-utf8 : goal.returns-in-Ok-clause-utf8
returns-in-Ok-clause-utf8 c = all_words _ _ _ (rw c.as_slice.ensures.value c.in-Ok.ensures) c.texts.ensures.utf8
