use Rattle.aml_laws.proofs.NamesOrdered.{lower_character_first}
use Rattle.aml_laws.proofs.names.names_are_ordered_by_their_characters.Goals as goal

pub returns-clause-segments : goal.returns-clause-segments
returns-clause-segments c = lower_character_first
