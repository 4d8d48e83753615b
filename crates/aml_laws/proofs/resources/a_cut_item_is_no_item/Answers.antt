use Rattle.aml_laws.proofs.CutItems.{small_cut, large_cut, length_cut}
use Rattle.aml_laws.proofs.resources.a_cut_item_is_no_item.Goals as goal

pub returns-clause-small : goal.returns-clause-small
returns-clause-small c = small_cut

pub returns-clause-large : goal.returns-clause-large
returns-clause-large c = large_cut

pub returns-clause-without_length : goal.returns-clause-without_length
returns-clause-without_length c = length_cut
