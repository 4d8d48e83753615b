use Rattle.aml_laws.proofs.ObjectsAsked.{size_told}
use Rattle.aml_laws.proofs.PartsAsked.{part_sized}
use Rattle.aml_laws.proofs.referring.a_size_counts_bytes_and_elements.Goals as goal

pub returns-clause-held : goal.returns-clause-held
returns-clause-held g c = size_told

pub returns-clause-parts : goal.returns-clause-parts
returns-clause-parts g c = part_sized
