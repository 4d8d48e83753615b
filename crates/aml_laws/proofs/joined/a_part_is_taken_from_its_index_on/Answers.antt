use Rattle.aml_laws.proofs.ValuesJoined.{part_taken}
use Rattle.aml_laws.proofs.joined.a_part_is_taken_from_its_index_on.Goals as goal

pub returns : goal.returns
returns g c = part_taken
