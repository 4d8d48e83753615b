use Rattle.aml_laws.proofs.ValuesJoined.{text_taken}
use Rattle.aml_laws.proofs.joined.a_text_ends_before_the_first_zero.Goals as goal

pub returns : goal.returns
returns g c = text_taken
