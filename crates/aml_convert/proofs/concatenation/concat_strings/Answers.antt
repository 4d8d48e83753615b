-- A string is joined as it is.
use Rattle.ar_space.specs.Outcome.{◌>>=◌}
use Rattle.aml_convert.specs.Concatenation.{concatenated}
use Rattle.aml_convert.proofs.concatenation.concat_strings.Goals as goal

pub returns-in-String : goal.returns-in-String
unfolding concatenated ◌>>=◌
returns-in-String c = rw c.in-String.is c.join_strings.ensures
