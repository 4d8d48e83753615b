-- A buffer is joined as it is.
use Rattle.ar_space.specs.Outcome.{◌>>=◌}
use Rattle.aml_convert.specs.Concatenation.{concatenated}
use Rattle.aml_convert.proofs.concatenation.concat_buffers.Goals as goal

pub returns-in-Buffer : goal.returns-in-Buffer
unfolding concatenated ◌>>=◌
returns-in-Buffer c = rw c.in-Buffer.is c.join_buffers.ensures
