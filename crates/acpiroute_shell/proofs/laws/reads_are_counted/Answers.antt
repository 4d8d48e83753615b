use Rattle.acpiroute_shell.proofs.Counting.{counted_within}
use Rattle.acpiroute_shell.proofs.laws.reads_are_counted.Goals as goal

pub returns : goal.returns
returns g c = λ count limit before after counts reads. counted_within count limit before after counts reads
