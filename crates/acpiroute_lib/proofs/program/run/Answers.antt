use Rattle.clap.specs.Words.{kind_of}
use Rattle.acpiroute_lib.proofs.Deliveries.{complained}
use Rattle.acpiroute_lib.proofs.program.run.Goals as goal

pub returns-in-Err-clause-ran : goal.returns-in-Err-clause-ran
returns-in-Err-clause-ran g c = complained _ _ _ _ _ _ _ _ (kind_of c.in-Err.error) c.in-Err.ensures.faults c.show.ensures
