use Rattle.std.proofs.Common.{Err, refl}
use Rattle.aml_world.specs.fields.Regions.{integer_only}
use Rattle.aml_accesses.proofs.Addressing.{asks_unsettled}
use Rattle.aml_accesses.proofs.asking.known.Goals as goal

pub returns-in-Err-clause-means : goal.returns-in-Err-clause-means
returns-in-Err-clause-means g c = asks_unsettled {r = Err c.in-Err.refusal} (integer_only c.args.value) c.in-Err.ensures.answer (refl, refl)
