use Rattle.aml_laws.proofs.TargetsActedOn.{refers_at, no_reference_at}
use Rattle.aml_laws.proofs.targets.a_reference_is_given_of_what_a_term_names.Goals as goal

pub returns-clause-given : goal.returns-clause-given
returns-clause-given g c = λ accesses scope depth p t w steps between names end. refers_at accesses scope depth p w steps t between names end

pub returns-clause-unnamed : goal.returns-clause-unnamed
returns-clause-unnamed g c = no_reference_at
