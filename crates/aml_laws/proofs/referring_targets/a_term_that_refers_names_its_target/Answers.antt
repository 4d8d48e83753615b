use Rattle.aml_laws.proofs.ReferringTargets.{behind_is, nothing_is_behind}
use Rattle.aml_laws.proofs.referring_targets.a_term_that_refers_names_its_target.Goals as goal

pub returns-clause-named : goal.returns-clause-named
returns-clause-named g c = behind_is

pub returns-clause-unnamed : goal.returns-clause-unnamed
returns-clause-unnamed g c = nothing_is_behind
