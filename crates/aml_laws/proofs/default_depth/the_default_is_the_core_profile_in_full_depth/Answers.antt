use Rattle.aml_laws.proofs.SettingsKept.{default_world}
use Rattle.aml_laws.proofs.default_depth.the_default_is_the_core_profile_in_full_depth.Goals as goal

pub returns-clause-world : goal.returns-clause-world
returns-clause-world g c = default_world
