use Rattle.aml_laws.proofs.RegionsDeclared.{byte_accesses, wider_accesses, update_rules, no_update_rule}
use Rattle.aml_laws.proofs.region_terms.field_flags_say_the_access_and_the_update_rule.Goals as goal

pub returns-clause-bytes : goal.returns-clause-bytes
returns-clause-bytes c = byte_accesses

pub returns-clause-wider : goal.returns-clause-wider
returns-clause-wider c = wider_accesses

pub returns-clause-rules : goal.returns-clause-rules
returns-clause-rules c = update_rules

pub returns-clause-no_rule : goal.returns-clause-no_rule
returns-clause-no_rule c = no_update_rule
