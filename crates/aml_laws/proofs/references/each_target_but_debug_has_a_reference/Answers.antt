use Rattle.aml_laws.proofs.ReferencesSought.{target_refers, slot_refers_to_none, debug_refers_to_none}
use Rattle.aml_laws.proofs.references.each_target_but_debug_has_a_reference.Goals as goal

pub returns-clause-given : goal.returns-clause-given
returns-clause-given g c = target_refers

pub returns-clause-debug : goal.returns-clause-debug
returns-clause-debug g c = debug_refers_to_none

pub returns-clause-no_method : goal.returns-clause-no_method
returns-clause-no_method g c = slot_refers_to_none
