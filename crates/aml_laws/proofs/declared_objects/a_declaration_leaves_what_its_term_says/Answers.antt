use Rattle.aml_laws.proofs.NamesDeclared.{name_declares, method_declares, alias_declares, mutex_declares, event_declares}
use Rattle.aml_laws.proofs.ScopesDeclared.{scope_declares}
use Rattle.aml_laws.proofs.declared_objects.a_declaration_leaves_what_its_term_says.Goals as goal

pub returns-clause-name : goal.returns-clause-name
returns-clause-name g c = name_declares

pub returns-clause-method : goal.returns-clause-method
returns-clause-method g c = method_declares

pub returns-clause-an_alias : goal.returns-clause-an_alias
returns-clause-an_alias g c = alias_declares

pub returns-clause-mutex : goal.returns-clause-mutex
returns-clause-mutex g c = mutex_declares

pub returns-clause-event : goal.returns-clause-event
returns-clause-event g c = event_declares

pub returns-clause-a_scope : goal.returns-clause-a_scope
returns-clause-a_scope g c = scope_declares
