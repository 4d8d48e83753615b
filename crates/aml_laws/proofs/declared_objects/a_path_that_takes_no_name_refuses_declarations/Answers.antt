use Rattle.aml_laws.proofs.PathsTaken.{name_refused, method_refused, alias_refused, mutex_refused, event_refused, scope_refused}
use Rattle.aml_laws.proofs.declared_objects.a_path_that_takes_no_name_refuses_declarations.Goals as goal

pub returns-clause-name : goal.returns-clause-name
returns-clause-name g c = name_refused

pub returns-clause-method : goal.returns-clause-method
returns-clause-method g c = method_refused

pub returns-clause-an_alias : goal.returns-clause-an_alias
returns-clause-an_alias g c = alias_refused

pub returns-clause-mutex : goal.returns-clause-mutex
returns-clause-mutex g c = mutex_refused

pub returns-clause-event : goal.returns-clause-event
returns-clause-event g c = event_refused

pub returns-clause-a_scope : goal.returns-clause-a_scope
returns-clause-a_scope g c = scope_refused
