use Rattle.aml_laws.proofs.NamesUnresolved.{unresolved_declares_none, name_unresolved, method_unresolved, alias_unresolved, mutex_unresolved, event_unresolved, scope_unresolved}
use Rattle.aml_laws.proofs.RegionsPut.{region_not_put, sized_field_not_put, field_not_put}
use Rattle.aml_laws.proofs.declared_objects.a_name_without_a_path_refuses_declarations.Goals as goal

pub returns-clause-name : goal.returns-clause-name
returns-clause-name g c = name_unresolved

pub returns-clause-method : goal.returns-clause-method
returns-clause-method g c = method_unresolved

pub returns-clause-an_alias : goal.returns-clause-an_alias
returns-clause-an_alias g c = alias_unresolved

pub returns-clause-mutex : goal.returns-clause-mutex
returns-clause-mutex g c = mutex_unresolved

pub returns-clause-event : goal.returns-clause-event
returns-clause-event g c = event_unresolved

pub returns-clause-a_scope : goal.returns-clause-a_scope
returns-clause-a_scope g c = scope_unresolved

pub returns-clause-region : goal.returns-clause-region
returns-clause-region g c =
    λ accesses scope depth n e none w steps space offset size between after v u x y first second begins long. region_not_put accesses scope depth n w steps space offset size between after v u x y first second begins long e (unresolved_declares_none accesses scope depth n e none after)

pub returns-clause-sized : goal.returns-clause-sized
returns-clause-sized g c = λ accesses scope depth n e none w steps o i after. sized_field_not_put accesses scope depth n w steps o i after e (unresolved_declares_none accesses scope depth n e none after)

pub returns-clause-any : goal.returns-clause-any
returns-clause-any g c = λ accesses scope depth n e none w steps o i after. field_not_put accesses scope depth n w steps o i after e (unresolved_declares_none accesses scope depth n e none after)
