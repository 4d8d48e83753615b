use Rattle.aml_laws.proofs.PathsTaken.{taken_declares_none}
use Rattle.aml_laws.proofs.RegionsPut.{region_put, region_not_put, sized_field_not_put, field_not_put}
use Rattle.aml_laws.proofs.fields_put.regions_and_buffer_fields_stand_where_names_may_stand.Goals as goal

pub returns-clause-stands : goal.returns-clause-stands
returns-clause-stands g c = λ accesses scope depth n path is w steps space offset size between after v u x y first second begins long. region_put accesses scope depth n w steps space offset size between after v u x y first second begins long path is

pub returns-clause-refused : goal.returns-clause-refused
returns-clause-refused g c =
    λ accesses scope depth n path is w steps space offset size between after v u x y first second begins long e none. region_not_put accesses scope depth n w steps space offset size between after v u x y first second begins long e (taken_declares_none accesses scope depth n path is after e none)

pub returns-clause-sized : goal.returns-clause-sized
returns-clause-sized g c = λ accesses scope depth n path is w steps o i after e none. sized_field_not_put accesses scope depth n w steps o i after e (taken_declares_none accesses scope depth n path is after e none)

pub returns-clause-any : goal.returns-clause-any
returns-clause-any g c = λ accesses scope depth n path is w steps o i after e none. field_not_put accesses scope depth n w steps o i after e (taken_declares_none accesses scope depth n path is after e none)
