use Rattle.std.specs.Prelude.{refl}
use Rattle.aml_laws.proofs.TouchedUnits.{units_touched}
use Rattle.aml_laws.proofs.touched_units.a_field_has_one_unit_for_each_piece_that_it_touches.Goals as goal

pub returns-clause-touched : goal.returns-clause-touched
returns-clause-touched c = units_touched

pub returns-clause-untouched : goal.returns-clause-untouched
returns-clause-untouched c = λ o w. refl
