-- Refusals that are passed over are noted.
use Rattle.std.specs.Prelude.{List, Ok, Err, if◌then◌else◌}
use Rattle.ar_space.specs.declared.refusal.Refusal.{Refusal}
use Rattle.ar_space.specs.Change.{Change}
use Rattle.aml_path.specs.declared.segment.Seg.{Seg}
use Rattle.aml_world.specs.state.State.{State}
use Rattle.aml_world.specs.state.PassedOver.{PassedOver, is_passable, passed_with}

-- a refusal is noted, with a path
unfoldable pub noted : List Seg → Refusal → Change PassedOver (Unit {0})
noted p e passed = (Ok tt, passed_with (record { refusal = e; scope = p }) passed)

abbrev pub with_passed : {S : Type 0} → List Seg → Refusal → State S → State S
with_passed p e w = record w { passed = passed_with (record { refusal = e; scope = p }) w.passed }

unfoldable pub passed_noted : {S : Type 0} → List Seg → Refusal → Change (State S) (Unit {0})
passed_noted p e w = (Ok tt, with_passed p e w)

-- or it isn't one that is passed over
unfoldable pub passed_over : {S : Type 0} → List Seg → Refusal → Change (State S) (Unit {0})
passed_over p e w = if is_passable e then (Ok tt, with_passed p e w) else (Err e, w)
