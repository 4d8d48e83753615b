-- Elements for which there is no room.
use Rattle.std.specs.Prelude.{◌⊎◌, ◌≤◌, ◌<◌, List, length}
use Rattle.aml_objects.specs.declared.object.Element.{Element}
use Rattle.aml_world.specs.state.State.{State}

-- they are more than a package has, or as many objects stand as can
abbrev pub AreTooMany : {S : Type 0} → State S → List Element → Type 0
AreTooMany w es = (65535 < length es) ⊎ (262144 ≤ length w.objects)
