-- Objects of a draft, as they will stand in a world.
use Rattle.std.specs.Prelude.{List, ◌++◌}
use Rattle.aml_objects.specs.declared.object.Object.{Object}
use Rattle.aml_world.specs.state.State.{State}

-- the world with the objects of a draft behind its own
abbrev pub drafted : {S : Type 0} → State S → List Object → State S
drafted w made = record w { objects = w.objects ++ made }
