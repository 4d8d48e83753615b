-- The elements of a package of callers, in their order.
use Rattle.std.specs.Prelude.{List, [], ◌∷◌}
use Rattle.aml_world.specs.state.Given.{Given, Givens, none, more}

abbrev pub in_order : Givens → List Given
in_order none = []
in_order (more g gs) = g ∷ in_order gs
