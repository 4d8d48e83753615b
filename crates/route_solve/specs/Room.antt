-- How often an interrupt can be given.
use Rattle.std.specs.Prelude.{ℕ, ◌+◌, ◌-◌, Option, List}
use Rattle.route_model.specs.Routing.{wired_to}
use Rattle.route_model.specs.Placement.{taken}

-- up to a limit, less the sources that are wired to it and the links that stay there
abbrev pub room_of : ℕ → List (ℕ × ℕ) → List (Option ℕ) → ℕ → ℕ
room_of limit wired fixed n = limit - (wired_to wired n + taken fixed n)
