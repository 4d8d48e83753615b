-- The first pin of each device number and pin counts.
use Rattle.std.specs.Prelude.{◌++◌, ◌==◌, ◌&&◌, Bool, List, [], ◌∷◌, Option, Some, None, if◌then◌else◌}
use Rattle.std.specs.List.{list_any}
use Rattle.acpi_prt.specs.declared.pin.Pin.{Pin}

-- of the same device number and pin
abbrev pub is_at : Pin → Pin → Bool
is_at p q = (p.number == q.number) && (p.pin == q.pin)

abbrev pub stands : List Pin → Pin → Bool
stands pins p = list_any (λ q. is_at q p) pins

abbrev pub taken_new : List Pin → Pin → List Pin
taken_new pins p = if stands pins p then pins else pins ++ p ∷ []

-- a pin more
abbrev pub taken : List Pin → Option Pin → List Pin
taken pins None = pins
taken pins (Some p) = taken_new pins p
