-- Which device numbers and pins some pins are of.
use Rattle.std.specs.Prelude.{◌≡◌, List}
use Rattle.std.specs.List.{list_any}
use Rattle.std.specs.BTreeSet.{BTreeSet, contains}
use Rattle.std.specs.declared.cmp.Ordering.{Ordering}
use Rattle.std.specs.Ordering.{nat_cmp, ordering_then, eq_by_cmp}
use Rattle.acpi_prt.specs.declared.pin.Pin.{Pin}
use Rattle.acpi_prt.specs.declared.first_pins.PinPlace.{PinPlace}

-- by device number, then by pin
abbrev pub place_cmp : PinPlace → PinPlace → Ordering
place_cmp a b = ordering_then (nat_cmp a.number b.number) (nat_cmp a.pin b.pin)

abbrev pub place_of : Pin → PinPlace
place_of p = record { number = p.number; pin = p.pin }

-- a place is in the set just where a pin is of it
abbrev pub HasPlaces : List Pin → BTreeSet PinPlace → Type 0
HasPlaces pins places = (q : PinPlace) → contains place_cmp places q ≡ list_any (λ p. eq_by_cmp place_cmp (place_of p) q) pins
