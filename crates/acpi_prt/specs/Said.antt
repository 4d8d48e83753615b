-- What the entries of a routing table say, before any is passed over.
use Rattle.std.specs.Prelude.{◌≡◌, false, List, [], ◌∷◌, Some, find, AllPairs}
use Rattle.std.specs.List.{cons_option}
use Rattle.ar_space.specs.Accesses.{Accesses}
use Rattle.ar_space.specs.Change.{Change, give, ◌>>=◌}
use Rattle.aml_world.specs.state.Given.{Given}
use Rattle.acpi_machine.specs.MachineStates.{MachineState}
use Rattle.acpi_prt.specs.declared.pin.Pin.{Pin}
use Rattle.acpi_prt.specs.Pins.{is_at}
use Rattle.acpi_prt.specs.RoutingTables.{pin_of}

-- accesses: what the register space makes of them
module _ {S : Type 0} (accesses : Accesses S) where
  -- the pin of each entry, in order; an entry that was left out has none
  unfoldable pub pins_said : List Given → Change (MachineState S) (List Pin)
  pins_said [] = give []
  pins_said (entry ∷ entries) = do
    pin ← pin_of accesses entry
    pins ← pins_said entries
    give (cons_option pin pins)

-- the first pin of its device number and pin in a list
abbrev pub IsFirst : List Pin → Pin → Type 0
IsFirst pins pin = find (λ p. is_at p pin) pins ≡ Some pin

-- no two pins of the same device number and pin
abbrev pub NoneTwice : List Pin → Type 0
NoneTwice pins = AllPairs (λ p q. is_at p q ≡ false) pins
