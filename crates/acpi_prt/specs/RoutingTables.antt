-- What the pins of a routing table are (ACPI 6.5, 6.2.13).
use Rattle.std.specs.Prelude.{ℕ, List, [], ◌∷◌, ◌++◌, Option, Some, None}
use Rattle.ar_space.specs.declared.refusal.Refusal.TheVariants.{RoutingTable}
use Rattle.ar_space.specs.declared.refusal.RoutingTableFault.TheVariants.{BadEntry}
use Rattle.ar_space.specs.Accesses.{Accesses}
use Rattle.ar_space.specs.Change.{Change, give, stop, settle, ◌>>=◌, ◌>>◌}
use Rattle.aml_path.specs.declared.segment.Seg.{Seg}
use Rattle.aml_world.specs.state.Given.{Given}
use Rattle.aml_world.specs.state.Given as given
use Rattle.acpi_machine.specs.Buses.{prt}
use Rattle.acpi_machine.specs.MachineStates.{MachineState}
use Rattle.acpi_machine.specs.Calls.{evaluated_object}
use Rattle.acpi_prt.specs.declared.pin.Pin.{Pin}
use Rattle.acpi_prt.specs.declared.pin.Route.{Route}
use Rattle.acpi_prt.specs.declared.pin.Route.TheVariants.{Wired, Link}
use Rattle.acpi_prt.specs.Entries.{list_of, entries_of, word_of, source_tested, pin_tested, no_index, device_number}
use Rattle.acpi_prt.specs.Links.{link_at}
use Rattle.acpi_prt.specs.Pins.{taken}

-- accesses: what the register space makes of them
module _ {S : Type 0} (accesses : Accesses S) where
  -- to a link device
  unfoldable pub linked : List Seg → ℕ → Change (MachineState S) Route
  linked p index = do
    link ← link_at accesses p
    settle (no_index index)
    give (Link link)

  -- the source 0 means that the index is the interrupt
  abbrev pub route_of : Given → ℕ → Change (MachineState S) Route
  route_of (given.Integer n) index = give (Wired index)
  route_of (given.Named p) index = linked p index
  route_of _ index = stop (RoutingTable BadEntry)

  -- address, pin, source and source index
  unfoldable pub pin_with : Given → Given → Given → Given → Change (MachineState S) (Option Pin)
  pin_with a p s i = do
    address ← settle (word_of a)
    pin ← settle (word_of p)
    settle (source_tested s)
    index ← settle (word_of i)
    letter ← settle (pin_tested pin)
    route ← route_of s index
    give (Some (record { number = device_number address; pin = letter; route = route }))

  abbrev pub pin_among : List Given → Change (MachineState S) (Option Pin)
  pin_among (a ∷ p ∷ s ∷ i ∷ []) = pin_with a p s i
  pin_among _ = stop (RoutingTable BadEntry)

  -- an entry that was left out is passed over
  abbrev pub pin_of : Given → Change (MachineState S) (Option Pin)
  pin_of given.Nothing = give None
  pin_of (given.Package parts) = pin_among (list_of parts)
  pin_of _ = stop (RoutingTable BadEntry)

  -- entry by entry, behind the pins so far
  unfoldable pub pins_from : List Given → List Pin → Change (MachineState S) (List Pin)
  pins_from [] pins = give pins
  pins_from (entry ∷ entries) pins = do
    pin ← pin_of entry
    pins_from entries (taken pins pin)

  -- the routing table below a device
  unfoldable pub routing_table : List Seg → Change (MachineState S) (List Pin)
  routing_table device = do
    path ← give (device ++ prt ∷ [])
    answer ← evaluated_object accesses path []
    entries ← settle (entries_of answer)
    pins_from entries []
