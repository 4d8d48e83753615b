-- What a machine's links are, and which problem they pose.
use Rattle.std.specs.Prelude.{ℕ, List, Option, Ok}
use Rattle.ar_space.specs.Accesses.{Accesses}
use Rattle.ar_space.specs.Change.{Change, give, settle, ◌>>=◌, ◌>>◌}
use Rattle.aml_path.specs.declared.segment.Seg.{Seg}
use Rattle.acpi_machine.specs.MachineStates.{MachineState, sci_of}
use Rattle.acpi_prt.specs.declared.pin.Pin.{Pin}
use Rattle.acpi_links.specs.Devices.{devices_listed, pins_of_each}
use Rattle.acpi_links.specs.Links.{PresentLink, few_pins, links_named, few_links, links_of_each, one_polarity}
use Rattle.acpi_links.specs.Problems.{problem_of}
use Rattle.route_solve.specs.Problems.{RoutingProblem}

-- what was gathered: each pin with its device, the present links with what they offer and are set to, and the problem that they pose
pub record Gathering : Type 0 where
  pub pins : List (List Seg × Pin)
  pub links : List PresentLink
  pub problem : RoutingProblem

-- avoid: the interrupts that no link is to be given; sci: the source of the System Control Interrupt, if it has one
abbrev pub gathering : List ℕ → Option ℕ → List (List Seg × Pin) → List PresentLink → Gathering
gathering avoid sci pins links = record { pins = pins; links = links; problem = problem_of avoid sci links pins }

-- the source of the System Control Interrupt, in the machine's mode
unfoldable pub sci_shown : {S : Type 0} → Change (MachineState S) (Option ℕ)
sci_shown s = (Ok (sci_of s), s)

-- accesses: what the register space makes of them
module _ {S : Type 0} (accesses : Accesses S) where
  -- the pins of all routing tables, devices in path order
  unfoldable pub pins_found : Option ℕ → Change (MachineState S) (List (List Seg × Pin))
  pins_found sci = do
    list ← devices_listed
    pins ← pins_of_each accesses list
    settle (few_pins sci pins)
    give pins

  -- the present links that some pins lead to, in path order
  unfoldable pub links_found : List ℕ → List (List Seg × Pin) → Change (MachineState S) (List PresentLink)
  links_found avoid pins = do
    named ← give (links_named pins)
    settle (few_links named)
    links ← links_of_each accesses avoid named
    settle (one_polarity links)
    give links

  -- first all routing tables, then all links; no link is set
  unfoldable pub gathered : List ℕ → Change (MachineState S) Gathering
  gathered avoid = do
    sci ← sci_shown
    pins ← pins_found sci
    links ← links_found avoid pins
    give (gathering avoid sci pins links)
