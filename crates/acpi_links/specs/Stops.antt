-- Where gathering may stop.
use Rattle.std.specs.Prelude.{◌≡◌, ℕ, List, Bool, true, false}
use Rattle.ar_space.specs.Accesses.{Accesses}
use Rattle.ar_space.specs.Change.{Change, settle, ◌>>=◌}
use Rattle.aml_path.specs.declared.segment.Seg.{Seg}
use Rattle.acpi_machine.specs.Buses.{prt}
use Rattle.acpi_machine.specs.Children.{has_child}
use Rattle.acpi_machine.specs.MachineStates.{MachineState, sci_of}
use Rattle.acpi_machine.specs.Stops.{Stop, AllOrNone, StopsThen, StopsEach}
use Rattle.acpi_prt.specs.Stops.{StopsInTable}
use Rattle.acpi_links.specs.Devices.{devices, pins_of_device}
use Rattle.acpi_links.specs.Presence.{is_present}
use Rattle.acpi_links.specs.Resources.{possible_resources, current_resources}
use Rattle.acpi_links.specs.Links.{links_named, few_links, some_left, link_asked}
use Rattle.acpi_links.specs.Gatherings.{pins_found}

-- accesses: what the register space makes of them
module _ {S : Type 0} (accesses : Accesses S) where
  -- a device without `_PRT` isn't asked
  abbrev pub StopsIfTable : Bool → List Seg → Stop S
  StopsIfTable true device = StopsInTable accesses device
  StopsIfTable false device = ◌≡◌

  -- the routing table of a device, if it has one
  abbrev pub StopsInDevice : List Seg → Stop S
  StopsInDevice device before after = StopsIfTable (has_child device prt before) device before after

  -- one routing table after another
  abbrev pub StopsInTables : List (List Seg) → Stop S
  StopsInTables list = StopsEach (pins_of_device accesses) StopsInDevice list

  -- avoid: the interrupts that no link is to be given
  module _ (avoid : List ℕ) where
    -- `_PRS`; nothing is asked behind it where all that it offers is avoided
    unfoldable pub offer_asked : List Seg → Change (MachineState S) (Unit {0})
    offer_asked link = do
      offer ← possible_resources accesses link
      settle (some_left avoid link offer)

    -- `_PRS`, then `_CRS`
    abbrev pub StopsInOffer : List Seg → Stop S
    StopsInOffer link = StopsThen (offer_asked link) (AllOrNone (offer_asked link)) (λ _. AllOrNone (current_resources accesses link))

    -- a link that is absent isn't asked
    abbrev pub StopsIfPresent : Bool → List Seg → Stop S
    StopsIfPresent true link = StopsInOffer link
    StopsIfPresent false link = ◌≡◌

    -- `_STA`, then the others
    abbrev pub StopsInLink : List Seg → Stop S
    StopsInLink link = StopsThen (is_present accesses link) (AllOrNone (is_present accesses link)) (λ present. StopsIfPresent present link)

    -- one link after another
    abbrev pub StopsInLinks : List (List Seg) → Stop S
    StopsInLinks list = StopsEach (link_asked accesses avoid) StopsInLink list

    -- where the links are too many none is asked
    abbrev pub StopsInFew : List (List Seg) → Stop S
    StopsInFew list = StopsThen (settle (few_links list)) ◌≡◌ (λ _. StopsInLinks list)

    -- first all routing tables, then all links that their pins lead to
    abbrev pub StopsInGathering : Stop S
    StopsInGathering before after = StopsThen (pins_found accesses (sci_of before)) (StopsInTables (devices before)) (λ pins. StopsInFew (links_named pins)) before after
