-- Where a run may stop.
use Rattle.std.specs.Prelude.{◌≡◌, ℕ, List, [], Bool, true, false, zip}
use Rattle.ar_space.specs.Accesses.{Accesses}
use Rattle.aml_path.specs.declared.segment.Seg.{Seg}
use Rattle.acpi_machine.specs.Children.{has_child}
use Rattle.acpi_machine.specs.MachineStates.{MachineState, sci_of}
use Rattle.acpi_machine.specs.Stops.{Stop, AllOrNone, StopsThen, StopsEach}
use Rattle.acpi_links.specs.Links.{PresentLink}
use Rattle.acpi_links.specs.ObjectNames.{crs}
use Rattle.acpi_links.specs.Presence.{is_present}
use Rattle.acpi_links.specs.Resources.{current_resources}
use Rattle.acpi_links.specs.Gatherings.{Gathering, gathered}
use Rattle.acpi_links.specs.Stops.{StopsInGathering}
use Rattle.route_solve.specs.Problems.{RoutingAnswer}
use Rattle.acpi_configure.specs.Chosen.{IsChosen}
use Rattle.acpi_configure.specs.Configured.{Solves}
use Rattle.acpi_configure.specs.Options.{RunOptions}
use Rattle.acpi_configure.specs.Others.{other_devices, device_asked}
use Rattle.acpi_configure.specs.Settling.{link_set, links_set, link_read}
use Rattle.acpi_configure.specs.WithOptions.{Findings, found_by}

-- accesses: what the register space makes of them
module _ {S : Type 0} (accesses : Accesses S) where
  -- each link to the interrupt that it is given
  abbrev pub StopsInSets : List PresentLink → List ℕ → Stop S
  StopsInSets links ns = StopsEach (λ x. link_set accesses x.0 x.1) (λ x. AllOrNone (link_set accesses x.0 x.1)) (zip links ns)

  abbrev pub StopsInReads : List PresentLink → Stop S
  StopsInReads links = StopsEach (link_read accesses) (λ link. AllOrNone (link_read accesses link)) links

  -- all links are set before the first is read; a dry run does neither
  abbrev pub StopsInSettling : Bool → List PresentLink → List ℕ → Stop S
  StopsInSettling true links ns = ◌≡◌
  StopsInSettling false links ns = StopsThen (links_set accesses links ns []) (StopsInSets links ns) (λ _. StopsInReads links)

  -- by the answer to the problem of what was gathered
  pub record StopsBehind (dry : Bool) (found : Gathering) (before after : MachineState S) : Type 0 where
    pub answer : RoutingAnswer
    pub solves : Solves found.problem answer
    pub settling : StopsInSettling dry found.links answer.choice before after

  abbrev pub StopsInRun : Bool → List ℕ → Stop S
  StopsInRun dry avoid = StopsThen (gathered accesses avoid) (StopsInGathering accesses avoid) (StopsBehind dry)

  -- ---- with options

  -- a device that is absent isn't asked
  abbrev pub StopsIfPresent : Bool → List Seg → Stop S
  StopsIfPresent true device = AllOrNone (current_resources accesses device)
  StopsIfPresent false device = ◌≡◌

  -- `_STA`, then `_CRS`
  abbrev pub StopsInPresent : List Seg → Stop S
  StopsInPresent device = StopsThen (is_present accesses device) (AllOrNone (is_present accesses device)) (λ present. StopsIfPresent present device)

  -- nor is a device without `_CRS`
  abbrev pub StopsIfResources : Bool → List Seg → Stop S
  StopsIfResources true device = StopsInPresent device
  StopsIfResources false device = ◌≡◌

  abbrev pub StopsInDevice : List Seg → Stop S
  StopsInDevice device before after = StopsIfResources (has_child device crs before) device before after

  -- one device after another
  abbrev pub StopsInDevices : List (List Seg) → Stop S
  StopsInDevices list = StopsEach (device_asked accesses) StopsInDevice list

  -- where no device is spared none is asked
  abbrev pub StopsInOthers : Bool → List PresentLink → Stop S
  StopsInOthers true links before after = StopsInDevices (other_devices links before) before after
  StopsInOthers false links before after = before ≡ after

  -- first the links, then the other devices
  abbrev pub StopsInFinding : RunOptions → Stop S
  StopsInFinding o = StopsThen (gathered accesses o.avoid) (StopsInGathering accesses o.avoid) (λ g. StopsInOthers o.spare g.links)

  -- by the answer to the problem that is left
  pub record StopsBehindChoice (o : RunOptions) (found : Findings) (before after : MachineState S) : Type 0 where
    pub answer : RoutingAnswer
    pub chosen : IsChosen o.spread found.gathering.problem answer
    pub settling : StopsInSettling o.dry found.gathering.links answer.choice before after

  abbrev pub StopsInRunWith : RunOptions → Stop S
  StopsInRunWith o before after = StopsThen (found_by accesses o (sci_of before)) (StopsInFinding o) (StopsBehindChoice o) before after
