-- Where the reading of a routing table may stop.
use Rattle.std.specs.Prelude.{List, [], ◌∷◌, ◌++◌}
use Rattle.ar_space.specs.Accesses.{Accesses}
use Rattle.ar_space.specs.Change.{Change, give, settle, ◌>>=◌}
use Rattle.aml_path.specs.declared.segment.Seg.{Seg}
use Rattle.aml_world.specs.state.Given.{Given}
use Rattle.acpi_machine.specs.Buses.{prt}
use Rattle.acpi_machine.specs.MachineStates.{MachineState}
use Rattle.acpi_machine.specs.Calls.{evaluated_object}
use Rattle.acpi_machine.specs.Stops.{Stop, AllOrNone, StopsThen, StopsEach}
use Rattle.acpi_prt.specs.Entries.{entries_of}
use Rattle.acpi_prt.specs.RoutingTables.{pin_of}

-- accesses: what the register space makes of them
module _ {S : Type 0} (accesses : Accesses S) where
  -- the entries that `_PRT` below a device answers
  unfoldable pub entries_answered : List Seg → Change (MachineState S) (List Given)
  entries_answered device = do
    path ← give (device ++ prt ∷ [])
    answer ← evaluated_object accesses path []
    settle (entries_of answer)

  -- each entry evaluates the `_HID` of one link at most
  abbrev pub StopsInEntries : List Given → Stop S
  StopsInEntries entries = StopsEach (pin_of accesses) (λ entry. AllOrNone (pin_of accesses entry)) entries

  abbrev pub StopsInTable : List Seg → Stop S
  StopsInTable device = StopsThen (entries_answered device) (AllOrNone (entries_answered device)) StopsInEntries
