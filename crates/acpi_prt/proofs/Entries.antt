-- Lists of other lengths than four are no entries.
use Rattle.std.proofs.Common.{◌≢◌, List, [], ◌∷◌, length, map, Err, arith}
use Rattle.ar_space.specs.declared.refusal.Refusal.TheVariants.{RoutingTable}
use Rattle.ar_space.specs.declared.refusal.RoutingTableFault.TheVariants.{BadEntry}
use Rattle.ar_space.specs.Accesses.{Accesses}
use Rattle.ar_space.specs.Change.{Does}
use Rattle.ar_space.proofs.Changes.{does_stop}
use Rattle.aml_world.specs.declared.state.datum.Datum.{Datum}
use Rattle.aml_world.specs.state.Given.{given_of}
use Rattle.acpi_machine.specs.MachineStates.{MachineState}
use Rattle.acpi_prt.specs.RoutingTables.{pin_among}

pub others_refused : {S : Type 0} (accesses : Accesses S) (xs : List Datum) (s : MachineState S) → length xs ≢ 4 → Does (Err (RoutingTable BadEntry)) s (pin_among accesses (map given_of xs)) s
others_refused accesses [] s l = does_stop
others_refused accesses (x ∷ []) s l = does_stop
others_refused accesses (x ∷ y ∷ []) s l = does_stop
others_refused accesses (x ∷ y ∷ z ∷ []) s l = does_stop
others_refused accesses (x ∷ y ∷ z ∷ w ∷ []) s l = absurd (omega arith)
others_refused accesses (x ∷ y ∷ z ∷ w ∷ v ∷ xs) s l = does_stop
