-- Over a space with notes, the notes of a machine's call are told by its outcome.
use Rattle.std.specs.Prelude.{ℕ, List}
use Rattle.ar_space.specs.Accesses.{Accesses}
use Rattle.ar_tables.specs.declared.mode.Mode.{Mode}
use Rattle.ar_tables.specs.declared.tables.Tables.{Tables}
use Rattle.aml_path.specs.declared.segment.Seg.{Seg}
use Rattle.aml_world.specs.state.Given.{Given}
use Rattle.aml_world.specs.state.State.{State}
use Rattle.aml_laws.specs.Noted.{WithNotes, noted, TellsNotes}
use Rattle.aml_laws.proofs.NotesOfFaults.{explained_told}
use Rattle.acpi_machine.specs.MachineStates.{MachineState}
use Rattle.acpi_machine.specs.Loading.{loaded_tables}
use Rattle.acpi_machine.specs.Calls.{evaluated_object, initialized}
use Rattle.acpi_resources.specs.Records.{InterruptOffer}
use Rattle.acpi_prt.specs.RoutingTables.{routing_table}
use Rattle.acpi_links.specs.Resources.{possible_resources, current_resources}
use Rattle.acpi_links.specs.Settings.{resources_set}
use Rattle.acpi_links.specs.Gatherings.{gathered}
use Rattle.machine_laws.proofs.FaultsOfLoading.{loaded_tables_explains}
use Rattle.machine_laws.proofs.FaultsOfCalls.{evaluated_object_explains, initialized_explains}
use Rattle.machine_laws.proofs.FaultsOfLinks.{routing_table_explains, possible_resources_explains, current_resources_explains, resources_set_explains, gathered_explains}

module _ {S : Type 0} (accesses : Accesses S) where
  pub notes_of_tables : (t : Tables) (steps : ℕ) (osi : List (List ℕ)) (w : State (WithNotes S)) → TellsNotes (loaded_tables (noted accesses) t steps osi w).0 w.space (loaded_tables (noted accesses) t steps osi w).1.space
  notes_of_tables t steps osi w = explained_told accesses _ _ _ ((loaded_tables_explains (noted accesses) t steps osi).explained w)

  pub notes_of_initialization : (mode : Mode) (s : MachineState (WithNotes S)) → TellsNotes (initialized (noted accesses) mode s).0 s.world.space (initialized (noted accesses) mode s).1.world.space
  notes_of_initialization mode s = explained_told accesses _ _ _ ((initialized_explains (noted accesses) mode).explained s)

  pub notes_of_object : (p : List Seg) (arguments : List Given) (s : MachineState (WithNotes S)) → TellsNotes (evaluated_object (noted accesses) p arguments s).0 s.world.space (evaluated_object (noted accesses) p arguments s).1.world.space
  notes_of_object p arguments s = explained_told accesses _ _ _ ((evaluated_object_explains (noted accesses) p arguments).explained s)

  -- ---- routing

  pub notes_of_routing_table : (device : List Seg) (s : MachineState (WithNotes S)) → TellsNotes (routing_table (noted accesses) device s).0 s.world.space (routing_table (noted accesses) device s).1.world.space
  notes_of_routing_table device s = explained_told accesses _ _ _ ((routing_table_explains device).explained s)

  pub notes_of_possible : (link : List Seg) (s : MachineState (WithNotes S)) → TellsNotes (possible_resources (noted accesses) link s).0 s.world.space (possible_resources (noted accesses) link s).1.world.space
  notes_of_possible link s = explained_told accesses _ _ _ ((possible_resources_explains link).explained s)

  pub notes_of_current : (link : List Seg) (s : MachineState (WithNotes S)) → TellsNotes (current_resources (noted accesses) link s).0 s.world.space (current_resources (noted accesses) link s).1.world.space
  notes_of_current link s = explained_told accesses _ _ _ ((current_resources_explains link).explained s)

  pub notes_of_setting : (link : List Seg) (offer : InterruptOffer) (n : ℕ) (s : MachineState (WithNotes S)) → TellsNotes (resources_set (noted accesses) link offer n s).0 s.world.space (resources_set (noted accesses) link offer n s).1.world.space
  notes_of_setting link offer n s = explained_told accesses _ _ _ ((resources_set_explains link offer n).explained s)

  pub notes_of_gathering : (avoid : List ℕ) (s : MachineState (WithNotes S)) → TellsNotes (gathered (noted accesses) avoid s).0 s.world.space (gathered (noted accesses) avoid s).1.world.space
  notes_of_gathering avoid s = explained_told accesses _ _ _ ((gathered_explains avoid).explained s)

pub ruleset notes_of_calls = (notes_of_tables, notes_of_initialization, notes_of_object)

pub ruleset notes_of_links = (notes_of_routing_table, notes_of_possible, notes_of_current, notes_of_setting, notes_of_gathering)
