-- A refusal of a machine by a fault of the register space is what the last access answered.
use Rattle.std.specs.Prelude.{◌≡◌, ℕ, List, Err}
use Rattle.ar_space.specs.declared.refusal.SpaceFault.{SpaceFault}
use Rattle.ar_space.specs.declared.refusal.Refusal.TheVariants.{Space}
use Rattle.ar_space.specs.Accesses.{Accesses}
use Rattle.ar_tables.specs.declared.mode.Mode.{Mode}
use Rattle.ar_tables.specs.declared.tables.Tables.{Tables}
use Rattle.aml_path.specs.declared.segment.Seg.{Seg}
use Rattle.aml_world.specs.state.Given.{Given}
use Rattle.aml_world.specs.state.State.{State}
use Rattle.aml_laws.specs.SpaceFaults.{LastFaults}
use Rattle.aml_laws.proofs.SpaceFaultsExplained.{fault_explained}
use Rattle.acpi_machine.specs.MachineStates.{MachineState}
use Rattle.acpi_machine.specs.Loading.{loaded_tables}
use Rattle.acpi_machine.specs.Calls.{evaluated_object, initialized}
use Rattle.acpi_resources.specs.Records.{InterruptOffer}
use Rattle.acpi_prt.specs.RoutingTables.{routing_table}
use Rattle.acpi_links.specs.Resources.{possible_resources, current_resources}
use Rattle.acpi_links.specs.Settings.{resources_set}
use Rattle.acpi_links.specs.Gatherings.{gathered}
use Rattle.machine_laws.proofs.FaultsOfLoading.{loaded_tables_explains}
use Rattle.machine_laws.proofs.FaultsOfCalls.{evaluated_object_explains, initialized_explains}
use Rattle.machine_laws.proofs.FaultsOfLinks.{routing_table_explains, possible_resources_explains, current_resources_explains, resources_set_explains, gathered_explains}

module _ {S : Type 0} (accesses : Accesses S) where
  pub fault_of_tables : (fault : SpaceFault) (t : Tables) (steps : ℕ) (osi : List (List ℕ)) (w : State S) → (loaded_tables accesses t steps osi w).0 ≡ Err (Space fault) → LastFaults accesses fault w.space (loaded_tables accesses t steps osi w).1.space
  fault_of_tables fault t steps osi w e = fault_explained accesses (loaded_tables accesses t steps osi w).0 w.space _ fault ((loaded_tables_explains accesses t steps osi).explained w) e

  pub fault_of_initialization : (fault : SpaceFault) (mode : Mode) (s : MachineState S) → (initialized accesses mode s).0 ≡ Err (Space fault) → LastFaults accesses fault s.world.space (initialized accesses mode s).1.world.space
  fault_of_initialization fault mode s e = fault_explained accesses (initialized accesses mode s).0 s.world.space _ fault ((initialized_explains accesses mode).explained s) e

  pub fault_of_object : (fault : SpaceFault) (p : List Seg) (arguments : List Given) (s : MachineState S) → (evaluated_object accesses p arguments s).0 ≡ Err (Space fault) → LastFaults accesses fault s.world.space (evaluated_object accesses p arguments s).1.world.space
  fault_of_object fault p arguments s e = fault_explained accesses (evaluated_object accesses p arguments s).0 s.world.space _ fault ((evaluated_object_explains accesses p arguments).explained s) e

  -- ---- routing

  pub fault_of_routing_table : (fault : SpaceFault) (device : List Seg) (s : MachineState S) → (routing_table accesses device s).0 ≡ Err (Space fault) → LastFaults accesses fault s.world.space (routing_table accesses device s).1.world.space
  fault_of_routing_table fault device s e = fault_explained accesses (routing_table accesses device s).0 s.world.space _ fault ((routing_table_explains device).explained s) e

  pub fault_of_possible : (fault : SpaceFault) (link : List Seg) (s : MachineState S) → (possible_resources accesses link s).0 ≡ Err (Space fault) → LastFaults accesses fault s.world.space (possible_resources accesses link s).1.world.space
  fault_of_possible fault link s e = fault_explained accesses (possible_resources accesses link s).0 s.world.space _ fault ((possible_resources_explains link).explained s) e

  pub fault_of_current : (fault : SpaceFault) (link : List Seg) (s : MachineState S) → (current_resources accesses link s).0 ≡ Err (Space fault) → LastFaults accesses fault s.world.space (current_resources accesses link s).1.world.space
  fault_of_current fault link s e = fault_explained accesses (current_resources accesses link s).0 s.world.space _ fault ((current_resources_explains link).explained s) e

  pub fault_of_setting : (fault : SpaceFault) (link : List Seg) (offer : InterruptOffer) (n : ℕ) (s : MachineState S) → (resources_set accesses link offer n s).0 ≡ Err (Space fault) → LastFaults accesses fault s.world.space (resources_set accesses link offer n s).1.world.space
  fault_of_setting fault link offer n s e = fault_explained accesses (resources_set accesses link offer n s).0 s.world.space _ fault ((resources_set_explains link offer n).explained s) e

  pub fault_of_gathering : (fault : SpaceFault) (avoid : List ℕ) (s : MachineState S) → (gathered accesses avoid s).0 ≡ Err (Space fault) → LastFaults accesses fault s.world.space (gathered accesses avoid s).1.world.space
  fault_of_gathering fault avoid s e = fault_explained accesses (gathered accesses avoid s).0 s.world.space _ fault ((gathered_explains avoid).explained s) e

pub ruleset faults_of_calls = (fault_of_tables, fault_of_initialization, fault_of_object)

pub ruleset faults_of_links = (fault_of_routing_table, fault_of_possible, fault_of_current, fault_of_setting, fault_of_gathering)
