-- Noting accesses changes nothing of a machine's calls.
use Rattle.std.specs.Prelude.{◌≡◌, ℕ, List, refl}
use Rattle.std.proofs.Common.{inl, ap}
use Rattle.ar_space.specs.Accesses.{Accesses}
use Rattle.ar_space.specs.Outcome.{Outcome}
use Rattle.ar_tables.specs.declared.mode.Mode.{Mode}
use Rattle.ar_tables.specs.declared.tables.Tables.{Tables}
use Rattle.aml_path.specs.declared.segment.Seg.{Seg}
use Rattle.aml_world.specs.state.Given.{Given}
use Rattle.aml_world.specs.state.State.{State}
use Rattle.aml_laws.specs.Noted.{WithNotes, noted, without_notes}
use Rattle.aml_laws.proofs.Together.{Goes, alike, goes_from}
use Rattle.aml_laws.proofs.WorldsTogether.{worlds}
use Rattle.aml_laws.proofs.Noting.{noting, goes_unnoted, world_unnoted}
use Rattle.acpi_machine.specs.MachineStates.{MachineState}
use Rattle.acpi_machine.specs.Loading.{loaded_tables}
use Rattle.acpi_machine.specs.Calls.{evaluated_object, initialized}
use Rattle.acpi_resources.specs.Records.{InterruptOffer}
use Rattle.acpi_prt.specs.RoutingTables.{routing_table}
use Rattle.acpi_links.specs.Resources.{possible_resources, current_resources}
use Rattle.acpi_links.specs.Settings.{resources_set}
use Rattle.acpi_links.specs.Gatherings.{gathered}
use Rattle.machine_laws.specs.Notes.{machine_without_notes, call_without_notes}
use Rattle.aml_laws.proofs.Levels.{one_profile}
use Rattle.machine_laws.proofs.MachineShapes.{machines, machine_over}
use Rattle.machine_laws.proofs.MachinesTogether.{loaded_tables_together, evaluated_object_together, initialized_together}
use Rattle.machine_laws.proofs.LinksTogether.{routing_table_together, possible_resources_together, current_resources_together, resources_set_together, gathered_together}

module _ {S : Type 0} (accesses : Accesses S) where
  pub machine_back : (m : MachineState S) (t : WithNotes S) → t.0 ≡ m.world.space → machine_without_notes (machine_over m t) ≡ m
  machine_back m t i = ap (λ s. machine_over m s) i

  pub machine_unnoted : {A : Type 0} (p : Outcome A × MachineState S) (q : Outcome A × MachineState (WithNotes S)) → Goes (noting accesses) machines p q → p ≡ call_without_notes q
  machine_unnoted p q g = goes_unnoted accesses machines machine_without_notes machine_back p q g

  pub tables_unnoted : (t : Tables) (steps : ℕ) (osi : List (List ℕ)) (w : State (WithNotes S)) → loaded_tables accesses t steps osi (without_notes w) ≡ ((loaded_tables (noted accesses) t steps osi w).0, without_notes (loaded_tables (noted accesses) t steps osi w).1)
  unfolding noting
  tables_unnoted t steps osi w = world_unnoted accesses _ _ (goes_from (noting accesses) worlds _ _ ((one_profile (noting accesses) 0 (loaded_tables_together (alike (noting accesses)) (λ n. refl) t steps osi)).goes (without_notes w) w.space refl))

  pub initialization_unnoted : (mode : Mode) (s : MachineState (WithNotes S)) → initialized accesses mode (machine_without_notes s) ≡ call_without_notes (initialized (noted accesses) mode s)
  unfolding noting
  initialization_unnoted mode s = machine_unnoted _ _ (goes_from (noting accesses) machines _ _ ((one_profile (noting accesses) 0 (initialized_together (alike (noting accesses)) (λ n. refl) mode)).goes (machine_without_notes s) s.world.space refl))

  pub object_unnoted : (p : List Seg) (arguments : List Given) (s : MachineState (WithNotes S)) → evaluated_object accesses p arguments (machine_without_notes s) ≡ call_without_notes (evaluated_object (noted accesses) p arguments s)
  unfolding noting
  object_unnoted p arguments s = machine_unnoted _ _ (goes_from (noting accesses) machines _ _ ((evaluated_object_together {side = alike (noting accesses)} (λ n. refl) p arguments).goes (machine_without_notes s) s.world.space refl))

  -- ---- routing

  pub routing_table_unnoted : (device : List Seg) (s : MachineState (WithNotes S)) → routing_table accesses device (machine_without_notes s) ≡ call_without_notes (routing_table (noted accesses) device s)
  unfolding noting
  routing_table_unnoted device s = machine_unnoted _ _ (goes_from (noting accesses) machines _ _ ((routing_table_together {side = alike (noting accesses)} (λ n. refl) (inl refl) device).goes (machine_without_notes s) s.world.space refl))

  pub possible_unnoted : (link : List Seg) (s : MachineState (WithNotes S)) → possible_resources accesses link (machine_without_notes s) ≡ call_without_notes (possible_resources (noted accesses) link s)
  unfolding noting
  possible_unnoted link s = machine_unnoted _ _ (goes_from (noting accesses) machines _ _ ((possible_resources_together {side = alike (noting accesses)} (λ n. refl) (inl refl) link).goes (machine_without_notes s) s.world.space refl))

  pub current_unnoted : (link : List Seg) (s : MachineState (WithNotes S)) → current_resources accesses link (machine_without_notes s) ≡ call_without_notes (current_resources (noted accesses) link s)
  unfolding noting
  current_unnoted link s = machine_unnoted _ _ (goes_from (noting accesses) machines _ _ ((current_resources_together {side = alike (noting accesses)} (λ n. refl) link).goes (machine_without_notes s) s.world.space refl))

  pub setting_unnoted : (link : List Seg) (offer : InterruptOffer) (n : ℕ) (s : MachineState (WithNotes S)) → resources_set accesses link offer n (machine_without_notes s) ≡ call_without_notes (resources_set (noted accesses) link offer n s)
  unfolding noting
  setting_unnoted link offer n s = machine_unnoted _ _ (goes_from (noting accesses) machines _ _ ((resources_set_together {side = alike (noting accesses)} (λ n. refl) link offer n).goes (machine_without_notes s) s.world.space refl))

  pub gathering_unnoted : (avoid : List ℕ) (s : MachineState (WithNotes S)) → gathered accesses avoid (machine_without_notes s) ≡ call_without_notes (gathered (noted accesses) avoid s)
  unfolding noting
  gathering_unnoted avoid s = machine_unnoted _ _ (goes_from (noting accesses) machines _ _ ((gathered_together {side = alike (noting accesses)} (λ n. refl) (inl refl) avoid).goes (machine_without_notes s) s.world.space refl))

pub ruleset unnoted = (tables_unnoted, initialization_unnoted, object_unnoted, routing_table_unnoted, possible_unnoted, current_unnoted, setting_unnoted, gathering_unnoted)
