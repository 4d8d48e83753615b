-- Calls of a machine, and of the same machine in which calls and terms may be deeper.
use Rattle.std.specs.Prelude.{◌≡◌, ◌⊎◌, ℕ, List, refl}
use Rattle.std.proofs.Common.{inl, inr, ap, ◌∙◌}
use Rattle.ar_space.specs.Accesses.{Accesses}
use Rattle.ar_space.specs.Outcome.{Outcome}
use Rattle.ar_space.specs.Change.{Change}
use Rattle.ar_tables.specs.declared.mode.Mode.{Mode}
use Rattle.ar_tables.specs.declared.tables.Tables.{Tables}
use Rattle.aml_path.specs.declared.segment.Seg.{Seg}
use Rattle.aml_world.specs.declared.state.settings.Nesting.{Nesting}
use Rattle.aml_world.specs.state.Given.{Given}
use Rattle.aml_world.specs.state.State.{State}
use Rattle.aml_laws.specs.Deepened.{deeper_by, deepened, IsDepthSetting}
use Rattle.aml_laws.proofs.Together.{Together, Comes}
use Rattle.aml_laws.proofs.Deepening.{set_by, deepening, in_one_world, world_comes}
use Rattle.aml_laws.proofs.Widening.{same_space}
use Rattle.acpi_machine.specs.MachineStates.{MachineState}
use Rattle.acpi_machine.specs.Loading.{loaded_tables}
use Rattle.acpi_machine.specs.Buses.{bus_found}
use Rattle.acpi_machine.specs.Calls.{evaluated_object, initialized}
use Rattle.acpi_resources.specs.Records.{InterruptOffer}
use Rattle.acpi_prt.specs.RoutingTables.{routing_table}
use Rattle.acpi_links.specs.Resources.{possible_resources, current_resources}
use Rattle.acpi_links.specs.Settings.{resources_set}
use Rattle.acpi_links.specs.Gatherings.{gathered}
use Rattle.machine_laws.specs.Deepened.{machine_deepened, call_deepened}
use Rattle.machine_laws.proofs.MachineShapes.{machine_beside, machines}
use Rattle.machine_laws.proofs.MachinesTogether.{loaded_tables_together, evaluated_object_together, initialized_together}
use Rattle.machine_laws.proofs.ProfilesAsked.{Asks}
use Rattle.machine_laws.proofs.LinksTogether.{routing_table_together, possible_resources_together, current_resources_together, resources_set_together, gathered_together}
use Rattle.machine_laws.proofs.BusesTogether.{bus_found_together}

module _ {S : Type 0} (accesses : Accesses S) (more : Nesting) where
  asks : Asks (deepening accesses more)
  unfolding deepening
  asks = inl refl

  machine_comes : {A : Type 0} (p q : Outcome A × MachineState S) → Comes (deepening accesses more) machines p q → IsDepthSetting p.0 ⊎ (q ≡ call_deepened more p)
  unfolding deepening same_space
  machine_comes p q (inl parted) = absurd parted
  machine_comes p q (inr (inl ended)) = inl (set_by p.0 ended)
  machine_comes p q (inr (inr (t, same, i))) = inr (same ∙ ap (λ s. (p.0, machine_beside (λ r. r, deeper_by more) p.1 s)) i)

  call_comes : {A : Type 0} (m : Change (MachineState S) A) → Together (deepening accesses more) machines m m → (s : MachineState S) → IsDepthSetting (m s).0 ⊎ (m (machine_deepened more s) ≡ call_deepened more (m s))
  unfolding deepening same_space
  call_comes m h s = machine_comes (m s) (m (machine_deepened more s)) (h.goes s s.world.space refl)

  -- ---- tables, initializing, objects

  pub tables_deepened : (t : Tables) (steps : ℕ) (osi : List (List ℕ)) (w : State S)
      → IsDepthSetting (loaded_tables accesses t steps osi w).0 ⊎ (loaded_tables accesses t steps osi (deepened more w) ≡ ((loaded_tables accesses t steps osi w).0, deepened more (loaded_tables accesses t steps osi w).1))
  unfolding deepening same_space
  tables_deepened t steps osi w = world_comes accesses more (loaded_tables accesses t steps osi w) (loaded_tables accesses t steps osi (deepened more w)) ((in_one_world accesses more 0 (loaded_tables_together (deepening accesses more) (λ n. refl) t steps osi)).goes w w.space refl)

  pub initialization_deepened : (mode : Mode) (s : MachineState S) → IsDepthSetting (initialized accesses mode s).0 ⊎ (initialized accesses mode (machine_deepened more s) ≡ call_deepened more (initialized accesses mode s))
  unfolding deepening
  initialization_deepened mode s = call_comes _ (in_one_world accesses more 0 (initialized_together (deepening accesses more) (λ n. refl) mode)) s

  pub object_deepened : (p : List Seg) (arguments : List Given) (s : MachineState S) → IsDepthSetting (evaluated_object accesses p arguments s).0 ⊎ (evaluated_object accesses p arguments (machine_deepened more s) ≡ call_deepened more (evaluated_object accesses p arguments s))
  unfolding deepening
  object_deepened p arguments s = call_comes _ (evaluated_object_together {side = deepening accesses more} (λ n. refl) p arguments) s

  -- ---- what devices are set to, setting them, and the bus of a routing table

  pub current_deepened : (link : List Seg) (s : MachineState S) → IsDepthSetting (current_resources accesses link s).0 ⊎ (current_resources accesses link (machine_deepened more s) ≡ call_deepened more (current_resources accesses link s))
  unfolding deepening
  current_deepened link s = call_comes _ (current_resources_together {side = deepening accesses more} (λ n. refl) link) s

  pub setting_deepened : (link : List Seg) (offer : InterruptOffer) (n : ℕ) (s : MachineState S) → IsDepthSetting (resources_set accesses link offer n s).0 ⊎ (resources_set accesses link offer n (machine_deepened more s) ≡ call_deepened more (resources_set accesses link offer n s))
  unfolding deepening
  setting_deepened link offer n s = call_comes _ (resources_set_together {side = deepening accesses more} (λ n. refl) link offer n) s

  pub bus_deepened : (device : List Seg) (s : MachineState S) → IsDepthSetting (bus_found accesses device s).0 ⊎ (bus_found accesses device (machine_deepened more s) ≡ call_deepened more (bus_found accesses device s))
  unfolding deepening
  bus_deepened device s = call_comes _ (bus_found_together {side = deepening accesses more} (λ n. refl) device) s

  -- ---- routing tables, offers, and all that is gathered

  pub routing_table_deepened : (device : List Seg) (s : MachineState S) → IsDepthSetting (routing_table accesses device s).0 ⊎ (routing_table accesses device (machine_deepened more s) ≡ call_deepened more (routing_table accesses device s))
  unfolding deepening
  routing_table_deepened device s = call_comes _ (routing_table_together {side = deepening accesses more} (λ n. refl) asks device) s

  pub possible_deepened : (link : List Seg) (s : MachineState S) → IsDepthSetting (possible_resources accesses link s).0 ⊎ (possible_resources accesses link (machine_deepened more s) ≡ call_deepened more (possible_resources accesses link s))
  unfolding deepening
  possible_deepened link s = call_comes _ (possible_resources_together {side = deepening accesses more} (λ n. refl) asks link) s

  pub gathering_deepened : (avoid : List ℕ) (s : MachineState S) → IsDepthSetting (gathered accesses avoid s).0 ⊎ (gathered accesses avoid (machine_deepened more s) ≡ call_deepened more (gathered accesses avoid s))
  unfolding deepening
  gathering_deepened avoid s = call_comes _ (gathered_together {side = deepening accesses more} (λ n. refl) asks avoid) s

pub ruleset deeper = (tables_deepened, initialization_deepened, object_deepened, current_deepened, setting_deepened, bus_deepened, routing_table_deepened, possible_deepened, gathering_deepened)
