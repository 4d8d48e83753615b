-- Calls of a machine in the core profile, and in the wide one.
use Rattle.std.specs.Prelude.{◌≡◌, ◌⊎◌, ℕ, List, Ok, Err, refl}
use Rattle.std.proofs.Common.{inl, inr, ap, ◌∙◌}
use Rattle.ar_space.specs.declared.refusal.Refusal.{Refusal}
use Rattle.ar_space.specs.Accesses.{Accesses}
use Rattle.ar_space.specs.Outcome.{Outcome}
use Rattle.ar_space.specs.Change.{Change}
use Rattle.ar_tables.specs.declared.mode.Mode.{Mode}
use Rattle.ar_tables.specs.declared.tables.Tables.{Tables}
use Rattle.aml_path.specs.declared.segment.Seg.{Seg}
use Rattle.aml_world.specs.declared.state.profile.Profile.TheVariants as profiles
use Rattle.aml_world.specs.state.Given.{Given}
use Rattle.aml_world.specs.state.State.{State}
use Rattle.aml_laws.specs.Widened.{widened, LeftOut, IsLeftOut, IsLeftOutAt}
use Rattle.aml_laws.proofs.Levels.{level}
use Rattle.aml_laws.proofs.Together.{Sides, Together, Comes, IsEnded}
use Rattle.aml_laws.proofs.WorldsTogether.{world_over, worlds}
use Rattle.aml_laws.proofs.Widening.{same_space}
use Rattle.acpi_machine.specs.MachineStates.{MachineState}
use Rattle.acpi_machine.specs.Loading.{loaded_tables}
use Rattle.acpi_machine.specs.Buses.{bus_found}
use Rattle.acpi_machine.specs.Calls.{evaluated_object, initialized}
use Rattle.acpi_resources.specs.Records.{InterruptOffer}
use Rattle.acpi_prt.specs.RoutingTables.{routing_table}
use Rattle.acpi_links.specs.Resources.{possible_resources, current_resources}
use Rattle.acpi_links.specs.Settings.{resources_set}
use Rattle.acpi_links.specs.Gatherings.{gathered}
use Rattle.acpi_configure.specs.Others.{device_resources}
use Rattle.machine_laws.specs.Widened.{machine_widened, call_widened, Withheld, IsWithheld}
use Rattle.machine_laws.proofs.MachineShapes.{machine_beside, machines}
use Rattle.machine_laws.proofs.MachinesTogether.{loaded_tables_together, evaluated_object_together, initialized_together}
use Rattle.machine_laws.proofs.ProfilesAsked.{Asks}
use Rattle.machine_laws.proofs.LinksTogether.{routing_table_together, possible_resources_together, current_resources_together, resources_set_together, gathered_together}
use Rattle.machine_laws.proofs.BusesTogether.{bus_found_together}
use Rattle.machine_laws.proofs.OthersTogether.{device_resources_together}

by_left_out : {A Q : Type 0} (r : Outcome A) → IsEnded LeftOut r ⊎ Q → IsLeftOut r ⊎ Q
by_left_out r (inr same) = inr same
by_left_out (Ok a) (inl ended) = absurd ended
by_left_out (Err e) (inl ended) = inl ended

by_withheld : {A Q : Type 0} (r : Outcome A) → IsEnded Withheld r ⊎ Q → IsWithheld r ⊎ Q
by_withheld r (inr same) = inr same
by_withheld (Ok a) (inl ended) = absurd ended
by_withheld (Err e) (inl ended) = inl ended

module _ {S : Type 0} (accesses : Accesses S) where
  -- one profile on the left, the wide one on the right, over the same space; Ends: what ends the likeness
  unfoldable raised : (Ends : Refusal → Type 0) → ((e : Refusal) → LeftOut e → Ends e) → Sides accesses accesses
  unfolding same_space
  raised Ends left_out = record { beside = same_space accesses; raise = (λ p. profiles.Wide, λ d. d); Ends = Ends; wide_stays = refl; core_stays = inr left_out; deepens = inl (λ d. refl); more = λ n. n; more_next = λ n. refl; none_left = inl (λ n. refl); passes = inr (λ p. refl, (λ n. refl, λ d. refl)) }

  -- terms alone
  unfoldable in_terms : Sides accesses accesses
  in_terms = raised LeftOut (λ e h. h)

  -- offers and `_HID`s, too
  unfoldable in_routing : Sides accesses accesses
  in_routing = raised Withheld (λ e h. inl h)

  routing_asks : Asks in_routing
  unfolding in_routing raised
  routing_asks = inr (inr (inr refl), inr (inl refl))

  machine_comes : {A : Type 0} (Ends : Refusal → Type 0) (left_out : (e : Refusal) → LeftOut e → Ends e) (p q : Outcome A × MachineState S) → Comes (raised Ends left_out) machines p q → IsEnded Ends p.0 ⊎ (q ≡ call_widened p)
  unfolding raised same_space
  machine_comes Ends left_out p q (inl parted) = absurd parted
  machine_comes Ends left_out p q (inr (inl ended)) = inl ended
  machine_comes Ends left_out p q (inr (inr (t, same, i))) = inr (same ∙ ap (λ s. (p.0, machine_beside (λ r. profiles.Wide, λ d. d) p.1 s)) i)

  term_call_widened : {A : Type 0} (m : Change (MachineState S) A) → Together in_terms machines m m → (s : MachineState S) → IsLeftOut (m s).0 ⊎ (m (machine_widened s) ≡ call_widened (m s))
  unfolding in_terms raised same_space
  term_call_widened m h s = by_left_out (m s).0 (machine_comes LeftOut (λ e l. l) (m s) (m (machine_widened s)) (h.goes s s.world.space refl))

  routing_call_widened : {A : Type 0} (m : Change (MachineState S) A) → Together in_routing machines m m → (s : MachineState S) → IsWithheld (m s).0 ⊎ (m (machine_widened s) ≡ call_widened (m s))
  unfolding in_routing raised same_space
  routing_call_widened m h s = by_withheld (m s).0 (machine_comes Withheld (λ e l. inl l) (m s) (m (machine_widened s)) (h.goes s s.world.space refl))

  -- ---- tables and initializing, where the wide profile passes items over

  left_out_at : {A : Type 0} (r : Outcome A) → IsEnded (level in_terms 0).Ends r → IsLeftOutAt 0 r
  unfolding in_terms raised
  left_out_at (Ok a) h = absurd h
  left_out_at (Err e) h = h

  listed_world : {A : Type 0} (p q : Outcome A × State S) → Comes (level in_terms 0) worlds p q → IsLeftOutAt 0 p.0 ⊎ (q ≡ (p.0, widened p.1))
  unfolding in_terms raised same_space
  listed_world p q (inl parted) = absurd parted
  listed_world p q (inr (inl ended)) = inl (left_out_at p.0 ended)
  listed_world p q (inr (inr (t, same, i))) = inr (same ∙ ap (λ s. (p.0, world_over (λ r. profiles.Wide, λ d. d) p.1 s)) i)

  listed_machine : {A : Type 0} (p q : Outcome A × MachineState S) → Comes (level in_terms 0) machines p q → IsLeftOutAt 0 p.0 ⊎ (q ≡ call_widened p)
  unfolding in_terms raised same_space
  listed_machine p q (inl parted) = absurd parted
  listed_machine p q (inr (inl ended)) = inl (left_out_at p.0 ended)
  listed_machine p q (inr (inr (t, same, i))) = inr (same ∙ ap (λ s. (p.0, machine_beside (λ r. profiles.Wide, λ d. d) p.1 s)) i)

  -- ---- tables, initializing, objects

  pub tables_widened : (t : Tables) (steps : ℕ) (osi : List (List ℕ)) (w : State S)
      → IsLeftOutAt 0 (loaded_tables accesses t steps osi w).0 ⊎ (loaded_tables accesses t steps osi (widened w) ≡ ((loaded_tables accesses t steps osi w).0, widened (loaded_tables accesses t steps osi w).1))
  unfolding in_terms raised same_space
  tables_widened t steps osi w = listed_world (loaded_tables accesses t steps osi w) (loaded_tables accesses t steps osi (widened w)) ((loaded_tables_together in_terms (λ n. refl) t steps osi).goes w w.space refl)

  pub initialization_widened : (mode : Mode) (s : MachineState S) → IsLeftOutAt 0 (initialized accesses mode s).0 ⊎ (initialized accesses mode (machine_widened s) ≡ call_widened (initialized accesses mode s))
  unfolding in_terms raised same_space
  initialization_widened mode s = listed_machine (initialized accesses mode s) (initialized accesses mode (machine_widened s)) ((initialized_together in_terms (λ n. refl) mode).goes s s.world.space refl)

  pub object_widened : (p : List Seg) (arguments : List Given) (s : MachineState S) → IsLeftOut (evaluated_object accesses p arguments s).0 ⊎ (evaluated_object accesses p arguments (machine_widened s) ≡ call_widened (evaluated_object accesses p arguments s))
  unfolding in_terms raised
  object_widened p arguments s = term_call_widened _ (evaluated_object_together {side = in_terms} (λ n. refl) p arguments) s

  -- ---- what devices are set to, and setting them

  pub current_widened : (link : List Seg) (s : MachineState S) → IsLeftOut (current_resources accesses link s).0 ⊎ (current_resources accesses link (machine_widened s) ≡ call_widened (current_resources accesses link s))
  unfolding in_terms raised
  current_widened link s = term_call_widened _ (current_resources_together {side = in_terms} (λ n. refl) link) s

  pub setting_widened : (link : List Seg) (offer : InterruptOffer) (n : ℕ) (s : MachineState S) → IsLeftOut (resources_set accesses link offer n s).0 ⊎ (resources_set accesses link offer n (machine_widened s) ≡ call_widened (resources_set accesses link offer n s))
  unfolding in_terms raised
  setting_widened link offer n s = term_call_widened _ (resources_set_together {side = in_terms} (λ n. refl) link offer n) s

  pub device_widened : (device : List Seg) (s : MachineState S) → IsLeftOut (device_resources accesses device s).0 ⊎ (device_resources accesses device (machine_widened s) ≡ call_widened (device_resources accesses device s))
  unfolding in_terms raised
  device_widened device s = term_call_widened _ (device_resources_together {side = in_terms} (λ n. refl) device) s

  pub bus_widened : (device : List Seg) (s : MachineState S) → IsLeftOut (bus_found accesses device s).0 ⊎ (bus_found accesses device (machine_widened s) ≡ call_widened (bus_found accesses device s))
  unfolding in_terms raised
  bus_widened device s = term_call_widened _ (bus_found_together {side = in_terms} (λ n. refl) device) s

  -- ---- routing tables, offers, and all that is gathered

  pub routing_table_widened : (device : List Seg) (s : MachineState S) → IsWithheld (routing_table accesses device s).0 ⊎ (routing_table accesses device (machine_widened s) ≡ call_widened (routing_table accesses device s))
  unfolding in_routing raised
  routing_table_widened device s = routing_call_widened _ (routing_table_together {side = in_routing} (λ n. refl) routing_asks device) s

  pub possible_widened : (link : List Seg) (s : MachineState S) → IsWithheld (possible_resources accesses link s).0 ⊎ (possible_resources accesses link (machine_widened s) ≡ call_widened (possible_resources accesses link s))
  unfolding in_routing raised
  possible_widened link s = routing_call_widened _ (possible_resources_together {side = in_routing} (λ n. refl) routing_asks link) s

  pub gathering_widened : (avoid : List ℕ) (s : MachineState S) → IsWithheld (gathered accesses avoid s).0 ⊎ (gathered accesses avoid (machine_widened s) ≡ call_widened (gathered accesses avoid s))
  unfolding in_routing raised
  gathering_widened avoid s = routing_call_widened _ (gathered_together {side = in_routing} (λ n. refl) routing_asks avoid) s

pub ruleset widening_calls = (tables_widened, initialization_widened, object_widened, current_widened, setting_widened)

pub ruleset widening_links = (routing_table_widened, possible_widened, gathering_widened)
