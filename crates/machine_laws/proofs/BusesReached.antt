-- The bus of a routing table, where the objects of its address answer numbers.
use Rattle.std.specs.Prelude.{◌≡◌, ◌⊎◌, ◌<◌, ℕ, List, length, false, None, Ok, refl}
use Rattle.std.proofs.Common.{inl, inr, ap, ◌∙◌}
use Rattle.std.proofs.lemmas.Bool.{lt-ltb}
use Rattle.ar_space.specs.Accesses.{Accesses}
use Rattle.ar_space.specs.Change.{settle, stop, go_on, ◌>>=◌}
use Rattle.aml_path.specs.declared.segment.Seg.{Seg}
use Rattle.aml_world.specs.declared.fields.pci_functions.Sought.TheVariants as sought
use Rattle.aml_world.specs.declared.state.profile.Profile.{Profile}
use Rattle.aml_world.specs.declared.state.profile.Profile.TheVariants as profiles
use Rattle.aml_world.specs.fields.Bridges.{with_scope, bridges_over}
use Rattle.aml_world.specs.state.Mutexes.{released}
use Rattle.aml_world.specs.fields.PciFunctions.{segment_group, base_bus, nearest_from, nearest, or_behind, behind_asked}
use Rattle.aml_world.specs.state.Run.{lift}
use Rattle.aml_world.specs.state.State.{State}
use Rattle.aml_meaning.specs.Calling.{ending, with_steps}
use Rattle.aml_laws.specs.BusesFound.{BusesFound, TellAddresses, TellsPart}
use Rattle.aml_laws.specs.PciScopes.{IsBridgeAt, NoneSuch}
use Rattle.aml_laws.proofs.BusesFound.{part_told, buses_found}
use Rattle.aml_laws.proofs.PciScopes.{bridge_lacks}
use Rattle.acpi_machine.specs.Buses.{bridges_down_to, address_part, bus_of_table, bus_answered, bus_found}
use Rattle.acpi_machine.specs.Calls.{on_world, unless_spent}
use Rattle.acpi_machine.specs.MachineStates.{MachineState}

-- without a bridge it is reached in either profile
reached_without : (p : Profile) → or_behind p None ≡ Ok tt
reached_without profiles.Core = refl
reached_without profiles.Wide = refl

module _ {S : Type 0} (accesses : Accesses S) (device : List Seg) (w : State S) where
  is_reached : (w.profile ≡ profiles.Wide) ⊎ NoneSuch (IsBridgeAt w.names.map) device (length device) → or_behind w.profile (nearest_from w.names.map sought.Bridge device (length device)) ≡ Ok tt
  is_reached (inl wide) = ap (λ p. or_behind p (nearest_from w.names.map sought.Bridge device (length device))) wide
  is_reached (inr none) = ap (or_behind w.profile) (bridge_lacks w device none) ∙ reached_without w.profile

  pub bus_is : (steps seg bus end : ℕ) (addresses : List (ℕ × ℕ)) (after : S) → (w.profile ≡ profiles.Wide) ⊎ NoneSuch (IsBridgeAt w.names.map) device (length device) → seg < 65536
      → TellsPart (address_part accesses) w steps segment_group device seg → TellsPart (address_part accesses) w steps base_bus device bus
      → TellAddresses (address_part accesses) w steps (with_scope w.names.map device (bridges_over w.names.map device (length device))) addresses → BusesFound accesses seg bus addresses w.space end after → end < 256
      → bus_of_table accesses device (w, steps) ≡ (Ok (record { segment = seg; bus = end }), (record w { space = after }, steps))
  unfolding bus_of_table nearest behind_asked bridges_down_to lift settle go_on ◌>>=◌
  bus_is steps seg bus end addresses after reached small group first bridges found few =
      rw (
        is_reached reached,
        part_told accesses seg small (address_part accesses) w steps segment_group device seg group,
        part_told accesses seg small (address_part accesses) w steps base_bus device bus first,
        buses_found accesses seg small (address_part accesses) w steps bus end (with_scope w.names.map device (bridges_over w.names.map device (length device))) addresses after bridges found,
        lt-ltb seg 65536 small,
        lt-ltb end 256 few,
      ) refl

module _ {S : Type 0} (accesses : Accesses S) where
  pub bus_is_found : (device : List Seg) (m : MachineState S) (seg bus end : ℕ) (addresses : List (ℕ × ℕ)) (after : S) → m.spent ≡ false → (m.world.profile ≡ profiles.Wide) ⊎ NoneSuch (IsBridgeAt m.world.names.map) device (length device) → seg < 65536
      → TellsPart (address_part accesses) m.world m.steps segment_group device seg → TellsPart (address_part accesses) m.world m.steps base_bus device bus
      → TellAddresses (address_part accesses) m.world m.steps (with_scope m.world.names.map device (bridges_over m.world.names.map device (length device))) addresses → BusesFound accesses seg bus addresses m.world.space end after → end < 256
      → bus_found accesses device m ≡ (Ok (record { segment = seg; bus = end }), record m { world = released (record m.world { space = after }) })
  unfolding bus_found unless_spent bus_answered on_world ending with_steps stop bus_of_table nearest behind_asked bridges_down_to lift go_on ◌>>=◌
  bus_is_found device m seg bus end addresses after whole reached small group first bridges found few =
      rw (whole, bus_is accesses device m.world m.steps seg bus end addresses after reached small group first bridges found few) refl
