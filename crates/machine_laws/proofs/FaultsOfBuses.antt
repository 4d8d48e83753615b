-- Where asking for the bus of a routing table is refused by a fault of the register space, the last access answered with it.
use Rattle.std.specs.Prelude.{ℕ, nat_lt, ◌&&◌, List, refl}
use Rattle.ar_space.specs.Accesses.{Accesses}
use Rattle.ar_space.specs.Change.{stop}
use Rattle.aml_path.specs.declared.segment.Seg.{Seg}
use Rattle.aml_meaning.specs.Calling.{ending, with_steps}
use Rattle.aml_meaning.specs.Meaning.{meaning}
use Rattle.aml_laws.specs.Noted.{WithNotes, noted, TellsNotes}
use Rattle.aml_laws.proofs.CleanOutcomes.{if_clean}
use Rattle.aml_laws.proofs.FaultsOfCalls.{called_at_explains}
use Rattle.aml_laws.proofs.FaultsOfChanges.{EvaluationExplains, RunExplains, WorldExplains, direct_explains, either_branch_explains, lift_explains, settle_explains, stop_explains, then_explains}
use Rattle.aml_laws.proofs.FaultsOfEvaluations.{with_steps_explains, ending_explains}
use Rattle.aml_laws.proofs.FaultsOfFields.{nearest_explains, behind_asked_explains, inherited_explains, bus_behind_all_explains}
use Rattle.aml_laws.proofs.FaultsOfTerms.{meaning_explains}
use Rattle.aml_laws.proofs.NotesOfFaults.{explained_told}
use Rattle.acpi_machine.specs.Buses.{bridges_down_to, address_part, bus_of_table, bus_answered, bus_found}
use Rattle.acpi_machine.specs.Calls.{on_world, unless_spent}
use Rattle.acpi_machine.specs.MachineStates.{MachineState}
use Rattle.machine_laws.proofs.FaultsOfCalls.{MachineExplains}

module _ {S : Type 0} (accesses : Accesses S) where
  bridges_down_explains : (q : List Seg) → WorldExplains accesses (bridges_down_to q)
  unfolding bridges_down_to
  bridges_down_explains q = direct_explains _ (λ w. tt) (λ w. refl)

  part_explains : (q : List Seg) → RunExplains accesses (address_part accesses q)
  part_explains q = called_at_explains accesses (meaning accesses) (meaning_explains accesses) 1 q

  bus_of_table_explains : (device : List Seg) → RunExplains accesses (bus_of_table accesses device)
  unfolding bus_of_table
  bus_of_table_explains device =
      then_explains _ _ (lift_explains _ (nearest_explains _ device)) (λ bridge. then_explains _ _ (lift_explains _ (behind_asked_explains bridge)) (λ reached.
      then_explains _ _ (lift_explains _ (bridges_down_explains device)) (λ bridges. then_explains _ _ (inherited_explains accesses (address_part accesses) part_explains _ device) (λ segment.
      then_explains _ _ (inherited_explains accesses (address_part accesses) part_explains _ device) (λ bus. then_explains _ _ (bus_behind_all_explains accesses (address_part accesses) part_explains segment bus bridges) (λ behind.
      settle_explains _ (if_clean (nat_lt segment 65536 && nat_lt behind 256) _ _ tt tt)))))))

  in_steps : (device : List Seg) (steps : ℕ) → EvaluationExplains accesses (ending (with_steps steps (bus_of_table accesses device)))
  in_steps device steps = ending_explains accesses _ (with_steps_explains accesses steps _ (bus_of_table_explains device))

  bus_answered_explains : (device : List Seg) → MachineExplains accesses (bus_answered accesses device)
  unfolding bus_answered on_world
  bus_answered_explains device = record { explained = λ s. (in_steps device s.steps).explained s.world; spent = λ s. (in_steps device s.steps).spent s.world; set = λ s. (in_steps device s.steps).set s.world }

  bus_found_explains : (device : List Seg) → MachineExplains accesses (bus_found accesses device)
  unfolding bus_found unless_spent
  bus_found_explains device = either_branch_explains (λ s. s.spent) (stop _) (bus_answered accesses device) (stop_explains _ tt) (bus_answered_explains device)

-- over a space with notes
module _ {S : Type 0} (accesses : Accesses S) where
  pub notes_of_bus : (device : List Seg) (s : MachineState (WithNotes S)) → TellsNotes (bus_found (noted accesses) device s).0 s.world.space (bus_found (noted accesses) device s).1.world.space
  notes_of_bus device s = explained_told accesses _ _ _ ((bus_found_explains (noted accesses) device).explained s)
