-- The buses of routing tables, of machines side by side.
use Rattle.std.specs.Prelude.{◌≡◌, ℕ, List, refl}
use Rattle.std.proofs.Common.{subst}
use Rattle.ar_space.specs.Accesses.{Accesses}
use Rattle.aml_path.specs.declared.segment.Seg.{Seg}
use Rattle.aml_meaning.specs.Calling.{ending, with_steps}
use Rattle.aml_laws.proofs.BridgesTogether.{behind_asked_together}
use Rattle.aml_laws.proofs.FieldsTogether.{nearest_together, inherited_together, bus_behind_all_together}
use Rattle.aml_laws.proofs.Levels.{in_body}
use Rattle.aml_laws.proofs.MeaningTogether.{meaning_parts}
use Rattle.aml_laws.proofs.OperandsTogether.{called_at_together}
use Rattle.aml_laws.proofs.Together.{Sides, Together, plain, settle_together, then_together}
use Rattle.aml_laws.proofs.WorldsTogether.{lift_together, runs, worlds, ending_together, with_steps_together}
use Rattle.acpi_machine.specs.Buses.{bridges_down_to, address_part, bus_of_table, bus_answered, bus_found}
use Rattle.machine_laws.proofs.MachineShapes.{machines}
use Rattle.machine_laws.proofs.MachinesTogether.{on_world_together, unless_spent_together}

module _ {S T : Type 0} {accesses : Accesses S} {accesses2 : Accesses T} {side : Sides accesses accesses2} where
  part_together : (q : List Seg) → Together side runs (address_part accesses q) (address_part accesses2 q)
  part_together q = in_body side 1 refl (called_at_together meaning_parts 1 q)

  bridges_down_together : (q : List Seg) → Together side worlds (bridges_down_to q) (bridges_down_to q)
  unfolding bridges_down_to
  bridges_down_together q = plain (λ w. refl) (λ w. refl) (λ w t. refl)

  bus_of_table_together : (device : List Seg) → Together side runs (bus_of_table accesses device) (bus_of_table accesses2 device)
  unfolding bus_of_table
  bus_of_table_together device =
      then_together (lift_together (nearest_together _ device)) (λ bridge. then_together (lift_together (behind_asked_together bridge)) (λ reached.
      then_together (lift_together (bridges_down_together device)) (λ bridges. then_together (inherited_together part_together _ device) (λ segment.
      then_together (inherited_together part_together _ device) (λ bus. then_together (bus_behind_all_together part_together segment bus bridges) (λ behind. settle_together _))))))

-- same: the right one has as many steps
module _ {S T : Type 0} {accesses : Accesses S} {accesses2 : Accesses T} {side : Sides accesses accesses2} (same : (n : ℕ) → side.more n ≡ n) where
  in_steps : (device : List Seg) (steps : ℕ) → Together side worlds (ending (with_steps steps (bus_of_table accesses device))) (ending (with_steps steps (bus_of_table accesses2 device)))
  in_steps device steps =
      subst (λ n. Together side worlds (ending (with_steps steps (bus_of_table accesses device))) (ending (with_steps n (bus_of_table accesses2 device)))) (same steps) (ending_together (with_steps_together steps (bus_of_table_together device)))

  bus_answered_together : (device : List Seg) → Together side machines (bus_answered accesses device) (bus_answered accesses2 device)
  unfolding bus_answered
  bus_answered_together device = record {
    left_parted = λ s t h. (on_world_together same (in_steps device s.steps)).left_parted s t h;
    right_parted = λ s u h. (on_world_together same (in_steps device u.steps)).right_parted s u h;
    goes = λ s t i. (on_world_together same (in_steps device s.steps)).goes s t i;
  }

  pub bus_found_together : (device : List Seg) → Together side machines (bus_found accesses device) (bus_found accesses2 device)
  unfolding bus_found
  bus_found_together device = unless_spent_together same (bus_answered_together device)
