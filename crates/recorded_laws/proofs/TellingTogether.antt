-- What is told to a kernel, of machines side by side.
use Rattle.std.specs.Prelude.{◌≡◌, ℕ, List, Bool, true, false, Ok, refl}
use Rattle.std.proofs.Common.{subst}
use Rattle.ar_space.specs.Accesses.{Accesses}
use Rattle.ar_space.specs.Change.{Change}
use Rattle.ar_space.specs.Outcome.{Outcome}
use Rattle.ar_tables.specs.Fadts.{sci_interrupt}
use Rattle.aml_path.specs.declared.segment.Seg.{Seg}
use Rattle.acpi_machine.specs.MachineStates.{MachineState}
use Rattle.acpi_links.specs.Devices.{devices}
use Rattle.acpi_configure.specs.ForKernels.{devices_with_tables, bus_asked, lines_told, kernel_told, told_if}
use Rattle.acpi_configure.specs.Settling.{attempted}
use Rattle.route_report.specs.Reports.{RoutingReport}
use Rattle.aml_laws.proofs.Together.{SideBySide, Together, alike, give_together, then_together, wrapped_together, none_ended}
use Rattle.machine_laws.proofs.BusesTogether.{bus_found_together}
use Rattle.machine_laws.proofs.LinksTogether.{folded_together}
use Rattle.machine_laws.proofs.MachineShapes.{machines}

module _ {S T : Type 0} {accesses : Accesses S} {accesses2 : Accesses T} {side : SideBySide accesses accesses2} where
  attempted_together : {A B : Type 0} (tell : Outcome A → B) {m : Change (MachineState S) A} {n : Change (MachineState T) A} → Together (alike side) machines m n → Together (alike side) machines (attempted tell m) (attempted tell n)
  unfolding attempted
  attempted_together tell h = wrapped_together (λ s. s) (λ s. s) (λ s p. (Ok (tell p.0), p.1)) (λ s p. (Ok (tell p.0), p.1))
      (λ s. refl) (λ s. refl) (λ s t. refl) (λ s p. refl) (λ s q. refl) (λ s u r w t. refl) (λ s p e. absurd (none_ended p.0 e)) h

  bus_asked_together : (device : List Seg) → Together (alike side) machines (bus_asked accesses device) (bus_asked accesses2 device)
  unfolding bus_asked
  bus_asked_together device = then_together (attempted_together _ (bus_found_together {side = alike side} (λ n. refl) device)) (λ state. give_together _)

  lines_told_together : (list : List (List Seg)) (own : ℕ) (r : RoutingReport) → Together (alike side) machines (lines_told accesses list own r) (lines_told accesses2 list own r)
  unfolding lines_told
  lines_told_together list own r = then_together (folded_together _ bus_asked_together list _) (λ buses. give_together _)

  kernel_told_together : (r : RoutingReport) → Together (alike side) machines (kernel_told accesses r) (kernel_told accesses2 r)
  unfolding kernel_told devices_with_tables devices
  kernel_told_together r = record {
    left_parted = λ s t h. (lines_told_together (devices_with_tables s) (sci_interrupt s.tables.fadt) r).left_parted s t h;
    right_parted = λ s u h. (lines_told_together (devices_with_tables u) (sci_interrupt u.tables.fadt) r).right_parted s u h;
    goes = λ s t i. (lines_told_together (devices_with_tables s) (sci_interrupt s.tables.fadt) r).goes s t i;
  }

  pub told_if_together : (kernel : Bool) (r : RoutingReport) → Together (alike side) machines (told_if accesses kernel r) (told_if accesses2 kernel r)
  unfolding told_if
  told_if_together true r = kernel_told_together r
  told_if_together false r = give_together _

module _ {S T : Type 0} {accesses : Accesses S} {accesses2 : Accesses T} (side : SideBySide accesses accesses2) (kernel : Bool) where
  -- spaces that have parted stay so
  pub told_left : (plain r : RoutingReport) (m after : MachineState S) (t : T) → told_if accesses kernel plain m ≡ (Ok r, after) → side.Parted m.world.space t → side.Parted after.world.space t
  told_left plain r m after t is p = subst (λ (x : Outcome RoutingReport × MachineState S). side.Parted x.1.world.space t) is ((told_if_together {side = side} kernel plain).left_parted m t p)

  pub told_right : (plain r : RoutingReport) (m after : MachineState T) (s : S) → told_if accesses2 kernel plain m ≡ (Ok r, after) → side.Parted s m.world.space → side.Parted s after.world.space
  told_right plain r m after s is p = subst (λ (x : Outcome RoutingReport × MachineState T). side.Parted s x.1.world.space) is ((told_if_together {side = side} kernel plain).right_parted s m p)
