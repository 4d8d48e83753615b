-- What a run finds, of machines side by side.
use Rattle.std.specs.Prelude.{ℕ, List, [], ◌∷◌, ◌++◌, Bool, true, false, Option, Ok, refl}
use Rattle.std.proofs.Common.{inl}
use Rattle.ar_space.specs.Accesses.{Accesses}
use Rattle.ar_space.specs.Change.{go_on, ◌>>=◌}
use Rattle.aml_path.specs.declared.segment.Seg.{Seg}
use Rattle.acpi_links.specs.Devices.{devices}
use Rattle.acpi_links.specs.Links.{PresentLink}
use Rattle.acpi_configure.specs.Options.{RunOptions}
use Rattle.acpi_configure.specs.Others.{device_asked, devices_asked, other_devices, others_asked}
use Rattle.acpi_configure.specs.WithOptions.{found_by}
use Rattle.aml_laws.proofs.Together.{SideBySide, Together, alike, give_together, plain, settle_together, then_together}
use Rattle.machine_laws.proofs.LinksTogether.{folded_together, gathered_together}
use Rattle.machine_laws.proofs.MachineShapes.{machines}
use Rattle.machine_laws.proofs.OthersTogether.{device_resources_together}
use Rattle.machine_laws.proofs.SettingsTogether.{attempted_together}

module _ {S T : Type 0} {accesses : Accesses S} {accesses2 : Accesses T} {side : SideBySide accesses accesses2} where
  device_asked_together : (device : List Seg) → Together (alike side) machines (device_asked accesses device) (device_asked accesses2 device)
  unfolding device_asked
  device_asked_together device = then_together (attempted_together _ (device_resources_together {side = alike side} (λ n. refl) device)) (λ state. give_together _)

  others_asked_together : (spare : Bool) (links : List PresentLink) → Together (alike side) machines (others_asked accesses spare links) (others_asked accesses2 spare links)
  unfolding others_asked other_devices devices ◌>>=◌ go_on
  others_asked_together true links =
      then_together {m = λ s. (Ok (other_devices links s), s)} {n = λ s. (Ok (other_devices links s), s)} {k = devices_asked accesses} {l = devices_asked accesses2}
      (plain (λ s. refl) (λ s. refl) (λ s t. refl)) (λ list. folded_together _ device_asked_together list [])
  others_asked_together false links = plain (λ s. refl) (λ s. refl) (λ s t. refl)

  pub found_by_together : (o : RunOptions) (sci : Option ℕ) → Together (alike side) machines (found_by accesses o sci) (found_by accesses2 o sci)
  unfolding found_by
  found_by_together o sci =
      then_together (gathered_together {side = alike side} (λ n. refl) (inl refl) o.avoid) (λ first. then_together (others_asked_together o.spare first.links) (λ asked. then_together (settle_together _) (λ gathering. give_together _)))
