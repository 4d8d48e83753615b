-- What devices that are no links have, of machines side by side.
use Rattle.std.specs.Prelude.{◌≡◌, ℕ, List, Bool, true, false, refl}
use Rattle.ar_space.specs.Accesses.{Accesses}
use Rattle.aml_path.specs.declared.segment.Seg.{Seg}
use Rattle.acpi_machine.specs.Children.{has_child}
use Rattle.acpi_links.specs.ObjectNames.{crs}
use Rattle.acpi_configure.specs.Others.{resources_if, present_resources, device_resources}
use Rattle.aml_laws.proofs.Together.{Sides, Together, plain, give_together, then_together, choice_together}
use Rattle.machine_laws.proofs.MachineShapes.{machines}
use Rattle.machine_laws.proofs.LinksTogether.{current_resources_together, is_present_together}

-- same: the right one has as many steps
module _ {S T : Type 0} {accesses : Accesses S} {accesses2 : Accesses T} {side : Sides accesses accesses2} (same : (n : ℕ) → side.more n ≡ n) where
  resources_if_together : (present : Bool) (device : List Seg) → Together side machines (resources_if accesses present device) (resources_if accesses2 present device)
  unfolding resources_if
  resources_if_together true device = current_resources_together same device
  resources_if_together false device = give_together _

  present_resources_together : (device : List Seg) → Together side machines (present_resources accesses device) (present_resources accesses2 device)
  unfolding present_resources
  present_resources_together device = then_together (is_present_together same device) (λ present. resources_if_together present device)

  pub device_resources_together : (device : List Seg) → Together side machines (device_resources accesses device) (device_resources accesses2 device)
  unfolding device_resources
  device_resources_together device = choice_together (has_child device crs) (has_child device crs) (λ s t. refl) (present_resources_together device) (plain (λ s. refl) (λ s. refl) (λ s t. refl))
