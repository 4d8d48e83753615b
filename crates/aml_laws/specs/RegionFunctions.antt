-- The PCI functions that operation regions of PCI_Config are accessed at (ACPI 6.5, 5.5.2.4, 6.1.1, 6.5.5 and 6.5.6).
use Rattle.std.specs.Prelude.{ℕ, List}
use Rattle.ar_space.specs.declared.space.Place.{Place}
use Rattle.ar_space.specs.declared.space.Place.TheVariants as place
use Rattle.ar_space.specs.Accesses.{Accesses}
use Rattle.aml_path.specs.declared.segment.Seg.{Seg}
use Rattle.aml_fields.specs.declared.region.AddressSpace.{AddressSpace}
use Rattle.aml_fields.specs.declared.region.AddressSpace.TheVariants as spaces
use Rattle.aml_world.specs.state.State.{State}
use Rattle.aml_meaning.specs.FieldCalls.{called_at}
use Rattle.aml_meaning.specs.Meaning.{meaning}
use Rattle.aml_laws.specs.PciAddresses.{AddressFound}

-- in a world a scope has the address of a function: the objects of the nearest device with an `_ADR` answer it when they are asked, inside
-- some number of calls and with some number of steps
pub record HasAddress {S : Type 0} (accesses : Accesses S) (w : State S) (scope : List Seg) (function : AddressSpace) : Type 0 where
  pub depth : ℕ
  pub steps : ℕ
  pub after : State S × ℕ
  pub found : AddressFound accesses (called_at accesses (meaning accesses) depth) scope (w, steps) function after

-- a place of memory or a port, or a register of the function whose address a scope has
pub data IsAtFunction {S : Type 0} (accesses : Accesses S) (w : State S) (scope : List Seg) : Place → Type 0 where
  in_memory : (n : ℕ) → IsAtFunction accesses w scope (place.Memory n)
  at_port : (n : ℕ) → IsAtFunction accesses w scope (place.Io n)
  of_function : (seg bus dev func n : ℕ) → HasAddress accesses w scope (spaces.Pci seg bus dev func) → IsAtFunction accesses w scope (place.Pci seg bus dev func n)
