-- Regions of SystemMemory and SystemIO, whose address no object is asked for (ACPI 6.5, 5.5.2.4 and 19.6: OperationRegion).
use Rattle.std.specs.Prelude.{◌≡◌, ℕ, List, Some}
use Rattle.aml_path.specs.declared.segment.Seg.{Seg}
use Rattle.aml_objects.specs.declared.entry.Entry.{Entry}
use Rattle.aml_objects.specs.declared.entry.NamedObject.TheVariants as object
use Rattle.aml_objects.specs.declared.entry.OperationRegion.{OperationRegion}
use Rattle.aml_fields.specs.declared.region.AddressSpace.TheVariants as spaces
use Rattle.aml_fields.specs.declared.region.Region.{Region}
use Rattle.aml_namespace.specs.Namespace.{numbered}
use Rattle.aml_world.specs.state.State.{State}
use Rattle.aml_laws.specs.PciRegions.{located_at}

-- under a number an operation region of the address space 0, SystemMemory, or 1, SystemIO, was declared, which is this region: at the offset
-- and with the length of its declaration
pub data IsPlainRegion {S : Type 0} (w : State S) (n : ℕ) : Region → Type 0 where
  in_memory : (entry : List Seg × Entry) (region : OperationRegion) → numbered n w.names.map ≡ Some entry → entry.1.object ≡ object.OperationRegion region → region.space ≡ 0
      → IsPlainRegion w n (located_at spaces.Memory region)
  among_ports : (entry : List Seg × Entry) (region : OperationRegion) → numbered n w.names.map ≡ Some entry → entry.1.object ≡ object.OperationRegion region → region.space ≡ 1
      → IsPlainRegion w n (located_at spaces.Io region)
