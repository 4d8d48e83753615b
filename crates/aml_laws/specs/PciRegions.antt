-- Operation regions of PCI_Config, and the scopes that they stand in (ACPI 6.5, 5.5.2.4 and 19.6: OperationRegion).
use Rattle.std.specs.Prelude.{◌≡◌, ℕ, List, [], ◌∷◌, ◌++◌, Some}
use Rattle.aml_path.specs.declared.segment.Seg.{Seg}
use Rattle.aml_objects.specs.declared.entry.Entry.{Entry}
use Rattle.aml_objects.specs.declared.entry.NamedObject.TheVariants as object
use Rattle.aml_objects.specs.declared.entry.OperationRegion.{OperationRegion}
use Rattle.aml_fields.specs.declared.region.AddressSpace.{AddressSpace}
use Rattle.aml_fields.specs.declared.region.Region.{Region}
use Rattle.aml_namespace.specs.Namespace.{numbered}
use Rattle.aml_world.specs.state.State.{State}

-- under the number of a declaration an operation region stands, in a scope
pub record RegionStandsIn {S : Type 0} (w : State S) (n : ℕ) (scope : List Seg) (region : OperationRegion) : Type 0 where
  pub name : Seg
  pub entry : Entry
  pub stands : numbered n w.names.map ≡ Some (scope ++ name ∷ [], entry)
  pub is : entry.object ≡ object.OperationRegion region

-- in an address space, at the offset and with the length of its declaration
abbrev pub located_at : AddressSpace → OperationRegion → Region
located_at space region = record { space = space; offset = region.offset; length = region.length }
