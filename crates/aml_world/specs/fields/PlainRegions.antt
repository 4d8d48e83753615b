-- Regions of SystemMemory and SystemIO, whose address no object is asked for (ACPI 6.5, 5.5.2.4).
use Rattle.std.specs.Prelude.{◌≡◌, ℕ, ◌==◌, List, Option, Some, None, if◌then◌else◌}
use Rattle.std.specs.Option.{option_map}
use Rattle.aml_path.specs.declared.segment.Seg.{Seg}
use Rattle.aml_objects.specs.declared.entry.Entry.{Entry}
use Rattle.aml_objects.specs.declared.entry.FieldSource.{FieldSource}
use Rattle.aml_objects.specs.declared.entry.FieldSource.TheVariants as sources
use Rattle.aml_objects.specs.declared.entry.NamedObject.{NamedObject}
use Rattle.aml_objects.specs.declared.entry.NamedObject.TheVariants as object
use Rattle.aml_objects.specs.declared.entry.OperationRegion.{OperationRegion}
use Rattle.aml_fields.specs.declared.region.AddressSpace.{AddressSpace}
use Rattle.aml_fields.specs.declared.region.AddressSpace.TheVariants as spaces
use Rattle.aml_fields.specs.declared.region.Region.{Region}
use Rattle.aml_namespace.specs.Namespace.{numbered}
use Rattle.aml_world.specs.state.State.{State}

abbrev pub plain_space : ℕ → Option AddressSpace
plain_space n = if n == 0 then Some spaces.Memory else (if n == 1 then Some spaces.Io else None)

abbrev pub region_at : OperationRegion → Option Region
region_at r = option_map (λ s. record { space = s; offset = r.offset; length = r.length }) (plain_space r.space)

abbrev pub plain_region : NamedObject → Option Region
plain_region (object.OperationRegion r) = region_at r
plain_region _ = None

-- a field lies in this region, which is one of the two
abbrev pub IsPlainRegion : {S : Type 0} → State S → FieldSource → Region → Type 0
IsPlainRegion w (sources.Region n) q = option_map (λ (e : List Seg × Entry). plain_region e.1.object) (numbered n w.names.map) ≡ Some (Some q)
IsPlainRegion w (sources.Index i d) q = ⊥
IsPlainRegion w (sources.Bank n b) q = ⊥
