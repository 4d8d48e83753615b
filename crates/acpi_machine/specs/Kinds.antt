-- What stands at a path, as callers are shown it (ACPI 6.5, 5.3 and 19.3.5).
use Rattle.std.specs.Prelude.{ℕ, List, Option}
use Rattle.std.specs.List.{filter_map}
use Rattle.std.specs.Option.{option_map}
use Rattle.std.specs.FinMap.{get}
use Rattle.aml_path.specs.declared.segment.Seg.{Seg}
use Rattle.aml_objects.specs.Methods.{arguments_taken}
use Rattle.aml_objects.specs.declared.value.Value.{Value}
use Rattle.aml_objects.specs.declared.value.Value.TheVariants as value
use Rattle.aml_objects.specs.declared.entry.NamedObject.{NamedObject}
use Rattle.aml_objects.specs.declared.entry.NamedObject.TheVariants as object
use Rattle.aml_namespace.specs.Namespace.{Map}
use Rattle.aml_namespace.specs.Walks.{walked}
use Rattle.acpi_machine.specs.declared.kind.Kind as code
use Rattle.acpi_machine.specs.declared.kind.Kind.TheVariants as shown

pub data Kind : Type 0 where
  Scope : Kind
  Device : Kind
  Processor : Kind
  PowerResource : Kind
  ThermalZone : Kind
  Method : ℕ → Kind
  Uninitialized : Kind
  Integer : Kind
  String : Kind
  Buffer : Kind
  Package : Kind
  Reference : Kind
  FieldUnit : Kind
  BufferField : Kind
  Region : Kind
  Mutex : Kind
  Event : Kind
  Alias : List Seg → Kind

-- what the code's type stands for
abbrev pub kind_seen : code.Kind → Kind
kind_seen shown.Scope = Scope
kind_seen shown.Device = Device
kind_seen shown.Processor = Processor
kind_seen shown.PowerResource = PowerResource
kind_seen shown.ThermalZone = ThermalZone
kind_seen (shown.Method n) = Method n
kind_seen shown.Uninitialized = Uninitialized
kind_seen shown.Integer = Integer
kind_seen shown.String = String
kind_seen shown.Buffer = Buffer
kind_seen shown.Package = Package
kind_seen shown.Reference = Reference
kind_seen shown.FieldUnit = FieldUnit
kind_seen shown.BufferField = BufferField
kind_seen shown.Region = Region
kind_seen shown.Mutex = Mutex
kind_seen shown.Event = Event
kind_seen (shown.Alias p) = Alias p.now

abbrev pub kind_of_value : Value → Kind
kind_of_value value.Uninitialized = Uninitialized
kind_of_value (value.Integer n) = Integer
kind_of_value (value.String o) = String
kind_of_value (value.Buffer o) = Buffer
kind_of_value (value.Package o) = Package
kind_of_value (value.Reference r) = Reference

abbrev pub kind_of : NamedObject → Kind
kind_of object.Scope = Scope
kind_of object.Device = Device
kind_of object.Processor = Processor
kind_of object.PowerResource = PowerResource
kind_of object.ThermalZone = ThermalZone
kind_of (object.Method m) = Method (arguments_taken m.flags)
kind_of (object.Data v) = kind_of_value v
kind_of (object.OperationRegion r) = Region
kind_of (object.FieldUnit u) = FieldUnit
kind_of (object.BufferField b) = BufferField
kind_of (object.Mutex n) = Mutex
kind_of (object.Event n) = Event
kind_of (object.Alias p) = Alias p

-- the kind of what stands at a path
abbrev pub kind_at : Map → List Seg → Option Kind
kind_at m p = option_map (λ e. kind_of e.object) (get m p)

abbrev pub with_kind : Map → List Seg → Option (List Seg × Kind)
with_kind m p = option_map (λ k. (p, k)) (kind_at m p)

-- all names but the root, in path order, with their kinds
unfoldable pub kinds_walked : Map → List (List Seg × Kind)
kinds_walked m = filter_map (with_kind m) (walked m)
