-- What stands at a path, or behind an alias there.
use Rattle.std.specs.Prelude.{List, Option, Some, Ok, Err}
use Rattle.ar_space.specs.declared.refusal.Refusal.TheVariants.{RoutingTable}
use Rattle.ar_space.specs.declared.refusal.RoutingTableFault.TheVariants.{NotALink}
use Rattle.ar_space.specs.Outcome.{Outcome, ◌>>=◌, ◌>>◌}
use Rattle.aml_path.specs.declared.segment.Seg.{Seg}
use Rattle.aml_namespace.specs.Namespace.{Map}
use Rattle.aml_world.specs.declared.state.profile.Profile.{Profile}
use Rattle.aml_world.specs.declared.state.profile.Profile.TheVariants.{Core, Wide}
use Rattle.acpi_machine.specs.Kinds.{Kind, kind_at}
use Rattle.acpi_machine.specs.Kinds as kind

-- the target of an alias, or the path itself
abbrev pub target_or : List Seg → Option Kind → List Seg
target_or p (Some (kind.Alias t)) = t
target_or p _ = p

abbrev pub followed : Map → List Seg → List Seg
followed m p = target_or p (kind_at m p)

-- a device
abbrev pub device_or_not : Option Kind → Outcome (Unit {0})
device_or_not (Some kind.Device) = Ok tt
device_or_not _ = Err (RoutingTable NotALink)

unfoldable pub device_in : Map → List Seg → Outcome (List Seg)
device_in m p = do
  q ← Ok (followed m p)
  device_or_not (kind_at m q)
  Ok q

-- a control method, in the wide profile alone
abbrev pub method_or_not : Profile → Outcome (Unit {0})
method_or_not Core = Err (RoutingTable NotALink)
method_or_not Wide = Ok tt

-- a name that holds an integer or a string, or a control method
abbrev pub id_or_not : Profile → Option Kind → Outcome (Unit {0})
id_or_not profile (Some kind.Integer) = Ok tt
id_or_not profile (Some kind.String) = Ok tt
id_or_not profile (Some (kind.Method count)) = method_or_not profile
id_or_not profile _ = Err (RoutingTable NotALink)

unfoldable pub id_in : Profile → Map → List Seg → Outcome (List Seg)
id_in profile m p = do
  q ← Ok (followed m p)
  id_or_not profile (kind_at m q)
  Ok q
