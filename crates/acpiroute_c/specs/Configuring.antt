-- What a call that configures a machine comes to: the reply of a run that ended, or the access that it wants.
use Rattle.std.specs.Prelude.{◌⊎◌, ℕ, List}
use Rattle.recorded_route.specs.declared.ending.Ending.{Ending}
use Rattle.recorded_route.specs.Endings.{IsEndingOver, NotOutOfMemory}
use Rattle.route_report.specs.Reports.{RoutingReport}
use Rattle.acpiroute_lib.specs.RouteCommand.{printed}
use Rattle.acpiroute_c.specs.declared.call_access.CallAccess.{CallAccess}
use Rattle.acpiroute_c.specs.declared.call_settings.CallSettings.{CallSettings}
use Rattle.acpiroute_c.specs.declared.record_call.Said.{Said}
use Rattle.acpiroute_c.specs.declared.table_source.TableSource.{TableSource}
use Rattle.acpiroute_c.specs.Sources.{described_by}
use Rattle.acpiroute_c.specs.RecordCalls.{IsRunOf, IsSaidOf, Places, IsMade, IsUnmade}

-- how the run ends over the record that these accesses make
abbrev pub IsEndingOf : CallSettings → List ℕ → TableSource → List CallAccess → Ending RoutingReport → Type 0
IsEndingOf s avoid source accesses ending = IsRunOf s accesses (λ settings entries. NotOutOfMemory ending → IsEndingOver settings avoid (described_by source) entries ending)

pub record IsSaid (s : CallSettings) (avoid : List ℕ) (source : TableSource) (accesses : List CallAccess) (said : Said) : Type 0 where
  pub ending : Ending RoutingReport
  pub is_ending : IsEndingOf s avoid source accesses ending
  pub is_said : IsSaidOf printed ending said

abbrev pub IsConfigureCall : CallSettings → List ℕ → TableSource → List CallAccess → ℕ → Places → Places → Type 0
IsConfigureCall s avoid source accesses code before after = IsMade (IsSaid s avoid source accesses) code before after ⊎ IsUnmade s accesses code before after
