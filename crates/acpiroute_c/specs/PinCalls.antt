-- What a call that configures a machine comes to, where its pins are wanted and no text: the pins of the report, or the access that it wants.
use Rattle.std.specs.Prelude.{◌≡◌, ◌⊎◌, ℕ, nat_lt, Bool, true, false, List, [], ◌++◌, length, drop, map, Option, Some, None, Err, if◌then◌else◌}
use Rattle.acpi_machine.specs.declared.buses.PciBus.{PciBus}
use Rattle.route_report.specs.declared.report.PinName.{PinName}
use Rattle.route_report.specs.declared.report.PinName.TheVariants as name
use Rattle.route_report.specs.Reports.{RoutingReport}
use Rattle.recorded_route.specs.declared.ending.Ending.{Ending}
use Rattle.recorded_route.specs.declared.ending.Ending.TheVariants as ends
use Rattle.recorded_route.specs.declared.pins.Pin.{Pin}
use Rattle.recorded_route.specs.declared.pins.RoutedInterrupt.{RoutedInterrupt}
use Rattle.recorded_route.specs.Endings.{IsEndingOver, NotOutOfMemory}
use Rattle.recorded_route.specs.Pins.{pins_of, routed_sci}
use Rattle.acpiroute_shell.specs.Deliveries.{Reply}
use Rattle.acpiroute_shell.specs.Written.{status_of}
use Rattle.acpiroute_lib.specs.RouteCommand.{completion_of}
use Rattle.acpiroute_c.specs.declared.call_access.CallAccess.{CallAccess}
use Rattle.acpiroute_c.specs.declared.call_access.CallWanted.{CallWanted}
use Rattle.acpiroute_c.specs.declared.call_access.Unmade.{Unmade}
use Rattle.acpiroute_c.specs.declared.call_access.Unmade.TheVariants.{Malformed}
use Rattle.acpiroute_c.specs.declared.call_pin.CallPin.{CallPin}
use Rattle.acpiroute_c.specs.declared.call_pin.CallSci.{CallSci}
use Rattle.acpiroute_c.specs.declared.call_pin.PinsReply.{PinsReply}
use Rattle.acpiroute_c.specs.declared.call_pin.PinsSaid.{PinsSaid}
use Rattle.acpiroute_c.specs.declared.call_pin.PinsSaid.TheVariants as says
use Rattle.acpiroute_c.specs.declared.call_settings.CallSettings.{CallSettings}
use Rattle.acpiroute_c.specs.declared.table_source.TableSource.{TableSource}
use Rattle.acpiroute_c.specs.Accesses.{wanted_form}
use Rattle.acpiroute_c.specs.Calls.{put_into}
use Rattle.acpiroute_c.specs.SaidPins.{SaidPins}
use Rattle.acpiroute_c.specs.RecordCalls.{IsRunOf, IsToldReply, IsMalformed, code_of_unmade}
use Rattle.acpiroute_c.specs.Sources.{described_by}

-- ---- a pin as C has it

abbrev pub flag_form : Bool → ℕ
flag_form false = 0
flag_form true = 1

abbrev pub name_form : PinName → ℕ
name_form name.A = 0
name_form name.B = 1
name_form name.C = 2
name_form name.D = 3

abbrev pub pin_on : Pin → Option PciBus → CallPin
pin_on p None = record { interrupt = p.interrupt; segment = 0; device = p.device; bus = 0; pin = name_form p.pin; level = flag_form p.triggering.is_level; low = flag_form p.triggering.is_low; has_bus = 0; is_set = flag_form p.is_set }
pin_on p (Some b) = record { interrupt = p.interrupt; segment = b.segment; device = p.device; bus = b.bus; pin = name_form p.pin; level = flag_form p.triggering.is_level; low = flag_form p.triggering.is_low; has_bus = 1; is_set = flag_form p.is_set }

abbrev pub pin_form : Pin → CallPin
pin_form p = pin_on p p.bus

-- the System Control Interrupt as C has it
abbrev pub sci_form : Option RoutedInterrupt → CallSci
sci_form None = record { interrupt = 0; level = 0; low = 0; is_known = 0 }
sci_form (Some r) = record { interrupt = r.interrupt; level = flag_form r.triggering.is_level; low = flag_form r.triggering.is_low; is_known = 1 }

-- ---- what there is to say

-- the pins of a report whose interrupt is known, in the order of its lines, and its System Control Interrupt, with the status that the report has; or the line of a refusal
abbrev pub IsPinsOf : Ending RoutingReport → SaidPins → Type 0
IsPinsOf (ends.Done report) said = said ≡ record { pins = map pin_form (pins_of report); line = []; sci = sci_form (routed_sci report); status = status_of (completion_of report.sets) }
IsPinsOf (ends.Refused e) said = (reply : Reply) × IsToldReply (Err e) reply × (said ≡ record { pins = []; line = reply.line; sci = sci_form None; status = reply.status })
IsPinsOf (ends.Wanted wanted) said = ⊥

-- how the run ends over the record that these accesses make; its report has the lines for a kernel, whether the settings ask for them or not
abbrev pub IsKernelEndingOf : CallSettings → List ℕ → TableSource → List CallAccess → Ending RoutingReport → Type 0
IsKernelEndingOf s avoid source accesses ending = IsRunOf s accesses (λ settings entries. NotOutOfMemory ending → IsEndingOver (record settings { kernel = true }) avoid (described_by source) entries ending)

-- a report or a refusal is told, or the access that is wanted
abbrev pub IsPinsSaidOf : Ending RoutingReport → PinsSaid → Type 0
IsPinsSaidOf ending (says.Pins pins) = IsPinsOf ending pins
IsPinsSaidOf ending (says.Wanted wanted) = ending ≡ ends.Wanted wanted

pub record ArePinsSaid (s : CallSettings) (avoid : List ℕ) (source : TableSource) (accesses : List CallAccess) (said : PinsSaid) : Type 0 where
  pub ending : Ending RoutingReport
  pub is_ending : IsKernelEndingOf s avoid source accesses ending
  pub is_said : IsPinsSaidOf ending said

-- ---- the caller's places

-- an array for the pins, a buffer for the line, and a place for their sizes and the System Control Interrupt
pub record PinsFilled : Type 0 where
  pub pins : List CallPin
  pub line : List ℕ
  pub reply : PinsReply

pub record PinPlaces : Type 0 where
  pub filled : PinsFilled
  pub wanted : CallWanted

-- pins at the start of an array, the rest of which is as it was
abbrev pub pins_put : List CallPin → List CallPin → List CallPin
pins_put pins array = pins ++ drop (length pins) array

abbrev pub pin_sizes : SaidPins → PinsReply
pin_sizes said = record { pins_length = length said.pins; line_length = length said.line; sci = said.sci; status = said.status }

-- whether the array or the buffer is too small
abbrev pub lacks_room : SaidPins → PinsFilled → Bool
lacks_room said f = if nat_lt (length f.pins) (length said.pins) then true else nat_lt (length f.line) (length said.line)

-- 0, or 1 where one of them is too small: then nothing but the sizes is told
abbrev pub code_of_pins : SaidPins → PinsFilled → ℕ
code_of_pins said f = if lacks_room said f then 1 else 0

abbrev pub filled_by_pins : SaidPins → PinsFilled → PinsFilled
filled_by_pins said f = if lacks_room said f then record f { reply = pin_sizes said } else record { pins = pins_put said.pins f.pins; line = put_into said.line f.line; reply = pin_sizes said }

-- ---- the call

abbrev pub code_of_pins_said : PinsSaid → PinPlaces → ℕ
code_of_pins_said (says.Pins pins) before = code_of_pins pins before.filled
code_of_pins_said (says.Wanted wanted) before = 4

abbrev pub filled_by_pins_said : PinsSaid → PinPlaces → PinPlaces
filled_by_pins_said (says.Pins pins) before = record before { filled = filled_by_pins pins before.filled }
filled_by_pins_said (says.Wanted wanted) before = record before { wanted = wanted_form wanted }

-- what is said, in the caller's places
pub record ArePinsMade (s : CallSettings) (avoid : List ℕ) (source : TableSource) (accesses : List CallAccess) (code : ℕ) (before after : PinPlaces) : Type 0 where
  pub said : PinsSaid
  pub is_said : ArePinsSaid s avoid source accesses said
  pub code_is : code ≡ code_of_pins_said said before
  pub is_filled : after ≡ filled_by_pins_said said before

-- there is nothing to say, and nothing has changed: memory ran out, or a number means nothing
pub record ArePinsUnmade (s : CallSettings) (accesses : List CallAccess) (code : ℕ) (before after : PinPlaces) : Type 0 where
  pub why : Unmade
  pub code_is : code ≡ code_of_unmade why
  pub malformed : why ≡ Malformed → IsMalformed s accesses
  pub is_as_before : after ≡ before

abbrev pub IsPinsCall : CallSettings → List ℕ → TableSource → List CallAccess → ℕ → PinPlaces → PinPlaces → Type 0
IsPinsCall s avoid source accesses code before after = ArePinsMade s avoid source accesses code before after ⊎ ArePinsUnmade s accesses code before after
