use Rattle.std.proofs.Common.{◌≡◌, map, take}
use Rattle.acpiroute_c.specs.PinCalls.{pin_form}
use Rattle.acpiroute_c.proofs.call_pin.pin_forms.Given as goal

abbrev pub invariant-loop-pin : goal.invariant-loop-pin
invariant-loop-pin l = l.list.items ≡ map pin_form (take l.pin-index l.fn.pins)
