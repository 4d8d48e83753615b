use Rattle.std.proofs.Common.{sym, ◌∙◌}
use Rattle.acpi_links.proofs.Listed.{device_more, device_none}
use Rattle.acpi_links.proofs.devices.only_devices.Goals as goal

pub loop-path-preserved-in-Continue-1 : goal.loop-path-preserved-in-Continue-1
loop-path-preserved-in-Continue-1 c = device_more c.loop-path.list.items c.push.new.self.items c.loop-path.yielded c.in-Some.path c.in-Some.kind c.loop-path.invariant (sym c.is_device.ensures ∙ c.if-is_device.true) c.in_ok-push.ensures.items

pub loop-path-preserved : goal.loop-path-preserved
loop-path-preserved c = device_none c.loop-path.list.items c.loop-path.yielded c.in-Some.path c.in-Some.kind c.loop-path.invariant (sym c.is_device.ensures ∙ c.if-is_device.false)
