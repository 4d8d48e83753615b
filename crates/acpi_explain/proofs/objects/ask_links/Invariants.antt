use Rattle.std.proofs.Common.{take}
use Rattle.acpi_links.specs.Links.{link_asked}
use Rattle.acpi_explain.specs.Refused.{AreAnswered}
use Rattle.acpi_explain.proofs.objects.ask_links.Given as goal

abbrev pub invariant-loop-link : goal.invariant-loop-link
invariant-loop-link g l = AreAnswered (link_asked g.S.Space.accesses l.avoid) (take l.link-index l.links) l.fn.machine l.machine
