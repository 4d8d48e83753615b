use Rattle.std.proofs.Common.{◌≡◌, take}
use Rattle.aml_objects.proofs.object.Elements.copy.Given as goal

abbrev pub invariant-loop-element : goal.invariant-loop-element
invariant-loop-element l = l.list.items ≡ take l.element-index l.self
