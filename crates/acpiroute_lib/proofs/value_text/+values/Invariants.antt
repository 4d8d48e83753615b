use Rattle.std.proofs.Common.{◌≡◌, ◌++◌, map, take}
use Rattle.aml_world.specs.state.Given as given
use Rattle.acpiroute_lib.specs.ValueText.{elements_text}
use Rattle.acpiroute_lib.proofs.value_text.+values.Given as goal

abbrev pub invariant-put_elements-loop-element : goal.invariant-put_elements-loop-element
invariant-put_elements-loop-element l = l.text.items ≡ l.initial.text.items ++ elements_text (given.givens (map given.given_of (take l.element-index l.elements)))
