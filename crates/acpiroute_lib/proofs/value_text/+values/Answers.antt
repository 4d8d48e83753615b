use Rattle.std.proofs.Common.{rules}
use Rattle.aml_world.specs.state.Given.{given_of}
use Rattle.acpiroute_lib.proofs.Packages.{more_elements}
use Rattle.acpiroute_lib.proofs.value_text.+values.Goals as goal

pub put_elements-loop-element-preserved : goal.put_elements-loop-element-preserved
put_elements-loop-element-preserved t c = more_elements given_of c.args.elements.now c.loop-element.element-index c.element-item.result c.args.text.now.items c.loop-element.text.items c.extend_from_slice.new.self.items
    c.put_value.new.text.items (search rules) c.element-item.is c.loop-element.invariant c.in_ok-extend_from_slice.ensures.items c.in_ok-put_value.ensures
