use Rattle.machine_laws.proofs.KernelLinesTold.{triggers_in_order, link_has_one, wired_has_one, pin_has_one, sci_has_one}
use Rattle.machine_laws.proofs.kernel_lines.each_source_has_one_line_trigger.Goals as goal

pub returns-clause-order : goal.returns-clause-order
returns-clause-order g c = triggers_in_order

pub returns-clause-links : goal.returns-clause-links
returns-clause-links g c = link_has_one

pub returns-clause-wired : goal.returns-clause-wired
returns-clause-wired g c = wired_has_one

pub returns-clause-pins : goal.returns-clause-pins
returns-clause-pins g c = pin_has_one

pub returns-clause-sci : goal.returns-clause-sci
returns-clause-sci g c = sci_has_one
