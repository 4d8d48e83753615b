use Rattle.machine_laws.proofs.KernelLinesTold.{wired_follows, sci_follows}
use Rattle.machine_laws.proofs.kernel_lines.interrupts_are_triggered_as_their_overrides_say.Goals as goal

pub returns-clause-wired : goal.returns-clause-wired
returns-clause-wired g c = wired_follows

pub returns-clause-sci : goal.returns-clause-sci
returns-clause-sci g c = sci_follows
