use Rattle.machine_laws.proofs.KernelLinesTold.{link_follows}
use Rattle.machine_laws.proofs.kernel_lines.links_are_triggered_as_they_offer.Goals as goal

pub returns : goal.returns
returns g c = link_follows
