use Rattle.aml_laws.specs.Reached as reached
use Rattle.machine_laws.proofs.KernelLinesTold.{buses_asked_in_turn}
use Rattle.machine_laws.proofs.KernelRuns.{plain_run, same_otherwise, asked_beside, asked_reach, run_with_lines}
use Rattle.machine_laws.proofs.kernel_lines.a_run_for_a_kernel_is_one_without_its_lines.Goals as goal

pub returns-clause-without : goal.returns-clause-without
returns-clause-without g c = plain_run

pub returns-clause-same : goal.returns-clause-same
returns-clause-same g c = same_otherwise

pub returns-clause-claim : goal.returns-clause-claim
returns-clause-claim g c = λ accesses o before after report is. is.claims

pub returns-clause-machine : goal.returns-clause-machine
returns-clause-machine g c = λ accesses o before after report is kernel. asked_beside accesses _ is.configured after (buses_asked_in_turn accesses o before after report is kernel)

pub returns-clause-registers : goal.returns-clause-registers
returns-clause-registers g c = λ accesses o before after report is kernel. asked_reach accesses is.configured.world.space _ is.configured after (buses_asked_in_turn accesses o before after report is kernel) reached.none

pub returns-clause-lines : goal.returns-clause-lines
returns-clause-lines g c = run_with_lines
