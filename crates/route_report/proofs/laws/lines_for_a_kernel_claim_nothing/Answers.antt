use Rattle.route_report.proofs.KernelLines.{same_claim, still_readable}
use Rattle.route_report.proofs.laws.lines_for_a_kernel_claim_nothing.Goals as goal

pub returns-clause-readable : goal.returns-clause-readable
returns-clause-readable c = still_readable

pub returns-clause-claim : goal.returns-clause-claim
returns-clause-claim c report triggers buses h = same_claim report triggers buses h.avoid
