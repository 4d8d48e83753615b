use Rattle.std.proofs.Common.{subst}
use Rattle.std.specs.List.Sorted.{IsStrictlySortedBy}
use Rattle.std.specs.Ordering.{nat_cmp}
use Rattle.acpi_links.proofs.Counted.{counts_ascend, counts_within}
use Rattle.acpi_links.proofs.problem.wired_counts.Goals as goal

pub returns-clause-ascending : goal.returns-clause-ascending
returns-clause-ascending c = counts_ascend c.args.numbers.now _ (subst (IsStrictlySortedBy nat_cmp) c.in_ok-counts.ensures.keys c.in_ok-counts.ensures.ascending) c.in_ok-counts.ensures.value

pub returns-clause-counts : goal.returns-clause-counts
returns-clause-counts c = counts_within c.args.numbers.now _ _ c.requires (subst (IsStrictlySortedBy nat_cmp) c.in_ok-counts.ensures.keys c.in_ok-counts.ensures.ascending) c.in_ok-counts.ensures.value
