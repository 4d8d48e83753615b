use Rattle.acpi_links.proofs.Posed.{problem_is, problem_fits}
use Rattle.acpi_links.proofs.problem.problem_of.Goals as goal

pub returns-clause-value : goal.returns-clause-value
returns-clause-value c = problem_is _ _ _ _ _ _ _ c.in_ok-offering.ensures.value c.in_ok-numbers.ensures.value (rw (← c.deref.ensures.value) c.in_ok-wired.ensures.value)

pub returns-clause-fits : goal.returns-clause-fits
returns-clause-fits c =
    problem_fits _ _ _ _ c.in_ok-offering.ensures.value c.requires.few c.requires.in_order c.in_ok-offering.ensures.offers c.in_ok-wired.ensures.ascending c.in_ok-wired.ensures.counts
