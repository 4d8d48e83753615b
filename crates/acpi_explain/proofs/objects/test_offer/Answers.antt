use Rattle.acpi_links.specs.Links.{some_left}
use Rattle.acpi_explain.proofs.Halted.{test_halted, test_passed}
use Rattle.acpi_explain.proofs.objects.test_offer.Goals as goal

pub returns-clause-is : goal.returns-clause-is
returns-clause-is c = test_passed c.together.result c.some_left.result (some_left c.args.avoid.now c.args.link.now c.args.offer.now) c.some_left.ensures.value c.together.ensures.is

pub returns-clause-halted : goal.returns-clause-halted
returns-clause-halted c = test_halted c.together.result c.some_left.result (some_left c.args.avoid.now c.args.link.now c.args.offer.now) c.some_left.ensures.value c.together.ensures.halted
