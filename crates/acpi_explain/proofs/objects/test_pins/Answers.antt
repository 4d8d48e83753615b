use Rattle.acpi_links.specs.Links.{few_pins}
use Rattle.acpi_explain.proofs.Halted.{test_halted, test_passed}
use Rattle.acpi_explain.proofs.objects.test_pins.Goals as goal

pub returns-clause-is : goal.returns-clause-is
returns-clause-is c = test_passed c.together.result c.few_pins.result (few_pins c.args.sci c.args.pins.now) c.few_pins.ensures.value c.together.ensures.is

pub returns-clause-halted : goal.returns-clause-halted
returns-clause-halted c = test_halted c.together.result c.few_pins.result (few_pins c.args.sci c.args.pins.now) c.few_pins.ensures.value c.together.ensures.halted
