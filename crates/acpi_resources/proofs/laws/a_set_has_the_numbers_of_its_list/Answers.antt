use Rattle.acpi_resources.proofs.Members.{members_of_set}
use Rattle.acpi_resources.proofs.laws.a_set_has_the_numbers_of_its_list.Goals as goal

pub returns : goal.returns
returns c = members_of_set
