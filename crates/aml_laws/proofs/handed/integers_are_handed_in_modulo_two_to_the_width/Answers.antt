use Rattle.aml_laws.proofs.IntegersHandedIn.{integer_handed_in, integers_handed_in}
use Rattle.aml_laws.proofs.handed.integers_are_handed_in_modulo_two_to_the_width.Goals as goal

pub returns-clause-alone : goal.returns-clause-alone
returns-clause-alone g c = integer_handed_in

pub returns-clause-inside : goal.returns-clause-inside
returns-clause-inside g c = integers_handed_in
