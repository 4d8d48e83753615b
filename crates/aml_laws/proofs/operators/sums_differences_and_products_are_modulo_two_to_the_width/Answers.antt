use Rattle.aml_laws.proofs.OperatorLaws.{adds, subtracts, multiplies}
use Rattle.aml_laws.proofs.operators.sums_differences_and_products_are_modulo_two_to_the_width.Goals as goal

pub returns-clause-sum : goal.returns-clause-sum
returns-clause-sum g c = adds

pub returns-clause-difference : goal.returns-clause-difference
returns-clause-difference g c = subtracts

pub returns-clause-product : goal.returns-clause-product
returns-clause-product g c = multiplies
