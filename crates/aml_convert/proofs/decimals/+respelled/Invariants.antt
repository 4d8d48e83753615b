-- a number has more digits than the number before its last one
use Rattle.aml_convert.proofs.decimals.+respelled.Given as goal

abbrev pub decreases-respelled : goal.decreases-respelled
decreases-respelled l = l.number
