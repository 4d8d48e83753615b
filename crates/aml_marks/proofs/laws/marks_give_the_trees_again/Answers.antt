use Rattle.aml_marks.proofs.Law.{one_list, marks_ascend, one_list_within, marks_ascend_within}
use Rattle.aml_marks.proofs.laws.marks_give_the_trees_again.Goals as goal

pub returns : goal.returns
returns c = record { list = one_list; ascending = marks_ascend; list_within = one_list_within; ascending_within = marks_ascend_within }
