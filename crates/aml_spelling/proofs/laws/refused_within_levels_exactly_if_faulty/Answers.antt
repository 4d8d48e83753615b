use Rattle.aml_spelling.proofs.FaultWithin.{fewer_list, full_list, fewer_table, full_table, either_within, one_within, none_within}
use Rattle.aml_spelling.proofs.laws.refused_within_levels_exactly_if_faulty.Goals as goal

pub returns : goal.returns
returns c = record {
  list = λ levels bs scope body known r few. fewer_list levels bs scope body known r few;
  table = fewer_table;
  whole_list = λ levels bs scope body known r le. full_list levels bs scope body known r le;
  whole_table = full_table;
  either = either_within;
  one = one_within;
  not_both = none_within;
}
