use Rattle.std.proofs.Common.{arith}
use Rattle.std.proofs.lemmas.Bool.Decides.{nat_tests}
use Rattle.aml_marks.proofs.FewerLevels.{reading_less, table_less, reading_all, table_all}
use Rattle.aml_marks.proofs.laws.fewer_levels_only_refuse.Goals as goal

pub returns : goal.returns
returns c = record {
  list = reading_less;
  table = table_less;
  whole_list = λ levels bs scope body known le. reading_all levels bs scope body known (grind (arith, nat_tests, le));
  whole_table = λ levels bs known le. table_all levels bs known (grind (arith, nat_tests, le));
}
