use Rattle.aml_scan.proofs.SpelledTerms.{list_spelled, table_spelled}
use Rattle.aml_spelling.proofs.GetsWhole.{list_read, table_read}
use Rattle.aml_spelling.proofs.LeavesWhole.{list_stands, table_stands}
use Rattle.aml_spelling.proofs.laws.read_exactly_if_spelled.Goals as goal

pub returns : goal.returns
returns c = record {
  list = λ bs scope body known ts. (λ h. let k = list_stands bs scope body known ts h in (list_spelled bs scope body known ts h, k.0, k.1), λ h. list_read bs scope body known ts h.1 h.0 h.2);
  table = λ bs known ts after. (λ h. (table_spelled bs known ts after h, table_stands bs known ts after h), λ h. table_read bs known ts after h.0 h.1);
}
