use Rattle.aml_spelling.proofs.FaultWhole.{list_faulty, table_faulty, list_either}
use Rattle.aml_spelling.proofs.RefusedWhole.{faulty_refused, table_refused, one_fault, spelled_no_fault}
use Rattle.aml_spelling.proofs.laws.refused_exactly_if_faulty.Goals as goal

pub returns : goal.returns
returns c = record {
  list = λ bs scope body known r. (λ h. list_faulty scope body bs known r h, λ f. faulty_refused bs scope body known r f);
  table = λ bs known r. (λ h. table_faulty bs known r h, λ f. table_refused bs known r f);
  either = list_either;
  one = one_fault;
  not_both = spelled_no_fault;
}
