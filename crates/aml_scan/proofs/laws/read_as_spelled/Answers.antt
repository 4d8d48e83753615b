use Rattle.aml_scan.proofs.SpelledTerms.{list_spelled, table_spelled}
use Rattle.aml_scan.proofs.laws.read_as_spelled.Goals as goal

pub returns : goal.returns
returns c = record { list = list_spelled; table = table_spelled }
