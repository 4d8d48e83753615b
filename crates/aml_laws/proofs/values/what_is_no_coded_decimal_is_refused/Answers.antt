use Rattle.aml_laws.proofs.WideTermsRefused.{no_coded_decimal, no_room_for_digits}
use Rattle.aml_laws.proofs.values.what_is_no_coded_decimal_is_refused.Goals as goal

pub returns-clause-decoded : goal.returns-clause-decoded
returns-clause-decoded c = no_coded_decimal

pub returns-clause-coded : goal.returns-clause-coded
returns-clause-coded c = no_room_for_digits
