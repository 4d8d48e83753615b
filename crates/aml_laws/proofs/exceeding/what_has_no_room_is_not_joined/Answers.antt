use Rattle.aml_laws.proofs.JoinedBeyondLimits.{values_not_joined, templates_not_joined, no_buffer_converted, no_decimal_string, no_hexadecimal_string}
use Rattle.aml_laws.proofs.exceeding.what_has_no_room_is_not_joined.Goals as goal

pub returns-clause-values : goal.returns-clause-values
returns-clause-values g c = values_not_joined

pub returns-clause-resources : goal.returns-clause-resources
returns-clause-resources g c = templates_not_joined

pub returns-clause-buffer : goal.returns-clause-buffer
returns-clause-buffer g c = no_buffer_converted

pub returns-clause-decimal : goal.returns-clause-decimal
returns-clause-decimal g c = λ accesses scope depth x p w steps core v after text gives. no_decimal_string accesses scope depth x p w steps core v after text gives

pub returns-clause-hexadecimal : goal.returns-clause-hexadecimal
returns-clause-hexadecimal g c = λ accesses scope depth x p w steps core v after text gives. no_hexadecimal_string accesses scope depth x p w steps core v after text gives
