use Rattle.aml_laws.proofs.ContentsHeld.{integer_holds, string_holds, buffer_holds, nothing_held}
use Rattle.aml_laws.proofs.contents.a_value_holds_the_bytes_of_its_object.Goals as goal

pub returns-clause-integer : goal.returns-clause-integer
returns-clause-integer c = integer_holds

pub returns-clause-string : goal.returns-clause-string
returns-clause-string c = string_holds

pub returns-clause-buffer : goal.returns-clause-buffer
returns-clause-buffer c = buffer_holds

pub returns-clause-no_data : goal.returns-clause-no_data
returns-clause-no_data c = nothing_held
