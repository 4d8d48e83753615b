use Rattle.aml_meaning.specs.Meaning.{meaning}
use Rattle.aml_laws.proofs.BodiesRead.{body_is_read, body_is_refused, unread_is_refused, method_counts, alias_counts, others_take_none, other_aliases_take_none}
use Rattle.aml_laws.proofs.CountsTold.{body_told, body_untold}
use Rattle.aml_laws.proofs.calls.a_body_is_read_under_its_own_path.Goals as goal

pub returns-clause-read : goal.returns-clause-read
returns-clause-read g c = body_is_read

pub returns-clause-refused : goal.returns-clause-refused
returns-clause-refused g c = body_is_refused

pub returns-clause-uncalled : goal.returns-clause-uncalled
returns-clause-uncalled g c = λ accesses depth p body arguments w. unread_is_refused w (meaning accesses) depth p body arguments

pub returns-clause-method : goal.returns-clause-method
returns-clause-method g c = method_counts

pub returns-clause-alias : goal.returns-clause-alias
returns-clause-alias g c = alias_counts

pub returns-clause-no_method : goal.returns-clause-no_method
returns-clause-no_method g c = others_take_none

pub returns-clause-other_alias : goal.returns-clause-other_alias
returns-clause-other_alias g c = other_aliases_take_none

pub returns-clause-external : goal.returns-clause-external
returns-clause-external g c = body_told

pub returns-clause-nothing : goal.returns-clause-nothing
returns-clause-nothing g c = body_untold
