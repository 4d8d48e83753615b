use Rattle.aml_laws.proofs.StoresBeyondLimits.{long_text_not_stored, long_bytes_not_stored, whole_bytes_not_stored}
use Rattle.aml_laws.proofs.exceeding.what_is_too_long_is_not_stored.Goals as goal

pub returns-clause-string : goal.returns-clause-string
returns-clause-string g c = long_text_not_stored

pub returns-clause-buffer : goal.returns-clause-buffer
returns-clause-buffer g c = long_bytes_not_stored

pub returns-clause-empty_buffer : goal.returns-clause-empty_buffer
returns-clause-empty_buffer g c = whole_bytes_not_stored
