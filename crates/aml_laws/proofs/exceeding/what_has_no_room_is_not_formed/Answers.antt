use Rattle.aml_laws.proofs.DataNotFormed.{no_string_formed, no_buffer_formed, no_package_formed, no_package_counted, no_package_sized}
use Rattle.aml_laws.proofs.exceeding.what_has_no_room_is_not_formed.Goals as goal

pub returns-clause-string : goal.returns-clause-string
returns-clause-string g c = no_string_formed

pub returns-clause-buffer : goal.returns-clause-buffer
returns-clause-buffer g c = no_buffer_formed

pub returns-clause-package : goal.returns-clause-package
returns-clause-package g c = no_package_formed

pub returns-clause-counted : goal.returns-clause-counted
returns-clause-counted g c = no_package_counted

pub returns-clause-sized : goal.returns-clause-sized
returns-clause-sized g c = no_package_sized
