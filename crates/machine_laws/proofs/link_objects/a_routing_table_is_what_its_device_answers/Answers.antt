use Rattle.machine_laws.proofs.LinksTold.{table_told, no_table_told, table_refused}
use Rattle.machine_laws.proofs.link_objects.a_routing_table_is_what_its_device_answers.Goals as goal

pub returns-clause-entries : goal.returns-clause-entries
returns-clause-entries g c = table_told

pub returns-clause-no_package : goal.returns-clause-no_package
returns-clause-no_package g c = no_table_told

pub returns-clause-refused : goal.returns-clause-refused
returns-clause-refused g c = table_refused
