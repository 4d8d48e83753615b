use Rattle.machine_laws.proofs.EntriesTold.{wired_told, linked_told, left_out_told}
use Rattle.machine_laws.proofs.entries.an_entry_of_a_routing_table_tells_of_a_pin.Goals as goal

pub returns-clause-wired : goal.returns-clause-wired
returns-clause-wired g c = wired_told

pub returns-clause-linked : goal.returns-clause-linked
returns-clause-linked g c = linked_told

pub returns-clause-left_out : goal.returns-clause-left_out
returns-clause-left_out g c = left_out_told
