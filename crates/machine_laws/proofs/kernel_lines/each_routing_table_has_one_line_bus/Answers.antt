use Rattle.machine_laws.proofs.KernelLinesTold.{table_has_bus, bus_has_table, buses_ascend, buses_asked_in_turn}
use Rattle.machine_laws.proofs.kernel_lines.each_routing_table_has_one_line_bus.Goals as goal

pub returns-clause-each : goal.returns-clause-each
returns-clause-each g c = table_has_bus

pub returns-clause-no_other : goal.returns-clause-no_other
returns-clause-no_other g c = bus_has_table

pub returns-clause-order : goal.returns-clause-order
returns-clause-order g c = buses_ascend

pub returns-clause-asked : goal.returns-clause-asked
returns-clause-asked g c = buses_asked_in_turn
