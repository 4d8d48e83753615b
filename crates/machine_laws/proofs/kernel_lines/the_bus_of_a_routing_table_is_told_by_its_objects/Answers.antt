use Rattle.machine_laws.proofs.BusesReached.{bus_is_found}
use Rattle.machine_laws.proofs.kernel_lines.the_bus_of_a_routing_table_is_told_by_its_objects.Goals as goal

pub returns : goal.returns
returns g c = bus_is_found
