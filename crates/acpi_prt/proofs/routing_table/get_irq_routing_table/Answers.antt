use Rattle.std.proofs.Common.{map, ap, rules, ◌++◌, ◌∷◌, [], Ok}
use Rattle.ar_space.specs.Change.{give}
use Rattle.ar_space.proofs.Changes.{changing, does_ok, does_made}
use Rattle.aml_world.specs.state.Given.{given_of}
use Rattle.acpi_machine.specs.Buses.{prt}
use Rattle.acpi_machine.proofs.Stopping.{stops_first, none_made}
use Rattle.acpi_prt.specs.RoutingTables.{routing_table}
use Rattle.acpi_prt.proofs.Stopped.{table_asked, table_read}
use Rattle.acpi_prt.proofs.routing_table.get_irq_routing_table.Goals as goal

pub returns-in_err-path-clause-evaluated : goal.returns-in_err-path-clause-evaluated
returns-in_err-path-clause-evaluated g c = stops_first none_made

pub returns-in_err-answer-clause-evaluated : goal.returns-in_err-answer-clause-evaluated
returns-in_err-answer-clause-evaluated g c = table_asked g.S.Space.accesses c.args.device.now _ _ c.in_ok-path.ensures (ap (map given_of) c.new.ensures.items) c.in_err-answer.ensures.evaluated

pub returns-in_err-entries-clause-evaluated : goal.returns-in_err-entries-clause-evaluated
returns-in_err-entries-clause-evaluated g c = table_asked g.S.Space.accesses c.args.device.now _ _ c.in_ok-path.ensures (ap (map given_of) c.new.ensures.items) c.in_ok-answer.ensures.evaluated

pub returns-clause-evaluated : goal.returns-clause-evaluated
returns-clause-evaluated g c =
    table_read g.S.Space.accesses c.args.device.now _ _ c.in_ok-path.ensures (ap (map given_of) c.new.ensures.items) _ _ c.in_ok-answer.ensures.answer c.in_ok-entries.ensures c.pins_from.ensures.evaluated

pub returns-in_err-answer-clause-value : goal.returns-in_err-answer-clause-value
unfolding routing_table
returns-in_err-answer-clause-value g c = does_ok (give (c.args.device.now ++ prt ∷ [])) _ (does_made (Ok c.in_ok-path.path) _ c.in_ok-path.ensures) (search (rules, changing))

pub returns-in_err-entries-clause-value : goal.returns-in_err-entries-clause-value
unfolding routing_table
returns-in_err-entries-clause-value g c = does_ok (give (c.args.device.now ++ prt ∷ [])) _ (does_made (Ok c.in_ok-path.path) _ c.in_ok-path.ensures) (search (rules, changing))

pub returns-clause-value : goal.returns-clause-value
unfolding routing_table
returns-clause-value g c = does_ok (give (c.args.device.now ++ prt ∷ [])) _ (does_made (Ok c.in_ok-path.path) _ c.in_ok-path.ensures) (search (rules, changing))
