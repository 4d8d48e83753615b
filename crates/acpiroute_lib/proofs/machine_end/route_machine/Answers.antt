use Rattle.std.specs.Prelude.{Some}
use Rattle.acpi_explain.specs.declared.told.Phase.TheVariants.{Running}
use Rattle.acpiroute_lib.specs.RunEnds.{dropped, finds}
use Rattle.acpiroute_lib.proofs.Endings.{stopped, refused, routed}
use Rattle.acpiroute_lib.proofs.Phases.{phase_stopped, phase_running}
use Rattle.acpiroute_lib.proofs.machine_end.route_machine.Goals as goal

pub returns-in-Initializing-clause-run : goal.returns-in-Initializing-clause-run
returns-in-Initializing-clause-run g c = stopped g.S.Space.accesses c.args.mode c.args.machine.now c.route_end.new.machine (λ s. dropped (finds g.S.Space.accesses c.args.options.now s)) c.in-Initializing.ensures

pub returns-in-Running-clause-run : goal.returns-in-Running-clause-run
returns-in-Running-clause-run g c = refused g.S.Space.accesses c.args.mode c.args.machine.now c.route_end.new.machine (finds g.S.Space.accesses c.args.options.now) c.in-Running.ensures

pub returns-in-Done-clause-run : goal.returns-in-Done-clause-run
returns-in-Done-clause-run g c = routed g.S.Space.accesses c.args.mode c.args.machine.now c.route_end.new.machine c.args.options.now c.in-Done.report c.in-Done.ensures

pub returns-in-Initializing-clause-phase : goal.returns-in-Initializing-clause-phase
returns-in-Initializing-clause-phase g c = phase_stopped g.S.Space.accesses c.args.mode c.args.machine.now c.route_end.new.machine (Some Running) c.in-Initializing.ensures

pub returns-in-Running-clause-phase : goal.returns-in-Running-clause-phase
returns-in-Running-clause-phase g c = phase_running g.S.Space.accesses c.args.mode c.args.machine.now c.route_end.new.machine (Some Running) (finds g.S.Space.accesses c.args.options.now) c.in-Running.ensures
