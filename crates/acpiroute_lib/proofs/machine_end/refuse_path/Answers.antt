use Rattle.std.specs.Prelude.{Err, None}
use Rattle.acpiroute_lib.proofs.Endings.{stopped_here, unnamed}
use Rattle.acpiroute_lib.proofs.Phases.{phase_stopped, phase_ready}
use Rattle.acpiroute_lib.proofs.machine_end.refuse_path.Goals as goal

pub returns-in-Ok-clause-run : goal.returns-in-Ok-clause-run
returns-in-Ok-clause-run g c = λ ne. unnamed g.S.Space.accesses c.args.mode c.args.machine.now c.initialize.new.self c.args.refusal c.in-Ok.ensures.answer

pub returns-in-Err-clause-run : goal.returns-in-Err-clause-run
returns-in-Err-clause-run g c = stopped_here g.S.Space.accesses c.args.mode c.args.machine.now c.initialize.new.self (λ s. (Err c.args.refusal, s)) c.in-Err.ensures.answer

pub returns-in-Ok-clause-phase : goal.returns-in-Ok-clause-phase
returns-in-Ok-clause-phase g c = λ ne. phase_ready g.S.Space.accesses c.args.mode c.args.machine.now c.initialize.new.self None c.in-Ok.ensures.answer

pub returns-in-Err-clause-phase : goal.returns-in-Err-clause-phase
returns-in-Err-clause-phase g c = phase_stopped g.S.Space.accesses c.args.mode c.args.machine.now c.initialize.new.self None c.in-Err.ensures.answer.is
