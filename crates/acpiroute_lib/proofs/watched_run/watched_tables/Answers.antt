use Rattle.std.proofs.Common.{◌≡◌, ◌≢◌, subst, sym}
use Rattle.std.specs.Prelude.{Ok, Err, Some}
use Rattle.acpiroute_lib.specs.Machines.{register_accesses}
use Rattle.ar_space.specs.declared.refusal.Refusal.TheVariants.{OutOfMemory}
use Rattle.acpi_explain.specs.declared.told.Phase.TheVariants.{Loading}
use Rattle.watched_space.specs.Watching.{watched}
use Rattle.acpiroute_lib.specs.RunEnds.{loaded_over}
use Rattle.acpiroute_lib.specs.WhyCommand.{first_watch}
use Rattle.acpiroute_lib.proofs.Endings.{machine_ended, loading_ended}
use Rattle.acpiroute_lib.proofs.Phases.{phase_loaded, phase_not_loaded}
use Rattle.acpiroute_lib.proofs.watched_run.watched_tables.Goals as goal

pub returns-in-Ok : goal.returns-in-Ok
returns-in-Ok c =
    let h = c.watched_machine.ensures in
    record {
      left = h.after.world.space;
      is_end = machine_ended (watched register_accesses) c.args.asking.now c.watched_machine.result.0 c.args.tables c.args.osi.items (first_watch c.args.asking.now.evaluation c.args.space) c.in-Ok.machine h.after
          (subst (λ s. loaded_over (watched register_accesses) c.args.asking.now c.args.tables c.args.osi.items s ≡ (Ok tt, c.in-Ok.machine.world)) c.first_watch.ensures c.in-Ok.ensures.world) c.in-Ok.ensures.machine h.is_end;
      is_phase = phase_loaded (watched register_accesses) c.args.asking.now c.args.tables c.args.osi.items (first_watch c.args.asking.now.evaluation c.args.space) c.watched_machine.result.0 c.in-Ok.machine
          (subst (λ s. loaded_over (watched register_accesses) c.args.asking.now c.args.tables c.args.osi.items s ≡ (Ok tt, c.in-Ok.machine.world)) c.first_watch.ensures c.in-Ok.ensures.world) c.in-Ok.ensures.machine h.is_phase;
      is_last = h.is_last;
    }

pub returns-in-Err : goal.returns-in-Err
returns-in-Err c =
    record {
      left = c.in-Err.space;
      is_end = loading_ended (watched register_accesses) c.args.asking.now (Some Loading) c.in-Err.refusal c.args.tables c.args.osi.items (first_watch c.args.asking.now.evaluation c.args.space) c.in-Err.space
          (subst (λ s. c.in-Err.refusal ≢ OutOfMemory → (loaded_over (watched register_accesses) c.args.asking.now c.args.tables c.args.osi.items s).0 ≡ Err c.in-Err.refusal) c.first_watch.ensures c.in-Err.ensures.refusal)
          (subst (λ s. c.in-Err.refusal ≢ OutOfMemory → (loaded_over (watched register_accesses) c.args.asking.now c.args.tables c.args.osi.items s).1.space ≡ c.in-Err.space) c.first_watch.ensures c.in-Err.ensures.space);
      is_phase = phase_not_loaded (watched register_accesses) c.args.asking.now c.args.tables c.args.osi.items (first_watch c.args.asking.now.evaluation c.args.space) c.in-Err.refusal
          (subst (λ s. c.in-Err.refusal ≢ OutOfMemory → (loaded_over (watched register_accesses) c.args.asking.now c.args.tables c.args.osi.items s).0 ≡ Err c.in-Err.refusal) c.first_watch.ensures c.in-Err.ensures.refusal);
      is_last = sym c.last.ensures;
    }
