use Rattle.std.proofs.Common.{refl}
use Rattle.std.specs.Prelude.{None}
use Rattle.acpiroute_lib.specs.Machines.{register_accesses}
use Rattle.ar_tables.specs.FindTables.{tables_of}
use Rattle.watched_space.specs.Watching.{watched}
use Rattle.acpiroute_lib.specs.WhyCommand.{IsWatched, first_watch}
use Rattle.acpiroute_lib.proofs.Described.{of_described}
use Rattle.acpiroute_lib.proofs.Endings.{finding_ended}
use Rattle.acpiroute_lib.proofs.Phases.{phase_not_found}
use Rattle.acpiroute_lib.proofs.watched_run.watched_run.Goals as goal

pub returns-in-Ok : goal.returns-in-Ok
returns-in-Ok c =
    of_described (λ t osi registers. IsWatched c.args.asking.now t osi registers c.watched_tables.result.0 c.watched_tables.result.1) c.args.said c.in-Ok.machine.tables c.in-Ok.machine.osi.items c.in-Ok.machine.registers c.in-Ok.ensures.tables c.in-Ok.ensures.osi
    c.in-Ok.ensures.registers c.watched_tables.ensures

pub returns-in-Err : goal.returns-in-Err
returns-in-Err c =
    record {
      left = first_watch c.args.asking.now.evaluation c.args.said.space;
      is_end = finding_ended (watched register_accesses) c.args.asking.now None c.in-Err.refusal (tables_of c.args.said.space.memory c.args.said.rsdp) c.args.said.osi (first_watch c.args.asking.now.evaluation c.args.said.space) c.in-Err.ensures.tables.is;
      is_phase = phase_not_found (watched register_accesses) c.args.asking.now (tables_of c.args.said.space.memory c.args.said.rsdp) c.args.said.osi (first_watch c.args.asking.now.evaluation c.args.said.space) c.in-Err.refusal c.in-Err.ensures.tables.is;
      is_last = refl;
    }
