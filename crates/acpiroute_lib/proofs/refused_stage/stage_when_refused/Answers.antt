use Rattle.acpiroute_lib.specs.Machines.{register_accesses}
use Rattle.ar_tables.specs.FindTables.{tables_of}
use Rattle.machine_text.specs.MachineText.{machine_text}
use Rattle.watched_space.specs.Watching.{watched}
use Rattle.std.specs.Prelude.{Some}
use Rattle.acpiroute_lib.specs.WhyCommand.{first_watch}
use Rattle.acpiroute_lib.specs.WhyStages.{IsStageIn}
use Rattle.acpiroute_lib.proofs.Staged.{no_phase, of_all, of_refused}
use Rattle.acpiroute_lib.proofs.refused_stage.stage_when_refused.Goals as goal

pub returns-in-None : goal.returns-in-None
returns-in-None c = rw c.in-None.is (λ said is. no_phase (watched register_accesses) c.args.asking.now (tables_of said.space.memory said.rsdp) said.osi (first_watch c.args.asking.now.evaluation said.space))

pub returns-in-Ok : goal.returns-in-Ok
returns-in-Ok c =
    rw c.in-Some.is (of_all (machine_text c.args.text.now) c.in-Ok.said c.stage_said.result (λ said stage. IsStageIn (watched register_accesses) (Some c.in-Some.phase) c.args.asking.now (tables_of said.space.memory said.rsdp) said.osi (first_watch c.args.asking.now.evaluation said.space) stage)
    (c.in-Ok.ensures.is tt) c.stage_said.ensures)

pub returns-in-Err : goal.returns-in-Err
returns-in-Err c =
    rw c.in-Some.is (of_refused c.in-Err.refusal (machine_text c.args.text.now) c.no_stage.result (λ said stage. IsStageIn (watched register_accesses) (Some c.in-Some.phase) c.args.asking.now (tables_of said.space.memory said.rsdp) said.osi (first_watch c.args.asking.now.evaluation said.space) stage)
    c.in-Err.ensures.is c.no_stage.ensures.other)
