use Rattle.acpiroute_lib.proofs.refused_stage.stage_in.Goals as goal

pub returns-in-Loading : goal.returns-in-Loading
returns-in-Loading g c = rw c.in-Loading.is c.table_stage.ensures

pub returns-in-Initializing : goal.returns-in-Initializing
returns-in-Initializing g c = rw c.in-Initializing.is c.call_stage.ensures

pub returns-in-Running : goal.returns-in-Running
returns-in-Running g c = rw c.in-Running.is c.asked_stage.ensures
