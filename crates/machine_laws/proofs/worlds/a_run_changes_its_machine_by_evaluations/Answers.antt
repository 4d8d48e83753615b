use Rattle.machine_laws.proofs.RunsEvaluate.{routing_table_only, possible_only, current_only, setting_only, gathered_only, report_only, report_with_only}
use Rattle.machine_laws.proofs.worlds.a_run_changes_its_machine_by_evaluations.Goals as goal

pub returns-clause-routing_table : goal.returns-clause-routing_table
returns-clause-routing_table g c = routing_table_only

pub returns-clause-possible : goal.returns-clause-possible
returns-clause-possible g c = possible_only

pub returns-clause-current : goal.returns-clause-current
returns-clause-current g c = current_only

pub returns-clause-setting : goal.returns-clause-setting
returns-clause-setting g c = setting_only

pub returns-clause-gathering : goal.returns-clause-gathering
returns-clause-gathering g c = gathered_only

pub returns-clause-report : goal.returns-clause-report
returns-clause-report g c = report_only

pub returns-clause-with_options : goal.returns-clause-with_options
returns-clause-with_options g c = report_with_only
