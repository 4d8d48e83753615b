use Rattle.acpiroute_shell.proofs.Faults.{faults_of_app, named}
use Rattle.acpiroute_shell.proofs.command_line.matches.Goals as goal

pub returns-clause-ok : goal.returns-clause-ok
returns-clause-ok c = named _ _ c.try_get_matches_from.result c.in_ok-command.ensures c.try_get_matches_from.ensures.matches

pub returns-clause-faults : goal.returns-clause-faults
returns-clause-faults c = faults_of_app _ _ c.try_get_matches_from.result c.in_ok-command.ensures c.try_get_matches_from.ensures.kinds
