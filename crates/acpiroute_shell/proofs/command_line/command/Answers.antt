use Rattle.acpiroute_shell.specs.CommandLine.{bare_app, route_app, why_app, names_app, eval_app, check_app}
use Rattle.acpiroute_shell.proofs.Added.{added, added_last}
use Rattle.acpiroute_shell.proofs.command_line.command.Goals as goal

pub returns : goal.returns
returns c =
    let one = added bare_app route_app c.in_ok-subcommand.ensures c.bare_command.ensures.app c.in_ok-route_command.ensures.app c.in_ok-route_command.ensures.local in
    let two = added _ why_app c.in_ok-subcommand-2.ensures one c.in_ok-why_command.ensures.app c.in_ok-why_command.ensures.local in
    let three = added _ names_app c.in_ok-subcommand-3.ensures two c.in_ok-names_command.ensures.app c.in_ok-names_command.ensures.local in
    let four = added _ eval_app c.in_ok-subcommand-4.ensures three c.in_ok-eval_command.ensures.app c.in_ok-eval_command.ensures.local in
    added_last _ _ _ check_app c.subcommand-5.result c.subcommand-5.ensures four c.check_command.ensures.app c.check_command.ensures.local
