use Rattle.acpiroute_lib.proofs.PassedTold.{names_told}
use Rattle.acpiroute_lib.proofs.names_command.names_answer.Goals as goal

pub returns-clause-told : goal.returns-clause-told
returns-clause-told c = λ ne.
    names_told c.args.evaluation c.args.text.items c.names_of_machine-names.new.told.items c.machine_of_text.new.told.items c.args.told.now.items c.in_ok-machine.machine c.in_ok-machine.ensures.answer c.in_ok-machine.ensures.ready
    (c.names_of_machine-names.ensures.told ne)
