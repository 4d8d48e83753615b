use Rattle.std.specs.Prelude.{Some}
use Rattle.acpi_machine.specs.Calls.{evaluated_object}
use Rattle.acpi_machine.specs.Children.{some_answer}
use Rattle.acpi_machine.proofs.Stopping.{all_made, made_given}
use Rattle.acpi_machine.proofs.machine.Machine.some_answer.Goals as goal

pub returns-in_err-answer-clause-evaluated : goal.returns-in_err-answer-clause-evaluated
unfolding some_answer
returns-in_err-answer-clause-evaluated g c = made_given (evaluated_object g.S.Space.accesses c.args.path.now _) (λ a. Some a) (all_made c.in_err-answer.ensures.evaluated)

pub returns-clause-evaluated : goal.returns-clause-evaluated
unfolding some_answer
returns-clause-evaluated g c = made_given (evaluated_object g.S.Space.accesses c.args.path.now _) (λ a. Some a) (all_made c.in_ok-answer.ensures.evaluated)
