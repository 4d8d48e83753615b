use Rattle.std.proofs.Common.{sym, ap, inr, ◌∙◌}
use Rattle.std.specs.Prelude.{◌≡◌, true, false}
use Rattle.aml_world.specs.state.Given.{given_of}
use Rattle.acpi_machine.specs.Calls.{evaluated_object}
use Rattle.acpi_machine.proofs.Stopping.{made}
use Rattle.acpi_machine.specs.MachineStates.{MachineState}
use Rattle.acpi_machine.proofs.Noticed.{does_spent, does_unspent}
use Rattle.acpi_machine.proofs.machine.Machine.evaluate_object.Goals as goal

pub returns-then-self-clause-evaluated : goal.returns-then-self-clause-evaluated
unfolding evaluated_object
returns-then-self-clause-evaluated g c =
    let spent : c.args.self.now.spent ≡ true = sym (ap (λ (s : MachineState g.row.S.Denot). s.spent) c.self.view_is) ∙ c.if-self.true in
    record { is = inr (ap (λ x. x.1) ((does_spent _ c.args.self.now spent).is (λ q. cc q))) }

pub returns-clause-evaluated : goal.returns-clause-evaluated
unfolding evaluated_object
returns-clause-evaluated g c =
    let unspent : c.args.self.now.spent ≡ false = sym (ap (λ (s : MachineState g.row.S.Denot). s.spent) c.self.view_is) ∙ c.if-self.false in
    made (evaluated_object g.S.Space.accesses c.args.path.now _) c.args.self.now c.answer_noticed.result given_of (does_unspent _ c.args.self.now unspent c.answer_noticed.ensures.answer) c.answer_noticed.ensures.memory unspent
