use Rattle.std.proofs.Common.{sym, ap, inr, ◌∙◌}
use Rattle.std.specs.Prelude.{◌≡◌, true, false}
use Rattle.acpi_machine.specs.Buses.{bus_found}
use Rattle.acpi_machine.specs.MachineStates.{MachineState}
use Rattle.acpi_machine.proofs.Stopping.{made_plain}
use Rattle.acpi_machine.proofs.Noticed.{does_spent, does_unspent}
use Rattle.acpi_machine.proofs.machine.Machine.find_bus.Goals as goal

pub returns-then-self-clause-evaluated : goal.returns-then-self-clause-evaluated
unfolding bus_found
returns-then-self-clause-evaluated g c =
    let spent : c.args.self.now.spent ≡ true = sym (ap (λ (s : MachineState g.row.S.Denot). s.spent) c.self.view_is) ∙ c.if-self.true in
    record { is = inr (ap (λ x. x.1) ((does_spent _ c.args.self.now spent).is (λ q. cc q))) }

pub returns-clause-evaluated : goal.returns-clause-evaluated
unfolding bus_found
returns-clause-evaluated g c =
    let unspent : c.args.self.now.spent ≡ false = sym (ap (λ (s : MachineState g.row.S.Denot). s.spent) c.self.view_is) ∙ c.if-self.false in
    made_plain (bus_found g.S.Space.accesses c.args.device.now) c.args.self.now c.bus_noticed.result (does_unspent _ c.args.self.now unspent c.bus_noticed.ensures.answer) c.bus_noticed.ensures.memory unspent
