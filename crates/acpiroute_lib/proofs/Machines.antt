-- Machines that are initialized.
use Rattle.std.proofs.Common.{◌≡◌, ◌∙◌, refl}
use Rattle.std.specs.Prelude.{Ok, Err, IsErr, IsErrAnd}
use Rattle.ar_space.specs.declared.refusal.Refusal.{Refusal}
use Rattle.ar_space.specs.Change.{Does}
use Rattle.ar_space.specs.Outcome.{Outcome, Answers}
use Rattle.acpi_machine.specs.Calls.{initialized}
use Rattle.acpi_machine.specs.MachineStates.{MachineState}
use Rattle.ar_tables.specs.declared.mode.Mode.{Mode}
use Rattle.acpiroute_lib.specs.Machines.{Registers, register_accesses, initialized_machine}

pub initialized_ok : {u : Unit {0}} {m after : MachineState Registers} (mode : Mode) → Does (Ok u) after (initialized register_accesses mode) m → Answers (Ok after) (initialized_machine mode m)
unfolding initialized_machine
initialized_ok mode h = record { is = λ _. rw (h.is tt) refl }

pub initialized_err : {e : Refusal} {m after : MachineState Registers} {r : Outcome (MachineState Registers)} (mode : Mode) → Does (Err e) after (initialized register_accesses mode) m → IsErr r × IsErrAnd r (λ x. x ≡ e)
    → Answers r (initialized_machine mode m)
unfolding initialized_machine
initialized_err {r = Ok x} mode h i = absurd (cc i.0)
initialized_err {r = Err x} mode h i = record { is = λ ne. rw (h.is (λ q. ne (i.1 ∙ q)), i.1) refl }

pub ruleset initializing = (initialized_ok, initialized_err)
