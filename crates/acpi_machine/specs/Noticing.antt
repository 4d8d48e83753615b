-- Want of memory is noticed: the machine answers no further call.
use Rattle.std.specs.Prelude.{Bool, true, false, Ok, Err, if◌then◌else◌}
use Rattle.ar_space.specs.declared.refusal.Refusal.{Refusal}
use Rattle.ar_space.specs.declared.refusal.Refusal.TheVariants as refusal
use Rattle.ar_space.specs.Outcome.{Outcome}
use Rattle.acpi_machine.specs.MachineStates.{MachineState}

abbrev pub is_memory : Refusal → Bool
is_memory refusal.OutOfMemory = true
is_memory (refusal.Space f) = false
is_memory (refusal.Table f) = false
is_memory (refusal.Name f) = false
is_memory (refusal.Term f n) = false
is_memory (refusal.Value f) = false
is_memory (refusal.Field f) = false
is_memory (refusal.Namespace f) = false
is_memory (refusal.Evaluation f) = false
is_memory (refusal.Machine f) = false
is_memory (refusal.Resource f) = false
is_memory (refusal.RoutingTable f) = false
is_memory (refusal.Routing f) = false
is_memory (refusal.Report f) = false
is_memory (refusal.Input f) = false

abbrev pub ran_out : {A : Type 0} → Outcome A → Bool
ran_out (Ok a) = false
ran_out (Err e) = is_memory e

-- a machine after a call of this outcome
abbrev pub noticed : {S A : Type 0} → Outcome A → MachineState S → MachineState S
noticed r s = if ran_out r then record s { spent = true } else s
