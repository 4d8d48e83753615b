-- How it is noticed that memory ran out.
use Rattle.std.specs.Prelude.{◌≡◌, ℕ, List, Bool, true, false, Ok, Err, IfErr, if◌then◌else◌}
use Rattle.std.proofs.Common.{refl, ◌∙◌, ap}
use Rattle.ar_space.specs.declared.refusal.Refusal.TheVariants as refusal
use Rattle.ar_space.specs.Outcome.{Outcome, NotMemory, seen}
use Rattle.ar_space.specs.Accesses.{Accesses}
use Rattle.ar_space.specs.Change.{Change, Does, stop}
use Rattle.ar_space.specs.declared.refusal.MachineFault.TheVariants.{Spent}
use Rattle.ar_tables.specs.declared.tables.Tables.{Tables}
use Rattle.aml_path.specs.declared.segment.Seg.{Seg}
use Rattle.aml_world.specs.state.State.{State}
use Rattle.aml_world.specs.state.Given.{Given}
use Rattle.aml_meaning.specs.Calling.{answered, ending, with_steps}
use Rattle.ar_tables.specs.declared.mode.Mode.{Mode}
use Rattle.acpi_machine.specs.Calls.{on_world, object_answered, unless_spent}
use Rattle.acpi_machine.specs.MachineStates.{MachineState}
use Rattle.acpi_machine.specs.declared.buses.PciBus.{PciBus}
use Rattle.acpi_machine.specs.Buses.{bus_of_table, bus_answered}
use Rattle.acpi_machine.specs.Noticing.{noticed, ran_out}

not_memory : {A : Type 0} (r : Outcome A) → NotMemory r → ran_out r ≡ false
not_memory (Ok a) ne = refl
not_memory (Err refusal.OutOfMemory) ne = absurd (ne refl)
not_memory (Err (refusal.Space f)) ne = refl
not_memory (Err (refusal.Table f)) ne = refl
not_memory (Err (refusal.Name f)) ne = refl
not_memory (Err (refusal.Term f n)) ne = refl
not_memory (Err (refusal.Value f)) ne = refl
not_memory (Err (refusal.Field f)) ne = refl
not_memory (Err (refusal.Namespace f)) ne = refl
not_memory (Err (refusal.Evaluation f)) ne = refl
not_memory (Err (refusal.Machine f)) ne = refl
not_memory (Err (refusal.Resource f)) ne = refl
not_memory (Err (refusal.RoutingTable f)) ne = refl
not_memory (Err (refusal.Routing f)) ne = refl
not_memory (Err (refusal.Report f)) ne = refl
not_memory (Err (refusal.Input f)) ne = refl

as_it_was : {S A : Type 0} (r : Outcome A) (s : MachineState S) → NotMemory r → noticed r s ≡ s
as_it_was r s ne = rw (not_memory r ne) refl

pub does_noticed : {S A : Type 0} {r : Outcome A} {mid after : MachineState S} (m : Change (MachineState S) A) (s : MachineState S) → after ≡ noticed r mid → Does r mid m s → Does r after m s
does_noticed {r = r} {mid = mid} m s e d = record { is = λ ne. rw (e, as_it_was r mid ne) (d.is ne) }

-- the same, where the value is seen by a view
not_seen : {A B : Type 0} (view : A → B) (r : Outcome A) → NotMemory (seen view r) → NotMemory r
not_seen view (Ok a) ne = tt
not_seen view (Err e) ne = ne

pub does_seen_noticed : {S A B : Type 0} {mid after : MachineState S} (r : Outcome A) (view : A → B) (m : Change (MachineState S) B) (s : MachineState S) → after ≡ noticed r mid → Does (seen view r) mid m s → Does (seen view r) after m s
does_seen_noticed {mid = mid} r view m s e d = record { is = λ ne. rw (e, as_it_was r mid (not_seen view r ne)) (d.is ne) }

-- after want of memory the machine is spent
pub spent_now : {S A : Type 0} {after : MachineState S} (r : Outcome A) (mid : MachineState S) → after ≡ noticed r mid → IfErr r (λ e. e ≡ refusal.OutOfMemory → after.spent ≡ true)
spent_now (Ok a) mid e = tt
spent_now (Err x) mid e = λ is. rw e (rw is refl)

pub ruleset noticing = (does_noticed, does_seen_noticed, spent_now)

pub object_changed : {S : Type 0} {r : Outcome Given} (accesses : Accesses S) (w w1 : State S) (t : Tables) (mode : Mode) (n : ℕ) (b : Bool) (p : List Seg) (arguments : List Given) (s : MachineState S)
    → record { world = w; tables = t; mode = mode; steps = n; spent = b } ≡ s → Does r w1 (answered accesses p arguments n) w → Does r (record { world = w1; tables = t; mode = mode; steps = n; spent = b }) (object_answered accesses p arguments) s
unfolding object_answered on_world
object_changed accesses w w1 t mode n b p arguments s e h = record { is = λ ne. rw (← e, h.is ne) refl }

pub bus_changed : {S : Type 0} {r : Outcome PciBus} (accesses : Accesses S) (w w1 : State S) (t : Tables) (mode : Mode) (n : ℕ) (b : Bool) (device : List Seg) (s : MachineState S) → record { world = w; tables = t; mode = mode; steps = n; spent = b } ≡ s
    → Does r w1 (ending (with_steps n (bus_of_table accesses device))) w → Does r (record { world = w1; tables = t; mode = mode; steps = n; spent = b }) (bus_answered accesses device) s
unfolding bus_answered on_world
bus_changed accesses w w1 t mode n b device s e h = record { is = λ ne. rw (← e, h.is ne) refl }

pub ruleset worlds = (object_changed, bus_changed)

pub does_spent : {S A : Type 0} (m : Change (MachineState S) A) (s : MachineState S) → s.spent ≡ true → Does (Err (refusal.Machine Spent)) s (unless_spent m) s
unfolding unless_spent stop
does_spent m s e = record { is = λ _. rw e refl }

unspent_is : {S A : Type 0} (m : Change (MachineState S) A) (s : MachineState S) → s.spent ≡ false → unless_spent m s ≡ m s
unfolding unless_spent
unspent_is m s e = ap (λ b. if b then stop (refusal.Machine Spent) s else m s) e

pub does_unspent : {S A : Type 0} {r : Outcome A} {after : MachineState S} (m : Change (MachineState S) A) (s : MachineState S) → s.spent ≡ false → Does r after m s → Does r after (unless_spent m) s
does_unspent m s e d = record { is = λ ne. unspent_is m s e ∙ d.is ne }

pub ruleset spending = (does_spent, does_unspent)
