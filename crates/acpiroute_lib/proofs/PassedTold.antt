-- What is told of what was passed over.
use Rattle.std.proofs.Common.{◌≡◌, ◌≢◌, ◌∙◌, ◌++◌, ap, sym, ℕ, List}
use Rattle.std.proofs.lemmas.List.{append-nil}
use Rattle.std.specs.Prelude.{Ok, Err}
use Rattle.ar_space.specs.declared.refusal.Refusal.{Refusal}
use Rattle.ar_space.specs.declared.refusal.Refusal.TheVariants.{OutOfMemory}
use Rattle.ar_space.specs.Change.{Does}
use Rattle.ar_space.specs.Outcome.{Outcome, NotMemory, Answers, ◌>>=◌}
use Rattle.ar_tables.specs.declared.mode.Mode.{Mode}
use Rattle.ar_tables.specs.declared.tables.Tables.{Tables}
use Rattle.ar_tables.specs.FindTables.{tables_of}
use Rattle.machine_text.specs.MachineText.{machine_text}
use Rattle.machine_text.specs.declared.machine_lines.MachineText.{MachineText}
use Rattle.aml_world.specs.state.PassedOver.{PassedOver, nothing_passed}
use Rattle.aml_world.specs.state.Predefined.{fresh_as}
use Rattle.aml_world.specs.state.State.{State}
use Rattle.acpi_machine.specs.Calls.{initialized}
use Rattle.acpi_machine.specs.Loading.{loaded_tables}
use Rattle.acpi_machine.specs.MachineStates.{MachineState, machine_of}
use Rattle.acpiroute_shell.specs.declared.request.Evaluation.{Evaluation}
use Rattle.acpiroute_shell.specs.PassedLines.{passed_lines}
use Rattle.acpiroute_lib.specs.Machines.{Registers, register_accesses, registers_of, machine_left, machine_with, machine_of_text}
use Rattle.acpiroute_lib.specs.Passed.{tables_passed, found_passed, said_passed, loading_passed, machine_passed, run_passed}

-- nothing is told
nothing_told : (told : List ℕ) (p : PassedOver) → p ≡ nothing_passed → told ≡ told ++ passed_lines p
nothing_told told p is = rw is (sym (append-nil told))

-- ---- loading

pub text_refused : {e : Refusal} (evaluation : Evaluation) (text told : List ℕ) → Answers {A = MachineText} (Err e) (machine_text text) → e ≢ OutOfMemory → told ≡ told ++ passed_lines (loading_passed evaluation text)
text_refused evaluation text told h ne = nothing_told told _ (ap (said_passed evaluation) (h.is ne))

pub tables_refused : {e : Refusal} (evaluation : Evaluation) (text told : List ℕ) (m : MachineText) → Answers (Ok m) (machine_text text) → Answers {A = Tables} (Err e) (tables_of m.space.memory m.rsdp) → e ≢ OutOfMemory → told ≡ told ++ passed_lines (loading_passed evaluation text)
tables_refused evaluation text told m h i ne = nothing_told told _ (ap (said_passed evaluation) (h.is tt) ∙ ap (λ t. found_passed evaluation t (registers_of evaluation m.space) m.osi) (i.is ne))

pub loading_refused : (evaluation : Evaluation) (text told old : List ℕ) (m : MachineText) (t : Tables) → Answers (Ok m) (machine_text text) → Answers (Ok t) (tables_of m.space.memory m.rsdp) → told ≡ old ++ passed_lines (tables_passed evaluation t (registers_of evaluation m.space) m.osi)
    → told ≡ old ++ passed_lines (loading_passed evaluation text)
loading_refused evaluation text told old m t h i is = is ∙ ap (λ p. old ++ passed_lines p) (sym (ap (said_passed evaluation) (h.is tt) ∙ ap (λ r. found_passed evaluation r (registers_of evaluation m.space) m.osi) (i.is tt)))

-- ---- initializing

pub initializing_told : (mode : Mode) (r : Outcome (Unit {0})) (m after : MachineState Registers) (told old : List ℕ) → Does r after (initialized register_accesses mode) m → told ≡ old ++ passed_lines after.world.passed → NotMemory r
    → told ≡ old ++ passed_lines (initialized register_accesses mode m).1.world.passed
initializing_told mode r m after told old h is ne = is ∙ ap (λ p. old ++ passed_lines p) (sym (ap (λ p. p.1.world.passed) (h.is ne)))

-- ---- a run

pub run_refused : {e : Refusal} (mode : Mode) (evaluation : Evaluation) (text told old : List ℕ) → Answers {A = MachineState Registers} (Err e) (machine_of_text evaluation text) → e ≢ OutOfMemory → told ≡ old ++ passed_lines (loading_passed evaluation text)
    → told ≡ old ++ passed_lines (run_passed mode evaluation text)
run_refused mode evaluation text told old h ne is = is ∙ ap (λ p. old ++ passed_lines p) (sym (ap (machine_passed mode (loading_passed evaluation text)) (h.is ne)))

pub run_told : (mode : Mode) (evaluation : Evaluation) (text told old : List ℕ) (m : MachineState Registers) → Answers (Ok m) (machine_of_text evaluation text) → told ≡ old ++ passed_lines (initialized register_accesses mode m).1.world.passed
    → told ≡ old ++ passed_lines (run_passed mode evaluation text)
run_told mode evaluation text told old m h is = is ∙ ap (λ p. old ++ passed_lines p) (sym (ap (machine_passed mode (loading_passed evaluation text)) (h.is tt)))

-- ---- a machine whose tables are loaded

left_passed : (t : Tables) (steps : ℕ) (r : Outcome (Unit {0})) (w : State Registers) (m : MachineState Registers) → machine_left t steps w r ≡ Ok m → w.passed ≡ m.world.passed
left_passed t steps (Ok u) w m is = let same : machine_of t steps w ≡ m = cc is in ap (λ (x : MachineState Registers). x.world.passed) same
left_passed t steps (Err e) w m is = absurd (cc is)

found_so : (evaluation : Evaluation) (x : Outcome Tables) (space : Registers) (osi : List (List ℕ)) (m : MachineState Registers) → (x >>= (λ t. machine_with evaluation t space osi)) ≡ Ok m → found_passed evaluation x space osi ≡ m.world.passed
unfolding machine_with ◌>>=◌
found_so evaluation (Ok t) space osi m is =
    left_passed t evaluation.steps (loaded_tables register_accesses t evaluation.steps osi (fresh_as evaluation.settings t.width osi space)).0 (loaded_tables register_accesses t evaluation.steps osi (fresh_as evaluation.settings t.width osi space)).1 m is
found_so evaluation (Err e) space osi m is = absurd (cc is)

said_so : (evaluation : Evaluation) (x : Outcome MachineText) (m : MachineState Registers) → (x >>= (λ s. tables_of s.space.memory s.rsdp >>= (λ t. machine_with evaluation t (registers_of evaluation s.space) s.osi))) ≡ Ok m → said_passed evaluation x ≡ m.world.passed
unfolding ◌>>=◌
said_so evaluation (Ok s) m is = found_so evaluation (tables_of s.space.memory s.rsdp) (registers_of evaluation s.space) s.osi m is
said_so evaluation (Err e) m is = absurd (cc is)

loaded_so : (evaluation : Evaluation) (text : List ℕ) (m : MachineState Registers) → machine_of_text evaluation text ≡ Ok m → loading_passed evaluation text ≡ m.world.passed
unfolding machine_of_text
loaded_so evaluation text m is = said_so evaluation (machine_text text) m is

pub names_told : (evaluation : Evaluation) (text told one old : List ℕ) (m : MachineState Registers) → Answers (Ok m) (machine_of_text evaluation text) → one ≡ old → told ≡ one ++ passed_lines m.world.passed
    → told ≡ old ++ passed_lines (loading_passed evaluation text)
names_told evaluation text told one old m h same is = is ∙ (ap (λ t. t ++ passed_lines m.world.passed) same ∙ ap (λ p. old ++ passed_lines p) (sym (loaded_so evaluation text m (h.is tt))))
