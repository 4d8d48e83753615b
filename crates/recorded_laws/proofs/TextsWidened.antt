-- What the commands answer over a machine text, in the core profile and in the wide one.
use Rattle.std.specs.Prelude.{◌≡◌, ◌⊎◌, ℕ, List, map, Ok, Err, refl}
use Rattle.std.proofs.Common.{inl, inr, sym, subst, ap, ◌∙◌}
use Rattle.ar_space.specs.Outcome.{Outcome, seen, ◌>>=◌}
use Rattle.ar_tables.specs.declared.mode.Mode.{Mode}
use Rattle.ar_tables.specs.declared.tables.Tables.{Tables}
use Rattle.ar_tables.specs.FindTables.{tables_of}
use Rattle.aml_path.specs.declared.segment.Seg.{Seg}
use Rattle.aml_path.specs.Text.{path_of_text}
use Rattle.aml_world.specs.state.Given.{Given}
use Rattle.aml_world.specs.state.State.{State}
use Rattle.aml_world.specs.state.Predefined.{fresh_as}
use Rattle.aml_laws.specs.Widened.{widened, IsLeftOut, IsLeftOutAt}
use Rattle.acpi_machine.specs.Calls.{evaluated_object, initialized}
use Rattle.acpi_machine.specs.Loading.{loaded_tables}
use Rattle.acpi_machine.specs.MachineStates.{MachineState}
use Rattle.acpi_configure.specs.Options.{RunOptions}
use Rattle.machine_text.specs.MachineText.{machine_text}
use Rattle.acpiroute_shell.specs.Written.{Written}
use Rattle.acpiroute_shell.specs.declared.arguments.Argument.{Argument}
use Rattle.acpiroute_shell.specs.declared.request.Evaluation.{Evaluation}
use Rattle.acpiroute_lib.specs.EvalCommand.{given_argument, value_at, value_written, evaluated_text, eval_answer}
use Rattle.acpiroute_lib.specs.Machines.{Registers, register_accesses, registers_of, machine_left, machine_with, machine_of_text, initialized_left, initialized_machine, machine_of_text_in}
use Rattle.acpiroute_lib.specs.NamesCommand.{names_of_machine, names_answer}
use Rattle.machine_laws.specs.Widened.{machine_widened, call_widened}
use Rattle.machine_laws.proofs.MachinesWidened.{tables_widened, initialization_widened, object_widened}
use Rattle.machine_laws.proofs.TellingWidened.{report_for_kernels_widened}
use Rattle.recorded_laws.specs.Widened.{evaluation_widened, IsWholeReport}

-- a value is nothing that is left out or passed over
value_stands : {A : Type 0} (a : A) → IsLeftOutAt {A = A} 0 (Ok a) → ⊥
value_stands a (inl out) = out
value_stands a (inr out) = out.1

-- the machine is refused for what the core profile leaves out or the wide one passes over, or it is the same in the wide profile
abbrev MachineWidens : Outcome (MachineState Registers) → Outcome (MachineState Registers) → Type 0
MachineWidens r q = IsLeftOutAt 0 r ⊎ (q ≡ seen machine_widened r)

-- so is an answer
abbrev AnswerWidens : {A : Type 0} → Outcome A → Outcome A → Type 0
AnswerWidens r q = IsLeftOutAt 0 r ⊎ (q ≡ r)

-- ---- the machine

behind_same : {A : Type 0} (x : Outcome A) (k l : A → Outcome (MachineState Registers)) → ((a : A) → MachineWidens (k a) (l a)) → MachineWidens (x >>= k) (x >>= l)
unfolding ◌>>=◌
behind_same (Ok a) k l h = h a
behind_same (Err e) k l h = inr refl

loading_left_out : (t : Tables) (steps : ℕ) (r : Outcome (Unit {0})) (w : State Registers) → IsLeftOutAt 0 r → IsLeftOutAt 0 (machine_left t steps w r)
loading_left_out t steps (Ok u) w out = absurd (value_stands u out)
loading_left_out t steps (Err e) w out = out

loading_widens : (t : Tables) (steps : ℕ) (r : Outcome (Unit {0})) (w : State Registers) → machine_left t steps (widened w) r ≡ seen machine_widened (machine_left t steps w r)
loading_widens t steps (Ok u) w = refl
loading_widens t steps (Err e) w = refl

loaded_widens : (t : Tables) (steps : ℕ) (p q : Outcome (Unit {0}) × State Registers) → IsLeftOutAt 0 p.0 ⊎ (q ≡ (p.0, widened p.1)) → MachineWidens (machine_left t steps p.1 p.0) (machine_left t steps q.1 q.0)
loaded_widens t steps p q (inl out) = inl (loading_left_out t steps p.0 p.1 out)
loaded_widens t steps p q (inr same) = inr (ap (λ (x : Outcome (Unit {0}) × State Registers). machine_left t steps x.1 x.0) same ∙ loading_widens t steps p.0 p.1)

machine_with_widens : (evaluation : Evaluation) (t : Tables) (space : Registers) (osi : List (List ℕ)) → MachineWidens (machine_with evaluation t space osi) (machine_with (evaluation_widened evaluation) t space osi)
unfolding machine_with
machine_with_widens evaluation t space osi =
    let w = fresh_as evaluation.settings t.width osi space in
    loaded_widens t evaluation.steps (loaded_tables register_accesses t evaluation.steps osi w) (loaded_tables register_accesses t evaluation.steps osi (widened w)) (tables_widened register_accesses t evaluation.steps osi w)

machine_of_text_widens : (evaluation : Evaluation) (text : List ℕ) → MachineWidens (machine_of_text evaluation text) (machine_of_text (evaluation_widened evaluation) text)
unfolding machine_of_text
machine_of_text_widens evaluation text =
    behind_same (machine_text text) (λ m. tables_of m.space.memory m.rsdp >>= (λ t. machine_with evaluation t (registers_of evaluation m.space) m.osi)) (λ m. tables_of m.space.memory m.rsdp >>= (λ t. machine_with (evaluation_widened evaluation) t (registers_of evaluation m.space) m.osi))
    (λ m. behind_same (tables_of m.space.memory m.rsdp) (λ t. machine_with evaluation t (registers_of evaluation m.space) m.osi) (λ t. machine_with (evaluation_widened evaluation) t (registers_of evaluation m.space) m.osi) (λ t. machine_with_widens evaluation t (registers_of evaluation m.space) m.osi))

initial_left_out : (r : Outcome (Unit {0})) (m : MachineState Registers) → IsLeftOutAt 0 r → IsLeftOutAt 0 (initialized_left m r)
initial_left_out (Ok u) m out = absurd (value_stands u out)
initial_left_out (Err e) m out = out

initial_widens : (r : Outcome (Unit {0})) (m : MachineState Registers) → initialized_left (machine_widened m) r ≡ seen machine_widened (initialized_left m r)
initial_widens (Ok u) m = refl
initial_widens (Err e) m = refl

calls_widen : (p q : Outcome (Unit {0}) × MachineState Registers) → IsLeftOutAt 0 p.0 ⊎ (q ≡ call_widened p) → MachineWidens (initialized_left p.1 p.0) (initialized_left q.1 q.0)
calls_widen p q (inl out) = inl (initial_left_out p.0 p.1 out)
calls_widen p q (inr same) = inr (ap (λ (x : Outcome (Unit {0}) × MachineState Registers). initialized_left x.1 x.0) same ∙ initial_widens p.0 p.1)

initialized_widens : (mode : Mode) (m : MachineState Registers) → MachineWidens (initialized_machine mode m) (initialized_machine mode (machine_widened m))
unfolding initialized_machine
initialized_widens mode m = calls_widen (initialized register_accesses mode m) (initialized register_accesses mode (machine_widened m)) (initialization_widened register_accesses mode m)

behind_machine : (mode : Mode) (r q : Outcome (MachineState Registers)) → MachineWidens r q → MachineWidens (r >>= initialized_machine mode) (q >>= initialized_machine mode)
unfolding ◌>>=◌
behind_machine mode (Ok m) q (inl out) = absurd (value_stands m out)
behind_machine mode (Err e) q (inl out) = inl out
behind_machine mode (Ok m) q (inr same) = subst (λ (x : Outcome (MachineState Registers)). MachineWidens (initialized_machine mode m) (x >>= initialized_machine mode)) (sym same) (initialized_widens mode m)
behind_machine mode (Err e) q (inr same) = inr (ap (λ (x : Outcome (MachineState Registers)). x >>= initialized_machine mode) same)

machine_of_text_in_widens : (mode : Mode) (evaluation : Evaluation) (text : List ℕ) → MachineWidens (machine_of_text_in mode evaluation text) (machine_of_text_in mode (evaluation_widened evaluation) text)
unfolding machine_of_text_in
machine_of_text_in_widens mode evaluation text = behind_machine mode (machine_of_text evaluation text) (machine_of_text (evaluation_widened evaluation) text) (machine_of_text_widens evaluation text)

-- ---- names, and objects that are evaluated

answer_of_machine : (k : MachineState Registers → Outcome Written) → ((m : MachineState Registers) → AnswerWidens (k m) (k (machine_widened m))) → (r q : Outcome (MachineState Registers)) → MachineWidens r q → AnswerWidens (r >>= k) (q >>= k)
unfolding ◌>>=◌
answer_of_machine k h (Ok m) q (inl out) = absurd (value_stands m out)
answer_of_machine k h (Err e) q (inl out) = inl out
answer_of_machine k h (Ok m) q (inr same) = subst (λ (x : Outcome (MachineState Registers)). AnswerWidens (k m) (x >>= k)) (sym same) (h m)
answer_of_machine k h (Err e) q (inr same) = inr (ap (λ (x : Outcome (MachineState Registers)). x >>= k) same)

pub names_widen : (evaluation : Evaluation) (text : List ℕ) → IsLeftOutAt 0 (names_answer evaluation text) ⊎ (names_answer (evaluation_widened evaluation) text ≡ names_answer evaluation text)
unfolding names_answer
names_widen evaluation text = answer_of_machine (λ m. Ok (names_of_machine m)) (λ m. inr refl) (machine_of_text evaluation text) (machine_of_text (evaluation_widened evaluation) text) (machine_of_text_widens evaluation text)

value_widens : (p q : Outcome Given × MachineState Registers) → IsLeftOut p.0 ⊎ (q ≡ call_widened p) → AnswerWidens p.0 q.0
value_widens p q (inl out) = inl (inl out)
value_widens p q (inr same) = inr (ap (λ (x : Outcome Given × MachineState Registers). x.0) same)

written_widens : (r q : Outcome Given) → AnswerWidens r q → AnswerWidens {A = Written} (r >>= (λ value. Ok (value_written value))) (q >>= (λ value. Ok (value_written value)))
unfolding ◌>>=◌
written_widens (Ok value) q (inl out) = absurd (value_stands value out)
written_widens (Err e) q (inl out) = inl out
written_widens r q (inr same) = inr (ap (λ (x : Outcome Given). x >>= (λ value. Ok (value_written value))) same)

value_at_widens : (path : Outcome (List Seg)) (arguments : List Argument) (m : MachineState Registers)
    → AnswerWidens {A = Written} (path >>= (λ p. value_at m p (map given_argument arguments) >>= (λ value. Ok (value_written value)))) (path >>= (λ p. value_at (machine_widened m) p (map given_argument arguments) >>= (λ value. Ok (value_written value))))
unfolding ◌>>=◌ value_at
value_at_widens (Ok p) arguments m =
    let given = map given_argument arguments in
    written_widens (evaluated_object register_accesses p given m).0 (evaluated_object register_accesses p given (machine_widened m)).0
    (value_widens (evaluated_object register_accesses p given m) (evaluated_object register_accesses p given (machine_widened m)) (object_widened register_accesses p given m))
value_at_widens (Err e) arguments m = inr refl

pub eval_widens : (mode : Mode) (evaluation : Evaluation) (path : List ℕ) (arguments : List Argument) (text : List ℕ)
    → IsLeftOutAt 0 (eval_answer mode evaluation path arguments text) ⊎ (eval_answer mode (evaluation_widened evaluation) path arguments text ≡ eval_answer mode evaluation path arguments text)
unfolding eval_answer evaluated_text
eval_widens mode evaluation path arguments text =
    answer_of_machine (λ m. evaluated_text m path arguments) (λ m. value_at_widens (path_of_text path) arguments m) (machine_of_text_in mode evaluation text) (machine_of_text_in mode (evaluation_widened evaluation) text) (machine_of_text_in_widens mode evaluation text)

-- ---- routes

route_of_machine : (o : RunOptions) (w : Written) (m : MachineState Registers) → IsWholeReport o (Ok m) w → IsWholeReport o (Ok (machine_widened m)) w
route_of_machine o w m (is, whole) = (
  record {
    report = is.report;
    after = machine_widened is.after;
    is_report = report_for_kernels_widened register_accesses o m is.after is.report whole is.is_report;
    is_text = is.is_text;
    is_read_back = is.is_read_back;
    is_checked = is.is_checked;
  },
  whole,
)

route_of : (o : RunOptions) (w : Written) (r q : Outcome (MachineState Registers)) → IsWholeReport o r w → MachineWidens r q → IsWholeReport o q w
route_of o w (Err e) q is h = absurd is
route_of o w (Ok m) q is (inl out) = absurd (value_stands m out)
route_of o w (Ok m) q is (inr same) = subst (λ (x : Outcome (MachineState Registers)). IsWholeReport o x w) (sym same) (route_of_machine o w m is)

pub route_widens : (mode : Mode) (evaluation : Evaluation) (o : RunOptions) (text : List ℕ) (w : Written) → IsWholeReport o (machine_of_text_in mode evaluation text) w → IsWholeReport o (machine_of_text_in mode (evaluation_widened evaluation) text) w
route_widens mode evaluation o text w is = route_of o w (machine_of_text_in mode evaluation text) (machine_of_text_in mode (evaluation_widened evaluation) text) is (machine_of_text_in_widens mode evaluation text)

pub ruleset widening = (route_widens, names_widen, eval_widens)
