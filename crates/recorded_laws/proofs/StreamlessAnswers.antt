-- What the commands answer is no fault of a reader or a writer.
use Rattle.std.specs.Prelude.{◌≡◌, ℕ, Bool, true, false, List, [], ◌∷◌, ◌++◌, Option, Ok, Err}
use Rattle.std.proofs.Common.{sym, subst}
use Rattle.ar_space.specs.Change.{Change, give, settle, go_on, ◌>>=◌}
use Rattle.ar_space.specs.Outcome.{Outcome}
use Rattle.ar_tables.specs.declared.mode.Mode.{Mode}
use Rattle.ar_tables.specs.declared.tables.Tables.{Tables}
use Rattle.aml_path.specs.declared.segment.Seg.{Seg}
use Rattle.aml_world.specs.state.Given as given
use Rattle.aml_world.specs.state.Predefined.{fresh_as}
use Rattle.aml_world.specs.state.State.{State}
use Rattle.acpi_machine.specs.MachineStates.{MachineState, sci_of}
use Rattle.acpi_links.specs.Folds.{folded}
use Rattle.acpi_links.specs.Gatherings.{Gathering, gathered}
use Rattle.acpi_links.specs.Links.{PresentLink}
use Rattle.acpi_links.specs.Sparing.{all_left, avoiding}
use Rattle.acpi_configure.specs.Options.{RunOptions}
use Rattle.acpi_configure.specs.Others.{other_devices, device_asked, others_asked, barred_if}
use Rattle.acpi_configure.specs.Settling.{attempted}
use Rattle.acpi_configure.specs.WithOptions.{narrowed, found_by}
use Rattle.route_model.specs.Avoided.{are_all_avoided}
use Rattle.route_report.specs.Reports.{ReportedAfter}
use Rattle.aml_laws.proofs.CleanOutcomes.{Clean, if_clean}
use Rattle.acpiroute_shell.specs.declared.arguments.Argument.{Argument}
use Rattle.acpiroute_shell.specs.declared.request.Evaluation.{Evaluation}
use Rattle.acpiroute_shell.specs.declared.request.Request.{Request}
use Rattle.acpiroute_shell.specs.declared.request.Request.TheVariants as request
use Rattle.acpiroute_shell.specs.CheckCommand.{Verdict, check_answer, IsCheckAnswer}
use Rattle.acpiroute_shell.specs.Written.{Written}
use Rattle.acpiroute_lib.specs.Commands.{IsAnswer}
use Rattle.acpiroute_lib.specs.EvalCommand.{value_at, evaluated_text, eval_answer}
use Rattle.acpiroute_lib.specs.Machines.{Registers, register_accesses, registers_of, machine_left, machine_with, machine_of_text, initialized_left, initialized_machine, machine_of_text_in}
use Rattle.acpiroute_lib.specs.NamesCommand.{names_answer}
use Rattle.acpiroute_lib.specs.RouteCommand.{IsRouted, IsRoutedOn}
use Rattle.acpiroute_lib.specs.WhyCommand.{IsWhyAnswer, IsRegistersAnswer}
use Rattle.acpiroute_shell.specs.declared.request.Asking.{Asking}
use Rattle.ar_space.specs.declared.refusal.Refusal.{Refusal}
use Rattle.machine_text.specs.MachineText.{machine_text}
use Rattle.machine_laws.proofs.FaultsOfCalls.{evaluated_object_explains, initialized_explains}
use Rattle.machine_laws.proofs.FaultsOfLinks.{gathered_explains}
use Rattle.machine_laws.proofs.FaultsOfLoading.{loaded_tables_explains}
use Rattle.recorded_laws.proofs.CleanReports.{path_of_text_clean, claim_of_text_clean}
use Rattle.recorded_laws.proofs.CleanTables.{tables_of_clean}
use Rattle.recorded_laws.proofs.CleanTexts.{machine_text_clean}
use Rattle.recorded_laws.proofs.Streamless.{OfNoStream, Streamless, clean_streamless, explained_streamless, followed_streamless, refused_streamless}

-- ---- machines

left_streamless : (t : Tables) (steps : ℕ) (w : State Registers) (r : Outcome (Unit {0})) → Streamless r → Streamless (machine_left t steps w r)
left_streamless t steps w (Ok u) h = tt
left_streamless t steps w (Err e) h = h

machine_with_streamless : (evaluation : Evaluation) (t : Tables) (space : Registers) (osi : List (List ℕ)) → Streamless (machine_with evaluation t space osi)
unfolding machine_with
machine_with_streamless evaluation t space osi =
    left_streamless t evaluation.steps _ _ (explained_streamless register_accesses _ _ _ ((loaded_tables_explains register_accesses t evaluation.steps osi).explained (fresh_as evaluation.settings t.width osi space)))

machine_of_text_streamless : (evaluation : Evaluation) (text : List ℕ) → Streamless (machine_of_text evaluation text)
unfolding machine_of_text
machine_of_text_streamless evaluation text =
    followed_streamless _ _ (clean_streamless _ (machine_text_clean text)) (λ m. followed_streamless _ _ (clean_streamless _ (tables_of_clean m.space.memory m.rsdp)) (λ t. machine_with_streamless evaluation t (registers_of evaluation m.space) m.osi))

initialized_left_streamless : (m : MachineState Registers) (r : Outcome (Unit {0})) → Streamless r → Streamless (initialized_left m r)
initialized_left_streamless m (Ok u) h = tt
initialized_left_streamless m (Err e) h = h

initialized_streamless : (mode : Mode) (m : MachineState Registers) → Streamless (initialized_machine mode m)
unfolding initialized_machine
initialized_streamless mode m = initialized_left_streamless _ _ (explained_streamless register_accesses _ _ _ ((initialized_explains register_accesses mode).explained m))

machine_of_text_in_streamless : (mode : Mode) (evaluation : Evaluation) (text : List ℕ) → Streamless (machine_of_text_in mode evaluation text)
unfolding machine_of_text_in
machine_of_text_in_streamless mode evaluation text = followed_streamless _ _ (machine_of_text_streamless evaluation text) (initialized_streamless mode)

-- ---- the commands

-- devices that are asked refuse nothing, since their refusals are told
asked_streamless : (list : List (List Seg)) (done : List ReportedAfter) (m : MachineState Registers) → Streamless (folded (λ done line. done ++ line ∷ []) (device_asked register_accesses) list done m).0
unfolding folded device_asked attempted give ◌>>=◌ go_on
asked_streamless [] done m = tt
asked_streamless (device ∷ list) done m = asked_streamless list _ _

others_streamless : (spare : Bool) (links : List PresentLink) (m : MachineState Registers) → Streamless (others_asked register_accesses spare links m).0
unfolding others_asked
others_streamless true links m = asked_streamless (other_devices links m) [] m
others_streamless false links m = tt

all_left_clean : (avoid : List ℕ) (links : List PresentLink) → Clean (all_left avoid links)
unfolding all_left
all_left_clean avoid [] = tt
all_left_clean avoid (l ∷ ls) = if_clean (are_all_avoided avoid l.1.numbers) _ _ tt (all_left_clean avoid ls)

narrowed_streamless : (spare : Bool) (barred : List ℕ) (sci : Option ℕ) (g : Gathering) → Streamless (narrowed spare barred sci g)
unfolding avoiding
narrowed_streamless true barred sci g = followed_streamless _ _ (clean_streamless _ (all_left_clean barred g.links)) (λ u. tt)
narrowed_streamless false barred sci g = tt

-- one change after another
then_streamless : {A B : Type 0} (x : Outcome A) (t : MachineState Registers) (k : A → Change (MachineState Registers) B) → Streamless x → ((a : A) (u : MachineState Registers) → Streamless (k a u).0) → Streamless (go_on x t k).0
unfolding go_on
then_streamless (Ok a) t k h all = all a t
then_streamless (Err e) t k h all = h

found_streamless : (o : RunOptions) (sci : Option ℕ) (m : MachineState Registers) → Streamless (found_by register_accesses o sci m).0
unfolding found_by ◌>>=◌ settle give
found_streamless o sci m =
    then_streamless (gathered register_accesses o.avoid m).0 (gathered register_accesses o.avoid m).1 _ (explained_streamless register_accesses _ _ _ ((gathered_explains o.avoid).explained m)) (λ first u.
    then_streamless (others_asked register_accesses o.spare first.links u).0 (others_asked register_accesses o.spare first.links u).1 _ (others_streamless o.spare first.links u) (λ asked v.
    then_streamless (narrowed o.spare (barred_if o.spare o.avoid asked) sci first) v _ (narrowed_streamless o.spare (barred_if o.spare o.avoid asked) sci first) (λ g w. tt)))

routed_streamless : (o : RunOptions) (m : MachineState Registers) (r : Outcome Written) → IsRouted o m r → Streamless r
routed_streamless o m (Ok w) is = tt
routed_streamless o m (Err e) is = refused_streamless (found_by register_accesses o (sci_of m) m).0 e is (found_streamless o (sci_of m) m)

routed_on_streamless : (o : RunOptions) (x : Outcome (MachineState Registers)) (r : Outcome Written) → Streamless x → IsRoutedOn o x r → Streamless r
routed_on_streamless o (Ok m) r h is = routed_streamless o m r is
routed_on_streamless o (Err e) r h is = subst (λ (y : Outcome Written). Streamless y) (sym is) h

names_streamless : (evaluation : Evaluation) (text : List ℕ) → Streamless (names_answer evaluation text)
unfolding names_answer
names_streamless evaluation text = followed_streamless _ _ (machine_of_text_streamless evaluation text) (λ m. tt)

value_streamless : (m : MachineState Registers) (path : List Seg) (arguments : List given.Given) → Streamless (value_at m path arguments)
unfolding value_at
value_streamless m path arguments = explained_streamless register_accesses _ _ _ ((evaluated_object_explains register_accesses path arguments).explained m)

evaluated_streamless : (m : MachineState Registers) (path : List ℕ) (arguments : List Argument) → Streamless (evaluated_text m path arguments)
unfolding evaluated_text
evaluated_streamless m path arguments = followed_streamless _ _ (clean_streamless _ (path_of_text_clean path)) (λ p. followed_streamless _ _ (value_streamless m p _) (λ value. tt))

eval_streamless : (mode : Mode) (evaluation : Evaluation) (path : List ℕ) (arguments : List Argument) (text : List ℕ) → Streamless (eval_answer mode evaluation path arguments text)
unfolding eval_answer
eval_streamless mode evaluation path arguments text = followed_streamless _ _ (machine_of_text_in_streamless mode evaluation text) (λ m. evaluated_streamless m path arguments)

check_streamless : (verdict : Verdict) (report : List ℕ) → Streamless (check_answer verdict report)
unfolding check_answer
check_streamless verdict report = followed_streamless _ _ (clean_streamless _ (claim_of_text_clean report)) (λ claim. tt)

checked_streamless : (report : List ℕ) (r : Outcome Written) → IsCheckAnswer report r → Streamless r
checked_streamless report r (verdict, is, same) = subst (λ (y : Outcome Written). Streamless y) (sym same) (check_streamless verdict report)

-- `why` answers the refusal of the machine text, and no other
text_streamless : (text : List ℕ) (e : Refusal) → machine_text text ≡ Err e → OfNoStream e
text_streamless text e is = refused_streamless (machine_text text) e is (clean_streamless _ (machine_text_clean text))

why_streamless : (asking : Asking) (text : List ℕ) (r : Outcome Written) → IsWhyAnswer asking text r → Streamless r
why_streamless asking text (Ok w) is = tt
why_streamless asking text (Err e) is = text_streamless text e is

registers_streamless : (asking : Asking) (text : List ℕ) (r : Outcome Written) → IsRegistersAnswer asking text r → Streamless r
registers_streamless asking text (Ok w) is = tt
registers_streamless asking text (Err e) is = text_streamless text e is

pub answer_streamless : (q : Request) (input : List ℕ) (r : Outcome Written) → IsAnswer q input r → Streamless r
answer_streamless (request.Route mode evaluation avoid flags) input r is = routed_on_streamless _ _ r (machine_of_text_in_streamless mode evaluation input) is
answer_streamless (request.Why asking) input r is = why_streamless asking input r is
answer_streamless (request.Registers asking) input r is = registers_streamless asking input r is
answer_streamless (request.Names evaluation) input r is = subst (λ (y : Outcome Written). Streamless y) is (names_streamless evaluation input)
answer_streamless (request.Eval mode evaluation path arguments) input r is = subst (λ (y : Outcome Written). Streamless y) is (eval_streamless mode evaluation path arguments input)
answer_streamless request.Check input r is = checked_streamless input r is
