-- How the run of a machine ends.
use Rattle.std.proofs.Common.{◌≡◌, ◌≢◌, ◌∙◌, ap, refl, subst, sym}
use Rattle.std.specs.Prelude.{ℕ, List, Option, Some, None, Ok, Err, map}
use Rattle.ar_space.specs.Accesses.{Accesses}
use Rattle.ar_space.specs.Change.{Change, Does, settle, go_on, ◌>>=◌}
use Rattle.ar_space.specs.Outcome.{Outcome}
use Rattle.ar_space.specs.declared.refusal.Refusal.{Refusal}
use Rattle.ar_space.specs.declared.refusal.Refusal.TheVariants.{OutOfMemory}
use Rattle.ar_tables.specs.declared.mode.Mode.{Mode}
use Rattle.aml_path.specs.declared.segment.Seg.{Seg}
use Rattle.aml_path.specs.Text.{path_of_text}
use Rattle.acpi_machine.specs.Calls.{initialized, evaluated_object}
use Rattle.acpi_machine.specs.MachineStates.{MachineState, machine_of}
use Rattle.acpi_configure.specs.Options.{RunOptions}
use Rattle.route_report.specs.Reports.{RoutingReport}
use Rattle.acpi_explain.specs.Ends.{IsRouteEnd, IsEvalEnd}
use Rattle.acpi_explain.specs.declared.end.End.TheVariants as ended
use Rattle.acpi_explain.specs.declared.told.Phase.{Phase}
use Rattle.ar_tables.specs.declared.tables.Tables.{Tables}
use Rattle.aml_world.specs.state.Given.{Given}
use Rattle.aml_world.specs.state.State.{State}
use Rattle.acpiroute_shell.specs.declared.request.Asking.{Asking}
use Rattle.acpiroute_shell.specs.declared.request.Question.{Question}
use Rattle.acpiroute_shell.specs.declared.request.Question.TheVariants.{Route, Eval}
use Rattle.acpiroute_shell.specs.declared.arguments.Argument.{Argument}
use Rattle.acpiroute_lib.specs.EvalCommand.{given_argument}
use Rattle.acpiroute_lib.specs.RunEnds.{dropped, after_loading, started, asks, evaluates, loaded_over, run_of, IsRouted, IsAskedBy, IsQuestionEnd, IsMachineEnd, IsEnd}
use Rattle.acpiroute_lib.specs.declared.run_end.RunEnd.{RunEnd}
use Rattle.acpiroute_lib.specs.declared.run_end.RunEnd.TheVariants.{Refused, Done}

module _ {S : Type 0} (accesses : Accesses S) (mode : Mode) where
  -- initializing is refused
  pub stopped : {e : Refusal} (m after : MachineState S) (k : Change (MachineState S) (Unit {0})) → (e ≢ OutOfMemory → initialized accesses mode m ≡ (Err e, after)) → e ≢ OutOfMemory → started accesses mode k m ≡ (Err e, after)
  unfolding ◌>>=◌ go_on
  stopped m after k h ne = rw (h ne) refl

  pub stopped_here : {e : Refusal} (m after : MachineState S) (k : Change (MachineState S) (Unit {0})) → Does {A = Unit {0}} (Err e) after (initialized accesses mode) m → e ≢ OutOfMemory → started accesses mode k m ≡ (Err e, after)
  stopped_here m after k h ne = stopped m after k h.is ne

  -- the machine is initialized, and then refused
  pub refused : {A : Type 0} {e : Refusal} (m after : MachineState S) (f : Change (MachineState S) A)
      → (e ≢ OutOfMemory → (ready : MachineState S) × ((initialized accesses mode m ≡ (Ok tt, ready)) × (f ready ≡ (Err e, after)))) → e ≢ OutOfMemory → started accesses mode (λ s. dropped (f s)) m ≡ (Err e, after)
  unfolding ◌>>=◌ go_on
  refused m after f h ne = let r = h ne in rw r.1.0 (ap dropped r.1.1)

  pub answered : {A : Type 0} (m after : MachineState S) (f : Change (MachineState S) A)
      → (ready : MachineState S) × ((initialized accesses mode m ≡ (Ok tt, ready)) × ((value : A) × (f ready ≡ (Ok value, after)))) → started accesses mode (λ s. dropped (f s)) m ≡ (Ok tt, after)
  unfolding ◌>>=◌ go_on
  answered m after f h = rw h.1.0 (ap dropped h.1.1.1)

  -- an evaluation has no report
  pub evaluation_done : (path : List Seg) (arguments : List Given) (m after : MachineState S) (report : Option RoutingReport) → IsEvalEnd accesses mode path arguments m after (ended.Done report)
      → (ready : MachineState S) × ((initialized accesses mode m ≡ (Ok tt, ready)) × ((value : Given) × (evaluated_object accesses path arguments ready ≡ (Ok value, after))))
  evaluation_done path arguments m after (Some report) h = absurd h
  evaluation_done path arguments m after None h = h

  pub unnamed : (m after : MachineState S) (x : Refusal) → Does (Ok tt) after (initialized accesses mode) m → started accesses mode (λ s. (Err x, s)) m ≡ (Err x, after)
  unfolding ◌>>=◌ go_on
  unnamed m after x h = rw (h.is tt) refl

  -- ---- the text of a path

  same_run : (m : MachineState S) (k l : Change (MachineState S) (Unit {0})) → ((s : MachineState S) → k s ≡ l s) → started accesses mode k m ≡ started accesses mode l m
  unfolding ◌>>=◌ go_on
  same_run m k l same = same_on (initialized accesses mode m).0
    where
      same_on : (r : Outcome (Unit {0})) → go_on r (initialized accesses mode m).1 (λ _. k) ≡ go_on r (initialized accesses mode m).1 (λ _. l)
      same_on (Ok u) = same (initialized accesses mode m).1
      same_on (Err e) = refl

  asked_too : (m after : MachineState S) (k l : Change (MachineState S) (Unit {0})) (end : RunEnd) → started accesses mode k m ≡ started accesses mode l m → IsAskedBy accesses mode l end m after → IsAskedBy accesses mode k end m after
  asked_too m after k l (Refused phase e) same h = λ ne. same ∙ h ne
  asked_too m after k l (Done None) same h = same ∙ h
  asked_too m after k l (Done (Some report)) same h = absurd h

  evaluates_named : (path : List ℕ) (arguments : List Argument) (p : List Seg) (given : List Given) (s : MachineState S) → path_of_text path ≡ Ok p → given ≡ map given_argument arguments
      → dropped (evaluates accesses path arguments s) ≡ dropped (evaluated_object accesses p given s)
  unfolding evaluates settle ◌>>=◌ go_on
  evaluates_named path arguments p given s is same = rw (is, same) refl

  pub named : (m after : MachineState S) (path : List ℕ) (arguments : List Argument) (p : List Seg) (given : List Given) (end : RunEnd) → path_of_text path ≡ Ok p → given ≡ map given_argument arguments
      → IsAskedBy accesses mode (λ s. dropped (evaluated_object accesses p given s)) end m after → IsAskedBy accesses mode (λ s. dropped (evaluates accesses path arguments s)) end m after
  named m after path arguments p given end is same h =
      asked_too m after (λ s. dropped (evaluates accesses path arguments s)) (λ s. dropped (evaluated_object accesses p given s)) end
      (same_run m (λ s. dropped (evaluates accesses path arguments s)) (λ s. dropped (evaluated_object accesses p given s)) (λ s. evaluates_named path arguments p given s is same)) h

  evaluates_no_name : (path : List ℕ) (arguments : List Argument) (x : Refusal) (s : MachineState S) → path_of_text path ≡ Err x → dropped (evaluates accesses path arguments s) ≡ (Err x, s)
  unfolding evaluates settle ◌>>=◌ go_on
  evaluates_no_name path arguments x s is = rw is refl

  abbrev says : Refusal → Change (MachineState S) (Unit {0})
  says x s = (Err x, s)

  abbrev evaluates_it : List ℕ → List Argument → Change (MachineState S) (Unit {0})
  evaluates_it path arguments s = dropped (evaluates accesses path arguments s)

  -- a refusal that is none of memory is the first one of both
  bad_name_refused : (m after : MachineState S) (path : List ℕ) (arguments : List Argument) (x e : Refusal) → (x ≢ OutOfMemory → path_of_text path ≡ Err x) → e ≢ OutOfMemory
      → started accesses mode (says x) m ≡ (Err e, after) → started accesses mode (evaluates_it path arguments) m ≡ (Err e, after)
  unfolding ◌>>=◌ go_on
  bad_name_refused m after path arguments x e is ne h = same_on (initialized accesses mode m).0 h
    where
      same_on : (r : Outcome (Unit {0})) → go_on r (initialized accesses mode m).1 (λ _. says x) ≡ (Err e, after) → go_on r (initialized accesses mode m).1 (λ _. evaluates_it path arguments) ≡ (Err e, after)
      same_on (Ok u) p = let v : Err x ≡ Err e = ap (λ q. q.0) p in let w : x ≡ e = cc v in evaluates_no_name path arguments x (initialized accesses mode m).1 (is (λ q. ne (sym w ∙ q))) ∙ p
      same_on (Err y) p = p

  never_done : (m after : MachineState S) (x : Refusal) → started accesses mode (says x) m ≡ (Ok (tt {0}), after) → ⊥
  unfolding ◌>>=◌ go_on
  never_done m after x h = never (initialized accesses mode m).0 h
    where
      never : (r : Outcome (Unit {0})) → go_on r (initialized accesses mode m).1 (λ _. says x) ≡ (Ok (tt {0}), after) → ⊥
      never (Ok u) p = let v : Err x ≡ Ok (tt {0}) = ap (λ q. q.0) p in cc v
      never (Err y) p = let v : Err y ≡ Ok (tt {0}) = ap (λ q. q.0) p in cc v

  pub bad_name : (m after : MachineState S) (path : List ℕ) (arguments : List Argument) (x : Refusal) (end : RunEnd) → (x ≢ OutOfMemory → path_of_text path ≡ Err x)
      → IsAskedBy accesses mode (λ s. (Err x, s)) end m after → IsAskedBy accesses mode (λ s. dropped (evaluates accesses path arguments s)) end m after
  bad_name m after path arguments x (Refused phase e) is h = λ ne. bad_name_refused m after path arguments x e is ne (h ne)
  bad_name m after path arguments x (Done None) is h = absurd (never_done m after x h)
  bad_name m after path arguments x (Done (Some report)) is h = absurd h

-- ---- tables, loaded over a register space

-- the answer, and the register space that is left
abbrev space_left : {S A : Type 0} → Outcome A × MachineState S → Outcome A × S
space_left r = (r.0, r.1.world.space)

-- what is asked refuses so
by_question : {S : Type 0} (accesses : Accesses S) (q : Asking) (phase : Option Phase) (e : Refusal) (m after : MachineState S) → IsMachineEnd accesses q (Refused phase e) m after → e ≢ OutOfMemory
    → started accesses q.mode (asks accesses q.question) m ≡ (Err e, after)
by_question accesses q phase e m after h ne = go q.question h
  where
    go : (x : Question) → IsQuestionEnd accesses q.mode x (Refused phase e) m after → started accesses q.mode (asks accesses x) m ≡ (Err e, after)
    go (Route avoid flags) i = i ne
    go (Eval path arguments) i = i ne

module _ {S : Type 0} (accesses : Accesses S) (q : Asking) where
  from_machine : (k : Change (MachineState S) (Unit {0})) (t : Tables) (o : Outcome (Unit {0})) (w : State S) (m after : MachineState S) (e : Refusal) → o ≡ Ok tt → m ≡ machine_of t q.evaluation.steps w → k m ≡ (Err e, after)
      → after_loading k t q.evaluation.steps o w ≡ (Err e, after.world.space)
  from_machine k t o w m after e is same h = rw is (ap space_left (ap k (sym same) ∙ h))

  from_loading : (k : Change (MachineState S) (Unit {0})) (t : Tables) (o : Outcome (Unit {0})) (w : State S) (left : S) (e : Refusal) → o ≡ Err e → w.space ≡ left → after_loading k t q.evaluation.steps o w ≡ (Err e, left)
  from_loading k t o w left e is at = rw is (ap (λ s. (Err e, s)) at)

  pub machine_ended : (end : RunEnd) (t : Tables) (osi : List (List ℕ)) (before : S) (m after : MachineState S) → loaded_over accesses q t osi before ≡ (Ok tt, m.world) → m ≡ machine_of t q.evaluation.steps m.world
      → IsMachineEnd accesses q end m after → IsEnd accesses q end (Ok t) osi before after.world.space
  machine_ended (Refused phase e) t osi before m after is same h = λ ne.
      rw is (from_machine (started accesses q.mode (asks accesses q.question)) t (Ok tt) m.world m after e refl same (by_question accesses q phase e m after h ne))
  machine_ended (Done report) t osi before m after is same h = record {
    loaded = m.world;
    is_loaded = is;
    after = after;
    ended = subst (λ x. IsMachineEnd accesses q (Done report) x after) same h;
    is_left = refl;
  }

  pub loading_ended : (phase : Option Phase) (e : Refusal) (t : Tables) (osi : List (List ℕ)) (before left : S) → (e ≢ OutOfMemory → (loaded_over accesses q t osi before).0 ≡ Err e) → (e ≢ OutOfMemory → (loaded_over accesses q t osi before).1.space ≡ left)
      → IsEnd accesses q (Refused phase e) (Ok t) osi before left
  loading_ended phase e t osi before left is at = λ ne.
      from_loading (started accesses q.mode (asks accesses q.question)) t (loaded_over accesses q t osi before).0 (loaded_over accesses q t osi before).1 left e (is ne) (at ne)

  pub finding_ended : (phase : Option Phase) (e : Refusal) (tables : Outcome Tables) (osi : List (List ℕ)) (before : S) → (e ≢ OutOfMemory → tables ≡ Err e) → IsEnd accesses q (Refused phase e) tables osi before before
  finding_ended phase e tables osi before is = λ ne. ap (λ t. run_of accesses q t osi before) (is ne)

-- ---- the ends of runs that acpi_explain tells

module _ {S : Type 0} (accesses : Accesses S) (mode : Mode) where
  pub routed : (m after : MachineState S) (o : RunOptions) (report : Option RoutingReport) → IsRouteEnd accesses mode o m after (ended.Done report) → IsRouted accesses mode o (Done report) m after
  routed m after o None h = absurd h
  routed m after o (Some report) h = h
