-- The stage at which a run is refused, from its phase and what a second run found.
use Rattle.std.proofs.Common.{◌≡◌, ◌≢◌, ◌∙◌, ap, refl, subst, sym, inl, inr}
use Rattle.std.specs.Prelude.{ℕ, false, List, Option, Some, None, Ok, Err, Result, IfOk}
use Rattle.ar_space.specs.Accesses.{Accesses}
use Rattle.ar_space.specs.Change.{go_on, ◌>>=◌}
use Rattle.ar_space.specs.Outcome.{Outcome, seen}
use Rattle.ar_space.specs.declared.refusal.Refusal.{Refusal}
use Rattle.ar_space.specs.declared.refusal.Refusal.TheVariants.{OutOfMemory}
use Rattle.ar_tables.specs.declared.tables.Tables.{Tables}
use Rattle.aml_path.specs.declared.segment.Seg.{Seg}
use Rattle.aml_path.specs.Text.{path_of_text}
use Rattle.aml_world.specs.state.State.{State}
use Rattle.acpi_machine.specs.Calls.{initialized}
use Rattle.acpi_machine.specs.MachineStates.{MachineState, machine_of, sci_of}
use Rattle.acpi_configure.specs.Options.{RunOptions}
use Rattle.acpi_configure.specs.WithOptions.{Findings, found_by}
use Rattle.acpi_explain.specs.Stages.{IsTable, IsTableRefused, IsCall, IsCallRefused, IsStage}
use Rattle.acpi_explain.specs.declared.stage.Stage.{Stage}
use Rattle.acpi_explain.specs.declared.stage.Stage.TheVariants as stages
use Rattle.acpi_explain.specs.declared.told.Phase.{Phase}
use Rattle.acpi_explain.specs.declared.told.Phase.TheVariants as phases
use Rattle.acpi_explain.proofs.Spared.{finding_stage}
use Rattle.acpiroute_shell.specs.declared.arguments.Argument.{Argument}
use Rattle.acpiroute_shell.specs.declared.request.Asking.{Asking}
use Rattle.acpiroute_shell.specs.declared.request.Flags.{Flags}
use Rattle.acpiroute_shell.specs.declared.request.Question.{Question}
use Rattle.acpiroute_shell.specs.declared.request.Question.TheVariants.{Route, Eval}
use Rattle.acpiroute_lib.specs.RunEnds.{options_of, dropped, after_loading, finds, asks, started, loaded_over}
use Rattle.acpiroute_lib.specs.WhyStages.{named_phase, asked_phase, started_phase, machine_phase, loaded_phase, run_phase, IsNamedStage, IsLoadingStage, IsCallingStage, IsAskedStage, IsStartedStage, IsMachineStage, IsLoadedStage, IsStageIn}

-- ---- phases that differ

named_not_loading : (x : Outcome (List Seg)) → Some phases.Loading ≡ named_phase x → ⊥
named_not_loading (Ok p) h = absurd (cc h)
named_not_loading (Err e) h = absurd (cc h)

asked_not_loading : (x : Question) → Some phases.Loading ≡ asked_phase x → ⊥
asked_not_loading (Route avoid flags) h = absurd (cc h)
asked_not_loading (Eval path arguments) h = named_not_loading (path_of_text path) h

named_not_initializing : (x : Outcome (List Seg)) → Some phases.Initializing ≡ named_phase x → ⊥
named_not_initializing (Ok p) h = absurd (cc h)
named_not_initializing (Err e) h = absurd (cc h)

asked_not_initializing : (x : Question) → Some phases.Initializing ≡ asked_phase x → ⊥
asked_not_initializing (Route avoid flags) h = absurd (cc h)
asked_not_initializing (Eval path arguments) h = named_not_initializing (path_of_text path) h

-- ---- what is found of a machine whose tables are loaded

module _ {S : Type 0} (accesses : Accesses S) (q : Asking) where
  pub call_refused : (m : MachineState S) (path : List Seg) (found : Option (List Seg)) → found ≡ Some path → (m.spent ≡ false → IsCall accesses q.mode m found) → (e : Refusal) (after : MachineState S) → m.spent ≡ false → initialized accesses q.mode m ≡ (Err e, after)
      → IsCallingStage accesses q m e (Some (stages.Calling path))
  call_refused m path found same h e after spent is =
      let at : IsCallRefused accesses q.mode m path = subst (λ f. IsCall accesses q.mode m f) same (h spent) in
      let both : ◌≡◌ {A = Outcome (Unit {0})} (Err at.refusal) (Err e) = ap (λ (p : Outcome (Unit {0}) × MachineState S). p.0) (sym at.is_run ∙ is) in
      (path, refl, at, cc both)

  pub no_call_refused : (m : MachineState S) (found : Option (List Seg)) (stage : Option Stage) → found ≡ None → (m.spent ≡ false → IsCall accesses q.mode m found) → (e : Refusal) (after : MachineState S) → m.spent ≡ false → initialized accesses q.mode m ≡ (Err e, after)
      → IsCallingStage accesses q m e stage
  no_call_refused m found stage same h e after spent is =
      let all : IsCall accesses q.mode m None = subst (λ f. IsCall accesses q.mode m f) same (h spent) in
      let never : ◌≡◌ {A = Outcome (Unit {0})} (Ok tt) (Err e) = ap (λ (p : Outcome (Unit {0}) × MachineState S). p.0) (sym all.1 ∙ is) in
      absurd (cc never)

module _ {S : Type 0} (accesses : Accesses S) (q : Asking) (t : Tables) (osi : List (List ℕ)) (before : S) where
  abbrev machine_in : State S → MachineState S
  machine_in w = machine_of t q.evaluation.steps w

  -- an answer, and the register space that is left
  abbrev left_of : Outcome (Unit {0}) × MachineState S → Outcome (Unit {0}) × S
  left_of r = (r.0, r.1.world.space)

  -- ---- by what the run comes to, in its phase

  record Found (phase : Option Phase) (stage : Option Stage) : Type 0 where
    loading : (x : Refusal) (w : State S) → loaded_over accesses q t osi before ≡ (Err x, w) → phase ≡ Some phases.Loading → IsLoadingStage accesses q t osi before x stage
    calling : (x : Refusal) (w : State S) (s : MachineState S) → loaded_over accesses q t osi before ≡ (Ok tt, w) → initialized accesses q.mode (machine_in w) ≡ (Err x, s) → phase ≡ Some phases.Initializing
        → IsCallingStage accesses q (machine_in w) x stage
    asked : (w : State S) (ready : MachineState S) (e : Refusal) (left : S) → loaded_over accesses q t osi before ≡ (Ok tt, w) → initialized accesses q.mode (machine_in w) ≡ (Ok tt, ready) → phase ≡ asked_phase q.question
        → left_of (asks accesses q.question ready) ≡ (Err e, left) → IsAskedStage accesses q.question ready e stage

  same_refusal : (x e : Refusal) (s t : S) → ◌≡◌ {A = Outcome (Unit {0}) × S} (Err x, s) (Err e, t) → x ≡ e
  same_refusal x e s t h = let same : ◌≡◌ {A = Outcome (Unit {0})} (Err x) (Err e) = ap (λ p. p.0) h in cc same

  by_started : (phase : Option Phase) (stage : Option Stage) → Found phase stage → (w : State S) → loaded_over accesses q t osi before ≡ (Ok tt, w) → (e : Refusal) (left : S) → phase ≡ machine_phase accesses q (machine_in w)
      → left_of (started accesses q.mode (asks accesses q.question) (machine_in w)) ≡ (Err e, left) → IsMachineStage accesses q (machine_in w) e stage
  unfolding ◌>>=◌ go_on
  by_started phase stage f w is e left p r = by (initialized accesses q.mode (machine_in w)).0 (initialized accesses q.mode (machine_in w)).1 refl p r
    where
      by : (o : Outcome (Unit {0})) (s : MachineState S) → initialized accesses q.mode (machine_in w) ≡ (o, s) → phase ≡ started_phase (asked_phase q.question) o → left_of (go_on o s (λ _. asks accesses q.question)) ≡ (Err e, left)
          → IsStartedStage accesses q (machine_in w) o s e stage
      by (Ok u) s i p r = f.asked w s e left is i p r
      by (Err x) s i p r = subst (λ y. IsCallingStage accesses q (machine_in w) y stage) (same_refusal x e s.world.space left r) (f.calling x w s is i p)

  found_stage : (phase : Option Phase) (stage : Option Stage) → Found phase stage → IsStageIn accesses phase q (Ok t) osi before stage
  found_stage phase stage f = λ e left p r. by (loaded_over accesses q t osi before).0 (loaded_over accesses q t osi before).1 refl e left p r
    where
      by : (o : Outcome (Unit {0})) (w : State S) → loaded_over accesses q t osi before ≡ (o, w) → (e : Refusal) (left : S) → phase ≡ loaded_phase accesses q t o w
          → after_loading (started accesses q.mode (asks accesses q.question)) t q.evaluation.steps o w ≡ (Err e, left) → IsLoadedStage accesses q t osi before o w e stage
      by (Ok u) w is e left p r = by_started phase stage f w is e left p r
      by (Err x) w is e left p r = subst (λ y. IsLoadingStage accesses q t osi before y stage) (same_refusal x e w.space left r) (f.loading x w is p)

  -- ---- loading

  table_told : (stage : Option Stage) → ((x : Refusal) (w : State S) → loaded_over accesses q t osi before ≡ (Err x, w) → IsLoadingStage accesses q t osi before x stage) → IsStageIn accesses (Some phases.Loading) q (Ok t) osi before stage
  table_told stage h = found_stage (Some phases.Loading) stage (record {
    loading = λ x w is p. h x w is;
    calling = λ x w s is i p. absurd (cc p);
    asked = λ w ready e left is i p r. absurd (asked_not_loading q.question p);
  })

  same_world_refusal : (x y : Refusal) (w v : State S) → ◌≡◌ {A = Outcome (Unit {0}) × State S} (Err x, w) (Err y, v) → x ≡ y
  same_world_refusal x y w v h = let same : ◌≡◌ {A = Outcome (Unit {0})} (Err x) (Err y) = ap (λ p. p.0) h in cc same

  pub table_refused : (n : ℕ) (found : Option ℕ) → found ≡ Some n → IsTable accesses q.evaluation.settings t q.evaluation.steps osi before found → IsStageIn accesses (Some phases.Loading) q (Ok t) osi before (Some (stages.Loading n))
  table_refused n found same h =
      let at : IsTableRefused accesses q.evaluation.settings t q.evaluation.steps osi before n = subst (λ f. IsTable accesses q.evaluation.settings t q.evaluation.steps osi before f) same h in
      table_told (Some (stages.Loading n)) (λ x w is. inl (n, refl, at, same_world_refusal at.refusal x at.after w (sym at.is_run ∙ is)))

  pub none_refused : (found : Option ℕ) → found ≡ None → IsTable accesses q.evaluation.settings t q.evaluation.steps osi before found → IsStageIn accesses (Some phases.Loading) q (Ok t) osi before None
  none_refused found same h =
      let at : IsTable accesses q.evaluation.settings t q.evaluation.steps osi before None = subst (λ f. IsTable accesses q.evaluation.settings t q.evaluation.steps osi before f) same h in
      table_told None (λ x w is. inr (
        refl,
        λ few.
            let all = at few in
            let never : ◌≡◌ {A = Outcome (Unit {0})} (Ok tt) (Err x) = ap (λ (p : Outcome (Unit {0}) × State S). p.0) (sym all.1 ∙ is) in
            absurd (cc never),
      ))

  -- ---- where the tables are loaded

  same_world : (w v : State S) → loaded_over accesses q t osi before ≡ (Ok tt, w) → loaded_over accesses q t osi before ≡ (Ok tt, v) → v ≡ w
  same_world w v h i = ap (λ (p : Outcome (Unit {0}) × State S). p.1) (sym i ∙ h)

  -- a machine whose tables are loaded is that of the run
  same_machine : (m : MachineState S) (w : State S) → loaded_over accesses q t osi before ≡ (Ok tt, m.world) → m ≡ machine_of t q.evaluation.steps m.world → loaded_over accesses q t osi before ≡ (Ok tt, w) → m ≡ machine_in w
  same_machine m w is same h = same ∙ ap machine_in (same_world w m.world h is)

  never_refused : (x : Refusal) (w v : State S) → loaded_over accesses q t osi before ≡ (Ok tt, v) → loaded_over accesses q t osi before ≡ (Err x, w) → ⊥
  never_refused x w v h i = let never : ◌≡◌ {A = Outcome (Unit {0})} (Ok tt) (Err x) = ap (λ (p : Outcome (Unit {0}) × State S). p.0) (sym h ∙ i) in absurd (cc never)

  pub call_told : (m : MachineState S) (stage : Option Stage) → loaded_over accesses q t osi before ≡ (Ok tt, m.world) → m ≡ machine_of t q.evaluation.steps m.world
      → ((e : Refusal) (after : MachineState S) → m.spent ≡ false → initialized accesses q.mode m ≡ (Err e, after) → IsCallingStage accesses q m e stage) → IsStageIn accesses (Some phases.Initializing) q (Ok t) osi before stage
  call_told m stage is same h = found_stage (Some phases.Initializing) stage (record {
    loading = λ x w i p. absurd (cc p);
    calling = λ x w s i j p.
        let at = same_machine m w is same i in
        subst (λ y. IsCallingStage accesses q y x stage) at (h x s (ap (λ y. y.spent) same) (ap (initialized accesses q.mode) at ∙ j));
    asked = λ w ready e left i j p r. absurd (asked_not_initializing q.question p);
  })

  -- ---- what is asked of an initialized machine

  asked_refused : (o : RunOptions) (ready : MachineState S) (e : Refusal) (left : S) → left_of (dropped (finds accesses o ready)) ≡ (Err e, left) → (after : MachineState S) × (found_by accesses o (sci_of ready) ready ≡ (Err e, after))
  asked_refused o ready e left h = by (found_by accesses o (sci_of ready) ready).0 (found_by accesses o (sci_of ready) ready).1 refl h
    where
      by : (x : Outcome Findings) (s : MachineState S) → found_by accesses o (sci_of ready) ready ≡ (x, s) → ◌≡◌ {A = Outcome (Unit {0}) × S} (seen (λ _. tt) x, s.world.space) (Err e, left) → (after : MachineState S) × (found_by accesses o (sci_of ready) ready ≡ (Err e, after))
      by (Ok f) s i r = let never : ◌≡◌ {A = Outcome (Unit {0})} (Ok tt) (Err e) = ap (λ p. p.0) r in absurd (cc never)
      by (Err y) s i r = (s, i ∙ ap (λ z. (Err z, s)) (same_refusal y e s.world.space left r))

  pub object_told : (m : MachineState S) (stage : Option Stage) (avoid : List ℕ) (flags : Flags) → loaded_over accesses q t osi before ≡ (Ok tt, m.world) → m ≡ machine_of t q.evaluation.steps m.world → q.question ≡ Route avoid flags
      → ((ready : MachineState S) → initialized accesses q.mode m ≡ (Ok tt, ready) → (s : Stage) × ((stage ≡ Some s) × IsStage accesses avoid ready s)) → IsStageIn accesses (Some phases.Running) q (Ok t) osi before stage
  object_told m stage avoid flags is same question h = found_stage (Some phases.Running) stage (record {
    loading = λ x w i p. absurd (cc p);
    calling = λ x w s i j p. absurd (cc p);
    asked = λ w ready e left i j p r.
        let at = same_machine m w is same i in
        let found = h ready (ap (initialized accesses q.mode) at ∙ j) in
        let run = asked_refused (options_of avoid flags) ready e left (subst (λ x. left_of (asks accesses x ready) ≡ (Err e, left)) question r) in
        subst (λ x. IsAskedStage accesses x ready e stage) (sym question)
        (found.0, found.1.0, finding_stage accesses (options_of avoid flags) (sci_of ready) ready run.0 e found.0 run.1 found.1.1);
  })

  pub named_told : (path : List ℕ) (arguments : List Argument) (stage : Option Stage) → q.question ≡ Eval path arguments → IsNamedStage (path_of_text path) stage → IsStageIn accesses (Some phases.Running) q (Ok t) osi before stage
  named_told path arguments stage question h = found_stage (Some phases.Running) stage (record {
    loading = λ x w i p. absurd (cc p);
    calling = λ x w s i j p. absurd (cc p);
    asked = λ w ready e left i j p r. subst (λ x. IsAskedStage accesses x ready e stage) (sym question) h;
  })

  pub call_if : {E : Type 0} (m : MachineState S) (r : Result (Option Stage) E) → loaded_over accesses q t osi before ≡ (Ok tt, m.world) → m ≡ machine_of t q.evaluation.steps m.world
      → IfOk r (λ stage. (e : Refusal) (after : MachineState S) → m.spent ≡ false → initialized accesses q.mode m ≡ (Err e, after) → IsCallingStage accesses q m e stage) → IfOk r (IsStageIn accesses (Some phases.Initializing) q (Ok t) osi before)
  call_if m (Ok stage) is same h = call_told m stage is same h
  call_if m (Err e) is same h = tt

  pub object_if : {E : Type 0} (m : MachineState S) (r : Result (Option Stage) E) (avoid : List ℕ) → loaded_over accesses q t osi before ≡ (Ok tt, m.world) → m ≡ machine_of t q.evaluation.steps m.world
      → IfOk r (λ stage. (ready : MachineState S) → initialized accesses q.mode m ≡ (Ok tt, ready) → (s : Stage) × ((stage ≡ Some s) × IsStage accesses avoid ready s))
      → IfOk r (λ stage. (flags : Flags) → q.question ≡ Route avoid flags → IsStageIn accesses (Some phases.Running) q (Ok t) osi before stage)
  object_if m (Ok stage) avoid is same h = λ flags question. object_told m stage avoid flags is same question h
  object_if m (Err e) avoid is same h = tt

  pub routed_if : {E : Type 0} (r : Result (Option Stage) E) (avoid given : List ℕ) (flags : Flags) → q.question ≡ Route avoid flags → given ≡ avoid
      → IfOk r (λ stage. (flags : Flags) → q.question ≡ Route given flags → IsStageIn accesses (Some phases.Running) q (Ok t) osi before stage) → IfOk r (IsStageIn accesses (Some phases.Running) q (Ok t) osi before)
  routed_if (Ok stage) avoid given flags question same h = h flags (question ∙ ap (λ x. Route x flags) (sym same))
  routed_if (Err e) avoid given flags question same h = tt

  pub named_if : {E : Type 0} (r : Result (Option Stage) E) (path given : List ℕ) (arguments : List Argument) → q.question ≡ Eval path arguments → given ≡ path → IfOk r (IsNamedStage (path_of_text given)) → IfOk r (IsStageIn accesses (Some phases.Running) q (Ok t) osi before)
  named_if (Ok stage) path given arguments question same h = named_told path arguments stage question (subst (λ x. IsNamedStage (path_of_text x) stage) same h)
  named_if (Err e) path given arguments question same h = tt

  -- ---- where no stage is told

  not_loaded : (phase : Option Phase) (stage : Option Stage) (x : Refusal) → (phase ≡ Some phases.Loading → ⊥) → (loaded_over accesses q t osi before).0 ≡ Err x → IsStageIn accesses phase q (Ok t) osi before stage
  not_loaded phase stage x ne is = λ e left p r. absurd (ne (p ∙ ap (λ o. loaded_phase accesses q t o (loaded_over accesses q t osi before).1) is))

  pub call_not_loaded : {E : Type 0} (x : Refusal) (r : Result (Option Stage) E) → (x ≢ OutOfMemory → (loaded_over accesses q t osi before).0 ≡ Err x) → IfOk r (λ _. x ≢ OutOfMemory) → IfOk r (IsStageIn accesses (Some phases.Initializing) q (Ok t) osi before)
  call_not_loaded x (Ok stage) is ne = not_loaded (Some phases.Initializing) stage x (λ p. absurd (cc p)) (is ne)
  call_not_loaded x (Err e) is ne = tt

  pub object_not_loaded : {E : Type 0} (x : Refusal) (r : Result (Option Stage) E) (avoid : List ℕ) → (x ≢ OutOfMemory → (loaded_over accesses q t osi before).0 ≡ Err x) → IfOk r (λ _. x ≢ OutOfMemory)
      → IfOk r (λ stage. (flags : Flags) → q.question ≡ Route avoid flags → IsStageIn accesses (Some phases.Running) q (Ok t) osi before stage)
  object_not_loaded x (Ok stage) avoid is ne = λ flags question. not_loaded (Some phases.Running) stage x (λ p. absurd (cc p)) (is ne)
  object_not_loaded x (Err e) avoid is ne = tt

  named_none : (x : Outcome (List Seg)) → None ≡ named_phase x → IsNamedStage x None
  named_none (Ok p) h = absurd (cc h)
  named_none (Err e) h = refl

  asked_none : (x : Question) (ready : MachineState S) (e : Refusal) → None ≡ asked_phase x → IsAskedStage accesses x ready e None
  asked_none (Route avoid flags) ready e h = absurd (cc h)
  asked_none (Eval path arguments) ready e h = named_none (path_of_text path) h

  loaded_none : IsStageIn accesses None q (Ok t) osi before None
  loaded_none = found_stage None None (record {
    loading = λ x w i p. absurd (cc p);
    calling = λ x w s i j p. absurd (cc p);
    asked = λ w ready e left i j p r. asked_none q.question ready e p;
  })

pub no_phase : {S : Type 0} (accesses : Accesses S) (q : Asking) (tables : Outcome Tables) (osi : List (List ℕ)) (before : S) → IsStageIn accesses None q tables osi before None
no_phase accesses q (Ok t) osi before = loaded_none accesses q t osi before
no_phase accesses q (Err x) osi before = λ e left p r. refl

-- no tables are found, and so nothing is in a phase
pub no_tables : {S E : Type 0} (accesses : Accesses S) (q : Asking) (tables : Outcome Tables) (osi : List (List ℕ)) (before : S) (phase : Phase) (x : Refusal) (r : Result (Option Stage) E) → (x ≢ OutOfMemory → tables ≡ Err x) → IfOk r (λ _. x ≢ OutOfMemory)
    → IfOk r (IsStageIn accesses (Some phase) q tables osi before)
no_tables accesses q tables osi before phase x (Ok stage) is ne = λ e left p r. let never : Some phase ≡ None = p ∙ ap (λ t. run_phase accesses q t osi before) (is ne) in absurd (cc never)
no_tables accesses q tables osi before phase x (Err e) is ne = tt

-- a machine that isn't initialized
pub not_initialized : {S E B : Type 0} (x : Refusal) (m : Outcome (Unit {0}) × MachineState S) (after : MachineState S) (r : Result B E) (P : B → MachineState S → Type 0) → (x ≢ OutOfMemory → m ≡ (Err x, after)) → IfOk r (λ _. x ≢ OutOfMemory)
    → IfOk r (λ found. (ready : MachineState S) → m ≡ (Ok tt, ready) → P found ready)
not_initialized {S = S} x m after (Ok found) P is ne = λ ready i. let never : ◌≡◌ {A = Outcome (Unit {0})} (Err x) (Ok tt) = ap (λ (p : Outcome (Unit {0}) × MachineState S). p.0) (sym (is ne) ∙ i) in absurd (cc never)
not_initialized x m after (Err e) P is ne = tt

-- a machine that is initialized
pub initialized_so : {S : Type 0} (m : Outcome (Unit {0}) × MachineState S) (after : MachineState S) (stage : Stage) (P : MachineState S → Stage → Type 0) → m ≡ (Ok tt, after) → P after stage
    → (ready : MachineState S) → m ≡ (Ok tt, ready) → (s : Stage) × ((Some stage ≡ Some s) × P ready s)
initialized_so {S = S} m after stage P is h ready i = (stage, (refl, subst (λ x. P x stage) (ap (λ (p : Outcome (Unit {0}) × MachineState S). p.1) (sym is ∙ i)) h))

-- what is said of all, where one is refused or is it
pub of_refused : {A B E : Type 0} (x : Refusal) (text : Outcome A) (r : Result B E) (P : A → B → Type 0) → (x ≢ OutOfMemory → text ≡ Err x) → IfOk r (λ _. x ≢ OutOfMemory) → IfOk r (λ found. (a : A) → text ≡ Ok a → P a found)
of_refused {A = A} x text (Ok found) P is ne = λ a i. let never : ◌≡◌ {A = Outcome A} (Err x) (Ok a) = sym (is ne) ∙ i in absurd (cc never)
of_refused x text (Err e) P is ne = tt

pub of_all : {A B E : Type 0} (text : Outcome A) (a : A) (r : Result B E) (P : A → B → Type 0) → text ≡ Ok a → IfOk r (P a) → IfOk r (λ found. (b : A) → text ≡ Ok b → P b found)
of_all {A = A} text a (Ok found) P is h = λ b i. let both : ◌≡◌ {A = Outcome A} (Ok a) (Ok b) = sym is ∙ i in let same : a ≡ b = cc both in subst (λ y. P y found) same h
of_all text a (Err e) P is h = tt

-- the object at the path of a text
pub named_some : (text : Outcome (List Seg)) (p : List Seg) → text ≡ Ok p → IsNamedStage text (Some (stages.Reading p))
named_some text p is = subst (λ x. IsNamedStage x (Some (stages.Reading p))) (sym is) refl

pub named_refused : {E : Type 0} (x : Refusal) (text : Outcome (List Seg)) (r : Result (Option Stage) E) → (x ≢ OutOfMemory → text ≡ Err x) → IfOk r (λ _. x ≢ OutOfMemory) → IfOk r (λ stage. stage ≡ None) → IfOk r (IsNamedStage text)
named_refused x text (Ok stage) is ne none = subst (λ y. IsNamedStage y stage) (sym (is ne)) none
named_refused x text (Err e) is ne none = tt
