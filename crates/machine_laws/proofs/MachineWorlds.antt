-- What the calls of a machine make of its world evaluations make of it, and notes of calls that are passed over.
use Rattle.std.specs.Prelude.{◌≡◌, ℕ, List, [], ◌∷◌, Bool, true, false, Ok, Err, refl, if◌then◌else◌}
use Rattle.std.specs.FinMap.{contains_key}
use Rattle.std.proofs.Common.{sym, subst}
use Rattle.ar_space.specs.declared.integer_width.IntegerWidth.{IntegerWidth}
use Rattle.ar_space.specs.declared.refusal.Refusal.{Refusal}
use Rattle.ar_space.specs.declared.refusal.Refusal.TheVariants as refusal
use Rattle.ar_space.specs.declared.refusal.MachineFault.TheVariants.{Spent}
use Rattle.ar_space.specs.Accesses.{Accesses}
use Rattle.ar_space.specs.Outcome.{Outcome}
use Rattle.ar_space.specs.Change.{Change, settle, give, stop, go_on, ◌>>=◌, ◌>>◌}
use Rattle.ar_tables.specs.declared.mode.Mode.{Mode}
use Rattle.ar_tables.specs.declared.tables.Tables.{Tables}
use Rattle.aml_path.specs.declared.segment.Seg.{Seg}
use Rattle.aml_world.specs.declared.state.profile.Profile.{Profile}
use Rattle.aml_world.specs.declared.state.settings.EvaluationSettings.{EvaluationSettings}
use Rattle.aml_world.specs.declared.state.profile.Profile.TheVariants as profiles
use Rattle.aml_world.specs.state.Given.{Given}
use Rattle.aml_world.specs.state.PassedOver.{is_passable}
use Rattle.aml_world.specs.state.Profiles.{is_wide}
use Rattle.aml_world.specs.state.Predefined.{fresh_as, predefined}
use Rattle.aml_world.specs.state.State.{State}
use Rattle.aml_laws.specs.Becomes.{Becomes, same, term, list, table, value, answer, passed}
use Rattle.aml_laws.specs.PassedNotes.{KeepsTheFirst, GoesOn}
use Rattle.aml_laws.proofs.NotesKept.{notes_go_on, first_are_kept, first_are_always_kept}
use Rattle.acpi_machine.specs.Calls.{on_world, unless_spent, call_done, call_passing, object_answered, evaluated_object, object_called, called_where_it_stands, initial_calls, started, initialized}
use Rattle.acpi_machine.specs.Loading.{few_texts, table_loaded, each_loaded, all_loaded, loaded_tables}
use Rattle.acpi_machine.specs.MachineStates.{MachineState}
use Rattle.machine_laws.proofs.CallsTogether.{Called, refused_by, refused_is}

wide_profile : (p : Profile) → is_wide p ≡ true → p ≡ profiles.Wide
wide_profile profiles.Core is = absurd (cc is)
wide_profile profiles.Wide is = refl

module _ {S : Type 0} (accesses : Accesses S) where
  pub behind : (u w v : State S) → Becomes accesses u w → Becomes accesses w v → Becomes accesses u v
  behind u w v h same = h
  behind u w v h (term x t steps i) = term x t steps (behind u w x h i)
  behind u w v h (list x scope depth ts steps i) = list x scope depth ts steps (behind u w x h i)
  behind u w v h (table x bytes steps i) = table x bytes steps (behind u w x h i)
  behind u w v h (value x p arguments steps i) = value x p arguments steps (behind u w x h i)
  behind u w v h (answer x p arguments steps i) = answer x p arguments steps (behind u w x h i)
  behind u w v h (passed x p e wide is i) = passed x p e wide is (behind u w x h i)

  -- ---- changes of a machine, or of a world alone

  module _ {H : Type 0} (world : H → State S) where
    abbrev Evaluates : {A : Type 0} → Change H A → Type 0
    Evaluates m = (s : H) → Becomes accesses (world s) (world (m s).1)

    go_on_evaluates : {A B : Type 0} (u : State S) (r : Outcome A) (s : H) (k : A → Change H B) → ((a : A) → Evaluates (k a)) → Becomes accesses u (world s) → Becomes accesses u (world (go_on r s k).1)
    unfolding go_on
    go_on_evaluates u (Ok a) s k h i = behind u (world s) _ i (h a s)
    go_on_evaluates u (Err e) s k h i = i

    then_evaluates : {A B : Type 0} (m : Change H A) (k : A → Change H B) → Evaluates m → ((a : A) → Evaluates (k a)) → Evaluates (m >>= k)
    unfolding ◌>>=◌
    then_evaluates m k h i s = go_on_evaluates (world s) (m s).0 (m s).1 k i (h s)

    settle_evaluates : {A : Type 0} (x : Outcome A) → Evaluates (settle x)
    unfolding settle
    settle_evaluates x s = same

    give_evaluates : {A : Type 0} (a : A) → Evaluates (give a)
    unfolding give
    give_evaluates a s = same

  abbrev Calls : {A : Type 0} → Change (MachineState S) A → Type 0
  Calls m = Evaluates (λ s. s.world) m

  unless_evaluates : {A : Type 0} (b : Bool) (m : Change (MachineState S) A) → Calls m → Calls (λ s. if b then stop (refusal.Machine Spent) s else m s)
  unfolding stop
  unless_evaluates true m h s = same
  unless_evaluates false m h s = h s

  -- ---- objects

  answered_evaluates : (p : List Seg) (arguments : List Given) → Calls (object_answered accesses p arguments)
  unfolding object_answered on_world
  answered_evaluates p arguments s = answer s.world p arguments s.steps same

  pub object_evaluates : (p : List Seg) (arguments : List Given) (s : MachineState S) → Becomes accesses s.world (evaluated_object accesses p arguments s).1.world
  unfolding evaluated_object unless_spent
  object_evaluates p arguments s = unless_evaluates s.spent (object_answered accesses p arguments) (answered_evaluates p arguments) s

  -- ---- calls of initializing

  called_evaluates : (p : List Seg) (arguments : List Given) → Calls (object_called accesses p arguments)
  unfolding object_called
  called_evaluates p arguments = then_evaluates (λ s. s.world) _ _ (answered_evaluates p arguments) (λ a. give_evaluates (λ s. s.world) _)

  refused_evaluates : (wide passable : Bool) (p : List Seg) (e : Refusal) (s : MachineState S) → is_wide s.world.profile ≡ wide → is_passable e ≡ passable → Becomes accesses s.world (refused_by wide passable p e s).1.world
  refused_evaluates true true p e s wide holds = passed s.world p e (wide_profile s.world.profile wide) holds same
  refused_evaluates true false p e s wide holds = same
  refused_evaluates false passable p e s wide holds = same

  done_evaluates : (p : List Seg) (r : Outcome (Unit {0})) (s : MachineState S) → Becomes accesses s.world (call_done p r s).1.world
  done_evaluates p (Ok u) s = same
  done_evaluates p (Err e) s = subst (λ (x : Called S). Becomes accesses s.world x.1.world) (sym (refused_is p e s)) (refused_evaluates (is_wide s.world.profile) (is_passable e) p e s refl refl)

  standing_evaluates : (b : Bool) (p : List Seg) (m : Change (MachineState S) (Unit {0})) → Calls m → Calls (λ s. if b then call_passing p m s else (Ok tt, s))
  unfolding call_passing
  standing_evaluates true p m h s = behind s.world (m s).1.world _ (h s) (done_evaluates p (m s).0 (m s).1)
  standing_evaluates false p m h s = same

  pub call_evaluates : (p : List Seg) (arguments : List Given) (s : MachineState S) → Becomes accesses s.world (called_where_it_stands accesses p arguments s).1.world
  unfolding called_where_it_stands
  call_evaluates p arguments s = standing_evaluates (contains_key s.world.names.map p) p (object_called accesses p arguments) (called_evaluates p arguments) s

  calls_evaluate : (mode : Mode) → Calls (initial_calls accesses mode)
  unfolding initial_calls
  calls_evaluate mode =
      then_evaluates (λ s. s.world) _ _ (settle_evaluates (λ s. s.world) _) (λ root_ini. then_evaluates (λ s. s.world) _ _ (call_evaluates root_ini []) (λ a. then_evaluates (λ s. s.world) _ _ (settle_evaluates (λ s. s.world) _) (λ bus_ini. then_evaluates (λ s. s.world) _ _ (call_evaluates bus_ini [])
      (λ b. then_evaluates (λ s. s.world) _ _ (settle_evaluates (λ s. s.world) _) (λ pic. call_evaluates pic _)))))

  pub initializing_evaluates : (mode : Mode) (s : MachineState S) → Becomes accesses s.world (initialized accesses mode s).1.world
  unfolding initialized unless_spent started
  initializing_evaluates mode s = unless_evaluates s.spent (started accesses mode) (λ t. calls_evaluate mode (record t { mode = mode })) s

  -- ---- tables

  abbrev Loads : {A : Type 0} → Change (State S) A → Type 0
  Loads m = Evaluates (λ w. w) m

  table_evaluates : (steps : ℕ) (bytes : List ℕ) → Loads (table_loaded accesses steps bytes)
  unfolding table_loaded
  table_evaluates steps bytes w = table w _ steps same

  each_evaluates : (steps : ℕ) (tables : List (List ℕ)) → Loads (each_loaded accesses steps tables)
  unfolding each_loaded
  each_evaluates steps [] = give_evaluates (λ w. w) tt
  each_evaluates steps (bytes ∷ tables) = then_evaluates (λ w. w) _ _ (table_evaluates steps bytes) (λ u. each_evaluates steps tables)

  pub loading_evaluates : (t : Tables) (steps : ℕ) (w : State S) → Becomes accesses w (all_loaded accesses t steps w).1
  unfolding all_loaded
  loading_evaluates t steps = then_evaluates (λ w. w) _ _ (table_evaluates steps t.dsdt) (λ u. each_evaluates steps t.ssdts)

  -- ---- what was passed over

  pub first_of_initializing : (mode : Mode) (s : MachineState S) → KeepsTheFirst s.world.passed → KeepsTheFirst (initialized accesses mode s).1.world.passed
  first_of_initializing mode s h = first_are_kept accesses s.world _ (initializing_evaluates mode s) h

  pub more_of_initializing : (mode : Mode) (s : MachineState S) → GoesOn s.world.passed (initialized accesses mode s).1.world.passed
  more_of_initializing mode s = notes_go_on accesses s.world _ (initializing_evaluates mode s)

  pub first_of_object : (p : List Seg) (arguments : List Given) (s : MachineState S) → KeepsTheFirst s.world.passed → KeepsTheFirst (evaluated_object accesses p arguments s).1.world.passed
  first_of_object p arguments s h = first_are_kept accesses s.world _ (object_evaluates p arguments s) h

  module _ (settings : EvaluationSettings) (width : IntegerWidth) (osi : List (List ℕ)) (space : S) where
    abbrev fresh : State S
    fresh = fresh_as settings width osi space

    abbrev From : State S → Type 0
    From w = Becomes accesses (predefined fresh).1 w

    behind_predefined : (r : Outcome (Unit {0})) (t : Tables) (steps : ℕ) → From (go_on r (predefined fresh).1 (λ u. all_loaded accesses t steps)).1
    unfolding go_on
    behind_predefined (Ok u) t steps = loading_evaluates t steps (predefined fresh).1
    behind_predefined (Err e) t steps = same

    first_behind_texts : (r : Outcome (Unit {0})) (t : Tables) (steps : ℕ) → KeepsTheFirst (go_on r fresh (λ u. predefined >> all_loaded accesses t steps)).1.passed
    unfolding go_on ◌>>=◌
    first_behind_texts (Ok u) t steps = first_are_always_kept accesses settings width osi space _ (behind_predefined (predefined fresh).0 t steps)
    first_behind_texts (Err e) t steps = refl

    pub first_of_loading : (t : Tables) (steps : ℕ) → KeepsTheFirst (loaded_tables accesses t steps osi fresh).1.passed
    unfolding loaded_tables settle ◌>>=◌
    first_of_loading t steps = first_behind_texts (few_texts osi) t steps

pub ruleset evaluating = (loading_evaluates, call_evaluates, initializing_evaluates, object_evaluates)

pub ruleset first_accesses = (first_of_loading, first_of_initializing, more_of_initializing, first_of_object)
