-- Where a call of a machine is refused by a fault of the register space, its last access answered with it.
use Rattle.std.specs.Prelude.{◌≡◌, ℕ, List, Bool, true, false, Ok, Err, refl}
use Rattle.std.proofs.Common.{subst, sym}
use Rattle.std.specs.FinMap.{contains_key}
use Rattle.ar_space.specs.Accesses.{Accesses}
use Rattle.ar_space.specs.Change.{Change, stop}
use Rattle.ar_tables.specs.declared.mode.Mode.{Mode}
use Rattle.aml_path.specs.declared.segment.Seg.{Seg}
use Rattle.ar_space.specs.Outcome.{Outcome}
use Rattle.ar_space.specs.declared.refusal.Refusal.{Refusal}
use Rattle.aml_world.specs.state.Given.{Given}
use Rattle.aml_world.specs.state.PassedOver.{is_passable}
use Rattle.aml_world.specs.state.Profiles.{is_wide}
use Rattle.aml_laws.proofs.CleanOutcomes.{Clean, followed_clean}
use Rattle.aml_laws.proofs.CleanValues.{seg_of_clean}
use Rattle.aml_laws.proofs.FaultsOfChanges.{Explained, RefusalExplained, Explains, spent_with_none, direct_explains, give_explains, stop_explains, settle_explains, then_explains, either_branch_explains}
use Rattle.aml_laws.proofs.FaultsOfEvaluations.{answered_explains}
use Rattle.aml_laws.proofs.ItemsOfLists.{unfaulted}
use Rattle.aml_laws.proofs.SetDepths.{OfSetting, is_low}
use Rattle.machine_laws.proofs.CallsTogether.{Called, refused_by, refused_is}
use Rattle.acpi_machine.specs.FixedPaths.{at_root, below_root}
use Rattle.acpi_machine.specs.MachineStates.{MachineState}
use Rattle.acpi_machine.specs.Calls.{on_world, unless_spent, call_done, call_passing, object_answered, evaluated_object, object_called, called_where_it_stands, initial_calls, started, initialized}

at_root_clean : (name : List ℕ) → Clean (at_root name)
unfolding at_root
at_root_clean name = followed_clean _ _ (seg_of_clean name) (λ segment. tt)

below_root_clean : (parent name : List ℕ) → Clean (below_root parent name)
unfolding below_root
below_root_clean parent name = followed_clean _ _ (seg_of_clean parent) (λ above. followed_clean _ _ (seg_of_clean name) (λ segment. tt))

module _ {S : Type 0} (accesses : Accesses S) where
  abbrev pub MachineExplains : {A : Type 0} → Change (MachineState S) A → Type 0
  MachineExplains m = Explains accesses (λ s. s.world.space) (λ s. 0) (λ s. is_low s.world.nesting) m

  object_answered_explains : (p : List Seg) (arguments : List Given) → MachineExplains (object_answered accesses p arguments)
  unfolding object_answered on_world
  object_answered_explains p arguments = record { explained = λ s. (answered_explains accesses p arguments s.steps).explained s.world; spent = λ s. (answered_explains accesses p arguments s.steps).spent s.world; set = λ s. (answered_explains accesses p arguments s.steps).set s.world }

  unless_spent_explains : {A : Type 0} (m : Change (MachineState S) A) → MachineExplains m → MachineExplains (unless_spent m)
  unfolding unless_spent
  unless_spent_explains m h = either_branch_explains (λ s. s.spent) (stop _) m (stop_explains _ tt) h

  pub evaluated_object_explains : (p : List Seg) (arguments : List Given) → MachineExplains (evaluated_object accesses p arguments)
  unfolding evaluated_object
  evaluated_object_explains p arguments = unless_spent_explains _ (object_answered_explains p arguments)

  -- ---- initializing

  object_called_explains : (p : List Seg) (arguments : List Given) → MachineExplains (object_called accesses p arguments)
  unfolding object_called
  object_called_explains p arguments = then_explains _ _ (object_answered_explains p arguments) (λ answer. give_explains _)

  -- a call that may be passed over
  refused_explained : (wide passable : Bool) (q : List Seg) (e : Refusal) (before : S) (s : MachineState S) → is_passable e ≡ passable → RefusalExplained accesses e before s.world.space → Explained accesses (refused_by wide passable q e s).0 before (refused_by wide passable q e s).1.world.space
  refused_explained true true q e before s is h = unfaulted accesses e before s.world.space is h
  refused_explained true false q e before s is h = h
  refused_explained false passable q e before s is h = h

  done_explained : (q : List Seg) (r : Outcome (Unit {0})) (before : S) (s : MachineState S) → Explained accesses r before s.world.space → Explained accesses (call_done q r s).0 before (call_done q r s).1.world.space
  done_explained q (Ok u) before s h = h
  done_explained q (Err e) before s h = subst (λ (x : Called S). Explained accesses x.0 before x.1.world.space) (sym (refused_is q e s)) (refused_explained (is_wide s.world.profile) (is_passable e) q e before s refl h)

  refused_set : (wide passable : Bool) (q : List Seg) (e : Refusal) (s : MachineState S) → OfSetting {A = Unit {0}} (Err e) (is_low s.world.nesting) → OfSetting (refused_by wide passable q e s).0 (is_low (refused_by wide passable q e s).1.world.nesting)
  refused_set true true q e s h = tt
  refused_set true false q e s h = h
  refused_set false passable q e s h = h

  done_set : (q : List Seg) (r : Outcome (Unit {0})) (s : MachineState S) → OfSetting r (is_low s.world.nesting) → OfSetting (call_done q r s).0 (is_low (call_done q r s).1.world.nesting)
  done_set q (Ok u) s h = tt
  done_set q (Err e) s h = subst (λ (x : Called S). OfSetting x.0 (is_low x.1.world.nesting)) (sym (refused_is q e s)) (refused_set (is_wide s.world.profile) (is_passable e) q e s h)

  call_passing_explains : (q : List Seg) (m : Change (MachineState S) (Unit {0})) → MachineExplains m → MachineExplains (call_passing q m)
  unfolding call_passing
  call_passing_explains q m h = record { explained = λ s. done_explained q (m s).0 s.world.space (m s).1 (h.explained s); spent = λ s. spent_with_none (call_done q (m s).0 (m s).1).0; set = λ s. done_set q (m s).0 (m s).1 (h.set s) }

  called_where_it_stands_explains : (p : List Seg) (arguments : List Given) → MachineExplains (called_where_it_stands accesses p arguments)
  unfolding called_where_it_stands
  called_where_it_stands_explains p arguments = either_branch_explains (λ s. contains_key s.world.names.map p) (call_passing p (object_called accesses p arguments)) _ (call_passing_explains p _ (object_called_explains p arguments)) (direct_explains _ (λ s. tt) (λ s. refl))

  initial_calls_explains : (mode : Mode) → MachineExplains (initial_calls accesses mode)
  unfolding initial_calls
  initial_calls_explains mode =
      then_explains _ _ (settle_explains _ (at_root_clean _)) (λ root_ini. then_explains _ _ (called_where_it_stands_explains _ _) (λ u.
      then_explains _ _ (settle_explains _ (below_root_clean _ _)) (λ bus_ini. then_explains _ _ (called_where_it_stands_explains _ _) (λ v.
      then_explains _ _ (settle_explains _ (at_root_clean _)) (λ pic. called_where_it_stands_explains _ _)))))

  started_explains : (mode : Mode) → MachineExplains (started accesses mode)
  unfolding started
  started_explains mode = record { explained = λ s. (initial_calls_explains mode).explained (record s { mode = mode }); spent = λ s. (initial_calls_explains mode).spent (record s { mode = mode }); set = λ s. (initial_calls_explains mode).set (record s { mode = mode }) }

  pub initialized_explains : (mode : Mode) → MachineExplains (initialized accesses mode)
  unfolding initialized
  initialized_explains mode = unless_spent_explains _ (started_explains mode)
