-- Changes of machines side by side: tables that are loaded, objects that are evaluated, and initializing.
use Rattle.std.specs.Prelude.{◌≡◌, ◌⊎◌, ℕ, List, [], ◌∷◌, Ok, Err, refl}
use Rattle.std.specs.FinMap.{contains_key}
use Rattle.std.proofs.Common.{inl, inr, subst, ap, sym, ◌∙◌}
use Rattle.ar_space.specs.Accesses.{Accesses}
use Rattle.ar_space.specs.Outcome.{Outcome}
use Rattle.ar_space.specs.Change.{Change, give, go_on, ◌>>=◌}
use Rattle.ar_tables.specs.declared.mode.Mode.{Mode}
use Rattle.ar_tables.specs.declared.tables.Tables.{Tables}
use Rattle.aml_path.specs.declared.segment.Seg.{Seg}
use Rattle.aml_world.specs.state.Given as given
use Rattle.aml_world.specs.state.State.{State}
use Rattle.acpi_machine.specs.MachineStates.{MachineState}
use Rattle.acpi_machine.specs.Loading.{table_loaded, each_loaded, all_loaded, loaded_tables}
use Rattle.acpi_machine.specs.Calls.{on_world, unless_spent, call_passing, object_answered, evaluated_object, object_called, called_where_it_stands, initial_calls, started, initialized}
use Rattle.aml_meaning.specs.Calling.{answered}
use Rattle.aml_laws.proofs.Together.{Sides, Passes, MayPass, Together, Comes, IsEnded, alike, plain, give_together, settle_together, stop_together, then_together, choice_together}
use Rattle.aml_laws.proofs.WorldsTogether.{world_over, worlds}
use Rattle.aml_laws.specs.Becomes as becomes
use Rattle.aml_laws.proofs.Levels.{level, at_level}
use Rattle.aml_laws.proofs.ProfileKept.{profile_is_kept}
use Rattle.machine_laws.proofs.CallsTogether.{call_alike, call_widened}
use Rattle.machine_laws.proofs.MachineShapes.{machine_beside, machines}
use Rattle.aml_laws.proofs.EvaluationsTogether.{loaded_together, answered_together, predefined_together}

-- a machine with another world over another space
abbrev with_world : {S T : Type 0} → MachineState S → State T → MachineState T
with_world s w = record { world = w; tables = s.tables; mode = s.mode; steps = s.steps; spent = s.spent }

-- what two changes of the worlds came to, in machines that are the same else
world_goes : {S T A : Type 0} {accesses : Accesses S} {accesses2 : Accesses T} (side : Sides accesses accesses2) (s : MachineState S) (p : Outcome A × State S) (q : Outcome A × State T) → Comes side worlds p q
    → Comes side machines (p.0, with_world s p.1) (q.0, with_world s q.1)
world_goes side s p q (inl parted) = inl parted
world_goes side s p q (inr (inl ended)) = inr (inl ended)
world_goes {T = T} side s p q (inr (inr (t, same, i))) = inr (inr (t, ap (λ (x : Outcome _ × State T). (x.0, with_world s x.1)) same, i))

-- what two machines are asked that nothing changes: the left one ends the likeness, or the right one says the same
told_goes : {S T A : Type 0} {accesses : Accesses S} {accesses2 : Accesses T} (side : Sides accesses accesses2) (s : MachineState S) (t : T) (r q : Outcome A) → IsEnded side.Ends r ⊎ (q ≡ r) → side.beside.InStep s.world.space t
    → Comes side machines (r, s) (q, machine_beside side.raise s t)
told_goes side s t r q (inl ended) i = inr (inl ended)
told_goes side s t r q (inr same) i = inr (inr (t, ap (λ (x : Outcome _). (x, machine_beside side.raise s t)) same, i))

pub told_together : {S T A : Type 0} {accesses : Accesses S} {accesses2 : Accesses T} {side : Sides accesses accesses2} (f : MachineState S → Outcome A) (g : MachineState T → Outcome A)
    → ((s : MachineState S) (t : T) → IsEnded side.Ends (f s) ⊎ (g (machine_beside side.raise s t) ≡ f s)) → Together side machines (λ s. (f s, s)) (λ s. (g s, s))
told_together {side = side} f g told = record { left_parted = λ s t h. h; right_parted = λ s u h. h; goes = λ s t i. told_goes side s t (f s) (g (machine_beside side.raise s t)) (told s t) i }

-- same: the right one has as many steps
module _ {S T : Type 0} {accesses : Accesses S} {accesses2 : Accesses T} (side : Sides accesses accesses2) (same : (n : ℕ) → side.more n ≡ n) where
  -- ---- tables

  table_loaded_together : (steps : ℕ) (table : List ℕ) → Together (level side 0) worlds (table_loaded accesses steps table) (table_loaded accesses2 steps table)
  unfolding table_loaded
  table_loaded_together steps table = subst (λ n. Together (level side 0) worlds (table_loaded accesses steps table) (table_loaded accesses2 n table)) (same steps) (loaded_together side _ steps)

  each_loaded_together : (steps : ℕ) (tables : List (List ℕ)) → Together (level side 0) worlds (each_loaded accesses steps tables) (each_loaded accesses2 steps tables)
  unfolding each_loaded
  each_loaded_together steps [] = give_together _
  each_loaded_together steps (table ∷ tables) = then_together (table_loaded_together steps table) (λ u. each_loaded_together steps tables)

  all_loaded_together : (t : Tables) (steps : ℕ) → Together (level side 0) worlds (all_loaded accesses t steps) (all_loaded accesses2 t steps)
  unfolding all_loaded
  all_loaded_together t steps = then_together (table_loaded_together steps t.dsdt) (λ u. each_loaded_together steps t.ssdts)

  pub loaded_tables_together : (t : Tables) (steps : ℕ) (osi : List (List ℕ)) → Together (level side 0) worlds (loaded_tables accesses t steps osi) (loaded_tables accesses2 t steps osi)
  unfolding loaded_tables
  loaded_tables_together t steps osi = then_together (settle_together _) (λ few. then_together (at_level side 0 predefined_together) (λ u. all_loaded_together t steps))

module _ {S T : Type 0} {accesses : Accesses S} {accesses2 : Accesses T} {side : Sides accesses accesses2} (same : (n : ℕ) → side.more n ≡ n) where
  -- ---- objects that are evaluated

  pub on_world_together : {A : Type 0} {m : Change (State S) A} {n : Change (State T) A} → Together side worlds m n → Together side machines (on_world m) (on_world n)
  unfolding on_world
  on_world_together {m = m} {n = n} h = record {
    left_parted = λ s t p. h.left_parted s.world t p;
    right_parted = λ s u p. h.right_parted s u.world p;
    goes = λ s t i. world_goes side s (m s.world) (n (world_over side.raise s.world t)) (h.goes s.world t i);
  }

  pub unless_spent_together : {A : Type 0} {m : Change (MachineState S) A} {n : Change (MachineState T) A} → Together side machines m n → Together side machines (unless_spent m) (unless_spent n)
  unfolding unless_spent
  unless_spent_together h = choice_together (λ s. s.spent) (λ s. s.spent) (λ s t. refl) (stop_together _) h

  answered_in_steps : (p : List Seg) (arguments : List given.Given) (steps : ℕ) → Together side worlds (answered accesses p arguments steps) (answered accesses2 p arguments steps)
  answered_in_steps p arguments steps = subst (λ n. Together side worlds (answered accesses p arguments steps) (answered accesses2 p arguments n)) (same steps) (answered_together p arguments steps)

  object_answered_together : (p : List Seg) (arguments : List given.Given) → Together side machines (object_answered accesses p arguments) (object_answered accesses2 p arguments)
  unfolding object_answered
  object_answered_together p arguments = record {
    left_parted = λ s t h. (on_world_together (answered_in_steps p arguments s.steps)).left_parted s t h;
    right_parted = λ s u h. (on_world_together (answered_in_steps p arguments u.steps)).right_parted s u h;
    goes = λ s t i. (on_world_together (answered_in_steps p arguments s.steps)).goes s t i;
  }

  pub evaluated_object_together : (p : List Seg) (arguments : List given.Given) → Together side machines (evaluated_object accesses p arguments) (evaluated_object accesses2 p arguments)
  unfolding evaluated_object
  evaluated_object_together p arguments = unless_spent_together (object_answered_together p arguments)

  -- ---- initializing

  pub object_called_together : (p : List Seg) (arguments : List given.Given) → Together side machines (object_called accesses p arguments) (object_called accesses2 p arguments)
  unfolding object_called
  object_called_together p arguments = then_together (object_answered_together p arguments) (λ answer. give_together _)

-- an object that is called leaves the profile
module _ {S : Type 0} (accesses : Accesses S) where
  dropped_keeps : {A : Type 0} (r : Outcome A) (s : MachineState S) → (go_on {B = Unit {0}} r s (λ a. give tt)).1 ≡ s
  unfolding go_on give
  dropped_keeps (Ok a) s = refl
  dropped_keeps (Err e) s = refl

  called_keeps : (p : List Seg) (arguments : List given.Given) (s : MachineState S) → (object_called accesses p arguments s).1.world.profile ≡ s.world.profile
  unfolding object_called object_answered on_world ◌>>=◌
  called_keeps p arguments s =
      ap (λ (x : MachineState S). x.world.profile) (dropped_keeps (answered accesses p arguments s.steps s.world).0 (record s { world = (answered accesses p arguments s.steps s.world).1 }))
      ∙ profile_is_kept accesses s.world (answered accesses p arguments s.steps s.world).1 (becomes.answer s.world p arguments s.steps becomes.same)

module _ {S T : Type 0} {accesses : Accesses S} {accesses2 : Accesses T} (side : Sides accesses accesses2) (same : (n : ℕ) → side.more n ≡ n) where
  -- a call that may be passed over
  call_by : (passes : Passes side.raise side.Ends side.more) → side.passes ≡ passes → (p : List Seg) (arguments : List given.Given) → Together (level side 0) machines (call_passing p (object_called accesses p arguments)) (call_passing p (object_called accesses2 p arguments))
  call_by (inl h) is p arguments = at_level side 0 (call_alike side h.0 h.1 p (object_called_together {side = side} same p arguments))
  call_by (inr h) is p arguments =
      call_widened side h.0 h.1.1 (λ e holds. subst (λ x. MayPass x e) (sym is) holds) p (object_called accesses p arguments) (object_called accesses2 p arguments) (at_level side 0 (object_called_together {side = side} same p arguments))
      (object_called_together {side = alike side.beside} (λ n. refl) p arguments) (called_keeps accesses p arguments)

  called_where_it_stands_together : (p : List Seg) (arguments : List given.Given) → Together (level side 0) machines (called_where_it_stands accesses p arguments) (called_where_it_stands accesses2 p arguments)
  unfolding called_where_it_stands
  called_where_it_stands_together p arguments = choice_together (λ s. contains_key s.world.names.map p) (λ s. contains_key s.world.names.map p) (λ s t. refl) (call_by side.passes refl p arguments) (plain (λ s. refl) (λ s. refl) (λ s t. refl))

  initial_calls_together : (mode : Mode) → Together (level side 0) machines (initial_calls accesses mode) (initial_calls accesses2 mode)
  unfolding initial_calls
  initial_calls_together mode = then_together (settle_together _) (λ root. then_together (called_where_it_stands_together root _) (λ a. then_together (settle_together _) (λ bus. then_together (called_where_it_stands_together bus _) (λ b.
      then_together (settle_together _) (λ pic. called_where_it_stands_together pic _)))))

  started_together : (mode : Mode) → Together (level side 0) machines (started accesses mode) (started accesses2 mode)
  unfolding started
  started_together mode = record {
    left_parted = λ s t p. (initial_calls_together mode).left_parted (record s { mode = mode }) t p;
    right_parted = λ s u p. (initial_calls_together mode).right_parted s (record u { mode = mode }) p;
    goes = λ s t i. (initial_calls_together mode).goes (record s { mode = mode }) t i;
  }

  pub initialized_together : (mode : Mode) → Together (level side 0) machines (initialized accesses mode) (initialized accesses2 mode)
  unfolding initialized
  initialized_together mode = unless_spent_together {side = level side 0} same (started_together mode)
