-- The calls of initializing, made one after another, up to the first that is refused.
use Rattle.std.proofs.Common.{◌≡◌, ◌≢◌, ◌∙◌, ap, refl, sym, subst}
use Rattle.std.specs.Prelude.{List, [], ◌∷◌, Bool, true, false, None, Ok, Err, if◌then◌else◌}
use Rattle.ar_space.specs.Accesses.{Accesses}
use Rattle.ar_space.specs.Change.{Change, Does, give, stop, settle, go_on, ◌>>=◌}
use Rattle.ar_space.specs.Outcome.{Outcome}
use Rattle.ar_space.specs.declared.refusal.Refusal.{Refusal}
use Rattle.ar_space.specs.declared.refusal.Refusal.TheVariants as refusal
use Rattle.ar_space.specs.declared.refusal.MachineFault.TheVariants.{Spent}
use Rattle.aml_path.specs.declared.segment.Seg.{Seg}
use Rattle.aml_world.specs.state.State.{State}
use Rattle.aml_world.specs.state.Profiles.{is_wide}
use Rattle.aml_world.specs.state.Noting.{passed_over}
use Rattle.acpi_machine.specs.MachineStates.{MachineState}
use Rattle.ar_tables.specs.declared.mode.Mode.{Mode}
use Rattle.aml_world.specs.state.Given.{Given}
use Rattle.std.specs.FinMap.{contains_key}
use Rattle.aml_world.specs.state.Given as given
use Rattle.acpi_machine.specs.Calls.{on_world, unless_spent, object_answered, evaluated_object, object_called, refused_call, call_done, call_passing, called_where_it_stands, initial_calls, started, initialized, mode_number}
use Rattle.acpi_machine.proofs.Passing.{call_answered, call_refused}
use Rattle.acpi_explain.specs.Stages.{InitialPaths, in_mode}
use Rattle.aml_meaning.specs.Calling.{answered}
use Rattle.acpi_explain.specs.Refused.{TellsRefused}
use Rattle.acpi_explain.specs.Stages.{IsCall, IsCallRefused}
use Rattle.acpi_explain.proofs.Halted.{refused_by, answered_by}

module _ {S : Type 0} (accesses : Accesses S) where
  -- ---- one call

  evaluated_is : (p : List Seg) (arguments : List Given) (s : MachineState S) → s.spent ≡ false → evaluated_object accesses p arguments s ≡ object_answered accesses p arguments s
  unfolding evaluated_object unless_spent
  evaluated_is p arguments s h = rw h refl

  object_ok : (p : List Seg) (arguments : List Given) (s t : MachineState S) (g : Given) → s.spent ≡ false → evaluated_object accesses p arguments s ≡ (Ok g, t) → object_called accesses p arguments s ≡ (Ok tt, t)
  unfolding object_called give ◌>>=◌ go_on
  object_ok p arguments s t g spent h = let at : object_answered accesses p arguments s ≡ (Ok g, t) = sym (evaluated_is p arguments s spent) ∙ h in rw at refl

  object_err : (p : List Seg) (arguments : List Given) (s t : MachineState S) (e : Refusal) → s.spent ≡ false → evaluated_object accesses p arguments s ≡ (Err e, t) → object_called accesses p arguments s ≡ (Err e, t)
  unfolding object_called give ◌>>=◌ go_on
  object_err p arguments s t e spent h = let at : object_answered accesses p arguments s ≡ (Err e, t) = sym (evaluated_is p arguments s spent) ∙ h in rw at refl

  pub called_ok : (p : List Seg) (arguments : List Given) (s t : MachineState S) (g : Given) → s.spent ≡ false → contains_key s.world.names.map p ≡ true → evaluated_object accesses p arguments s ≡ (Ok g, t)
      → called_where_it_stands accesses p arguments s ≡ (Ok tt, t)
  unfolding called_where_it_stands
  called_ok p arguments s t g spent key h =
      let d : Does (Ok tt) t (object_called accesses p arguments) s = record { is = λ _. object_ok p arguments s t g spent h } in rw key ((call_answered p (object_called accesses p arguments) d).is tt)

  -- a refusal, which may be passed over
  pub called_err : (p : List Seg) (arguments : List Given) (s t u : MachineState S) (e : Refusal) (r : Outcome (Unit {0})) → s.spent ≡ false → contains_key s.world.names.map p ≡ true → (e ≢ refusal.OutOfMemory → evaluated_object accesses p arguments s ≡ (Err e, t))
      → Does r u (refused_call p e) t → Does r u (called_where_it_stands accesses p arguments) s
  unfolding called_where_it_stands
  called_err p arguments s t u e r spent key h passed =
      let d : Does (Err e) t (object_called accesses p arguments) s = record { is = λ ne. object_err p arguments s t e spent (h ne) } in
      let i : Does r u (call_passing p (object_called accesses p arguments)) s = call_refused p (object_called accesses p arguments) d passed in
      record { is = λ ne. rw key (i.is ne) }

  pub called_none : (p : List Seg) (arguments : List Given) (s : MachineState S) → contains_key s.world.names.map p ≡ false → called_where_it_stands accesses p arguments s ≡ (Ok tt, s)
  unfolding called_where_it_stands
  called_none p arguments s key = rw key refl

  -- ---- the mode has no part in a call, and it leaves a machine that isn't spent

  by_answer : (mode : Mode) (x : Outcome Given) (w : State S) (s : MachineState S) → go_on x (record (in_mode mode s) { world = w }) (λ answer. give (tt {0})) ≡ (let r = go_on x (record s { world = w }) (λ answer. give (tt {0})) in (r.0, in_mode mode r.1))
  unfolding go_on give
  by_answer mode (Ok a) w s = refl
  by_answer mode (Err e) w s = refl

  called_in : (mode : Mode) (p : List Seg) (arguments : List Given) (s : MachineState S) → object_called accesses p arguments (in_mode mode s) ≡ (let r = object_called accesses p arguments s in (r.0, in_mode mode r.1))
  unfolding object_called object_answered on_world ◌>>=◌
  called_in mode p arguments s = by_answer mode (answered accesses p arguments s.steps s.world).0 (answered accesses p arguments s.steps s.world).1 s

  refused_in : (mode : Mode) (p : List Seg) (e : Refusal) (s : MachineState S) (wide : Bool) → (if wide then on_world (passed_over p e) (in_mode mode s) else (Err e, in_mode mode s))
      ≡ (let r = (if wide then on_world (passed_over p e) s else (Err e, s)) in (r.0, in_mode mode r.1))
  unfolding on_world
  refused_in mode p e s true = refl
  refused_in mode p e s false = refl

  done_in : (mode : Mode) (p : List Seg) (x : Outcome (Unit {0})) (s : MachineState S) → call_done p x (in_mode mode s) ≡ (let r = call_done p x s in (r.0, in_mode mode r.1))
  done_in mode p (Ok u) s = refl
  done_in mode p (Err e) s = refused_in mode p e s (is_wide s.world.profile)

  passing_in : (mode : Mode) (p : List Seg) (arguments : List Given) (s : MachineState S) → call_passing p (object_called accesses p arguments) (in_mode mode s) ≡ (let r = call_passing p (object_called accesses p arguments) s in (r.0, in_mode mode r.1))
  unfolding call_passing
  passing_in mode p arguments s =
      ap (λ (a : Outcome (Unit {0}) × MachineState S). call_done p a.0 a.1) (called_in mode p arguments s) ∙ done_in mode p (object_called accesses p arguments s).0 (object_called accesses p arguments s).1

  if_it_stands : (mode : Mode) (p : List Seg) (arguments : List Given) (s : MachineState S) (b : Bool) → (if b then call_passing p (object_called accesses p arguments) (in_mode mode s) else (Ok tt, in_mode mode s))
      ≡ (let r = (if b then call_passing p (object_called accesses p arguments) s else (Ok tt, s)) in (r.0, in_mode mode r.1))
  if_it_stands mode p arguments s true = passing_in mode p arguments s
  if_it_stands mode p arguments s false = refl

  moved : (mode : Mode) (p : List Seg) (arguments : List Given) (s t : MachineState S) (r : Outcome (Unit {0})) → called_where_it_stands accesses p arguments s ≡ (r, t) → called_where_it_stands accesses p arguments (in_mode mode s) ≡ (r, in_mode mode t)
  unfolding called_where_it_stands
  moved mode p arguments s t r h = if_it_stands mode p arguments s (contains_key s.world.names.map p) ∙ ap (λ x. (x.0, in_mode mode x.1)) h

  left_by : (x : Outcome Given) (w : State S) (s : MachineState S) → (go_on x (record s { world = w }) (λ answer. give (tt {0}))).1.spent ≡ s.spent
  unfolding go_on give
  left_by (Ok a) w s = refl
  left_by (Err e) w s = refl

  object_left : (p : List Seg) (arguments : List Given) (s : MachineState S) → (object_called accesses p arguments s).1.spent ≡ s.spent
  unfolding object_called object_answered on_world ◌>>=◌
  object_left p arguments s = left_by (answered accesses p arguments s.steps s.world).0 (answered accesses p arguments s.steps s.world).1 s

  refused_left : (p : List Seg) (e : Refusal) (s : MachineState S) (wide : Bool) → (if wide then on_world (passed_over p e) s else (Err e, s)).1.spent ≡ s.spent
  unfolding on_world
  refused_left p e s true = refl
  refused_left p e s false = refl

  done_left : (p : List Seg) (x : Outcome (Unit {0})) (s : MachineState S) → (call_done p x s).1.spent ≡ s.spent
  done_left p (Ok u) s = refl
  done_left p (Err e) s = refused_left p e s (is_wide s.world.profile)

  called_left : (p : List Seg) (arguments : List Given) (s : MachineState S) (b : Bool) → (if b then call_passing p (object_called accesses p arguments) s else (Ok tt, s)).1.spent ≡ s.spent
  unfolding call_passing
  called_left p arguments s true = done_left p (object_called accesses p arguments s).0 (object_called accesses p arguments s).1 ∙ object_left p arguments s
  called_left p arguments s false = refl

  left : (p : List Seg) (arguments : List Given) (s t : MachineState S) (r : Outcome (Unit {0})) → called_where_it_stands accesses p arguments s ≡ (r, t) → s.spent ≡ false → t.spent ≡ false
  unfolding called_where_it_stands
  left p arguments s t r h spent = ap (λ x. x.1.spent) (sym h) ∙ (called_left p arguments s (contains_key s.world.names.map p) ∙ spent)

  -- ---- the three calls

  module _ (mode : Mode) (paths : InitialPaths) where
    abbrev root_called : Change (MachineState S) (Unit {0})
    root_called = called_where_it_stands accesses paths.root_ini []

    abbrev bus_called : Change (MachineState S) (Unit {0})
    bus_called = called_where_it_stands accesses paths.bus_ini []

    abbrev pic_called : Change (MachineState S) (Unit {0})
    pic_called = called_where_it_stands accesses paths.pic (given.Integer (mode_number mode) ∷ [])

    initialized_is : (s : MachineState S) (r : Outcome (Unit {0}) × MachineState S) → s.spent ≡ false → initial_calls accesses mode (in_mode mode s) ≡ r → initialized accesses mode s ≡ r
    unfolding initialized unless_spent started
    initialized_is s r spent h = ap (λ b. if b then stop (refusal.Machine Spent) s else initial_calls accesses mode (in_mode mode s)) spent ∙ h

    root_run : (s t : MachineState S) (e : Refusal) → root_called s ≡ (Err e, t) → initial_calls accesses mode s ≡ (Err e, t)
    unfolding initial_calls settle ◌>>=◌ go_on
    root_run s t e h = rw (paths.is_root_ini, h) refl

    bus_run : (s t u : MachineState S) (e : Refusal) → root_called s ≡ (Ok tt, t) → bus_called t ≡ (Err e, u) → initial_calls accesses mode s ≡ (Err e, u)
    unfolding initial_calls settle ◌>>=◌ go_on
    bus_run s t u e h i = rw (paths.is_root_ini, h, paths.is_bus_ini, i) refl

    pic_run : (s t u v : MachineState S) (r : Outcome (Unit {0})) → root_called s ≡ (Ok tt, t) → bus_called t ≡ (Ok tt, u) → pic_called u ≡ (r, v) → initial_calls accesses mode s ≡ (r, v)
    unfolding initial_calls settle ◌>>=◌ go_on
    pic_run s t u v r h i j = rw (paths.is_root_ini, h, paths.is_bus_ini, i, paths.is_pic, j) refl

    pub root_refused : (s t : MachineState S) (r : Outcome (Unit {0})) → s.spent ≡ false → (s.spent ≡ false → Does r t root_called s) → TellsRefused r true → IsCallRefused accesses mode s paths.root_ini
    root_refused s t r spent d told =
        let h = refused_by root_called s t r (d spent) told in
        let at = moved mode paths.root_ini [] s t (Err h.0) h.1 in
        record {
          paths = paths;
          after = in_mode mode t;
          refusal = h.0;
          arguments = [];
          number = 0;
          is_first = record { earlier = []; later = (paths.bus_ini, []) ∷ (paths.pic, given.Integer (mode_number mode) ∷ []) ∷ []; are_all = refl; are_counted = refl; there = in_mode mode s; are_answered = refl; is_refused = at };
          is_run = initialized_is s (Err h.0, in_mode mode t) spent (root_run (in_mode mode s) (in_mode mode t) h.0 at);
        }

    pub bus_refused : (s t u : MachineState S) (r x : Outcome (Unit {0})) → s.spent ≡ false → (s.spent ≡ false → Does r t root_called s) → TellsRefused r false → (t.spent ≡ false → Does x u bus_called t) → TellsRefused x true
        → IsCallRefused accesses mode s paths.bus_ini
    bus_refused s t u r x spent d told d2 told2 =
        let f = answered_by root_called s t r (d spent) told in
        let h = refused_by bus_called t u x (d2 (left paths.root_ini [] s t (Ok f.0) f.1 spent)) told2 in
        let at1 = moved mode paths.root_ini [] s t (Ok f.0) f.1 in
        let at2 = moved mode paths.bus_ini [] t u (Err h.0) h.1 in
        record {
          paths = paths;
          after = in_mode mode u;
          refusal = h.0;
          arguments = [];
          number = 1;
          is_first = record { earlier = (paths.root_ini, []) ∷ []; later = (paths.pic, given.Integer (mode_number mode) ∷ []) ∷ []; are_all = refl; are_counted = refl; there = in_mode mode t; are_answered = (f.0, in_mode mode t, at1, refl); is_refused = at2 };
          is_run = initialized_is s (Err h.0, in_mode mode u) spent (bus_run (in_mode mode s) (in_mode mode t) (in_mode mode u) h.0 at1 at2);
        }

    pub pic_refused : (s t u v : MachineState S) (r x y : Outcome (Unit {0})) → s.spent ≡ false → (s.spent ≡ false → Does r t root_called s) → TellsRefused r false → (t.spent ≡ false → Does x u bus_called t) → TellsRefused x false
        → (u.spent ≡ false → Does y v pic_called u) → TellsRefused y true → IsCallRefused accesses mode s paths.pic
    pic_refused s t u v r x y spent d told d2 told2 d3 told3 =
        let f = answered_by root_called s t r (d spent) told in
        let spent2 = left paths.root_ini [] s t (Ok f.0) f.1 spent in
        let f2 = answered_by bus_called t u x (d2 spent2) told2 in
        let h = refused_by pic_called u v y (d3 (left paths.bus_ini [] t u (Ok f2.0) f2.1 spent2)) told3 in
        let at1 = moved mode paths.root_ini [] s t (Ok f.0) f.1 in
        let at2 = moved mode paths.bus_ini [] t u (Ok f2.0) f2.1 in
        let at3 = moved mode paths.pic (given.Integer (mode_number mode) ∷ []) u v (Err h.0) h.1 in
        record {
          paths = paths;
          after = in_mode mode v;
          refusal = h.0;
          arguments = given.Integer (mode_number mode) ∷ [];
          number = 2;
          is_first = record { earlier = (paths.root_ini, []) ∷ (paths.bus_ini, []) ∷ []; later = []; are_all = refl; are_counted = refl; there = in_mode mode u; are_answered = (f.0, in_mode mode t, at1, (f2.0, in_mode mode u, at2, refl)); is_refused = at3 };
          is_run = initialized_is s (Err h.0, in_mode mode v) spent (pic_run (in_mode mode s) (in_mode mode t) (in_mode mode u) (in_mode mode v) (Err h.0) at1 at2 at3);
        }

    pub none_refused : (s t u v : MachineState S) (r x y : Outcome (Unit {0})) → s.spent ≡ false → (s.spent ≡ false → Does r t root_called s) → TellsRefused r false → (t.spent ≡ false → Does x u bus_called t) → TellsRefused x false
        → (u.spent ≡ false → Does y v pic_called u) → TellsRefused y false → IsCall accesses mode s None
    none_refused s t u v r x y spent d told d2 told2 d3 told3 =
        let f = answered_by root_called s t r (d spent) told in
        let spent2 = left paths.root_ini [] s t (Ok f.0) f.1 spent in
        let f2 = answered_by bus_called t u x (d2 spent2) told2 in
        let h = answered_by pic_called u v y (d3 (left paths.bus_ini [] t u (Ok f2.0) f2.1 spent2)) told3 in
        let at1 = moved mode paths.root_ini [] s t (Ok f.0) f.1 in
        let at2 = moved mode paths.bus_ini [] t u (Ok f2.0) f2.1 in
        let at3 = moved mode paths.pic (given.Integer (mode_number mode) ∷ []) u v (Ok h.0) h.1 in
        (in_mode mode v, initialized_is s (Ok h.0, in_mode mode v) spent (pic_run (in_mode mode s) (in_mode mode t) (in_mode mode u) (in_mode mode v) (Ok h.0) at1 at2 at3))

-- the same call, with arguments that are equal
pub called_with : {S : Type 0} (accesses : Accesses S) (p : List Seg) (a b : List Given) (s t : MachineState S) (r : Outcome (Unit {0})) → a ≡ b → (s.spent ≡ false → Does r t (called_where_it_stands accesses p a) s)
    → s.spent ≡ false → Does r t (called_where_it_stands accesses p b) s
called_with accesses p a b s t r same h spent = subst (λ x. Does r t (called_where_it_stands accesses p x) s) same (h spent)
