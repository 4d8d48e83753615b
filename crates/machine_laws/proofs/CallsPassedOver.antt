-- Calls of initializing that are passed over, and refusals that end it.
use Rattle.std.specs.Prelude.{◌≡◌, ℕ, List, [], ◌∷◌, Bool, true, false, codes, Ok, Err, refl, if◌then◌else◌}
use Rattle.std.specs.FinMap.{contains_key}
use Rattle.std.proofs.Common.{sym, ap, ◌∙◌}
use Rattle.ar_space.specs.declared.refusal.Refusal.{Refusal}
use Rattle.ar_space.specs.declared.refusal.Refusal.TheVariants as refusal
use Rattle.ar_space.specs.declared.refusal.MachineFault.TheVariants.{Spent}
use Rattle.ar_space.specs.Accesses.{Accesses}
use Rattle.ar_space.specs.Outcome.{Outcome}
use Rattle.ar_space.specs.Outcome as outcomes
use Rattle.ar_space.specs.Change.{Change, settle, give, stop, go_on, ◌>>=◌}
use Rattle.ar_tables.specs.declared.mode.Mode.{Mode}
use Rattle.aml_path.specs.declared.segment.Seg.{Seg}
use Rattle.aml_path.specs.Characters.{is_segment}
use Rattle.aml_path.proofs.Segments.{seg_is}
use Rattle.aml_world.specs.declared.state.profile.Profile.TheVariants as profiles
use Rattle.aml_world.specs.state.Given.{Given}
use Rattle.aml_world.specs.state.Given as given
use Rattle.aml_world.specs.state.PassedOver.{is_passable}
use Rattle.aml_world.specs.state.Profiles.{is_wide}
use Rattle.aml_world.specs.state.Noting.{with_passed}
use Rattle.aml_meaning.specs.Calling.{answered}
use Rattle.aml_laws.specs.Becomes.{same, answer}
use Rattle.aml_laws.proofs.ProfileKept.{profile_is_kept}
use Rattle.acpi_machine.specs.Calls.{on_world, unless_spent, mode_number, call_done, call_passing, object_answered, object_called, called_where_it_stands, initial_calls, started, initialized}
use Rattle.acpi_machine.specs.FixedPaths.{at_root, below_root}
use Rattle.acpi_machine.specs.MachineStates.{MachineState}
use Rattle.machine_laws.proofs.CallsTogether.{Called, refused_by, refused_is, done_profile}

pub root_is : (name : List ℕ) (valid : is_segment name ≡ true) → at_root name ≡ Ok (record { bytes = name; valid = valid } ∷ [])
unfolding at_root outcomes.◌>>=◌
root_is name valid = rw (seg_is name valid) refl

pub below_is : (parent name : List ℕ) (above : is_segment parent ≡ true) (valid : is_segment name ≡ true) → below_root parent name ≡ Ok (record { bytes = parent; valid = above } ∷ record { bytes = name; valid = valid } ∷ [])
unfolding below_root outcomes.◌>>=◌
below_is parent name above valid = rw (seg_is parent above, seg_is name valid) refl

module _ {S : Type 0} (accesses : Accesses S) where
  answered_is : (p : List Seg) (arguments : List Given) (m after : MachineState S) (e : Refusal) → object_answered accesses p arguments m ≡ (Err e, after) → object_called accesses p arguments m ≡ (Err e, after)
  unfolding object_called ◌>>=◌ go_on
  answered_is p arguments m after e h = rw h refl

  stands_is : (p : List Seg) (arguments : List Given) (m : MachineState S) → contains_key m.world.names.map p ≡ true → called_where_it_stands accesses p arguments m ≡ call_passing p (object_called accesses p arguments) m
  unfolding called_where_it_stands
  stands_is p arguments m h = ap (λ (b : Bool). if b then call_passing p (object_called accesses p arguments) m else (Ok tt, m)) h

  done_is : (p : List Seg) (m : Change (MachineState S) (Unit {0})) (s after : MachineState S) (e : Refusal) → m s ≡ (Err e, after) → call_passing p m s ≡ refused_by (is_wide after.world.profile) (is_passable e) p e after
  unfolding call_passing
  done_is p m s after e h = ap (λ (a : Called S). call_done p a.0 a.1) h ∙ refused_is p e after

  pub call_noted : (p : List Seg) (arguments : List Given) (m after : MachineState S) (e : Refusal) → contains_key m.world.names.map p ≡ true → object_answered accesses p arguments m ≡ (Err e, after) → after.world.profile ≡ profiles.Wide → is_passable e ≡ true
      → called_where_it_stands accesses p arguments m ≡ (Ok tt, record after { world = with_passed p e after.world })
  call_noted p arguments m after e there h wide holds =
      stands_is p arguments m there ∙ (done_is p (object_called accesses p arguments) m after e (answered_is p arguments m after e h) ∙ (ap (λ q. refused_by (is_wide q) (is_passable e) p e after) wide ∙ ap (λ b. refused_by true b p e after) holds))

  pub call_refused : (p : List Seg) (arguments : List Given) (m after : MachineState S) (e : Refusal) → contains_key m.world.names.map p ≡ true → object_answered accesses p arguments m ≡ (Err e, after) → is_passable e ≡ false → called_where_it_stands accesses p arguments m ≡ (Err e, after)
  call_refused p arguments m after e there h fails =
      stands_is p arguments m there ∙ (done_is p (object_called accesses p arguments) m after e (answered_is p arguments m after e h) ∙ (ap (λ b. refused_by (is_wide after.world.profile) b p e after) fails ∙ whichever (is_wide after.world.profile)))
    where
      whichever : (b : Bool) → refused_by b false p e after ≡ (Err e, after)
      whichever true = refl
      whichever false = refl

  pub call_refused_in_core : (p : List Seg) (arguments : List Given) (m after : MachineState S) (e : Refusal) → contains_key m.world.names.map p ≡ true → object_answered accesses p arguments m ≡ (Err e, after) → after.world.profile ≡ profiles.Core → called_where_it_stands accesses p arguments m ≡ (Err e, after)
  call_refused_in_core p arguments m after e there h core =
      stands_is p arguments m there ∙ (done_is p (object_called accesses p arguments) m after e (answered_is p arguments m after e h) ∙ ap (λ q. refused_by (is_wide q) (is_passable e) p e after) core)

  -- ---- in the wide profile nothing that may be passed over ends initializing

  abbrev Ends : Change (MachineState S) (Unit {0}) → Type 0
  Ends m = (s : MachineState S) → s.world.profile ≡ profiles.Wide → (e : Refusal) → (m s).0 ≡ Err e → is_passable e ≡ false

  abbrev Keeps : Change (MachineState S) (Unit {0}) → Type 0
  Keeps m = (s : MachineState S) → (m s).1.world.profile ≡ s.world.profile

  answered_keeps : (p : List Seg) (arguments : List Given) (s : MachineState S) → (object_answered accesses p arguments s).1.world.profile ≡ s.world.profile
  unfolding object_answered on_world
  answered_keeps p arguments s = profile_is_kept accesses s.world (answered accesses p arguments s.steps s.world).1 (answer s.world p arguments s.steps same)

  dropped : {A : Type 0} (r : Outcome A) (t : MachineState S) → (go_on r t (λ a. give {S = MachineState S} (tt {0}))).1 ≡ t
  unfolding go_on give
  dropped (Ok a) t = refl
  dropped (Err e) t = refl

  called_keeps : (p : List Seg) (arguments : List Given) → Keeps (object_called accesses p arguments)
  unfolding object_called ◌>>=◌
  called_keeps p arguments s = ap (λ (x : MachineState S). x.world.profile) (dropped (object_answered accesses p arguments s).0 (object_answered accesses p arguments s).1) ∙ answered_keeps p arguments s

  refused_ends : (b : Bool) (p : List Seg) (e x : Refusal) (s : MachineState S) → (refused_by true b p e s).0 ≡ Err x → is_passable e ≡ b → is_passable x ≡ false
  refused_ends true p e x s h is = absurd (cc h)
  refused_ends false p e x s h is = let q : e ≡ x = cc h in ap is_passable (sym q) ∙ is

  done_ends : (p : List Seg) (r : Outcome (Unit {0})) (s : MachineState S) → s.world.profile ≡ profiles.Wide → (x : Refusal) → (call_done p r s).0 ≡ Err x → is_passable x ≡ false
  done_ends p (Ok u) s wide x h = absurd (cc h)
  done_ends p (Err e) s wide x h = refused_ends (is_passable e) p e x s (sym (ap (λ (a : Called S). a.0) (refused_is p e s ∙ ap (λ q. refused_by (is_wide q) (is_passable e) p e s) wide)) ∙ h) refl

  by_standing : (b : Bool) (p : List Seg) (m : Change (MachineState S) (Unit {0})) → Keeps m → Ends (λ s. if b then call_passing p m s else (Ok tt, s))
  unfolding call_passing
  by_standing true p m keeps s wide e h = done_ends p (m s).0 (m s).1 (keeps s ∙ wide) e h
  by_standing false p m keeps s wide e h = absurd (cc h)

  call_ends : (p : List Seg) (arguments : List Given) → Ends (called_where_it_stands accesses p arguments)
  unfolding called_where_it_stands
  call_ends p arguments s wide e h = by_standing (contains_key s.world.names.map p) p (object_called accesses p arguments) (called_keeps p arguments) s wide e h

  standing_keeps : (b : Bool) (p : List Seg) (m : Change (MachineState S) (Unit {0})) → Keeps m → Keeps (λ s. if b then call_passing p m s else (Ok tt, s))
  unfolding call_passing
  standing_keeps true p m keeps s = done_profile p (m s).0 (m s).1 ∙ keeps s
  standing_keeps false p m keeps s = refl

  call_keeps : (p : List Seg) (arguments : List Given) → Keeps (called_where_it_stands accesses p arguments)
  unfolding called_where_it_stands
  call_keeps p arguments s = standing_keeps (contains_key s.world.names.map p) p (object_called accesses p arguments) (called_keeps p arguments) s

  then_ends : (m n : Change (MachineState S) (Unit {0})) → Ends m → Keeps m → Ends n → Ends (m >>= (λ u. n))
  unfolding ◌>>=◌ go_on
  then_ends m n a k b s wide e h = after (m s).0 (m s).1 (a s wide) (k s ∙ wide) h
    where
      after : (r : Outcome (Unit {0})) (t : MachineState S) → ((x : Refusal) → r ≡ Err x → is_passable x ≡ false) → t.world.profile ≡ profiles.Wide → (go_on r t (λ u. n)).0 ≡ Err e → is_passable e ≡ false
      after (Ok u) t ends kept i = b t kept e i
      after (Err x) t ends kept i = let q : x ≡ e = cc i in ap is_passable (sym q) ∙ ends x refl

  path_ends : (q : Outcome (List Seg)) (r : List Seg) (n : List Seg → Change (MachineState S) (Unit {0})) → q ≡ Ok r → Ends (n r) → Ends (settle q >>= n)
  unfolding settle ◌>>=◌ go_on
  path_ends q r n is ends = rw is ends

  calls_end : (mode : Mode) → Ends (initial_calls accesses mode)
  unfolding initial_calls
  calls_end mode =
      path_ends (at_root (codes "_INI")) _ _ (root_is (codes "_INI") refl) (then_ends _ _ (call_ends _ []) (call_keeps _ []) (path_ends (below_root (codes "_SB_") (codes "_INI")) _ _ (below_is (codes "_SB_") (codes "_INI") refl refl) (then_ends _ _ (call_ends _ []) (call_keeps _ [])
      (path_ends (at_root (codes "_PIC")) _ _ (root_is (codes "_PIC") refl) (call_ends _ (given.Integer (mode_number mode) ∷ []))))))

  unless_ends : (b : Bool) (m : Change (MachineState S) (Unit {0})) → Ends m → Ends (λ s. if b then stop (refusal.Machine Spent) s else m s)
  unfolding stop
  unless_ends true m a s wide e h = let q : refusal.Machine Spent ≡ e = cc h in ap is_passable (sym q)
  unless_ends false m a s wide e h = a s wide e h

  pub initializing_ends : (mode : Mode) (s : MachineState S) (e : Refusal) → s.world.profile ≡ profiles.Wide → (initialized accesses mode s).0 ≡ Err e → is_passable e ≡ false
  unfolding initialized unless_spent started
  initializing_ends mode s e wide h = unless_ends s.spent (started accesses mode) (λ t w x i. calls_end mode (record t { mode = mode }) w x i) s wide e h
