-- What initializing calls, one after another.
use Rattle.std.specs.Prelude.{◌≡◌, List, [], ◌∷◌, Bool, true, false, codes, is_some, Option, Some, None, Ok, Err, refl, if◌then◌else◌}
use Rattle.std.specs.FinMap.{get}
use Rattle.std.proofs.Common.{sym, ap, subst}
use Rattle.ar_space.specs.declared.refusal.Refusal.{Refusal}
use Rattle.ar_space.specs.declared.refusal.Refusal.TheVariants as refusal
use Rattle.ar_space.specs.declared.refusal.MachineFault.TheVariants.{Spent}
use Rattle.ar_space.specs.Accesses.{Accesses}
use Rattle.ar_space.specs.Outcome.{Outcome}
use Rattle.ar_space.specs.Change.{Change, settle, give, stop, go_on, ◌>>=◌}
use Rattle.ar_tables.specs.declared.mode.Mode.{Mode}
use Rattle.ar_tables.specs.declared.mode.Mode.TheVariants.{Pic, Apic}
use Rattle.aml_path.specs.declared.segment.Seg.{Seg}
use Rattle.aml_objects.specs.declared.entry.Entry.{Entry}
use Rattle.aml_world.specs.declared.state.profile.Profile.{Profile}
use Rattle.aml_world.specs.declared.state.profile.Profile.TheVariants as profiles
use Rattle.aml_world.specs.state.Given.{Given}
use Rattle.aml_world.specs.state.Given as given
use Rattle.aml_world.specs.state.PassedOver.{is_passable}
use Rattle.aml_world.specs.state.Profiles.{is_wide}
use Rattle.aml_world.specs.state.State.{State}
use Rattle.aml_meaning.specs.Calling.{answered}
use Rattle.acpi_machine.specs.Calls.{on_world, unless_spent, mode_number, call_done, call_passing, object_answered, object_called, called_where_it_stands, initial_calls, started, initialized}
use Rattle.acpi_machine.specs.FixedPaths.{at_root, below_root}
use Rattle.acpi_machine.specs.MachineStates.{MachineState}
use Rattle.machine_laws.specs.Initializing.{ini, system_bus, pic, controllers_told, Callee, initializing_calls, CallEnds, absent, called, passed_over, refused_in_core, refused, CalledInTurn, no_more, next, ended}
use Rattle.machine_laws.proofs.CallsPassedOver.{root_is, below_is}
use Rattle.machine_laws.proofs.CallsTogether.{Called, refused_by, refused_is}

number_told : (mode : Mode) → mode_number mode ≡ controllers_told mode
number_told Pic = refl
number_told Apic = refl

module _ {S : Type 0} (accesses : Accesses S) where
  -- ---- one call

  module _ (p : List Seg) (arguments : List Given) (m : MachineState S) (entry : Entry) (there : get m.world.names.map p ≡ Some entry) where
    abbrev Ends : Called S → Type 0
    Ends x = CallEnds accesses p arguments m x.0 x.1

    refused_ends : (e : Refusal) (w : State S) → answered accesses p arguments m.steps m.world ≡ (Err e, w) → (wide : Profile) → w.profile ≡ wide → (b : Bool) → is_passable e ≡ b → Ends (refused_by (is_wide wide) b p e (record m { world = w }))
    refused_ends e w is profiles.Core profile b passable = refused_in_core entry e w there is profile
    refused_ends e w is profiles.Wide profile true passable = passed_over entry e w there is profile passable
    refused_ends e w is profiles.Wide profile false passable = refused entry e w there is passable

    ends_by : (x : Outcome Given) (w : State S) → answered accesses p arguments m.steps m.world ≡ (x, w) → Ends (call_done p (go_on x (record m { world = w }) (λ a. give {S = MachineState S} (tt {0}))).0 (go_on x (record m { world = w }) (λ a. give {S = MachineState S} (tt {0}))).1)
    unfolding go_on give
    ends_by (Ok answer) w is = called entry answer w there is
    ends_by (Err e) w is = subst Ends (sym (refused_is p e (record m { world = w }))) (refused_ends e w is w.profile refl (is_passable e) refl)

    call_ends : Ends (call_passing p (object_called accesses p arguments) m)
    unfolding call_passing object_called object_answered on_world ◌>>=◌
    call_ends = ends_by (answered accesses p arguments m.steps m.world).0 (answered accesses p arguments m.steps m.world).1 refl

  one_ends : (p : List Seg) (arguments : List Given) (m : MachineState S) → CallEnds accesses p arguments m (called_where_it_stands accesses p arguments m).0 (called_where_it_stands accesses p arguments m).1
  unfolding called_where_it_stands
  one_ends p arguments m = by (get m.world.names.map p) refl
    where
      by : (o : Option Entry) → get m.world.names.map p ≡ o
          → CallEnds accesses p arguments m (if is_some o then call_passing p (object_called accesses p arguments) m else (Ok tt, m)).0 (if is_some o then call_passing p (object_called accesses p arguments) m else (Ok tt, m)).1
      by None at = absent at
      by (Some entry) at = call_ends p arguments m entry at

  -- ---- one after another

  abbrev InTurn : List Callee → MachineState S → Called S → Type 0
  InTurn calls m x = CalledInTurn accesses calls m x.0 x.1

  then_in_turn : (p : List Seg) (arguments : List Given) (calls : List Callee) (rest : Change (MachineState S) (Unit {0})) → ((n : MachineState S) → InTurn calls n (rest n)) → (m : MachineState S)
      → InTurn ((p, arguments) ∷ calls) m ((called_where_it_stands accesses p arguments >>= (λ u. rest)) m)
  unfolding ◌>>=◌ go_on
  then_in_turn p arguments calls rest behind m = by (called_where_it_stands accesses p arguments m).0 (called_where_it_stands accesses p arguments m).1 (one_ends p arguments m)
    where
      by : (r : Outcome (Unit {0})) (n : MachineState S) → CallEnds accesses p arguments m r n → InTurn ((p, arguments) ∷ calls) m (go_on r n (λ u. rest))
      by (Ok u) n ends = next p arguments calls m n _ _ ends (behind n)
      by (Err e) n ends = ended p arguments calls m n e ends

  last_in_turn : (p : List Seg) (arguments : List Given) (m : MachineState S) → InTurn ((p, arguments) ∷ []) m (called_where_it_stands accesses p arguments m)
  last_in_turn p arguments m = by (called_where_it_stands accesses p arguments m).0 (called_where_it_stands accesses p arguments m).1 (one_ends p arguments m)
    where
      by : (r : Outcome (Unit {0})) (n : MachineState S) → CallEnds accesses p arguments m r n → CalledInTurn accesses ((p, arguments) ∷ []) m r n
      by (Ok u) n ends = next p arguments [] m n n (Ok tt) ends (no_more n)
      by (Err e) n ends = ended p arguments [] m n e ends

  at_path : (q : Outcome (List Seg)) (path : List Seg) (k : List Seg → Change (MachineState S) (Unit {0})) (calls : List Callee) (m : MachineState S) → q ≡ Ok path → InTurn calls m (k path m) → InTurn calls m ((settle q >>= k) m)
  unfolding settle ◌>>=◌ go_on
  at_path q path k calls m is turn = rw is turn

  pub calls_in_turn : (mode : Mode) (m : MachineState S) → InTurn (initializing_calls mode) m (initial_calls accesses mode m)
  unfolding initial_calls
  calls_in_turn mode m =
      at_path (at_root (codes "_INI")) (ini ∷ []) _ _ m (root_is (codes "_INI") refl) (then_in_turn (ini ∷ []) [] _ _ (λ n.
      at_path (below_root (codes "_SB_") (codes "_INI")) (system_bus ∷ ini ∷ []) _ _ n (below_is (codes "_SB_") (codes "_INI") refl refl) (then_in_turn (system_bus ∷ ini ∷ []) [] _ _ (λ l.
      at_path (at_root (codes "_PIC")) (pic ∷ []) _ _ l (root_is (codes "_PIC") refl)
      (subst (λ k. InTurn ((pic ∷ [], given.Integer k ∷ []) ∷ []) l (called_where_it_stands accesses (pic ∷ []) (given.Integer (mode_number mode) ∷ []) l)) (number_told mode) (last_in_turn (pic ∷ []) (given.Integer (mode_number mode) ∷ []) l))) n)) m)

  pub initializing_in_turn : (mode : Mode) (m : MachineState S) → m.spent ≡ false → CalledInTurn accesses (initializing_calls mode) (record m { mode = mode }) (initialized accesses mode m).0 (initialized accesses mode m).1
  unfolding initialized unless_spent started stop
  initializing_in_turn mode m whole =
      subst (λ (b : Bool). InTurn (initializing_calls mode) (record m { mode = mode }) (if b then (Err (refusal.Machine Spent), m) else initial_calls accesses mode (record m { mode = mode }))) (sym whole) (calls_in_turn mode (record m { mode = mode }))

  pub spent_is_refused : (mode : Mode) (m : MachineState S) → m.spent ≡ true → initialized accesses mode m ≡ (Err (refusal.Machine Spent), m)
  unfolding initialized unless_spent stop
  spent_is_refused mode m spent = ap (λ (b : Bool). if b then (Err (refusal.Machine Spent), m) else started accesses mode m) spent
