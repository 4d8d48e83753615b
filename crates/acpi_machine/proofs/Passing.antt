-- Calls of initializing that are passed over.
use Rattle.std.specs.Prelude.{◌≡◌, ◌≢◌, ℕ, List, Bool, true, false, Ok, Err, if◌then◌else◌}
use Rattle.std.proofs.Common.{refl, sym, ap, ◌∙◌}
use Rattle.ar_space.specs.Outcome.{Outcome, NotMemory}
use Rattle.ar_space.specs.Change.{Change, Does}
use Rattle.ar_space.specs.declared.refusal.Refusal.{Refusal}
use Rattle.ar_space.specs.declared.refusal.Refusal.TheVariants.{OutOfMemory}
use Rattle.ar_tables.specs.declared.mode.Mode.{Mode}
use Rattle.ar_tables.specs.declared.tables.Tables.{Tables}
use Rattle.aml_path.specs.declared.segment.Seg.{Seg}
use Rattle.aml_world.specs.declared.state.profile.Profile.{Profile}
use Rattle.aml_world.specs.state.State.{State}
use Rattle.aml_world.specs.state.Profiles.{is_wide}
use Rattle.aml_world.specs.state.Noting.{passed_over}
use Rattle.acpi_machine.specs.Calls.{on_world, refused_call, call_passing}
use Rattle.acpi_machine.specs.MachineStates.{MachineState}

no_memory : (r : Outcome (Unit {0})) → r ≡ Err OutOfMemory → NotMemory r → ⊥
no_memory (Ok u) is ne = absurd (cc is)
no_memory (Err e) is ne = ne (cc is)

module _ {S : Type 0} (p : List Seg) where
  pub call_answered : {u : Unit {0}} {s s1 : MachineState S} (m : Change (MachineState S) (Unit {0})) → Does (Ok u) s1 m s → Does (Ok u) s1 (call_passing p m) s
  unfolding call_passing
  call_answered m h = record { is = λ ne. rw (h.is tt) refl }

  by_profile : (wide : Bool) (s : MachineState S) → (if wide then on_world (passed_over p OutOfMemory) s else (Err OutOfMemory, s)).0 ≡ Err OutOfMemory
  unfolding on_world passed_over
  by_profile true s = refl
  by_profile false s = refl

  -- want of memory is never passed over
  memory_refused : (e : Refusal) (s : MachineState S) → e ≡ OutOfMemory → (refused_call p e s).0 ≡ Err OutOfMemory
  memory_refused e s is = rw is (by_profile (is_wide s.world.profile) s)

  pub call_refused : {e : Refusal} {r : Outcome (Unit {0})} {s s1 s2 : MachineState S} (m : Change (MachineState S) (Unit {0})) → Does (Err e) s1 m s → Does r s2 (refused_call p e) s1 → Does r s2 (call_passing p m) s
  unfolding call_passing
  call_refused {e = e} {r = r} {s1 = s1} m h i = record {
    is = λ ne.
        let other : e ≢ OutOfMemory = λ q. no_memory r (sym (ap (λ a. a.0) (i.is ne)) ∙ memory_refused e s1 q) ne in
        rw (h.is other) (i.is ne);
  }

  pub passed_wide : {r : Outcome (Unit {0})} (w w1 : State S) (t : Tables) (mode : Mode) (n : ℕ) (b : Bool) (e : Refusal) (s : MachineState S) (profile : Profile) (wide : Bool) → record { world = w; tables = t; mode = mode; steps = n; spent = b } ≡ s
      → profile ≡ s.world.profile → wide ≡ is_wide profile → wide ≡ true → Does r w1 (passed_over p e) w → Does r (record { world = w1; tables = t; mode = mode; steps = n; spent = b }) (refused_call p e) s
  unfolding on_world
  passed_wide w w1 t mode n b e s profile wide same is told holds h =
      let flag : is_wide s.world.profile ≡ true = ap is_wide (sym is) ∙ (sym told ∙ holds) in
      record { is = λ ne. ap (λ x. if x then on_world (passed_over p e) s else (Err e, s)) flag ∙ rw (← same, h.is ne) refl }

  pub passed_core : (e : Refusal) (s : MachineState S) (profile : Profile) (wide : Bool) → profile ≡ s.world.profile → wide ≡ is_wide profile → wide ≡ false → Does (Err e) s (refused_call p e) s
  passed_core e s profile wide is told fails =
      let flag : is_wide s.world.profile ≡ false = ap is_wide (sym is) ∙ (sym told ∙ fails) in
      record { is = λ ne. ap (λ x. if x then on_world (passed_over p e) s else (Err e, s)) flag }

pub ruleset passing = (call_answered, call_refused, passed_wide, passed_core)
