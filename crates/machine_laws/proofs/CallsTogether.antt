-- Calls of initializing side by side, which the wide profile may pass over.
use Rattle.std.specs.Prelude.{◌≡◌, List, Bool, true, false, Ok, Err, refl, if◌then◌else◌}
use Rattle.std.proofs.Common.{inl, inr, sym, subst, ap, ◌∙◌}
use Rattle.ar_space.specs.declared.refusal.Refusal.{Refusal}
use Rattle.ar_space.specs.Accesses.{Accesses}
use Rattle.ar_space.specs.Outcome.{Outcome}
use Rattle.ar_space.specs.Change.{Change}
use Rattle.aml_path.specs.declared.segment.Seg.{Seg}
use Rattle.aml_world.specs.declared.state.profile.Profile.TheVariants as profiles
use Rattle.aml_world.specs.declared.state.profile.Profile.{Profile}
use Rattle.aml_world.specs.declared.state.settings.Nesting.{Nesting}
use Rattle.aml_world.specs.state.State.{State}
use Rattle.aml_world.specs.state.PassedOver.{is_passable}
use Rattle.aml_world.specs.state.Profiles.{is_wide}
use Rattle.aml_world.specs.state.Noting.{with_passed, passed_over}
use Rattle.acpi_machine.specs.Calls.{on_world, refused_call, call_done, call_passing}
use Rattle.acpi_machine.specs.MachineStates.{MachineState}
use Rattle.aml_laws.proofs.Together.{Sides, MayPass, Together, Comes, IsEnded, alike, Raise}
use Rattle.aml_laws.proofs.Levels.{level}
use Rattle.machine_laws.proofs.MachineShapes.{machine_beside, machines}

abbrev pub Called : Type 0 → Type 0
Called S = Outcome (Unit {0}) × MachineState S

-- what a refused call comes to, by the profile and by the refusal
abbrev pub refused_by : {S : Type 0} → Bool → Bool → List Seg → Refusal → MachineState S → Called S
refused_by true true q e s = (Ok tt, record s { world = with_passed q e s.world })
refused_by true false q e s = (Err e, s)
refused_by false passable q e s = (Err e, s)

module _ {S : Type 0} where
  passable_is : (passable : Bool) (q : List Seg) (e : Refusal) (s : MachineState S)
      → ◌≡◌ {A = Called S} ((if◌then◌else◌ {A = Outcome (Unit {0}) × State S} passable (Ok tt, with_passed q e s.world) (Err e, s.world)).0, record s { world = (if◌then◌else◌ {A = Outcome (Unit {0}) × State S} passable (Ok tt, with_passed q e s.world) (Err e, s.world)).1 })
      (refused_by true passable q e s)
  passable_is true q e s = refl
  passable_is false q e s = refl

  wide_is : (wide passable : Bool) (q : List Seg) (e : Refusal) (s : MachineState S) → is_passable e ≡ passable → (if wide then on_world (passed_over q e) s else (Err e, s)) ≡ refused_by wide passable q e s
  unfolding on_world passed_over
  wide_is true passable q e s is = passable_is (is_passable e) q e s ∙ ap (λ b. refused_by true b q e s) is
  wide_is false passable q e s is = refl

  pub refused_is : (q : List Seg) (e : Refusal) (s : MachineState S) → refused_call q e s ≡ refused_by (is_wide s.world.profile) (is_passable e) q e s
  refused_is q e s = wide_is (is_wide s.world.profile) (is_passable e) q e s refl

  by_space : (wide passable : Bool) (q : List Seg) (e : Refusal) (s : MachineState S) → (refused_by wide passable q e s).1.world.space ≡ s.world.space
  by_space true true q e s = refl
  by_space true false q e s = refl
  by_space false passable q e s = refl

  done_space : (q : List Seg) (r : Outcome (Unit {0})) (s : MachineState S) → (call_done q r s).1.world.space ≡ s.world.space
  done_space q (Ok u) s = refl
  done_space q (Err e) s = ap (λ (x : Called S). x.1.world.space) (refused_is q e s) ∙ by_space (is_wide s.world.profile) (is_passable e) q e s

  by_profile : (wide passable : Bool) (q : List Seg) (e : Refusal) (s : MachineState S) → (refused_by wide passable q e s).1.world.profile ≡ s.world.profile
  by_profile true true q e s = refl
  by_profile true false q e s = refl
  by_profile false passable q e s = refl

  pub done_profile : (q : List Seg) (r : Outcome (Unit {0})) (s : MachineState S) → (call_done q r s).1.world.profile ≡ s.world.profile
  done_profile q (Ok u) s = refl
  done_profile q (Err e) s = ap (λ (x : Called S). x.1.world.profile) (refused_is q e s) ∙ by_profile (is_wide s.world.profile) (is_passable e) q e s

module _ {S T : Type 0} where
  by_over : (raise : Raise) (wide passable : Bool) (q : List Seg) (e : Refusal) (s : MachineState S) (t : T) → refused_by wide passable q e (machine_beside raise s t) ≡ ((refused_by wide passable q e s).0, machine_beside raise (refused_by wide passable q e s).1 t)
  by_over raise true true q e s t = refl
  by_over raise true false q e s t = refl
  by_over raise false passable q e s t = refl

  -- over another space, where the profile is the same
  done_over : (raise : Raise) (q : List Seg) (r : Outcome (Unit {0})) (s : MachineState S) (t : T) → raise.0 s.world.profile ≡ s.world.profile → call_done q r (machine_beside raise s t) ≡ ((call_done q r s).0, machine_beside raise (call_done q r s).1 t)
  done_over raise q (Ok u) s t same = refl
  done_over raise q (Err e) s t same =
      refused_is q e (machine_beside raise s t) ∙ (ap (λ p. refused_by (is_wide p) (is_passable e) q e (machine_beside raise s t)) same
      ∙ (by_over raise (is_wide s.world.profile) (is_passable e) q e s t ∙ ap (λ (x : Called S). (x.0, machine_beside raise x.1 t)) (sym (refused_is q e s))))

-- ---- the same profile on both sides

module _ {S T : Type 0} {accesses : Accesses S} {accesses2 : Accesses T} (side : Sides accesses accesses2) (same : (p : Profile) → side.raise.0 p ≡ p) (unpassed : (e : Refusal) → is_passable e ≡ true → side.Ends e → ⊥) where
  by_ended : (wide passable : Bool) (q : List Seg) (e : Refusal) (s : MachineState S) → is_passable e ≡ passable → side.Ends e → IsEnded side.Ends (refused_by wide passable q e s).0
  by_ended true true q e s is h = absurd (unpassed e is h)
  by_ended true false q e s is h = h
  by_ended false passable q e s is h = h

  done_ended : (q : List Seg) (r : Outcome (Unit {0})) (s : MachineState S) → IsEnded side.Ends r → IsEnded side.Ends (call_done q r s).0
  done_ended q (Ok u) s h = absurd h
  done_ended q (Err e) s h = subst (λ (x : Called S). IsEnded side.Ends x.0) (sym (refused_is q e s)) (by_ended (is_wide s.world.profile) (is_passable e) q e s refl h)

  done_comes : (q : List Seg) (x : Called S) (y : Called T) → Comes side machines x y → Comes side machines (call_done q x.0 x.1) (call_done q y.0 y.1)
  done_comes q x y (inl parted) = inl (subst (λ s. side.beside.Parted s (call_done q y.0 y.1).1.world.space) (sym (done_space q x.0 x.1)) (subst (λ t. side.beside.Parted x.1.world.space t) (sym (done_space q y.0 y.1)) parted))
  done_comes q x y (inr (inl ended)) = inr (inl (done_ended q x.0 x.1 ended))
  done_comes q x y (inr (inr (t, is, i))) =
      inr (inr (t, ap (λ (a : Called T). call_done q a.0 a.1) is ∙ done_over side.raise q x.0 x.1 t (same x.1.world.profile), subst (λ s. side.beside.InStep s t) (sym (done_space q x.0 x.1)) i))

  pub call_alike : (q : List Seg) {m : Change (MachineState S) (Unit {0})} {n : Change (MachineState T) (Unit {0})} → Together side machines m n → Together side machines (call_passing q m) (call_passing q n)
  unfolding call_passing
  call_alike q {m = m} {n = n} h = record {
    left_parted = λ s t p. subst (λ x. side.beside.Parted x t) (sym (done_space q (m s).0 (m s).1)) (h.left_parted s t p);
    right_parted = λ s u p. subst (λ x. side.beside.Parted s x) (sym (done_space q (n u).0 (n u).1)) (h.right_parted s u p);
    goes = λ s t i. done_comes q (m s) (n (machine_beside side.raise s t)) (h.goes s t i);
  }

-- ---- the right one is wide

module _ {S T : Type 0} {accesses : Accesses S} {accesses2 : Accesses T} (side : Sides accesses accesses2) (wide : (p : Profile) → side.raise.0 p ≡ profiles.Wide) (as_deep : (d : Nesting) → side.raise.1 d ≡ d) (may : (e : Refusal) → is_passable e ≡ true → MayPass side.passes e) where
  -- the left one is of the core profile
  core_by : (passable : Bool) (q : List Seg) (e : Refusal) (s : MachineState S) (t : T) → is_passable e ≡ passable → side.beside.InStep s.world.space t → Comes (level side 0) machines (Err e, s) (refused_by true passable q e (machine_beside side.raise s t))
  core_by true q e s t is i = inr (inl (inr (refl, may e is)))
  core_by false q e s t is i = inr (inr (t, refl, i))

  core_done : (q : List Seg) (r : Outcome (Unit {0})) (s : MachineState S) (t : T) → side.beside.InStep s.world.space t → Comes (level side 0) machines (r, s) (call_done q r (machine_beside side.raise s t))
  core_done q (Ok u) s t i = inr (inr (t, refl, i))
  core_done q (Err e) s t i =
      subst (λ (y : Called T). Comes (level side 0) machines (Err e, s) y) (sym (refused_is q e (machine_beside side.raise s t) ∙ ap (λ p. refused_by (is_wide p) (is_passable e) q e (machine_beside side.raise s t)) (wide s.world.profile)))
      (core_by (is_passable e) q e s t refl i)

  core_comes : (q : List Seg) (x : Called S) (y : Called T) → Comes (level side 0) machines x y → Comes (level side 0) machines x (call_done q y.0 y.1)
  core_comes q x y (inl parted) = inl (subst (λ t. side.beside.Parted x.1.world.space t) (sym (done_space q y.0 y.1)) parted)
  core_comes q x y (inr (inl ended)) = inr (inl ended)
  core_comes q x y (inr (inr (t, is, i))) = subst (λ (a : Called T). Comes (level side 0) machines x (call_done q a.0 a.1)) (sym is) (core_done q x.0 x.1 t i)

  left_core : (q : List Seg) (r : Outcome (Unit {0})) (s : MachineState S) → s.world.profile ≡ profiles.Core → call_done q r s ≡ (r, s)
  left_core q (Ok u) s is = refl
  left_core q (Err e) s is = refused_is q e s ∙ ap (λ p. refused_by (is_wide p) (is_passable e) q e s) is

  -- both are wide
  wide_over : (s : MachineState S) (t : T) → s.world.profile ≡ profiles.Wide → machine_beside side.raise s t ≡ machine_beside (λ p. p, λ d. d) s t
  wide_over s t is =
      ap (λ d. record { world = record { names = s.world.names; arities = s.world.arities; objects = s.world.objects; frames = s.world.frames; started = s.world.started; space = t; osi = s.world.osi; width = s.world.width; profile = side.raise.0 s.world.profile; nesting = d; passed = s.world.passed }; tables = s.tables; mode = s.mode; steps = s.steps; spent = s.spent })
      (as_deep s.world.nesting)
      ∙ ap (λ p. record { world = record { names = s.world.names; arities = s.world.arities; objects = s.world.objects; frames = s.world.frames; started = s.world.started; space = t; osi = s.world.osi; width = s.world.width; profile = p; nesting = s.world.nesting; passed = s.world.passed }; tables = s.tables; mode = s.mode; steps = s.steps; spent = s.spent })
      (wide s.world.profile ∙ sym is)

  none : (r : Outcome (Unit {0})) → IsEnded (λ e. ⊥) r → ⊥
  none (Ok u) h = h
  none (Err e) h = h

  both_comes : (x : Called S) (y : Called T) → x.1.world.profile ≡ profiles.Wide → Comes (alike side.beside) machines x y → Comes (level side 0) machines x y
  both_comes x y is (inl parted) = inl parted
  both_comes x y is (inr (inl ended)) = absurd (none x.0 ended)
  both_comes x y is (inr (inr (t, same, i))) = inr (inr (t, same ∙ ap (λ a. (x.0, a)) (sym (wide_over x.1 t is)), i))

  module _ (q : List Seg) (m : Change (MachineState S) (Unit {0})) (n : Change (MachineState T) (Unit {0})) (h : Together (level side 0) machines m n) (g : Together (alike side.beside) machines m n) (kept : (s : MachineState S) → (m s).1.world.profile ≡ s.world.profile) where
    goes_by : (p : Profile) (s : MachineState S) (t : T) → s.world.profile ≡ p → side.beside.InStep s.world.space t → Comes (level side 0) machines (call_done q (m s).0 (m s).1) (call_done q (n (machine_beside side.raise s t)).0 (n (machine_beside side.raise s t)).1)
    goes_by profiles.Core s t is i =
        subst (λ (x : Called S). Comes (level side 0) machines x (call_done q (n (machine_beside side.raise s t)).0 (n (machine_beside side.raise s t)).1)) (sym (left_core q (m s).0 (m s).1 (kept s ∙ is)))
        (core_comes q (m s) (n (machine_beside side.raise s t)) (h.goes s t i))
    goes_by profiles.Wide s t is i =
        subst (λ (a : MachineState T). Comes (level side 0) machines (call_done q (m s).0 (m s).1) (call_done q (n a).0 (n a).1)) (sym (wide_over s t is))
        (both_comes (call_done q (m s).0 (m s).1) _ (done_profile q (m s).0 (m s).1 ∙ (kept s ∙ is)) (done_comes (alike side.beside) (λ p. refl) (λ e holds k. k) q (m s) (n (machine_beside (λ p. p, λ d. d) s t)) (g.goes s t i)))

    pub call_widened : Together (level side 0) machines (call_passing q m) (call_passing q n)
    unfolding call_passing
    call_widened = record {
      left_parted = λ s t p. subst (λ x. side.beside.Parted x t) (sym (done_space q (m s).0 (m s).1)) (h.left_parted s t p);
      right_parted = λ s u p. subst (λ x. side.beside.Parted s x) (sym (done_space q (n u).0 (n u).1)) (h.right_parted s u p);
      goes = λ s t i. goes_by s.world.profile s t refl i;
    }
