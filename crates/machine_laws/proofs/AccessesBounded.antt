-- Evaluations and reports reach a register space by accesses, of which no more are made than may be.
use Rattle.std.specs.Prelude.{◌≡◌, ◌-◌, ℕ, zero, suc, List, Bool, Some, Result, Err, refl}
use Rattle.std.proofs.Common.{arith, inl, inr, ap, sym, subst, ◌∙◌}
use Rattle.ar_space.specs.declared.refusal.SpaceFault.{SpaceFault}
use Rattle.ar_space.specs.declared.refusal.SpaceFault.TheVariants.{Device}
use Rattle.ar_space.specs.declared.space.Width.{Width}
use Rattle.ar_space.specs.declared.space.Place.{Place}
use Rattle.ar_space.specs.Accesses.{Accesses}
use Rattle.ar_space.specs.Outcome.{Outcome}
use Rattle.aml_world.specs.state.State.{State}
use Rattle.aml_laws.specs.Becomes.{Becomes}
use Rattle.aml_laws.specs.Reached.{Reached}
use Rattle.aml_laws.specs.Reached as reached
use Rattle.aml_laws.proofs.SpaceReached.{space_reached}
use Rattle.aml_laws.proofs.Together.{SideBySide, Goes, alike, goes_from}
use Rattle.acpi_machine.specs.MachineStates.{MachineState}
use Rattle.acpi_links.specs.Gatherings.{Gathering, gathered}
use Rattle.acpi_configure.specs.Configured.{IsReport}
use Rattle.route_report.specs.Reports.{RoutingReport}
use Rattle.watched_space.specs.Metering.{Meter, made, metered}
use Rattle.machine_laws.specs.BoundedAccesses.{AfterAccesses, none, read, written, MadeAtMost}
use Rattle.machine_laws.proofs.LinksTogether.{gathered_together}
use Rattle.machine_laws.proofs.MachineShapes.{machine_over, machines}
use Rattle.machine_laws.proofs.ReportsCarried.{Carried, report_carried}

-- ---- reports reach the space by accesses: beside themselves, over the same space

module _ {S : Type 0} (accesses : Accesses S) (from : S) where
  unfoldable pub reaching : SideBySide accesses accesses
  reaching = record {
    InStep = λ s t. (s ≡ t) × Reached accesses from s;
    Parted = λ s t. ⊥;
    reads = λ s t place width i. inr (ap (λ x. (accesses.reads x place width).0) (sym i.0), (ap (λ x. (accesses.reads x place width).1) i.0, reached.read s place width i.1));
    writes = λ s t place width value i. inr (ap (λ x. (accesses.writes x place width value).0) (sym i.0), (ap (λ x. (accesses.writes x place width value).1) i.0, reached.written s place width value i.1));
    left_reads = λ s t place width p. p;
    left_writes = λ s t place width value p. p;
    right_reads = λ s t place width p. p;
    right_writes = λ s t place width value p. p;
  }

module _ {S : Type 0} (accesses : Accesses S) (dry : Bool) (avoid : List ℕ) (before after : MachineState S) (report : RoutingReport) where
  abbrev beside : SideBySide accesses accesses
  beside = reaching accesses before.world.space

  arrived : Carried beside after.world.space (λ v. IsReport accesses dry avoid (machine_over before before.world.space) (machine_over after v) report) → Reached accesses before.world.space after.world.space
  unfolding reaching
  arrived (inl (t, parted)) = absurd parted
  arrived (inr (t, is, i)) = i.1

  pub report_reached : IsReport accesses dry avoid before after report → Reached accesses before.world.space after.world.space
  unfolding reaching
  report_reached is =
      arrived (report_carried beside dry avoid before after report before.world.space is
      (subst (λ (x : Outcome Gathering × MachineState S). Goes beside machines x (gathered accesses avoid (machine_over before before.world.space))) is.is_found
      (goes_from beside machines _ _ ((gathered_together {side = alike beside} (λ n. refl) (inl refl) avoid).goes before before.world.space (refl, reached.none)))))

-- ---- of which so many are made

module _ {S : Type 0} (accesses : Accesses S) (bound : ℕ) (before : Meter S) where
  abbrev Few : Meter S → Type 0
  Few m = MadeAtMost accesses bound before m

  made_by : {A : Type 0} (m : Meter S) (access : S → Result A SpaceFault × S) → ((n : ℕ) → AfterAccesses accesses before.inner n m.inner → AfterAccesses accesses before.inner (suc n) (access m.inner).1) → (few : Few m) → (left : ℕ) → m.left ≡ Some left → left ≡ bound - few.count
      → Few (made m (Some left) access).1
  made_by m access next few zero is same = few
  made_by m access next few (suc n) is same =
      let less = few.few in
      record { count = suc few.count; few = omega (arith, less, same); left = let e : n ≡ bound - suc few.count = omega (arith, less, same) in ap Some e; made = next few.count few.made }

  access_made : {A : Type 0} (m : Meter S) (access : S → Result A SpaceFault × S) → ((n : ℕ) → AfterAccesses accesses before.inner n m.inner → AfterAccesses accesses before.inner (suc n) (access m.inner).1) → Few m → Few (made m m.left access).1
  access_made m access next few = subst (λ o. Few (made m o access).1) (sym few.left) (made_by m access next few (bound - few.count) few.left refl)

  pub made_at_most : (m : Meter S) → before.left ≡ Some bound → Reached (metered accesses) before m → Few m
  made_at_most m is reached.none = record { count = 0; few = omega arith; left = is ∙ (let e : bound ≡ bound - 0 = omega arith in ap Some e); made = none }
  made_at_most m is (reached.read s place width h) = access_made s (λ x. accesses.reads x place width) (λ n so_far. read n s.inner place width so_far) (made_at_most s is h)
  made_at_most m is (reached.written s place width value h) = access_made s (λ x. accesses.writes x place width value) (λ n so_far. written n s.inner place width value so_far) (made_at_most s is h)

module _ {S : Type 0} (accesses : Accesses S) (bound : ℕ) where
  pub evaluations_bounded : (w v : State (Meter S)) → Becomes (metered accesses) w v → w.space.left ≡ Some bound → MadeAtMost accesses bound w.space v.space
  evaluations_bounded w v h is = made_at_most accesses bound w.space v.space is (space_reached (metered accesses) w v h)

  pub report_bounded : (dry : Bool) (avoid : List ℕ) (before after : MachineState (Meter S)) (report : RoutingReport) → IsReport (metered accesses) dry avoid before after report → before.world.space.left ≡ Some bound → MadeAtMost accesses bound before.world.space after.world.space
  report_bounded dry avoid before after report is has = made_at_most accesses bound before.world.space after.world.space has (report_reached (metered accesses) dry avoid before after report is)

-- ---- one access

module _ {S : Type 0} (accesses : Accesses S) (m : Meter S) (place : Place) (width : Width) where
  pub read_is_made : (n : ℕ) → m.left ≡ Some (suc n) → (metered accesses).reads m place width ≡ ((accesses.reads m.inner place width).0, record { inner = (accesses.reads m.inner place width).1; left = Some n })
  read_is_made n is = ap (λ o. made m o (λ x. accesses.reads x place width)) is

  pub read_is_refused : m.left ≡ Some 0 → (metered accesses).reads m place width ≡ (Err Device, m)
  read_is_refused is = ap (λ o. made m o (λ x. accesses.reads x place width)) is

  pub write_is_made : (value n : ℕ) → m.left ≡ Some (suc n) → (metered accesses).writes m place width value ≡ ((accesses.writes m.inner place width value).0, record { inner = (accesses.writes m.inner place width value).1; left = Some n })
  write_is_made value n is = ap (λ o. made m o (λ x. accesses.writes x place width value)) is

  pub write_is_refused : (value : ℕ) → m.left ≡ Some 0 → (metered accesses).writes m place width value ≡ (Err Device, m)
  write_is_refused value is = ap (λ o. made m o (λ x. accesses.writes x place width value)) is

pub ruleset bounding = (read_is_made, read_is_refused, write_is_made, write_is_refused)
