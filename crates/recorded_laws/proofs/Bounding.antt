-- Runs over a space whose accesses are bounded, beside runs over the space below it.
use Rattle.std.specs.Prelude.{◌≡◌, ◌⊎◌, ℕ, zero, suc, List, Option, Some, None, Result, refl}
use Rattle.std.proofs.Common.{inl, inr, sym, subst, ap, ◌∙◌}
use Rattle.ar_space.specs.declared.refusal.SpaceFault.{SpaceFault}
use Rattle.ar_space.specs.Accesses.{Accesses}
use Rattle.ar_space.specs.Outcome.{Outcome}
use Rattle.route_report.specs.Reports.{RoutingReport}
use Rattle.recorded_route.specs.declared.settings.Settings.{Settings}
use Rattle.recorded_route.specs.Runs.{Description, IsDescribedRun}
use Rattle.aml_laws.proofs.Together.{SideBySide}
use Rattle.machine_laws.proofs.ReportsCarried.{Carried}
use Rattle.watched_space.specs.Metering.{Meter, made, metered}
use Rattle.recorded_laws.proofs.Running.{described_run_carried}

-- ---- an access

abbrev AsBelow : {S A : Type 0} → Result A SpaceFault × Meter S → Result A SpaceFault × S → Type 0
AsBelow p q = (p.1.left ≡ Some 0) ⊎ ((q.0 ≡ p.0) × (p.1.inner ≡ q.1))

made_beside : {S A : Type 0} (m : Meter S) (left : Option ℕ) (s : S) (access : S → Result A SpaceFault × S) → m.left ≡ left → m.inner ≡ s → AsBelow (made m left access) (access s)
made_beside m None s access is same = inr (ap (λ x. (access x).0) (sym same), ap (λ x. (access x).1) same)
made_beside m (Some zero) s access is same = inl is
made_beside m (Some (suc n)) s access is same = inr (ap (λ x. (access x).0) (sym same), ap (λ x. (access x).1) same)

made_behind : {S A : Type 0} (m : Meter S) (left : Option ℕ) (access : S → Result A SpaceFault × S) → m.left ≡ left → m.left ≡ Some 0 → (made m left access).1.left ≡ Some 0
made_behind m None access is spent = absurd (cc (sym is ∙ spent))
made_behind m (Some zero) access is spent = spent
made_behind m (Some (suc n)) access is spent = absurd (cc (sym is ∙ spent))

module _ {S : Type 0} (accesses : Accesses S) where
  -- in step until an access is refused, and none is left then
  unfoldable bounding : SideBySide (metered accesses) accesses
  bounding = record {
    InStep = λ m s. m.inner ≡ s;
    Parted = λ m s. m.left ≡ Some 0;
    reads = λ m s place width same. made_beside m m.left s (λ x. accesses.reads x place width) refl same;
    writes = λ m s place width value same. made_beside m m.left s (λ x. accesses.writes x place width value) refl same;
    left_reads = λ m s place width spent. made_behind m m.left (λ x. accesses.reads x place width) refl spent;
    left_writes = λ m s place width value spent. made_behind m m.left (λ x. accesses.writes x place width value) refl spent;
    right_reads = λ m s place width spent. spent;
    right_writes = λ m s place width value spent. spent;
  }

  abbrev unbounded : S → Meter S
  unbounded s = record { inner = s; left = None }

  -- without a bound they never part
  unfoldable unmetered : SideBySide accesses (metered accesses)
  unmetered = record {
    InStep = λ s m. unbounded s ≡ m;
    Parted = λ s m. ⊥;
    reads = λ s m place width same. inr (ap (λ x. ((metered accesses).reads x place width).0) (sym same), ap (λ x. ((metered accesses).reads x place width).1) same);
    writes = λ s m place width value same. inr (ap (λ x. ((metered accesses).writes x place width value).0) (sym same), ap (λ x. ((metered accesses).writes x place width value).1) same);
    left_reads = λ s m place width p. p;
    left_writes = λ s m place width value p. p;
    right_reads = λ s m place width p. p;
    right_writes = λ s m place width value p. p;
  }

-- ---- a run

module _ {S : Type 0} (accesses : Accesses S) (settings : Settings) (avoid : List ℕ) (d : Outcome Description) (outcome : Outcome RoutingReport) where
  below : (before : S) (after : Meter S) → Carried (bounding accesses) after (λ v. IsDescribedRun accesses settings avoid d before outcome v) → (after.left ≡ Some 0) ⊎ IsDescribedRun accesses settings avoid d before outcome after.inner
  unfolding bounding
  below before after (inl (s, spent)) = inl spent
  below before after (inr (s, is, same)) = inr (subst (λ v. IsDescribedRun accesses settings avoid d before outcome v) (sym same) is)

  pub bounded_run : (before after : Meter S) → IsDescribedRun (metered accesses) settings avoid d before outcome after → (after.left ≡ Some 0) ⊎ IsDescribedRun accesses settings avoid d before.inner outcome after.inner
  unfolding bounding
  bounded_run before after is = below before.inner after (described_run_carried (bounding accesses) settings avoid d before outcome after before.inner is refl)

  above : (before : Meter S) (after : S) → Carried (unmetered accesses) after (λ v. IsDescribedRun (metered accesses) settings avoid d before outcome v) → IsDescribedRun (metered accesses) settings avoid d before outcome (unbounded accesses after)
  unfolding unmetered
  above before after (inl (m, parted)) = absurd parted
  above before after (inr (m, is, same)) = subst (λ v. IsDescribedRun (metered accesses) settings avoid d before outcome v) (sym same) is

  pub unbounded_run : (before after : S) → IsDescribedRun accesses settings avoid d before outcome after → IsDescribedRun (metered accesses) settings avoid d (unbounded accesses before) outcome (unbounded accesses after)
  unfolding unmetered
  unbounded_run before after is = above (unbounded accesses before) after (described_run_carried (unmetered accesses) settings avoid d before outcome after (unbounded accesses before) is refl)
