-- What a run has to find: where it is refused gathering is, or what is left of it where other devices are spared.
use Rattle.std.proofs.Common.{◌≡◌, ◌∙◌, ap, sym, subst, refl, inl, inr}
use Rattle.std.specs.Prelude.{◌⊎◌, ℕ, Bool, true, false, List, [], ◌∷◌, ◌++◌, Option, Ok, Err}
use Rattle.ar_space.specs.Accesses.{Accesses}
use Rattle.ar_space.specs.Change.{give, settle, go_on, ◌>>=◌}
use Rattle.ar_space.specs.Outcome.{Outcome}
use Rattle.ar_space.specs.declared.refusal.Refusal.{Refusal}
use Rattle.aml_path.specs.declared.segment.Seg.{Seg}
use Rattle.acpi_machine.specs.MachineStates.{MachineState}
use Rattle.acpi_links.specs.Folds.{folded}
use Rattle.acpi_links.specs.Gatherings.{Gathering, gathered}
use Rattle.acpi_links.specs.Links.{PresentLink}
use Rattle.route_report.specs.Reports.{ReportedAfter}
use Rattle.acpi_configure.specs.Options.{RunOptions}
use Rattle.acpi_configure.specs.Others.{other_devices, device_resources, device_asked, others_asked, barred_if}
use Rattle.acpi_configure.specs.Settling.{attempted, state_told}
use Rattle.acpi_configure.specs.WithOptions.{Findings, narrowed, found_by}
use Rattle.acpi_explain.specs.Stages.{IsOfNoObject, IsStage, IsStageBy, IsNotRefused}
use Rattle.acpi_explain.specs.declared.stage.Stage.{Stage}
use Rattle.acpi_explain.proofs.Left.{narrowed_only}

module _ {S : Type 0} (accesses : Accesses S) where
  -- asking other devices is never refused
  all_told : (xs : List (List Seg)) (done : List ReportedAfter) (s : MachineState S) → (r : List ReportedAfter) × (t : MachineState S) × (folded (λ lines line. lines ++ line ∷ []) (device_asked accesses) xs done s ≡ (Ok r, t))
  unfolding folded device_asked attempted give ◌>>=◌ go_on
  all_told [] done s = (done, s, refl)
  all_told (x ∷ xs) done s = all_told xs (done ++ (record { path = x; state = state_told (device_resources accesses x s).0 }) ∷ []) (device_resources accesses x s).1

  others_told : (spare : Bool) (links : List PresentLink) (s : MachineState S) → (r : List ReportedAfter) × (t : MachineState S) × (others_asked accesses spare links s ≡ (Ok r, t))
  unfolding others_asked
  others_told true links s = all_told (other_devices links s) [] s
  others_told false links s = ([], s, refl)

  module _ (o : RunOptions) (sci : Option ℕ) (ready after : MachineState S) (e : Refusal) where
    gathering_refused : (x : Refusal) (s : MachineState S) → gathered accesses o.avoid ready ≡ (Err x, s) → found_by accesses o sci ready ≡ (Err x, s)
    unfolding found_by ◌>>=◌ go_on
    gathering_refused x s h = rw h refl

    narrowing_refused : (g : Gathering) (asked : List ReportedAfter) (s t : MachineState S) → gathered accesses o.avoid ready ≡ (Ok g, s) → others_asked accesses o.spare g.links s ≡ (Ok asked, t) → found_by accesses o sci ready ≡ (Err e, after)
        → narrowed o.spare (barred_if o.spare o.avoid asked) sci g ≡ Err e
    unfolding found_by settle give ◌>>=◌ go_on
    narrowing_refused g asked s t h i is = by (narrowed o.spare (barred_if o.spare o.avoid asked) sci g) refl (rw (h, i) at is)
      where
        by : (x : Outcome Gathering) → narrowed o.spare (barred_if o.spare o.avoid asked) sci g ≡ x → go_on {B = Findings} x t (λ gathering. give (record { asked = asked; gathering = gathering })) ≡ (Err e, after) → narrowed o.spare (barred_if o.spare o.avoid asked) sci g ≡ Err e
        by (Ok y) at j = let never : ◌≡◌ {A = Outcome Findings} (Ok (record { asked = asked; gathering = y })) (Err e) = ap (λ (p : Outcome Findings × MachineState S). p.0) j in absurd (cc never)
        by (Err y) at j = let same : ◌≡◌ {A = Outcome Findings} (Err y) (Err e) = ap (λ (p : Outcome Findings × MachineState S). p.0) j in let both : y ≡ e = cc same in at ∙ ap Err both

    -- the stage that gathering tells is that of what the run has to find
    pub finding_stage : (stage : Stage) → found_by accesses o sci ready ≡ (Err e, after) → IsStage accesses o.avoid ready stage
        → IsStageBy accesses o.avoid ready stage e ⊎ (IsNotRefused accesses o.avoid ready stage × IsOfNoObject {A = Gathering} (Err e))
    finding_stage stage is (inl h) =
        let same : ◌≡◌ {A = Outcome Findings} (Err h.0) (Err e) = ap (λ (p : Outcome Findings × MachineState S). p.0) (sym (gathering_refused h.0 h.1.after h.1.is_run) ∙ is) in
        let both : h.0 ≡ e = cc same in
        inl (subst (λ x. IsStageBy accesses o.avoid ready stage x) both h.1)
    finding_stage stage is (inr n) =
        let a = others_told o.spare n.found.links n.after in
        inr (n, narrowed_only o.spare (barred_if o.spare o.avoid a.0) sci n.found e (narrowing_refused n.found a.0 n.after a.1 n.is_run a.2 is))
