-- The lines of a link that refused something.
use Rattle.std.proofs.Common.{◌≡◌, ◌∙◌, ap, subst}
use Rattle.std.specs.Prelude.{ℕ, List, [], ◌++◌}
use Rattle.ar_space.specs.Accesses.{Accesses}
use Rattle.ar_space.specs.Numbers.{number_of}
use Rattle.ar_space.specs.declared.refusal.Refusal.{Refusal}
use Rattle.aml_path.specs.declared.segment.Seg.{Seg}
use Rattle.acpi_machine.specs.MachineStates.{MachineState}
use Rattle.watched_space.specs.Watching.{Watch}
use Rattle.acpi_explain.specs.LinkLines.{IsExplainedBy, IsToldBelow}
use Rattle.acpi_explain.specs.declared.stage.Stage.{Stage}

-- a line, and what explains it behind that
pub told_below : {S : Type 0} (accesses : Accesses S) (steps : ℕ) (line : ℕ → List ℕ) (done : List Seg → Stage) (path copy : List Seg) (e same : Refusal) (number : ℕ) (after : MachineState (Watch S)) (start first text below : List ℕ)
    → copy ≡ path → same ≡ e → number ≡ number_of same → IsExplainedBy accesses steps (done copy) same after below → start ≡ [] → first ≡ start ++ line number → text ≡ first ++ below
    → IsToldBelow accesses steps line (done path) e after text
told_below accesses steps line done path copy e same number after start first text below at is numbered h none put more =
    let own : first ≡ line (number_of e) = put ∙ (ap (λ t. t ++ line number) none ∙ ap line (numbered ∙ ap number_of is)) in (
      below,
      subst (λ x. IsExplainedBy accesses steps (done path) x after below) is (subst (λ p. IsExplainedBy accesses steps (done p) same after below) at h),
      more ∙ ap (λ t. t ++ below) own,
    )
