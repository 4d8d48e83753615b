-- Items that are done at once: what they leave is what their rule leaves.
use Rattle.std.specs.Prelude.{◌≡◌, ◌≢◌, ℕ, Ok}
use Rattle.std.proofs.Common.{◌∙◌, ap}
use Rattle.ar_space.specs.Accesses.{Accesses}
use Rattle.ar_space.specs.Change.{Does}
use Rattle.aml_marks.specs.Marked.{first}
use Rattle.aml_objects.specs.declared.value.Value.TheVariants as value
use Rattle.aml_world.specs.declared.values.operation_kind.TwoOperands.{TwoOperands}
use Rattle.aml_world.specs.state.State.{State}
use Rattle.aml_world.specs.values.Operations.{result_of_two}
use Rattle.aml_meaning.specs.declared.flow.Flow.TheVariants as flow
use Rattle.aml_meaning.specs.declared.term_kind.OperatorKind.TheVariants as operators
use Rattle.aml_meaning.specs.Meaning.{meaning}
use Rattle.aml_frames.specs.declared.frames.Frame.TheVariants as frames
use Rattle.aml_frames.specs.declared.frames.Next.TheVariants as next
use Rattle.aml_frames.specs.declared.uses.Dyadic.TheVariants as dyadic
use Rattle.aml_frames.specs.declared.uses.Monadic.TheVariants as monadic
use Rattle.aml_frames.specs.declared.uses.TargetUse.TheVariants as uses
use Rattle.aml_frames.specs.Places.{Site, behind_term}
use Rattle.aml_frames.specs.Uses.{super, optional, behind_target, target_run, monadic_done}
use Rattle.aml_frames.specs.Follow.{term_run, operator_run, behind_operator_at, Leads}
use Rattle.aml_frames.proofs.Knowing.{taken_known, leads_done, leads_on}
use Rattle.aml_frames.proofs.ShortOperations.{first_known, leaves}
use Rattle.aml_frames.proofs.Stepping.{leads_settled, leads_lift_ok}
use Rattle.aml_frames.proofs.Targeting.{leads_somewhere, ends_somewhere}
use Rattle.aml_frames.proofs.Using.{leads_two, leads_store, leads_count}

module _ {S : Type 0} {ac : Accesses S} where
  -- an operator on two operands that are there, whose target takes what it gives
  pub two_stored : {s s1 s2 s3 : State S × ℕ} (c d e f : Site) (k : TwoOperands) (levels x y n : ℕ)
      → Does (Ok (flow.Value (value.Integer x))) s1 (term_run ac (meaning ac) c levels) s → d ≡ behind_term c levels
      → Does (Ok (flow.Value (value.Integer y))) s2 (term_run ac (meaning ac) d levels) s1 → e ≡ behind_term d levels
      → first e.place.rest ≢ 0 → Does (Ok (value.Integer n)) s2.0 (result_of_two k (value.Integer x) (value.Integer y)) s2.0
      → Does (Ok (flow.Value (value.Integer n))) s3 (target_run ac (meaning ac) (super levels) (uses.Store (value.Integer n)) e) s2
      → Leads ac (meaning ac) (leaves n) f s3 (operator_run ac (meaning ac) (operators.Two k) c levels) s
  two_stored {s = s} {s1 = s1} {s2 = s2} {s3 = s3} c d e f k levels x y n g there h at some is put =
      leads_on (next.Term levels (frames.First (dyadic.Two k) levels)) c _
      (first_known ac c d e f s s1 s2 s3 (leaves n) (dyadic.Two k) levels x y g there h at
      (leads_lift_ok s2.1 (result_of_two k (value.Integer x) (value.Integer y)) _ is (leads_somewhere e levels (uses.Store (value.Integer n)) some (leads_done (flow.Value (value.Integer n)) _ put))))
      (leads_two levels k)

  -- an operand that is there is stored
  pub store_done : {s s1 s2 : State S × ℕ} (c d f : Site) (levels n : ℕ)
      → Does (Ok (flow.Value (value.Integer n))) s1 (term_run ac (meaning ac) c levels) s → d ≡ behind_term c levels
      → Does (Ok (flow.Value (value.Integer n))) s2 (target_run ac (meaning ac) (super levels) (uses.Store (value.Integer n)) d) s1
      → Leads ac (meaning ac) (leaves n) f s2 (operator_run ac (meaning ac) operators.Store c levels) s
  store_done c d f levels n g there put =
      leads_on (next.Term levels (frames.Operand monadic.Store levels)) c _
      (taken_known c levels n (frames.Operand monadic.Store levels) g there
      (leads_settled (value.Integer n) (λ v. monadic_done ac (meaning ac) monadic.Store levels v d) (leads_done (flow.Value (value.Integer n)) _ put)))
      (leads_store levels)

-- ---- where they end

pub behind_two_stored : (c d e f : Site) (k : TwoOperands) (levels : ℕ) → d ≡ behind_term c levels → e ≡ behind_term d levels → first e.place.rest ≢ 0 → f ≡ behind_target (super levels) e → f ≡ behind_operator_at (operators.Two k) c levels
behind_two_stored c d e f k levels at there some h = ends_somewhere (leaves 0) f e levels (uses.Store (value.Integer 0)) some h ∙ ap (behind_target (optional levels)) (there ∙ ap (λ y. behind_term y levels) at)

pub behind_stored : (c d f : Site) (levels : ℕ) → d ≡ behind_term c levels → f ≡ behind_target (super levels) d → f ≡ behind_operator_at operators.Store c levels
behind_stored c d f levels at h = h ∙ ap (behind_target (super levels)) at

pub ruleset items = (two_stored, store_done, leads_count, leads_done, behind_two_stored, behind_stored)
