-- Operators without a target over integers that are there already: what they give is what their rule gives.
use Rattle.std.specs.Prelude.{◌≡◌, ℕ, Some, Ok, Err, refl}
use Rattle.std.proofs.Common.{◌∙◌, ap, sym}
use Rattle.ar_space.specs.Accesses.{Accesses}
use Rattle.ar_space.specs.Outcome.{Outcome}
use Rattle.ar_space.specs.Change.{Change, Does, give, settle, go_on, ◌>>=◌}
use Rattle.aml_marks.specs.Marked.{first, over}
use Rattle.aml_objects.specs.declared.value.Value.{Value}
use Rattle.aml_objects.specs.declared.value.Value.TheVariants as value
use Rattle.aml_world.specs.declared.values.store_target.StoreTarget.TheVariants as targets
use Rattle.aml_world.specs.declared.values.operation_kind.TwoOperands.{TwoOperands}
use Rattle.aml_world.specs.declared.values.operation_kind.Test.{Test}
use Rattle.aml_world.specs.state.State.{State}
use Rattle.aml_world.specs.state.Run.{Run, lift}
use Rattle.aml_world.specs.values.Operations.{lnot_in, result_of_two, result_of_test}
use Rattle.aml_meaning.specs.declared.flow.Flow.{Flow}
use Rattle.aml_meaning.specs.declared.flow.Flow.TheVariants as flow
use Rattle.aml_meaning.specs.declared.term_kind.OperatorKind.TheVariants as operators
use Rattle.aml_meaning.specs.Meaning.{meaning}
use Rattle.aml_meaning.specs.FieldCalls.{stored_to}
use Rattle.aml_frames.specs.declared.frames.Frame.TheVariants as frames
use Rattle.aml_frames.specs.declared.frames.Next.{Next}
use Rattle.aml_frames.specs.declared.frames.Next.TheVariants as next
use Rattle.aml_frames.specs.declared.uses.Dyadic.{Dyadic}
use Rattle.aml_frames.specs.declared.uses.Dyadic.TheVariants as dyadic
use Rattle.aml_frames.specs.declared.uses.Monadic.TheVariants as monadic
use Rattle.aml_frames.specs.declared.uses.SecondOperand.{SecondOperand}
use Rattle.aml_frames.specs.declared.uses.TargetUse.TheVariants as uses
use Rattle.aml_frames.specs.Places.{Site, at_place, terms, behind_term}
use Rattle.aml_frames.specs.Uses.{optional, behind_target, target_run, used, stored_at, dyadic_by, dyadic_done, monadic_done}
use Rattle.aml_frames.specs.Follow.{term_run, operator_run, behind_operator_at, next_run, resumed, Leads}
use Rattle.aml_frames.proofs.Knowing.{taken_known, leads_on}
use Rattle.aml_frames.proofs.Stepping.{leads_value, leads_settled}
use Rattle.aml_frames.proofs.Targeting.{leads_nowhere, ends_nowhere}
use Rattle.aml_frames.proofs.Using.{leads_two, leads_test, leads_not}

module _ {S : Type 0} (ac : Accesses S) where
  -- two operands that are there, and what is done with them
  second_known : (d e f : Site) (s1 s2 s3 : State S × ℕ) (r : Outcome Next) (k : Dyadic) (levels x y : ℕ)
      → Does (Ok (flow.Value (value.Integer y))) s2 (term_run ac (meaning ac) d levels) s1 → e ≡ behind_term d levels
      → Leads ac (meaning ac) r f s3 (dyadic_by ac (meaning ac) k levels (value.Integer x) (value.Integer y) e) s2
      → Leads ac (meaning ac) r f s3 (resumed ac (meaning ac) (frames.First k levels) d (flow.Value (value.Integer x))) s1
  second_known d e f s1 s2 s3 r k levels x y h at l =
      let o : SecondOperand = record { kind = k; levels = levels; first = value.Integer x } in
      let after = leads_settled (value.Integer y) (λ u. dyadic_done ac (meaning ac) o u e) l in
      leads_settled (value.Integer x) _ (leads_on (next.Term levels (frames.Second o)) d _ (taken_known d levels y (frames.Second o) h at after) (leads_value {c = d} {s = s1} levels (frames.Second o) (λ u. dyadic_done ac (meaning ac) o u (behind_term d levels)) refl))

  pub first_known : (c d e f : Site) (s s1 s2 s3 : State S × ℕ) (r : Outcome Next) (k : Dyadic) (levels x y : ℕ)
      → Does (Ok (flow.Value (value.Integer x))) s1 (term_run ac (meaning ac) c levels) s → d ≡ behind_term c levels
      → Does (Ok (flow.Value (value.Integer y))) s2 (term_run ac (meaning ac) d levels) s1 → e ≡ behind_term d levels
      → Leads ac (meaning ac) r f s3 (dyadic_by ac (meaning ac) k levels (value.Integer x) (value.Integer y) e) s2
      → Leads ac (meaning ac) r f s3 (next_run ac (meaning ac) (next.Term levels (frames.First k levels)) c) s
  first_known c d e f s s1 s2 s3 r k levels x y g there h at l = taken_known c levels x (frames.First k levels) g there (second_known d e f s1 s2 s3 r k levels x y h at l)

-- what a rule over the world alone gives is handed on
lifted : {S A : Type 0} {ac : Accesses S} {f : Site} {s : State S × ℕ} {r : Outcome Next} (a : A) (m : Change (State S) A) (k : A → Run S Flow) → Does (Ok a) s.0 m s.0 → Leads ac (meaning ac) r f s (k a) s → Leads ac (meaning ac) r f s (lift m >>= k) s
unfolding lift ◌>>=◌ go_on
lifted a m k h l = record { is = λ ne. rw (h.is tt) (l.is ne) }

abbrev pub leaves : ℕ → Outcome Next
leaves n = Ok (next.Flow (flow.Value (value.Integer n)))

module _ {S : Type 0} {ac : Accesses S} where
  left : {f : Site} {s : State S × ℕ} (n : ℕ) → Leads ac (meaning ac) (leaves n) f s (give (flow.Value (value.Integer n))) s
  left n = record { is = λ _. refl }

  -- a target that is left out keeps nothing
  stored_nowhere : {f : Site} {s : State S × ℕ} (c : Site) (n : ℕ) → Leads ac (meaning ac) (leaves n) f s (used ac (meaning ac) (uses.Store (value.Integer n)) c targets.Nowhere) s
  unfolding stored_at stored_to lift give ◌>>=◌ go_on
  stored_nowhere c n = record { is = λ _. refl }

  pub two_leads : {f : Site} {s s1 s2 : State S × ℕ} (c d e : Site) (k : TwoOperands) (levels x y n : ℕ)
      → Does (Ok (flow.Value (value.Integer x))) s1 (term_run ac (meaning ac) c levels) s → d ≡ behind_term c levels
      → Does (Ok (flow.Value (value.Integer y))) s2 (term_run ac (meaning ac) d levels) s1 → e ≡ behind_term d levels
      → first e.place.rest ≡ 0 → Does (Ok (value.Integer n)) s2.0 (result_of_two k (value.Integer x) (value.Integer y)) s2.0
      → Leads ac (meaning ac) (leaves n) f s2 (operator_run ac (meaning ac) (operators.Two k) c levels) s
  two_leads {f = f} {s = s} {s1 = s1} {s2 = s2} c d e k levels x y n g there h at null is =
      leads_on (next.Term levels (frames.First (dyadic.Two k) levels)) c _
      (first_known ac c d e f s s1 s2 s2 (leaves n) (dyadic.Two k) levels x y g there h at (lifted (value.Integer n) _ _ is (leads_nowhere e levels (uses.Store (value.Integer n)) null (stored_nowhere _ n))))
      (leads_two levels k)

  pub test_leads : {f : Site} {s s1 s2 : State S × ℕ} (c d e : Site) (k : Test) (levels x y n : ℕ)
      → Does (Ok (flow.Value (value.Integer x))) s1 (term_run ac (meaning ac) c levels) s → d ≡ behind_term c levels
      → Does (Ok (flow.Value (value.Integer y))) s2 (term_run ac (meaning ac) d levels) s1 → e ≡ behind_term d levels
      → Does (Ok (value.Integer n)) s2.0 (result_of_test k (value.Integer x) (value.Integer y)) s2.0
      → Leads ac (meaning ac) (leaves n) f s2 (operator_run ac (meaning ac) (operators.Test k) c levels) s
  test_leads {f = f} {s = s} {s1 = s1} {s2 = s2} c d e k levels x y n g there h at is =
      leads_on (next.Term levels (frames.First (dyadic.Test k) levels)) c _
      (first_known ac c d e f s s1 s2 s2 (leaves n) (dyadic.Test k) levels x y g there h at (lifted (value.Integer n) _ _ is (left n)))
      (leads_test levels k)

  pub not_leads : {f : Site} {s s1 : State S × ℕ} (c d : Site) (levels x n : ℕ)
      → Does (Ok (flow.Value (value.Integer x))) s1 (term_run ac (meaning ac) c levels) s → d ≡ behind_term c levels
      → Does (Ok (value.Integer n)) s1.0 (lnot_in (value.Integer x)) s1.0
      → Leads ac (meaning ac) (leaves n) f s1 (operator_run ac (meaning ac) operators.LNot c levels) s
  not_leads c d levels x n g there is =
      leads_on (next.Term levels (frames.Operand monadic.LNot levels)) c _
      (taken_known c levels x (frames.Operand monadic.LNot levels) g there
      (leads_settled (value.Integer x) (λ v. monadic_done ac (meaning ac) monadic.LNot levels v d) (lifted (value.Integer n) _ _ is (left n))))
      (leads_not levels)

  -- what a step leaves that finishes its term
  pub done_leads : {c : Site} {s s1 : State S × ℕ} (f : Flow) (m : Run S Flow) → Leads ac (meaning ac) (Ok (next.Flow f)) c s1 m s → Does (Ok f) s1 m s
  unfolding give
  done_leads f m h = record { is = λ _. h.is tt }

-- ---- where operators end

pub behind_known : (c d e x : Site) (k : TwoOperands) (levels : ℕ) → d ≡ behind_term c levels → e ≡ behind_term d levels → first e.place.rest ≡ 0 → x ≡ at_place e (over 1 e.place) → x ≡ behind_operator_at (operators.Two k) c levels
behind_known c d e x k levels at there null h = ends_nowhere e levels (uses.Store (value.Integer 0)) x null h ∙ ap (behind_target (optional levels)) (there ∙ ap (λ y. behind_term y levels) at)

pub ruleset integers = (two_leads, test_leads, not_leads, behind_known)

pub ruleset giving = (done_leads)
