-- The answer of `check`, from the verdict and the claim.
use Rattle.std.proofs.Common.{◌≡◌, ◌∙◌, refl, sym}
use Rattle.std.specs.Prelude.{ℕ, List, ◌↔◌, IsOk, IsErr, IsErrAnd, IfErr, Ok, Err}
use Rattle.ar_space.specs.Outcome.{Outcome, Answers, NotMemory, ◌>>=◌}
use Rattle.ar_space.specs.declared.refusal.Refusal.{Refusal}
use Rattle.route_check.specs.Claims.{RoutingClaim}
use Rattle.route_check.specs.Flaws.{IsFirstFlaw}
use Rattle.route_check.specs.Shared.{Holds}
use Rattle.route_report.specs.Reading.{claim_of_text}
use Rattle.acpiroute_shell.specs.Written.{Written}
use Rattle.acpiroute_shell.specs.CheckCommand.{Verdict, IsVerdict, IsCheckAnswer, check_answer, verdict_answer}

pub verdict_is : (claim : RoutingClaim) (verdict : Verdict) → (IsOk verdict ↔ Holds claim) → IfErr verdict (λ f. IsFirstFlaw claim f) → IsVerdict claim verdict
verdict_is claim (Ok u) ok flaw = ok.0 refl
verdict_is claim (Err f) ok flaw = flaw

pub refused_report : (report : List ℕ) (e : Refusal) (r : Outcome Written) → Answers {A = RoutingClaim} (Err e) (claim_of_text report) → IsErr r × IsErrAnd r (λ x. x ≡ e) → NotMemory r → IsCheckAnswer report r
unfolding check_answer ◌>>=◌
refused_report report e (Ok a) h i ne = absurd (cc i.0)
refused_report report e (Err x) h i ne =
    let is : claim_of_text report ≡ Err e = h.is (λ q. ne (i.1 ∙ q)) in
    (Ok tt, rw is tt, rw (is, i.1) refl)

pub judged_report : (report : List ℕ) (claim : RoutingClaim) (verdict : Verdict) (r : Outcome Written) → Answers (Ok claim) (claim_of_text report) → IsVerdict claim verdict → Answers r (Ok (verdict_answer verdict)) → NotMemory r → IsCheckAnswer report r
unfolding check_answer ◌>>=◌
judged_report report claim verdict r h v i ne =
    let is : claim_of_text report ≡ Ok claim = h.is tt in
    (verdict, rw is v, rw is (sym (i.is ne)))
