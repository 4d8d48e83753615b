-- What `check` answers.
use Rattle.std.specs.Prelude.{◌≡◌, ℕ, List, ◌++◌, Result, Ok, Err, codes, decimal}
use Rattle.ar_space.specs.Outcome.{Outcome, ◌>>=◌}
use Rattle.route_check.specs.Claims.{RoutingClaim}
use Rattle.route_check.specs.Flaws.{number_of, IsFirstFlaw}
use Rattle.route_check.specs.Shared.{Holds}
use Rattle.route_check.specs.declared.flaw.Flaw.{Flaw}
use Rattle.route_report.specs.Reading.{claim_of_text}
use Rattle.acpiroute_shell.specs.declared.completion.Completion.TheVariants.{Done, ClaimInvalid}
use Rattle.acpiroute_shell.specs.Written.{Written}

-- that a claim holds, or its first flaw
abbrev pub Verdict : Type 0
Verdict = Result (Unit {0}) Flaw

abbrev pub IsVerdict : RoutingClaim → Verdict → Type 0
IsVerdict claim (Ok u) = Holds claim
IsVerdict claim (Err flaw) = IsFirstFlaw claim flaw

-- the verdict on what was read; a report that is refused has none
abbrev pub IsVerdictOn : Outcome RoutingClaim → Verdict → Type 0
IsVerdictOn (Ok claim) verdict = IsVerdict claim verdict
IsVerdictOn (Err e) verdict = Unit {0}

-- `yes`, or `no` and the number of the flaw
abbrev pub verdict_answer : Verdict → Written
verdict_answer (Ok u) = record { text = codes "yes\n"; completion = Done }
verdict_answer (Err flaw) = record { text = codes "no " ++ (decimal (number_of flaw) ++ codes "\n"); completion = ClaimInvalid }

-- what `check` answers, where this is the verdict on the claim of the report
unfoldable pub check_answer : Verdict → List ℕ → Outcome Written
check_answer verdict report = do
  _ ← claim_of_text report
  Ok (verdict_answer verdict)

abbrev pub IsCheckAnswer : List ℕ → Outcome Written → Type 0
IsCheckAnswer report r = (verdict : Verdict) × IsVerdictOn (claim_of_text report) verdict × (r ≡ check_answer verdict report)
