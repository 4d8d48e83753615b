-- The answer of `route`, from the machine and its report.
use Rattle.std.proofs.Common.{◌≡◌, ◌≢◌, ◌∙◌, ap, sym, subst, refl, true, arith, inl, inr}
use Rattle.std.specs.Prelude.{◌⊎◌, ℕ, List, Ok, Err, IfOk, IsErr, IsErrAnd}
use Rattle.ar_space.specs.declared.refusal.Refusal.{Refusal}
use Rattle.ar_space.specs.declared.refusal.Refusal.TheVariants.{OutOfMemory}
use Rattle.ar_space.specs.Outcome.{Outcome, Answers, NotMemory, ◌>>=◌}
use Rattle.acpi_machine.specs.MachineStates.{MachineState, sci_of}
use Rattle.acpi_configure.specs.Options.{RunOptions}
use Rattle.acpi_configure.specs.ForKernels.{IsReportFor}
use Rattle.acpi_configure.specs.WithOptions.{found_by}
use Rattle.ar_tables.specs.declared.mode.Mode.{Mode}
use Rattle.route_check.specs.Claims.{RoutingClaim}
use Rattle.route_check.specs.Flaws.{IsFirstFlaw}
use Rattle.route_check.specs.Shared.{IsClaimShared, Holds}
use Rattle.route_check.specs.Valid.{Valid, SomeInterrupt, OffersInside, IsCrowded}
use Rattle.route_check.specs.declared.flaw.Flaw.{Flaw}
use Rattle.route_check.specs.declared.flaw.Flaw.TheVariants as flaw
use Rattle.route_report.specs.Readable.{IsReadable, claim_of_report}
use Rattle.route_report.specs.Reading.{claim_of_text}
use Rattle.route_report.specs.Reports.{RoutingReport}
use Rattle.acpiroute_shell.specs.CheckCommand.{Verdict, IsVerdictOn, IsCheckAnswer, check_answer, verdict_answer}
use Rattle.acpiroute_lib.specs.Machines.{Registers, register_accesses, machine_of_text_in}
use Rattle.acpiroute_lib.specs.RouteCommand.{printed, IsRouted, IsRouteAnswer}
use Rattle.acpiroute_shell.specs.declared.request.Evaluation.{Evaluation}
use Rattle.acpiroute_shell.specs.Written.{Written}

-- a claim that holds has no flaw
no_flaw : (c : RoutingClaim) (f : Flaw) → Valid c → (c.spread ≡ true → IsClaimShared c) → IsFirstFlaw c f → ⊥
no_flaw c flaw.Repeated v s h = h v.none_repeated
no_flaw c flaw.LinkMissing v s h = h.1 v.none_missing
no_flaw c flaw.NotOffered v s h = h.2 v.all_offered
no_flaw c flaw.BusiestWrong v s h = h.3 v.busiest_right
no_flaw c flaw.SetEmpty v s h = go v.bound
  where
    go : (c.busiest ≡ 0) ⊎ (SomeInterrupt c × OffersInside c × IsCrowded c) → ⊥
    go (inl is) = absurd (let some = h.4 in omega arith)
    go (inr b) = h.5 b.0
no_flaw c flaw.OfferOutsideSet v s h = go v.bound
  where
    go : (c.busiest ≡ 0) ⊎ (SomeInterrupt c × OffersInside c × IsCrowded c) → ⊥
    go (inl is) = absurd (let some = h.4 in omega arith)
    go (inr b) = h.6 b.1
no_flaw c flaw.NotLeastShared v s h = h.2 (s h.1)
no_flaw c flaw.CountTooSmall v s h = go v.bound
  where
    go : (c.busiest ≡ 0) ⊎ (SomeInterrupt c × OffersInside c × IsCrowded c) → ⊥
    go (inl is) = absurd (let some = h.4 in omega arith)
    go (inr b) = h.7 b.2

-- `check` says yes to a text whose claim holds
verdict_yes : (c : RoutingClaim) (text : List ℕ) (o : Outcome RoutingClaim) (verdict : Verdict) → o ≡ Ok c → claim_of_text text ≡ o → Holds c → IsVerdictOn o verdict → check_answer verdict text ≡ Ok (verdict_answer (Ok tt))
unfolding check_answer ◌>>=◌
verdict_yes c text o (Ok u) is at v h = rw (at, is) refl
verdict_yes c text o (Err f) is at v h = absurd (no_flaw c f v.valid v.shared (subst (λ o. IsVerdictOn o (Err f)) is h))

checked : (c : RoutingClaim) (text : List ℕ) → claim_of_text text ≡ Ok c → Holds c → (r : Outcome Written) → IsCheckAnswer text r → r ≡ Ok (verdict_answer (Ok tt))
checked c text at v r h = h.2 ∙ verdict_yes c text (claim_of_text text) h.0 at refl v h.1

pub reported : {m after : MachineState Registers} (o : RunOptions) (report : RoutingReport) (r : Outcome Written) → IsReportFor register_accesses o m after report → Answers r (Ok (printed report))
    → IfOk r (λ w. IsReadable report → claim_of_text w.text ≡ Ok (claim_of_report report)) → NotMemory r → IsRouted o m r
reported {after = after} o report (Ok w) is h back ne =
    record {
      report = report;
      after = after;
      is_report = is;
      is_text = sym (cc (h.is ne));
      is_read_back = back is.readable;
      is_checked = checked (claim_of_report report) w.text (back is.readable) (rw is.claims is.is_plain.holds);
    }
reported o report (Err e) is h back ne = absurd (cc (h.is ne))

pub not_found : {e : Refusal} {after : MachineState Registers} (o : RunOptions) (m : MachineState Registers) (r : Outcome Written) → (e ≢ OutOfMemory → found_by register_accesses o (sci_of m) m ≡ (Err e, after)) → IsErr r × IsErrAnd r (λ x. x ≡ e)
    → NotMemory r → IsRouted o m r
not_found o m (Ok a) is i ne = absurd (cc i.0)
not_found o m (Err x) is i ne = ap (λ p. p.0) (is (λ q. ne (i.1 ∙ q))) ∙ ap Err (sym i.1)

pub refused_machine : {e : Refusal} (mode : Mode) (evaluation : Evaluation) (o : RunOptions) (text : List ℕ) (r : Outcome Written) → Answers {A = MachineState Registers} (Err e) (machine_of_text_in mode evaluation text) → IsErr r × IsErrAnd r (λ x. x ≡ e)
    → NotMemory r → IsRouteAnswer mode evaluation o text r
refused_machine mode evaluation o text (Ok a) h i ne = absurd (cc i.0)
refused_machine mode evaluation o text (Err x) h i ne = rw (h.is (λ q. ne (i.1 ∙ q))) (ap Err i.1)

pub ready_machine : {m : MachineState Registers} (mode : Mode) (evaluation : Evaluation) (o : RunOptions) (text : List ℕ) (r : Outcome Written) → Answers (Ok m) (machine_of_text_in mode evaluation text) → (NotMemory r → IsRouted o m r)
    → NotMemory r → IsRouteAnswer mode evaluation o text r
ready_machine mode evaluation o text r h is ne = rw (h.is tt) (is ne)

pub ruleset routing = (reported, not_found, refused_machine, ready_machine)
