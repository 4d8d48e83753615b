-- Lines for a kernel claim nothing.
use Rattle.std.proofs.Common.{◌≡◌, ◌∙◌, ap, refl, ℕ, ◌<◌, Bool, true, false, cond, List, [], ◌∷◌, ◌++◌, append-nil, Option, Some, None, arith}
use Rattle.std.specs.Prelude.{All, ◌==◌}
use Rattle.std.specs.List.{dedup, dedup_from}
use Rattle.std.specs.List.Sorted.{IsStrictlyIncreasing}
use Rattle.std.specs.Ordering.{nat_cmp}
use Rattle.std.specs.FinMap.{nat_cmp-IsAntisymmetric}
use Rattle.std.proofs.lemmas.Bool.{eqb-true}
use Rattle.std.proofs.lemmas.Cmp.{nat_cmp_total}
use Rattle.std.proofs.lemmas.List.Elements.{All-nil}
use Rattle.route_check.specs.Claims.{RoutingClaim}
use Rattle.route_report.specs.declared.report.BusLine.{BusLine}
use Rattle.route_report.specs.declared.report.TriggerLine.{TriggerLine}
use Rattle.route_report.specs.ForKernels.{kernel_options, with_kernel_lines}
use Rattle.route_report.specs.Ordered.{in_order, barred, barred_by}
use Rattle.route_report.specs.Readable.{spared_numbers, spared_by, spared_devices, rule_by, claim_of_report, IsReadable}
use Rattle.route_report.specs.Reports.{ReportedOptions, RoutingReport, SparedDevice, is_spread}
use Rattle.route_report.proofs.Ascending.{increasing_tail}
use Rattle.route_report.proofs.Claimed.{numbers_sorted}
use Rattle.route_report.proofs.Sorting.{stays}

-- numbers that ascend are all kept
all_kept : (k : ℕ) (xs : List ℕ) → IsStrictlyIncreasing (k ∷ xs) → dedup_from ◌==◌ k xs ≡ k ∷ xs
all_kept k [] up = refl
all_kept k (x ∷ xs) up = by (x == k) refl (all_kept x xs (increasing_tail k (x ∷ xs) up))
  where
    by : (b : Bool) → (x == k) ≡ b → dedup_from ◌==◌ x xs ≡ x ∷ xs → cond b (dedup_from ◌==◌ k xs) (k ∷ dedup_from ◌==◌ x xs) ≡ k ∷ x ∷ xs
    by true e rest = absurd (let less : k < x = up 0 (omega arith) in let same = eqb-true x k e in omega arith)
    by false e rest = ap (λ ys. k ∷ ys) rest

ascending_stays : (xs : List ℕ) → IsStrictlyIncreasing xs → dedup ◌==◌ xs ≡ xs
ascending_stays [] up = refl
ascending_stays (x ∷ xs) up = all_kept x xs up

pub none_barred : (avoid : List ℕ) → IsStrictlyIncreasing avoid → barred avoid [] ≡ avoid
none_barred avoid up = ap (λ xs. dedup ◌==◌ (in_order nat_cmp xs)) (append-nil avoid) ∙ (ap (dedup ◌==◌) (stays nat_cmp nat_cmp_total nat_cmp-IsAntisymmetric avoid (numbers_sorted avoid up)) ∙ ascending_stays avoid up)

same_bars : (avoid : List ℕ) (o : Option ReportedOptions) (ts : List TriggerLine) (bs : List BusLine) → IsStrictlyIncreasing avoid → barred_by avoid (spared_by (Some (kernel_options o ts bs))) ≡ barred_by avoid (spared_by o)
unfolding spared_numbers
same_bars avoid None ts bs up = none_barred avoid up
same_bars avoid (Some o) ts bs up = refl

same_rule : (o : Option ReportedOptions) (ts : List TriggerLine) (bs : List BusLine) → is_spread (rule_by (Some (kernel_options o ts bs))) ≡ is_spread (rule_by o)
same_rule None ts bs = refl
same_rule (Some o) ts bs = refl

same_spared : (o : Option ReportedOptions) (ts : List TriggerLine) (bs : List BusLine) → spared_devices (Some (kernel_options o ts bs)) ≡ spared_devices o
same_spared None ts bs = refl
same_spared (Some o) ts bs = refl

pub same_claim : (r : RoutingReport) (ts : List TriggerLine) (bs : List BusLine) → IsStrictlyIncreasing r.avoid → claim_of_report (with_kernel_lines r ts bs) ≡ claim_of_report r
same_claim r ts bs up =
    ap (λ (ns : List ℕ). record (claim_of_report r) { avoid = ns; spread = is_spread (rule_by (Some (kernel_options r.options ts bs))) }) (same_bars r.avoid r.options ts bs up)
    ∙ ap (λ (b : Bool). record (claim_of_report r) { spread = b }) (same_rule r.options ts bs)

pub still_readable : (r : RoutingReport) (ts : List TriggerLine) (bs : List BusLine) → IsReadable r → IsReadable (with_kernel_lines r ts bs)
still_readable r ts bs h = record { few_links = h.few_links; few_wired = h.few_wired; offers = h.offers; avoid = h.avoid; spared = rw (same_spared r.options ts bs) h.spared }
