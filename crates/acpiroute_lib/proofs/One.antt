-- `route` has one answer.
use Rattle.std.proofs.Common.{◌≡◌, ◌∙◌, ap, sym, ℕ, false, List, Ok, Err}
use Rattle.ar_space.specs.Accesses.{Accesses}
use Rattle.ar_space.specs.Outcome.{Outcome}
use Rattle.acpi_machine.specs.MachineStates.{MachineState}
use Rattle.acpi_configure.specs.Options.{RunOptions}
use Rattle.acpi_configure.specs.ForKernels.{IsReportFor}
use Rattle.route_report.specs.Reports.{RoutingReport}
use Rattle.ar_tables.specs.declared.mode.Mode.{Mode}
use Rattle.acpiroute_shell.specs.declared.request.Evaluation.{Evaluation}
use Rattle.acpiroute_shell.specs.Written.{Written}
use Rattle.acpiroute_lib.specs.Machines.{Registers, register_accesses, machine_of_text_in}
use Rattle.acpiroute_lib.specs.RouteCommand.{printed, IsReportOf, IsRouted, IsRoutedOn, IsRouteAnswer}

-- the law of reports, as `acpi_configure` has it
abbrev LawOfReports : Type 0
LawOfReports = (accesses : Accesses Registers) (o : RunOptions) (before after left : MachineState Registers) (one other : RoutingReport) → o.spread ≡ false → IsReportFor accesses o before after one → IsReportFor accesses o before left other
    → (one ≡ other) × (after ≡ left)

module _ (law : LawOfReports) (o : RunOptions) (first : o.spread ≡ false) where
  same_text : (m : MachineState Registers) (v w : Written) → IsReportOf o m v → IsReportOf o m w → v ≡ w
  same_text m v w a b = a.is_text ∙ (ap printed (law register_accesses o m a.after b.after a.report b.report first a.is_report b.is_report).0 ∙ sym b.is_text)

  one_routed : (m : MachineState Registers) (r s : Outcome Written) → IsRouted o m r → IsRouted o m s → r ≡ s
  one_routed m (Ok v) (Ok w) a b = ap Ok (same_text m v w a b)
  one_routed m (Ok v) (Err e) a b = absurd (cc (sym (ap (λ x. x.0) a.is_report.is_plain.is_found) ∙ b))
  one_routed m (Err e) (Ok w) a b = absurd (cc (sym (ap (λ x. x.0) b.is_report.is_plain.is_found) ∙ a))
  one_routed m (Err e) (Err f) a b = let same : e ≡ f = cc (sym a ∙ b) in ap Err same

  one_routed_on : (x : Outcome (MachineState Registers)) (r s : Outcome Written) → IsRoutedOn o x r → IsRoutedOn o x s → r ≡ s
  one_routed_on (Ok m) r s a b = one_routed m r s a b
  one_routed_on (Err e) r s a b = a ∙ sym b

pub one_answer : LawOfReports → (mode : Mode) (evaluation : Evaluation) (o : RunOptions) (text : List ℕ) (r s : Outcome Written) → o.spread ≡ false → IsRouteAnswer mode evaluation o text r → IsRouteAnswer mode evaluation o text s → r ≡ s
one_answer law mode evaluation o text r s first a b = one_routed_on law o first (machine_of_text_in mode evaluation text) r s a b
