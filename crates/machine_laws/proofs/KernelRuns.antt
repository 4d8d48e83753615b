-- A run for a kernel is the run without its lines, and then the buses that it asks for.
use Rattle.std.specs.Prelude.{◌≡◌, List, [], ◌∷◌, ◌++◌, Bool, true, false, Option, Some, None, Ok, Err, refl, if◌then◌else◌}
use Rattle.std.proofs.Common.{inl, inr, ap, sym, subst, ◌∙◌}
use Rattle.ar_space.specs.declared.refusal.Refusal.{Refusal}
use Rattle.ar_space.specs.declared.refusal.Refusal.TheVariants as refusal
use Rattle.ar_space.specs.declared.refusal.MachineFault.TheVariants.{Spent}
use Rattle.ar_space.specs.Accesses.{Accesses}
use Rattle.ar_space.specs.Outcome.{Outcome}
use Rattle.ar_space.specs.Change.{give, stop, go_on, ◌>>=◌}
use Rattle.ar_tables.specs.Fadts.{sci_interrupt}
use Rattle.aml_path.specs.declared.segment.Seg.{Seg}
use Rattle.aml_laws.specs.Reached.{Reached}
use Rattle.aml_laws.proofs.Together.{Goes, alike, goes_from}
use Rattle.acpi_machine.specs.declared.buses.PciBus.{PciBus}
use Rattle.acpi_machine.specs.Buses.{bus_answered, bus_found}
use Rattle.acpi_machine.specs.Calls.{on_world, unless_spent}
use Rattle.acpi_machine.specs.MachineStates.{MachineState}
use Rattle.acpi_links.specs.Folds.{folded}
use Rattle.acpi_configure.specs.Settling.{attempted}
use Rattle.acpi_configure.specs.ForKernels.{devices_with_tables, bus_told, bus_asked, buses_asked, lines_told, kernel_told, told_if, IsReportFor}
use Rattle.acpi_configure.specs.Options.{RunOptions}
use Rattle.acpi_configure.specs.Triggers.{triggers_of}
use Rattle.acpi_configure.specs.WithOptions.{found_by, IsReportWith}
use Rattle.acpi_configure.proofs.Telling.{behind, reported_for, not_told}
use Rattle.route_report.specs.declared.report.BusLine.{BusLine}
use Rattle.route_report.specs.declared.report.TriggerLine.{TriggerLine}
use Rattle.route_report.specs.ForKernels.{kernel_options, with_kernel_lines}
use Rattle.route_report.specs.Readable.{spared_devices, unread_devices, rule_by}
use Rattle.route_report.specs.Reports.{ReportedOptions, RoutingReport}
use Rattle.route_report.proofs.KernelLines.{same_claim, still_readable}
use Rattle.machine_laws.specs.KernelLines.{BusesAsked, none, known, refused, with_kernel, SameBesideWorld, SameButForKernel}
use Rattle.machine_laws.proofs.AccessesBounded.{reaching}
use Rattle.machine_laws.proofs.BusesTogether.{bus_found_together}
use Rattle.machine_laws.proofs.KernelLinesTold.{told}
use Rattle.machine_laws.proofs.MachineShapes.{machine_over, machines}

-- ---- the same report otherwise

same_spared : (o : Option ReportedOptions) (ts : List TriggerLine) (bs : List BusLine) → spared_devices (Some (kernel_options o ts bs)) ≡ spared_devices o
same_spared None ts bs = refl
same_spared (Some o) ts bs = refl

same_unread : (o : Option ReportedOptions) (ts : List TriggerLine) (bs : List BusLine) → unread_devices (Some (kernel_options o ts bs)) ≡ unread_devices o
same_unread None ts bs = refl
same_unread (Some o) ts bs = refl

same_rule : (o : Option ReportedOptions) (ts : List TriggerLine) (bs : List BusLine) → rule_by (Some (kernel_options o ts bs)) ≡ rule_by o
same_rule None ts bs = refl
same_rule (Some o) ts bs = refl

same_behind : (plain r : RoutingReport) (ts : List TriggerLine) (bs : List BusLine) → r ≡ with_kernel_lines plain ts bs → SameButForKernel r plain
same_behind plain r ts bs is = subst (λ (q : RoutingReport). SameButForKernel q plain) (sym is) (record {
  mode = refl;
  io_apics = refl;
  overrides = refl;
  sci = refl;
  avoid = refl;
  links = refl;
  wired = refl;
  pins = refl;
  gives = refl;
  busiest = refl;
  bound = refl;
  sets = refl;
  afters = refl;
  spared = same_spared plain.options ts bs;
  unread = same_unread plain.options ts bs;
  rule = same_rule plain.options ts bs;
})

module _ {S : Type 0} (accesses : Accesses S) where
  -- ---- the run without lines for a kernel

  -- nothing but the lines depends on whether a kernel wants them
  pub whichever : (kernel : Bool) (o : RunOptions) (before after : MachineState S) (r : RoutingReport) → IsReportWith accesses o before after r → IsReportWith accesses (with_kernel kernel o) before after r
  unfolding found_by
  whichever kernel o before after r is = record {
    found = is.found;
    chosen_in = is.chosen_in;
    is_found = is.is_found;
    answer = is.answer;
    chosen = is.chosen;
    settings = is.settings;
    is_settled = is.is_settled;
    lines = is.lines;
    readable = is.readable;
    claims = is.claims;
    holds = is.holds;
    paths = is.paths;
    offers = is.offers;
    counts = is.counts;
  }

  plain_told : (r : RoutingReport) (s : MachineState S) → told_if accesses false r s ≡ (Ok r, s)
  unfolding told_if give
  plain_told r s = refl

  module _ (o : RunOptions) (before after : MachineState S) (report : RoutingReport) (is : IsReportFor accesses o before after report) (kernel : o.kernel ≡ true) where
    pub plain_run : IsReportFor accesses (with_kernel false o) before is.configured is.plain
    plain_run = record {
      plain = is.plain;
      configured = is.configured;
      is_plain = whichever false o before is.configured is.plain is.is_plain;
      is_told = plain_told is.plain is.configured;
      readable = is.is_plain.readable;
      claims = refl;
    }

    pub same_otherwise : SameButForKernel report is.plain
    same_otherwise =
        let t = told accesses o before after report is kernel in
        same_behind is.plain report (triggers_of (sci_interrupt is.configured.tables.fadt) is.plain) t.buses t.lines

  -- ---- what asking the buses leaves

  pub nothing_else : (s : MachineState S) → SameBesideWorld s s
  nothing_else s = record { tables = refl; mode = refl; steps = refl; spent = refl }

  beside_chained : (s t u : MachineState S) → SameBesideWorld s t → SameBesideWorld t u → SameBesideWorld s u
  beside_chained s t u h i = record { tables = i.tables ∙ h.tables; mode = i.mode ∙ h.mode; steps = i.steps ∙ h.steps; spent = i.spent ∙ h.spent }

  bus_beside : (device : List Seg) (s : MachineState S) → SameBesideWorld s (bus_found accesses device s).1
  unfolding bus_found unless_spent bus_answered on_world stop
  bus_beside device s = by s.spent
    where
      by : (b : Bool) → SameBesideWorld s (if b then (Err (refusal.Machine Spent), s) else bus_answered accesses device s).1
      by true = nothing_else s
      by false = record { tables = refl; mode = refl; steps = refl; spent = refl }

  left_beside : (device : List Seg) (x : Outcome PciBus) (s t : MachineState S) → bus_found accesses device s ≡ (x, t) → SameBesideWorld s t
  left_beside device x s t e = subst (λ (r : Outcome PciBus × MachineState S). SameBesideWorld s r.1) e (bus_beside device s)

  pub asked_beside : (lines : List BusLine) (s t : MachineState S) → BusesAsked accesses lines s t → SameBesideWorld s t
  asked_beside _ s _ (none _) = nothing_else s
  asked_beside _ s t (known device found lines _ n _ e rest) = beside_chained s n t (left_beside device (Ok found) s n e) (asked_beside lines n t rest)
  asked_beside _ s t (refused device x lines _ n _ e rest) = beside_chained s n t (left_beside device (Err x) s n e) (asked_beside lines n t rest)

  bus_reaches : (from : S) (device : List Seg) (s : MachineState S) → Reached accesses from s.world.space → Reached accesses from (bus_found accesses device s).1.world.space
  unfolding reaching
  bus_reaches from device s so_far = by (goes_from (reaching accesses from) machines _ _ ((bus_found_together {side = alike (reaching accesses from)} (λ n. refl) device).goes s s.world.space (refl, so_far)))
    where
      by : Goes (reaching accesses from) machines (bus_found accesses device s) (bus_found accesses device (machine_over s s.world.space)) → Reached accesses from (bus_found accesses device s).1.world.space
      by (inl parted) = absurd parted
      by (inr (t, same, i)) = i.1

  left_reached : (from : S) (device : List Seg) (x : Outcome PciBus) (s t : MachineState S) → bus_found accesses device s ≡ (x, t) → Reached accesses from s.world.space → Reached accesses from t.world.space
  left_reached from device x s t e so_far = subst (λ (r : Outcome PciBus × MachineState S). Reached accesses from r.1.world.space) e (bus_reaches from device s so_far)

  pub asked_reach : (from : S) (lines : List BusLine) (s t : MachineState S) → BusesAsked accesses lines s t → Reached accesses from s.world.space → Reached accesses from t.world.space
  asked_reach from _ s _ (none _) so_far = so_far
  asked_reach from _ s t (known device found lines _ n _ e rest) so_far = asked_reach from lines n t rest (left_reached from device (Ok found) s n e so_far)
  asked_reach from _ s t (refused device x lines _ n _ e rest) so_far = asked_reach from lines n t rest (left_reached from device (Err x) s n e so_far)

  -- ---- a run without has one with the lines

  -- a refusal is told: no bus ends the lines
  never_refused : (list : List (List Seg)) (done : List BusLine) (s t : MachineState S) (x : Refusal) → folded (λ done line. done ++ line ∷ []) (bus_asked accesses) list done s ≡ (Err x, t) → ⊥
  unfolding folded bus_asked attempted give go_on ◌>>=◌
  never_refused [] done s t x e = cc (ap (λ (r : Outcome (List BusLine) × MachineState S). r.0) e)
  never_refused (device ∷ list) done s t x e = never_refused list (done ++ (record { device = device; state = bus_told (bus_found accesses device s).0 }) ∷ []) (bus_found accesses device s).1 t x e

  all_told : (r : RoutingReport) (s : MachineState S) → (with : RoutingReport) × (t : MachineState S) × (told_if accesses true r s ≡ (Ok with, t))
  unfolding told_if kernel_told lines_told give go_on ◌>>=◌
  all_told r s = by (buses_asked accesses (devices_with_tables s) s).0 (buses_asked accesses (devices_with_tables s) s).1 refl
    where
      by : (x : Outcome (List BusLine)) (t : MachineState S) → buses_asked accesses (devices_with_tables s) s ≡ (x, t)
          → (with : RoutingReport) × (u : MachineState S) × (go_on x t (λ buses. give (with_kernel_lines r (triggers_of (sci_interrupt s.tables.fadt) r) buses)) ≡ (Ok with, u))
      by (Ok buses) t e = (with_kernel_lines r (triggers_of (sci_interrupt s.tables.fadt) r) buses, t, refl)
      by (Err x) t e = absurd (never_refused (devices_with_tables s) [] s t x e)

  pub run_with_lines : (o : RunOptions) (before after : MachineState S) (plain : RoutingReport) → IsReportFor accesses (with_kernel false o) before after plain
      → (with : RoutingReport) × (left : MachineState S) × IsReportFor accesses (with_kernel true o) before left with × SameButForKernel with plain
  run_with_lines o before after plain is =
      let bare = not_told accesses (with_kernel false o) before after plain refl is in
      let run = whichever true (with_kernel false o) before after plain bare in
      let lines = all_told plain after in
      let made = reported_for accesses (with_kernel true o) before after lines.1 plain lines.0 run (record { is = λ n. lines.2 }) still_readable (λ q ts bs readable. same_claim q ts bs readable.avoid) in
      let t = behind accesses true plain lines.0 after lines.1 refl lines.2 in
      (lines.0, lines.1, made, same_behind plain lines.0 (triggers_of (sci_interrupt after.tables.fadt) plain) t.buses t.lines)
