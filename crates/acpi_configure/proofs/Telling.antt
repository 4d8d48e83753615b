-- What is told to a kernel, and where a run stops that tells it.
use Rattle.std.proofs.Common.{◌≡◌, ◌≢◌, ◌∙◌, refl, sym, ap, subst, inl, inr, List, [], ◌∷◌, ◌++◌, Bool, true, false, cond, ℕ, Ok, Err, append-nil}
use Rattle.std.specs.Prelude.{filter, IfOk, IfErr}
use Rattle.ar_space.specs.declared.refusal.Refusal.{Refusal}
use Rattle.ar_space.specs.declared.refusal.Refusal.TheVariants.{OutOfMemory}
use Rattle.ar_space.specs.Accesses.{Accesses}
use Rattle.ar_space.specs.Outcome.{Outcome, Answers}
use Rattle.ar_space.specs.Change.{Change, Does, give, go_on, ◌>>=◌}
use Rattle.ar_tables.specs.Fadts.{sci_interrupt}
use Rattle.aml_path.specs.declared.segment.Seg.{Seg}
use Rattle.acpi_machine.specs.Buses.{prt, bus_found}
use Rattle.acpi_machine.specs.Children.{has_child}
use Rattle.acpi_machine.specs.MachineStates.{MachineState}
use Rattle.acpi_machine.specs.Stops.{AllOrNone}
use Rattle.acpi_machine.proofs.Stopping.{made_given, none_made, stops_here, goes_start}
use Rattle.route_report.specs.declared.report.BusLine.{BusLine}
use Rattle.route_report.specs.declared.report.TriggerLine.{TriggerLine}
use Rattle.route_report.specs.ForKernels.{with_kernel_lines}
use Rattle.route_report.specs.Readable.{IsReadable, claim_of_report}
use Rattle.route_report.specs.Reports.{RoutingReport}
use Rattle.acpi_configure.specs.ForKernels.{has_table, devices_with_tables, bus_told, bus_asked, buses_asked, lines_told, kernel_told, told_if, IsToldBehind, IsReportFor}
use Rattle.acpi_configure.specs.KernelStops.{StopsInBuses, StopsInTelling, StopsInRunFor}
use Rattle.acpi_configure.specs.Options.{RunOptions}
use Rattle.acpi_configure.specs.Settling.{attempted}
use Rattle.acpi_configure.specs.Triggers.{triggers_of}
use Rattle.acpi_configure.specs.WithOptions.{IsReportWith}

module _ {S : Type 0} (accesses : Accesses S) {s t : MachineState S} where
  pub bus_asked_made : (device : List Seg) → AllOrNone (attempted bus_told (bus_found accesses device)) s t → AllOrNone (bus_asked accesses device) s t
  unfolding bus_asked
  bus_asked_made device h = made_given (attempted bus_told (bus_found accesses device)) _ h

-- the devices that have a table, one device more
module _ {S : Type 0} (s : MachineState S) where
  filtered : (ps : List (List Seg)) (p : List Seg) → filter (has_table s) (ps ++ p ∷ []) ≡ filter (has_table s) ps ++ cond (has_table s p) (p ∷ []) []
  filtered [] p = refl
  filtered (q ∷ qs) p = by (has_table s q) (filtered qs p)
    where
      by : (b : Bool) → filter (has_table s) (qs ++ p ∷ []) ≡ filter (has_table s) qs ++ cond (has_table s p) (p ∷ []) [] → cond b (q ∷ filter (has_table s) (qs ++ p ∷ [])) (filter (has_table s) (qs ++ p ∷ []))
          ≡ cond b (q ∷ filter (has_table s) qs) (filter (has_table s) qs) ++ cond (has_table s p) (p ∷ []) []
      by true rest = ap (λ more. q ∷ more) rest
      by false rest = rest

  pub one_tabled : (list after ps : List (List Seg)) (p : List Seg) → list ≡ filter (has_table s) ps → has_table s p ≡ true → after ≡ list ++ p ∷ [] → after ≡ filter (has_table s) (ps ++ p ∷ [])
  one_tabled list after ps p so is e = rw (e, so, filtered ps p, is) refl

  pub tabled : (p : List Seg) (n : Seg) (b is : Bool) → Answers (Ok b) (Ok (has_child p n s)) → n ≡ prt → b ≡ is → has_table s p ≡ is
  tabled p n b is a named e = let same : has_child p n s ≡ b = cc (a.is tt) in subst (λ x. has_child p x s ≡ is) named (same ∙ e)

  pub none_tabled : (list ps : List (List Seg)) (p : List Seg) → list ≡ filter (has_table s) ps → has_table s p ≡ false → list ≡ filter (has_table s) (ps ++ p ∷ [])
  none_tabled list ps p so is = rw (so, filtered ps p, is) (sym (append-nil (filter (has_table s) ps)))

pub ruleset tabling = (tabled, one_tabled, none_tabled)

-- ---- what is told behind a report

module _ {S : Type 0} (accesses : Accesses S) where
  lines_behind : (own : ℕ) (plain r : RoutingReport) (after : MachineState S) (x : Outcome (List BusLine)) (t : MachineState S) → go_on x t (λ buses. give (with_kernel_lines plain (triggers_of own plain) buses)) ≡ (Ok r, after)
      → (buses : List BusLine) × (◌≡◌ {A = Outcome (List BusLine) × MachineState S} (x, t) (Ok buses, after)) × (r ≡ with_kernel_lines plain (triggers_of own plain) buses)
  unfolding give go_on
  lines_behind own plain r after (Ok buses) t is =
      let report : with_kernel_lines plain (triggers_of own plain) buses ≡ r = cc (ap (λ (p : Outcome RoutingReport × MachineState S). p.0) is) in
      let left : t ≡ after = ap (λ (p : Outcome RoutingReport × MachineState S). p.1) is in
      (buses, ap (λ (s : MachineState S). (Ok buses, s)) left, sym report)
  lines_behind own plain r after (Err e) t is = absurd (cc (ap (λ (p : Outcome RoutingReport × MachineState S). p.0) is))

  pub behind : (kernel : Bool) (plain r : RoutingReport) (before after : MachineState S) → kernel ≡ true → told_if accesses kernel plain before ≡ (Ok r, after) → IsToldBehind accesses before plain after r
  unfolding told_if kernel_told lines_told ◌>>=◌
  behind true plain r before after e is =
      let b = buses_asked accesses (devices_with_tables before) before in
      let found = lines_behind (sci_interrupt before.tables.fadt) plain r after b.0 b.1 is in
      record { buses = found.0; are_buses = found.1; lines = found.2 }
  behind false plain r before after e is = absurd (cc e)

  pub told_behind : (o : RunOptions) (before after : MachineState S) (r : RoutingReport) (is : IsReportFor accesses o before after r) → o.kernel ≡ true → IsToldBehind accesses is.configured is.plain after r
  told_behind o before after r is kernel = behind o.kernel is.plain r is.configured after kernel is.is_told

  pub plainly : (kernel : Bool) (plain r : RoutingReport) (before after : MachineState S) → kernel ≡ false → told_if accesses kernel plain before ≡ (Ok r, after) → (plain ≡ r) × (before ≡ after)
  unfolding told_if give
  plainly true plain r before after e is = absurd (cc e)
  plainly false plain r before after e is = (cc (ap (λ (p : Outcome RoutingReport × MachineState S). p.0) is), ap (λ (p : Outcome RoutingReport × MachineState S). p.1) is)

  pub not_told : (o : RunOptions) (before after : MachineState S) (r : RoutingReport) → o.kernel ≡ false → IsReportFor accesses o before after r → IsReportWith accesses o before after r
  not_told o before after r kernel is =
      let same = plainly o.kernel is.plain r is.configured after kernel is.is_told in
      rw (← same.0, ← same.1) is.is_plain

  -- ---- a run with what is told

  still_told : (kernel : Bool) (plain r : RoutingReport) (before after : MachineState S) → IsReadable plain → told_if accesses kernel plain before ≡ (Ok r, after)
      → ((q : RoutingReport) (ts : List TriggerLine) (bs : List BusLine) → IsReadable q → IsReadable (with_kernel_lines q ts bs)) → ((q : RoutingReport) (ts : List TriggerLine) (bs : List BusLine) → IsReadable q → claim_of_report (with_kernel_lines q ts bs) ≡ claim_of_report q)
      → IsReadable r × (claim_of_report r ≡ claim_of_report plain)
  still_told true plain r before after h is readable claims =
      let told = behind true plain r before after refl is in
      (rw told.lines (readable plain _ told.buses h), rw told.lines (claims plain _ told.buses h))
  still_told false plain r before after h is readable claims =
      let same = plainly false plain r before after refl is in
      (rw (← same.0) h, rw (← same.0) refl)

  pub reported_for : (o : RunOptions) (before configured after : MachineState S) (plain r : RoutingReport) → IsReportWith accesses o before configured plain → Does (Ok r) after (told_if accesses o.kernel plain) configured
      → ((q : RoutingReport) (ts : List TriggerLine) (bs : List BusLine) → IsReadable q → IsReadable (with_kernel_lines q ts bs)) → ((q : RoutingReport) (ts : List TriggerLine) (bs : List BusLine) → IsReadable q → claim_of_report (with_kernel_lines q ts bs) ≡ claim_of_report q)
      → IsReportFor accesses o before after r
  reported_for o before configured after plain r is told readable claims =
      let still = still_told o.kernel plain r configured after is.readable (told.is tt) readable claims in
      record { plain = plain; configured = configured; is_plain = is; is_told = told.is tt; readable = still.0; claims = still.1 }

  pub stops_behind : (o : RunOptions) (before configured after : MachineState S) (plain : RoutingReport) → IsReportWith accesses o before configured plain → StopsInTelling accesses o.kernel configured after → StopsInRunFor accesses o before after
  stops_behind o before configured after plain is stops = inr (record { plain = plain; configured = configured; is_plain = is; telling = stops })

  -- of a machine as it is told
  pub stops_told : (s t : MachineState S) (list : List (List Seg)) → list ≡ devices_with_tables s → StopsInBuses accesses list s t → StopsInBuses accesses (devices_with_tables s) s t
  stops_told s t list e h = rw (← e) h

  pub told_of : (s t : MachineState S) (x : Outcome RoutingReport) (list found : List (List Seg)) (own : ℕ) (r : RoutingReport) → list ≡ found → Answers (Ok found) (Ok (devices_with_tables s)) → own ≡ sci_interrupt s.tables.fadt
      → Does x t (lines_told accesses list own r) s → Does x t (kernel_told accesses r) s
  unfolding kernel_told
  told_of s t x list found own r alike a e h =
      let here : devices_with_tables s ≡ found = cc (a.is tt) in
      record { is = λ n. subst (λ (l : List (List Seg)). lines_told accesses l (sci_interrupt s.tables.fadt) r s ≡ (x, t)) (alike ∙ sym here) (subst (λ (n : ℕ). lines_told accesses list n r s ≡ (x, t)) e (h.is n)) }

  pub stops_of : (s t : MachineState S) (list found : List (List Seg)) → list ≡ found → Answers (Ok found) (Ok (devices_with_tables s)) → StopsInBuses accesses list s t → StopsInTelling accesses true s t
  stops_of s t list found alike a h =
      let here : devices_with_tables s ≡ found = cc (a.is tt) in
      stops_told s t list (alike ∙ sym here) h

  pub stops_unasked : (s : MachineState S) → StopsInTelling accesses true s s
  stops_unasked s = stops_here (bus_asked accesses) (λ device. AllOrNone (bus_asked accesses device)) (λ device u. none_made) (devices_with_tables s) goes_start

  pub not_asked : (kernel : Bool) (r : RoutingReport) (s : MachineState S) → kernel ≡ false → Does (Ok r) s (told_if accesses kernel r) s
  unfolding told_if give
  not_asked true r s e = absurd (cc e)
  not_asked false r s e = record { is = λ n. refl }

  pub reported_if : (o : RunOptions) (before configured after : MachineState S) (plain : RoutingReport) (kernel : Bool) (x : Outcome RoutingReport) → kernel ≡ o.kernel → IsReportWith accesses o before configured plain → Does x after (told_if accesses kernel plain) configured
      → ((q : RoutingReport) (ts : List TriggerLine) (bs : List BusLine) → IsReadable q → IsReadable (with_kernel_lines q ts bs)) → ((q : RoutingReport) (ts : List TriggerLine) (bs : List BusLine) → IsReadable q → claim_of_report (with_kernel_lines q ts bs) ≡ claim_of_report q)
      → IfOk x (λ r. IsReportFor accesses o before after r)
  reported_if o before configured after plain kernel (Ok r) e is told readable claims =
      reported_for o before configured after plain r is (subst (λ (k : Bool). Does (Ok r) after (told_if accesses k plain) configured) e told) readable claims
  reported_if o before configured after plain kernel (Err x) e is told readable claims = tt

  pub stops_if : (o : RunOptions) (before configured after : MachineState S) (plain : RoutingReport) (kernel : Bool) → kernel ≡ o.kernel → IsReportWith accesses o before configured plain → StopsInTelling accesses kernel configured after → StopsInRunFor accesses o before after
  stops_if o before configured after plain kernel e is stops = stops_behind o before configured after plain is (subst (λ (k : Bool). StopsInTelling accesses k configured after) e stops)

-- want of memory is no refusal that a definition gives
pub not_refused : (P : Refusal → Type 0) (x : Outcome RoutingReport) → IfErr x (λ e. e ≡ OutOfMemory) → IfErr x (λ e. e ≢ OutOfMemory → P e)
not_refused P (Ok r) h = tt
not_refused P (Err e) h = λ ne. absurd (ne h)
