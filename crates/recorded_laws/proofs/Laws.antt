-- What a record says of runs over the register spaces that give its answers.
use Rattle.std.specs.Prelude.{◌≡◌, ℕ, List, [], Some, None, Ok, Err, slice_get, refl}
use Rattle.std.proofs.Common.{inl, inr, sym, ap, ◌∙◌}
use Rattle.ar_space.specs.Accesses.{Accesses}
use Rattle.ar_space.specs.Outcome.{Outcome}
use Rattle.space_trace.specs.declared.access.Access.{Access}
use Rattle.ar_tables.specs.declared.tables.Tables.{Tables}
use Rattle.aml_world.specs.state.State.{State}
use Rattle.acpi_machine.specs.Calls.{initialized}
use Rattle.acpi_machine.specs.MachineStates.{MachineState, machine_of}
use Rattle.acpi_links.specs.Gatherings.{Gathering}
use Rattle.acpi_configure.specs.Configured.{Solves}
use Rattle.acpi_configure.proofs.One.{one_told}
use Rattle.route_solve.specs.Problems.{RoutingProblem, RoutingAnswer}
use Rattle.route_report.specs.Reports.{RoutingReport}
use Rattle.recorded_space.specs.declared.exchange.Exchange.{Exchange}
use Rattle.recorded_space.specs.Recordings.{Recording, begun, recorded}
use Rattle.recorded_space.specs.Deciding.{Gives}
use Rattle.recorded_route.specs.declared.settings.Settings.{Settings}
use Rattle.recorded_route.specs.Runs.{Description, options_of, IsConfigured, IsConfiguredIf, IsMachineRun, IsLoadedRun, IsDescribedRun, world_over as first_world}
use Rattle.recorded_laws.specs.Listed.{listed}
use Rattle.recorded_laws.proofs.Following.{following, following_listed}
use Rattle.machine_laws.proofs.ReportsCarried.{Carried}
use Rattle.recorded_laws.proofs.PlainReports.{plain_report}
use Rattle.recorded_laws.proofs.Running.{described_run_carried}
use Rattle.recorded_laws.proofs.Meeting.{Meet, described_runs_meet}

-- ---- a whole record

without_missing : {S : Type 0} (accesses : Accesses S) (is : S → Type 0) (after : Recording) → after.missing ≡ None → Carried (following accesses) after is → (left : S) × is left
unfolding following
without_missing accesses is after none (inl (t, (first, at))) = absurd (cc (at, none))
without_missing accesses is after none (inr (t, so, i)) = (t, so)

pub whole_record : {S : Type 0} (accesses : Accesses S) (space : S) (settings : Settings) (avoid : List ℕ) (d : Outcome Description) (entries : List Exchange) (outcome : Outcome RoutingReport) (after : Recording) → Gives accesses entries space
    → IsDescribedRun recorded settings avoid d (begun entries) outcome after → after.missing ≡ None → (left : S) × IsDescribedRun accesses settings avoid d space outcome left
unfolding following
whole_record accesses space settings avoid d entries outcome after gives is none =
    without_missing accesses (λ left. IsDescribedRun accesses settings avoid d space outcome left) after none (described_run_carried (following accesses) settings avoid d (begun entries) outcome after space is (refl, gives))

-- ---- an access that is missing

the_missing : (after : Recording) (access first : Access) (list : List Access) → after.missing ≡ Some access → after.missing ≡ Some first → slice_get list after.used ≡ Some first → slice_get list after.used ≡ Some access
the_missing after access first list is at got = cc (is, at, got)

next_in_list : {S : Type 0} (accesses : Accesses S) (after : Recording) (access : Access) (left : S × List Access) → after.missing ≡ Some access → Meet (following_listed accesses) after left → slice_get left.1 after.used ≡ Some access
unfolding following_listed
next_in_list accesses after access left is (inl (first, at, got)) = the_missing after access first left.1 is at got
next_in_list accesses after access left is (inr (u, i)) = absurd (cc (is, i.0))

pub wanted_next : {S : Type 0} → ((problem : RoutingProblem) (one other : RoutingAnswer) → Solves problem one → Solves problem other → one ≡ other)
    → (accesses : Accesses S) (space : S) (settings : Settings) (avoid : List ℕ) (d : Outcome Description) (entries : List Exchange) (outcome : Outcome RoutingReport) (after : Recording) (access : Access) → Gives accesses entries space
    → IsDescribedRun recorded settings avoid d (begun entries) outcome after → after.missing ≡ Some access
    → (outcome2 : Outcome RoutingReport) (left : S × List Access) → IsDescribedRun (listed accesses) settings avoid d (space, []) outcome2 left → slice_get left.1 after.used ≡ Some access
unfolding following_listed
wanted_next law accesses space settings avoid d entries outcome after access gives is missing outcome2 left is2 =
    next_in_list accesses after access left missing (described_runs_meet (following_listed accesses) settings avoid law d (begun entries) outcome after (space, []) outcome2 left is is2 (refl, gives, refl))

-- ---- a run comes out in one way

module _ {S : Type 0} (law : (problem : RoutingProblem) (one other : RoutingAnswer) → Solves problem one → Solves problem other → one ≡ other) (accesses : Accesses S) (settings : Settings) (avoid : List ℕ) where
  one_configured : (m after after2 : MachineState S) (one other : Outcome RoutingReport) → IsConfigured accesses settings avoid m one after → IsConfigured accesses settings avoid m other after2 → (one ≡ other) × (after ≡ after2)
  one_configured m after after2 (Ok report) (Ok report2) is is2 = let h = one_told law accesses (options_of settings avoid) m after after2 report report2 refl is is2 in (ap Ok h.0, h.1)
  one_configured m after after2 (Ok report) (Err e) is is2 = absurd (cc (ap (λ (x : Outcome Gathering × MachineState S). x.0) (sym (plain_report accesses settings avoid m after report is).is_found ∙ is2)))
  one_configured m after after2 (Err e) (Ok report2) is is2 = absurd (cc (ap (λ (x : Outcome Gathering × MachineState S). x.0) (sym is ∙ (plain_report accesses settings avoid m after2 report2 is2).is_found)))
  one_configured m after after2 (Err e) (Err e2) is is2 = let h = sym is ∙ is2 in (ap Err (cc (ap (λ (x : Outcome Gathering × MachineState S). x.0) h)), ap (λ (x : Outcome Gathering × MachineState S). x.1) h)

  one_started : (r : Outcome (Unit {0})) (m after after2 : MachineState S) (one other : Outcome RoutingReport) → IsConfiguredIf accesses settings avoid r m one after → IsConfiguredIf accesses settings avoid r m other after2 → (one ≡ other) × (after ≡ after2)
  one_started (Ok u) m after after2 one other is is2 = one_configured m after after2 one other is is2
  one_started (Err e) m after after2 one other is is2 = (is.0 ∙ sym is2.0, is.1 ∙ sym is2.1)

  one_machine_run : (m : MachineState S) (one other : Outcome RoutingReport) (left left2 : S) → IsMachineRun accesses settings avoid m one left → IsMachineRun accesses settings avoid m other left2 → (one ≡ other) × (left ≡ left2)
  one_machine_run m one other left left2 is is2 =
      let h = one_started (initialized accesses settings.mode m).0 (initialized accesses settings.mode m).1 is.after is2.after one other is.is_started is2.is_started in
      (h.0, sym is.is_space ∙ (ap (λ (x : MachineState S). x.world.space) h.1 ∙ is2.is_space))

  one_loaded_run : (tables : Tables) (r : Outcome (Unit {0})) (w : State S) (one other : Outcome RoutingReport) (left left2 : S) → IsLoadedRun accesses settings avoid tables r w one left → IsLoadedRun accesses settings avoid tables r w other left2
      → (one ≡ other) × (left ≡ left2)
  one_loaded_run tables (Ok u) w one other left left2 is is2 = one_machine_run (machine_of tables settings.steps w) one other left left2 is is2
  one_loaded_run tables (Err e) w one other left left2 is is2 = (is.0 ∙ sym is2.0, sym is.1 ∙ is2.1)

  one_described_run : (d : Outcome Description) (before : S) (one other : Outcome RoutingReport) (left left2 : S) → IsDescribedRun accesses settings avoid d before one left → IsDescribedRun accesses settings avoid d before other left2
      → (one ≡ other) × (left ≡ left2)
  one_described_run (Ok d) before one other left left2 is is2 = one_loaded_run d.0 (first_world accesses settings avoid d before).0 (first_world accesses settings avoid d before).1 one other left left2 is is2
  one_described_run (Err e) before one other left left2 is is2 = (is.0 ∙ sym is2.0, sym is.1 ∙ is2.1)

pub one_way : {S : Type 0} → ((problem : RoutingProblem) (one other : RoutingAnswer) → Solves problem one → Solves problem other → one ≡ other)
    → (accesses : Accesses S) (space : S) (settings : Settings) (avoid : List ℕ) (d : Outcome Description) (one other : Outcome RoutingReport) (left left2 : S) → IsDescribedRun accesses settings avoid d space one left → IsDescribedRun accesses settings avoid d space other left2
    → (one ≡ other) × (left ≡ left2)
one_way law accesses space settings avoid d one other left left2 is is2 = one_described_run law accesses settings avoid d space one other left left2 is is2
