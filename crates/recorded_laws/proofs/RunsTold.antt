-- Over a space with notes, the accesses of a run are told by what comes out of it, whatever the text is; and noting them changes no run.
use Rattle.std.specs.Prelude.{◌≡◌, ◌≢◌, ℕ, List, [], ◌∷◌, ◌++◌, None, Ok, Err, refl}
use Rattle.std.proofs.Common.{append-nil, append_assoc, inl, inr, sym, subst, ap, ◌∙◌}
use Rattle.std.proofs.lemmas.List.Elements.{All-append, All-nil}
use Rattle.ar_space.specs.declared.refusal.SpaceFault.{SpaceFault}
use Rattle.ar_space.specs.declared.refusal.Refusal.{Refusal}
use Rattle.ar_space.specs.declared.refusal.Refusal.TheVariants as refusal
use Rattle.ar_space.specs.Accesses.{Accesses}
use Rattle.ar_space.specs.Outcome.{Outcome}
use Rattle.recorded_space.specs.declared.exchange.Exchange.{Exchange}
use Rattle.aml_world.specs.state.State.{State}
use Rattle.aml_world.specs.state.Predefined.{fresh_as}
use Rattle.aml_laws.specs.Noted.{WithNotes, noted, fault_of, AllAnswered, RefusalTells, TellsNotes}
use Rattle.aml_laws.proofs.CleanOutcomes.{Clean, CleanRefusal}
use Rattle.aml_laws.proofs.Noting.{noting}
use Rattle.acpi_machine.specs.Calls.{initialized}
use Rattle.acpi_machine.specs.MachineStates.{MachineState, machine_of}
use Rattle.acpi_links.specs.Gatherings.{Gathering}
use Rattle.route_report.specs.Reports.{RoutingReport}
use Rattle.recorded_route.specs.declared.settings.Settings.{Settings}
use Rattle.recorded_route.specs.Runs.{Description, described, IsConfigured, IsConfiguredIf, IsMachineRun, IsLoadedRun, IsRunOver, IsDescribedRun, IsRun, world_over}
use Rattle.machine_laws.proofs.MachineNotes.{notes_of_tables, notes_of_initialization, notes_of_gathering}
use Rattle.machine_laws.proofs.ReportsCarried.{Carried}
use Rattle.machine_laws.proofs.ReportsTold.{report_told}
use Rattle.recorded_laws.specs.RunNotes.{RunTells}
use Rattle.recorded_laws.proofs.CleanTexts.{described_clean}
use Rattle.recorded_laws.proofs.BusesTold.{buses_told_of}
use Rattle.recorded_laws.proofs.PlainReports.{plain_report}
use Rattle.recorded_laws.proofs.Running.{run_carried}

-- ---- accesses that are answered with values, and then others

all_behind : (earlier notes : List Exchange) → AllAnswered earlier → AllAnswered notes → AllAnswered (earlier ++ notes)
all_behind earlier notes = All-append (λ (note : Exchange). fault_of note ≡ None) earlier notes

refusal_behind : (e : Refusal) (earlier notes : List Exchange) → AllAnswered earlier → RefusalTells e notes → RefusalTells e (earlier ++ notes)
refusal_behind (refusal.Space fault) earlier notes all told = record {
  earlier = earlier ++ told.earlier;
  last = told.last;
  are = ap (λ list. earlier ++ list) told.are ∙ sym (append_assoc earlier told.earlier (told.last ∷ []));
  answered = all_behind earlier told.earlier all told.answered;
  faults = told.faults;
}
refusal_behind _ earlier notes all told = all_behind earlier notes all told

none_told : (e : Refusal) → CleanRefusal e → RefusalTells e []
none_told (refusal.Space fault) apart = absurd apart
none_told (refusal.Input fault) apart = All-nil _
none_told _ apart = All-nil _

module _ {S : Type 0} where
  -- a call that was not refused, and then one that was
  then_refused : {A B C : Type 0} (a : A) (e : Refusal) (s t u : WithNotes S) → TellsNotes {A = A} (Ok a) s t → TellsNotes {A = B} (Err e) t u → TellsNotes {A = C} (Err e) s u
  then_refused a e s t u first second = record {
    made = first.made ++ second.made;
    are = second.are ∙ ap (λ list. list ++ second.made) first.are ∙ append_assoc s.1 first.made second.made;
    told = refusal_behind e first.made second.made first.told second.told;
  }

  -- a refusal that ends the run
  ended : {A B : Type 0} (e : Refusal) (s t : WithNotes S) → TellsNotes {A = A} (Err e) s t → TellsNotes {A = B} (Err e) s t
  ended e s t notes = record { made = notes.made; are = notes.are; told = notes.told }

-- a refusal that comes before any access
nothing_made : {S A : Type 0} (e : Refusal) (s : WithNotes S) → CleanRefusal e → TellsNotes {A = A} (Err e) s s
nothing_made e s apart = record { made = []; are = sym (append-nil s.1); told = none_told e apart }

module _ {S : Type 0} (accesses : Accesses S) (settings : Settings) (avoid text : List ℕ) where
  abbrev Told : Outcome RoutingReport → WithNotes S → WithNotes S → Type 0
  Told outcome before after = RunTells accesses settings avoid text outcome before after

  abbrev as_told : (one other : Outcome RoutingReport) (s t : WithNotes S) → other ≡ one → Told one s t → Told other s t
  as_told one other s t is told = subst (λ (o : Outcome RoutingReport). Told o s t) (sym is) told

  module _ (before : WithNotes S) (d : Description) (is_described : described text ≡ Ok d) where
    module _ (w : State (WithNotes S)) (is_loaded : world_over (noted accesses) settings avoid d before ≡ (Ok tt, w)) (loading : TellsNotes {A = Unit {0}} (Ok tt) before w.space) where
      configured_told : (m after : MachineState (WithNotes S)) → initialized (noted accesses) settings.mode (machine_of d.0 settings.steps w) ≡ (Ok tt, m) → TellsNotes {A = Unit {0}} (Ok tt) w.space m.world.space
          → (outcome : Outcome RoutingReport) (space : WithNotes S) → IsConfigured (noted accesses) settings avoid m outcome after → after.world.space ≡ space → Told outcome before space
      configured_told m after is_ready initializing (Ok report) space is at = record {
        description = d;
        is_described = is_described;
        loaded = w;
        is_loaded = is_loaded;
        loading = loading;
        ready = m;
        is_ready = is_ready;
        initializing = initializing;
        left = after;
        is_report = is;
        is_plain = plain_report (noted accesses) settings avoid m after report is;
        told = report_told accesses settings.dry avoid m is.configured is.plain (plain_report (noted accesses) settings avoid m after report is);
        buses = buses_told_of accesses settings.kernel settings.dry avoid m is.configured after is.plain report (plain_report (noted accesses) settings avoid m after report is) is.is_told;
        is_after = at;
      }
      configured_told m after is_ready initializing (Err e) space is at =
          let gathering = subst (λ (x : Outcome Gathering × MachineState (WithNotes S)). TellsNotes x.0 m.world.space x.1.world.space) is (notes_of_gathering accesses avoid m) in
          subst (λ (t : WithNotes S). TellsNotes {A = RoutingReport} (Err e) before t) at
          (then_refused {B = RoutingReport} tt e before w.space after.world.space loading (then_refused tt e w.space m.world.space after.world.space initializing gathering))

      started_told : (r : Outcome (Unit {0})) (m after : MachineState (WithNotes S)) → initialized (noted accesses) settings.mode (machine_of d.0 settings.steps w) ≡ (r, m) → TellsNotes r w.space m.world.space
          → (outcome : Outcome RoutingReport) (space : WithNotes S) → IsConfiguredIf (noted accesses) settings avoid r m outcome after → after.world.space ≡ space → Told outcome before space
      started_told (Ok u) m after is_ready initializing outcome space is at = configured_told m after is_ready initializing outcome space is at
      started_told (Err e) m after is_ready initializing outcome space is at =
          as_told (Err e) outcome before space is.0
          (subst (λ (t : WithNotes S). TellsNotes {A = RoutingReport} (Err e) before t) (ap (λ (x : MachineState (WithNotes S)). x.world.space) (sym is.1) ∙ at)
          (then_refused {B = Unit {0}} tt e before w.space m.world.space loading initializing))

      machine_run_told : (outcome : Outcome RoutingReport) (space : WithNotes S) → IsMachineRun (noted accesses) settings avoid (machine_of d.0 settings.steps w) outcome space → Told outcome before space
      machine_run_told outcome space is =
          let m = machine_of d.0 settings.steps w in
          started_told (initialized (noted accesses) settings.mode m).0 (initialized (noted accesses) settings.mode m).1 is.after refl (notes_of_initialization accesses settings.mode m) outcome space is.is_started is.is_space

    loaded_run_told : (r : Outcome (Unit {0})) (w : State (WithNotes S)) → world_over (noted accesses) settings avoid d before ≡ (r, w) → TellsNotes r before w.space
        → (outcome : Outcome RoutingReport) (space : WithNotes S) → IsLoadedRun (noted accesses) settings avoid d.0 r w outcome space → Told outcome before space
    loaded_run_told (Ok u) w is_loaded loading outcome space is = machine_run_told w is_loaded loading outcome space is
    loaded_run_told (Err e) w is_loaded loading outcome space is = as_told (Err e) outcome before space is.0 (ended e before space (subst (λ (t : WithNotes S). TellsNotes {A = Unit {0}} (Err e) before t) is.1 loading))

    run_over_told : (outcome : Outcome RoutingReport) (after : WithNotes S) → IsRunOver (noted accesses) settings avoid d before outcome after → Told outcome before after
    run_over_told outcome after is =
        let loaded = world_over (noted accesses) settings avoid d before in
        loaded_run_told loaded.0 loaded.1 refl (notes_of_tables accesses d.0 settings.steps d.1 (fresh_as settings.evaluation d.0.width d.1 before)) outcome after is

  described_run_told : (d : Outcome Description) → described text ≡ d → Clean d → (before : WithNotes S) (outcome : Outcome RoutingReport) (after : WithNotes S) → IsDescribedRun (noted accesses) settings avoid d before outcome after → Told outcome before after
  described_run_told (Ok d) is_described clean before outcome after is = run_over_told before d is_described outcome after is
  described_run_told (Err e) is_described clean before outcome after is = as_told (Err e) outcome before after is.0 (subst (λ (t : WithNotes S). TellsNotes {A = RoutingReport} (Err e) before t) is.1 (nothing_made e before clean))

  pub run_told : (before : WithNotes S) (outcome : Outcome RoutingReport) (after : WithNotes S) → IsRun (noted accesses) settings avoid text before outcome after → Told outcome before after
  run_told before outcome after is = described_run_told (described text) refl (described_clean text) before outcome after is

-- ---- texts that describe no tables

no_fault : (d : Outcome Description) (fault : SpaceFault) → Clean d → d ≢ Err (refusal.Space fault)
no_fault d fault clean is = subst (λ (o : Outcome Description). Clean o) is clean

pub text_no_fault : (text : List ℕ) (fault : SpaceFault) → described text ≢ Err (refusal.Space fault)
text_no_fault text fault = no_fault (described text) fault (described_clean text)

pub text_refused : {S : Type 0} (accesses : Accesses S) (settings : Settings) (avoid text : List ℕ) (before : S) (outcome : Outcome RoutingReport) (after : S) (e : Refusal) → described text ≡ Err e → IsRun accesses settings avoid text before outcome after
    → (outcome ≡ Err e) × (before ≡ after)
text_refused accesses settings avoid text before outcome after e is run = subst (λ (d : Outcome Description). IsDescribedRun accesses settings avoid d before outcome after) is run

module _ {S : Type 0} (accesses : Accesses S) (settings : Settings) (avoid : List ℕ) where
  -- ---- noting changes no run

  with_notes : (text : List ℕ) (before : WithNotes S) (outcome : Outcome RoutingReport) (left : S) → Carried (noting accesses) left (λ after. IsRun (noted accesses) settings avoid text before outcome after)
      → (after : WithNotes S) × (left ≡ after.0) × IsRun (noted accesses) settings avoid text before outcome after
  unfolding noting
  with_notes text before outcome left (inl (t, parted)) = absurd parted
  with_notes text before outcome left (inr (t, is, i)) = (t, sym i, is)

  pub run_noted : (text : List ℕ) (before : WithNotes S) (outcome : Outcome RoutingReport) (left : S) → IsRun accesses settings avoid text before.0 outcome left → (after : WithNotes S) × (left ≡ after.0) × IsRun (noted accesses) settings avoid text before outcome after
  unfolding noting
  run_noted text before outcome left is = with_notes text before outcome left (run_carried (noting accesses) settings avoid text before.0 outcome left before is refl)
