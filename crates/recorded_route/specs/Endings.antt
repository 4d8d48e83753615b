-- How a run over a record ends.
use Rattle.std.specs.Prelude.{◌≡◌, ◌≢◌, ℕ, List, Option, Some, None, Ok, Err}
use Rattle.ar_space.specs.declared.refusal.Refusal.TheVariants.{OutOfMemory}
use Rattle.ar_space.specs.Outcome.{Outcome}
use Rattle.aml_world.specs.state.Given.{Given}
use Rattle.space_trace.specs.declared.access.Access.{Access}
use Rattle.recorded_space.specs.declared.exchange.Exchange.{Exchange}
use Rattle.recorded_space.specs.Recordings.{Recording, begun, recorded}
use Rattle.route_report.specs.Reports.{RoutingReport}
use Rattle.recorded_route.specs.declared.ending.WantedAccess.{WantedAccess}
use Rattle.recorded_route.specs.declared.ending.Ending.{Ending}
use Rattle.recorded_route.specs.declared.ending.Ending.TheVariants.{Done, Refused, Wanted}
use Rattle.recorded_route.specs.declared.settings.Settings.{Settings}
use Rattle.recorded_route.specs.declared.description.TablePart.{TablePart}
use Rattle.recorded_route.specs.Runs.{Description, described, described_tables, IsDescribedRun}
use Rattle.recorded_route.specs.Evaluations.{evaluation}

-- the access that a record lacks, and how many of its entries a run used before it
abbrev pub wanted_at : Option Access → ℕ → Option WantedAccess
wanted_at (Some access) used = Some (record { access = access; entry = used })
wanted_at None used = None

abbrev pub wanted_of : Recording → Option WantedAccess
wanted_of r = wanted_at r.missing r.used

-- a missing access is wanted, whatever came out without its answer
abbrev pub ending_of : {A : Type 0} → Outcome A → Option WantedAccess → Ending A
ending_of (Ok value) None = Done value
ending_of (Err e) None = Refused e
ending_of outcome (Some wanted) = Wanted wanted

-- memory didn't run out
abbrev pub NotOutOfMemory : {A : Type 0} → Ending A → Type 0
NotOutOfMemory (Done value) = Unit {0}
NotOutOfMemory (Refused e) = e ≢ OutOfMemory
NotOutOfMemory (Wanted wanted) = Unit {0}

-- the record after a run, which lacks this access
pub record Leaves (run : Recording → Type 0) (wanted : Option WantedAccess) : Type 0 where
  pub after : Recording
  pub is_run : run after
  pub is_wanted : wanted ≡ wanted_of after

-- A run of what is described over a record, from its first entry on, ends like this.
pub record IsEndingOver (settings : Settings) (avoid : List ℕ) (description : Outcome Description) (entries : List Exchange) (ending : Ending RoutingReport) : Type 0 where
  pub outcome : Outcome RoutingReport
  pub after : Recording
  pub is_run : IsDescribedRun recorded settings avoid description (begun entries) outcome after
  pub is_told : ending ≡ ending_of outcome (wanted_of after)

-- the same of a machine text, and of tables in memory
abbrev pub IsEnding : Settings → List ℕ → List ℕ → List Exchange → Ending RoutingReport → Type 0
IsEnding settings avoid text = IsEndingOver settings avoid (described text)

abbrev pub IsEndingOfTables : Settings → List ℕ → ℕ → List TablePart → List ℕ → List Exchange → Ending RoutingReport → Type 0
IsEndingOfTables settings avoid rsdp parts osi = IsEndingOver settings avoid (described_tables rsdp parts osi)

-- what it came to, seen by a view
abbrev pub seen_ending : {A B : Type 0} → (A → B) → Ending A → Ending B
seen_ending view (Done value) = Done (view value)
seen_ending view (Refused e) = Refused e
seen_ending view (Wanted wanted) = Wanted wanted

-- An evaluation over a record, from its first entry on, ends like this.
pub record IsEvaluatedOver (settings : Settings) (path : List ℕ) (arguments : List Given) (description : Outcome Description) (entries : List Exchange) (ending : Ending Given) : Type 0 where
  pub outcome : Outcome Given
  pub after : Recording
  pub is_evaluation : evaluation recorded settings path arguments description (begun entries) ≡ (outcome, after)
  pub is_told : ending ≡ ending_of outcome (wanted_of after)

abbrev pub IsEvaluated : Settings → List ℕ → List Given → List ℕ → List Exchange → Ending Given → Type 0
IsEvaluated settings path arguments text = IsEvaluatedOver settings path arguments (described text)

abbrev pub IsEvaluatedOfTables : Settings → List ℕ → List Given → ℕ → List TablePart → List ℕ → List Exchange → Ending Given → Type 0
IsEvaluatedOfTables settings path arguments rsdp parts osi = IsEvaluatedOver settings path arguments (described_tables rsdp parts osi)
