-- Links are set, and then what each of them is set to is read (ACPI 6.5, 6.2.16 and 6.2.2). A refusal is told, and the next link follows.
use Rattle.std.specs.Prelude.{ℕ, List, [], ◌∷◌, ◌++◌, Bool, true, false, Option, Ok, Err}
use Rattle.ar_space.specs.Accesses.{Accesses}
use Rattle.ar_space.specs.Numbers.{number_of}
use Rattle.ar_space.specs.Outcome.{Outcome}
use Rattle.ar_space.specs.Change.{Change, give, ◌>>=◌}
use Rattle.acpi_machine.specs.MachineStates.{MachineState}
use Rattle.acpi_links.specs.Links.{PresentLink}
use Rattle.acpi_links.specs.Resources.{current_resources}
use Rattle.acpi_links.specs.Settings.{resources_set}
use Rattle.acpi_links.specs.Folds.{folded}
use Rattle.route_report.specs.declared.report.SetLine.{SetLine}
use Rattle.route_report.specs.declared.report.SetOutcome.{SetOutcome}
use Rattle.route_report.specs.declared.report.SetOutcome.TheVariants as outcome
use Rattle.route_report.specs.Reports.{AfterState, Now, Refused, ReportedAfter}

-- a change whose outcome is told: its refusal becomes a value, and what it changed stays
unfoldable pub attempted : {S A B : Type 0} → (Outcome A → B) → Change S A → Change S B
attempted tell m s = (Ok (tell (m s).0), (m s).1)

-- whether a link has _SRS, or the number of the refusal
abbrev pub set_told : Outcome Bool → SetOutcome
set_told (Ok true) = outcome.Done
set_told (Ok false) = outcome.NoSetting
set_told (Err e) = outcome.Refused (number_of e)

-- the numbers that _CRS gives, or the number of the refusal
abbrev pub state_told : Outcome (Option (List ℕ)) → AfterState
state_told (Ok now) = Now now
state_told (Err e) = Refused (number_of e)

-- accesses: what the register space makes of them
module _ {S : Type 0} (accesses : Accesses S) where
  unfoldable pub link_set : PresentLink → ℕ → Change (MachineState S) SetLine
  link_set link n = do
    came ← attempted set_told (resources_set accesses link.0 link.1 n)
    give (record { path = link.0; outcome = came })

  -- each link to the interrupt that it is given, in the order of the links
  unfoldable pub links_set : List PresentLink → List ℕ → List SetLine → Change (MachineState S) (List SetLine)
  links_set [] ns done = give done
  links_set (link ∷ links) [] done = give done
  links_set (link ∷ links) (n ∷ ns) done = do
    line ← link_set link n
    links_set links ns (done ++ line ∷ [])

  unfoldable pub link_read : PresentLink → Change (MachineState S) ReportedAfter
  link_read link = do
    state ← attempted state_told (current_resources accesses link.0)
    give (record { path = link.0; state = state })

  abbrev pub links_read : List PresentLink → Change (MachineState S) (List ReportedAfter)
  links_read links = folded (λ done line. done ++ line ∷ []) link_read links []

  -- all links are set before the first is read
  unfoldable pub settled : List PresentLink → List ℕ → Change (MachineState S) (List SetLine × List ReportedAfter)
  settled links ns = do
    sets ← links_set links ns []
    afters ← links_read links
    give (sets, afters)

  -- unless no link is to be set
  unfoldable pub settled_unless : Bool → List PresentLink → List ℕ → Change (MachineState S) (List SetLine × List ReportedAfter)
  settled_unless true links ns = give ([], [])
  settled_unless false links ns = settled links ns
