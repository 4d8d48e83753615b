-- The lines of `why` where a run is not refused: of links that are not set as they were to be, each with what explains it.
use Rattle.std.specs.Prelude.{◌≡◌, ℕ, ◌==◌, Bool, true, false, List, [], ◌∷◌, ◌++◌, zip, Option, Some, None, Ok, Err, codes, decimal, if◌then◌else◌}
use Rattle.ar_space.specs.Accesses.{Accesses}
use Rattle.ar_space.specs.Numbers.{number_of}
use Rattle.ar_space.specs.Outcome.{Outcome}
use Rattle.ar_space.specs.declared.refusal.Refusal.{Refusal}
use Rattle.aml_path.specs.declared.segment.Seg.{Seg}
use Rattle.aml_path.specs.Text.{text_of}
use Rattle.acpi_machine.specs.MachineStates.{MachineState}
use Rattle.acpi_links.specs.Links.{PresentLink}
use Rattle.acpi_links.specs.Resources.{current_resources}
use Rattle.acpi_links.specs.Settings.{resources_set}
use Rattle.acpi_configure.specs.Options.{RunOptions}
use Rattle.acpi_configure.specs.WithOptions.{IsChoice}
use Rattle.acpi_links.specs.Gatherings.{Gathering}
use Rattle.route_solve.specs.Problems.{RoutingAnswer}
use Rattle.route_report.specs.Lines.{spaced}
use Rattle.route_report.specs.Printing.{now_words}
use Rattle.watched_space.specs.Watching.{Watch, watched}
use Rattle.acpi_explain.specs.Explaining.{IsExplanation, help_line}
use Rattle.acpi_explain.specs.Told.{shown_access}
use Rattle.acpi_explain.specs.declared.explanation.Explanation.{Explanation}
use Rattle.acpi_explain.specs.declared.stage.Stage.{Stage}
use Rattle.acpi_explain.specs.declared.stage.Stage.TheVariants.{Setting, ReadingAgain}

-- ---- the line of a link

-- `link`, its path, words and a number
abbrev pub link_words : List Seg → List ℕ → ℕ → List ℕ
link_words path words n = codes "link " ++ (text_of path ++ (words ++ decimal n))

-- a link that refused its setting by a number
abbrev pub refused_setting : List Seg → ℕ → List ℕ
refused_setting path r = link_words path (codes " refused its setting ") r ++ codes "\n"

-- what a link was given, and the number by which its reading was refused
abbrev pub unread_line : ℕ → List Seg → ℕ → List ℕ
unread_line n path r = link_words path (codes " was given ") n ++ (codes " and refused to be read " ++ (decimal r ++ codes "\n"))

-- whether a link reads back just the interrupt that it was given
abbrev pub is_given : ℕ → Option (List ℕ) → Bool
is_given n (Some (m ∷ [])) = m == n
is_given n other = false

-- what to do where it reads back something else
abbrev pub other_help : Option (List ℕ) → List ℕ
other_help None = codes "a link without _CRS doesn't say to what it is set"
other_help (Some now) = codes "a link without _SRS, or one that refused its setting, keeps its interrupt; else compare what _SRS writes with what _CRS reads; registers behind an index register share one byte here"

-- what a link was given, and what it reads back
abbrev pub other_line : ℕ → List Seg → Option (List ℕ) → List ℕ
other_line n path now = link_words path (codes " was given ") n ++ (codes " and reads back" ++ (spaced (now_words now) ++ (codes "\n" ++ help_line (other_help now))))

-- nothing, where it reads back what it was given
abbrev pub read_lines : ℕ → List Seg → Option (List ℕ) → List ℕ
read_lines n path now = if is_given n now then [] else other_line n path now

-- ---- the lines of links, one after another

-- each of a list changes a state, and has its own text, of which this holds; the texts stand one behind another
abbrev pub AreTold : {S A : Type 0} → (A → S → S → List ℕ → Type 0) → List A → S → S → List ℕ → Type 0
AreTold IsTold [] before after text = (before ≡ after) × (text ≡ [])
AreTold {S = S} IsTold (x ∷ xs) before after text =
    (there : S) × (own : List ℕ) × (rest : List ℕ) × IsTold x before there own × AreTold IsTold xs there after rest × (text ≡ own ++ rest)

-- accesses: what the register space makes of them, below the one that keeps the last access; steps: how many an
-- evaluation may take, as the caller says
module _ {S : Type 0} (accesses : Accesses S) (steps : ℕ) where
  -- the text of what explains a refusal, which left the machine so
  pub record IsExplainedBy (stage : Stage) (e : Refusal) (after : MachineState (Watch S)) (text : List ℕ) : Type 0 where
    pub explanation : Explanation
    pub is_explanation : IsExplanation e (Some stage) (shown_access e after.world.space.last) steps explanation
    pub is : text ≡ explanation.text.items

  -- below a line that tells its number
  abbrev pub IsToldBelow : (ℕ → List ℕ) → Stage → Refusal → MachineState (Watch S) → List ℕ → Type 0
  IsToldBelow line stage e after text = (below : List ℕ) × IsExplainedBy stage e after below × (text ≡ line (number_of e) ++ below)

  -- by what came of setting a link
  abbrev pub IsSetTold : List Seg → Outcome Bool → MachineState (Watch S) → List ℕ → Type 0
  IsSetTold path (Ok stands) after text = text ≡ []
  IsSetTold path (Err e) after text = IsToldBelow (refused_setting path) (Setting path) e after text

  -- a link is set to the interrupt that it is given
  abbrev pub IsLinkSet : PresentLink × ℕ → MachineState (Watch S) → MachineState (Watch S) → List ℕ → Type 0
  IsLinkSet x before after text = (came : Outcome Bool) × (resources_set (watched accesses) x.0.0 x.0.1 x.1 before ≡ (came, after)) × IsSetTold x.0.0 came after text

  -- by what came of reading it
  abbrev pub IsReadTold : ℕ → List Seg → Outcome (Option (List ℕ)) → MachineState (Watch S) → List ℕ → Type 0
  IsReadTold n path (Ok now) after text = text ≡ read_lines n path now
  IsReadTold n path (Err e) after text = IsToldBelow (unread_line n path) (ReadingAgain path) e after text

  -- what it is set to is read
  abbrev pub IsLinkRead : PresentLink × ℕ → MachineState (Watch S) → MachineState (Watch S) → List ℕ → Type 0
  IsLinkRead x before after text = (came : Outcome (Option (List ℕ))) × (current_resources (watched accesses) x.0.0 before ≡ (came, after)) × IsReadTold x.1 x.0.0 came after text

  -- all links are set before the first is read
  pub record AreLinksTold (list : List (PresentLink × ℕ)) (before after : MachineState (Watch S)) (text : List ℕ) : Type 0 where
    pub set : MachineState (Watch S)
    pub sets : List ℕ
    pub reads : List ℕ
    pub are_set : AreTold IsLinkSet list before set sets
    pub are_read : AreTold IsLinkRead list set after reads
    pub is : text ≡ sets ++ reads

  -- unless no link is to be set
  abbrev pub AreLinksToldUnless : Bool → List (PresentLink × ℕ) → MachineState (Watch S) → MachineState (Watch S) → List ℕ → Type 0
  AreLinksToldUnless true list before after text = (before ≡ after) × (text ≡ [])
  AreLinksToldUnless false list before after text = AreLinksTold list before after text

  -- the links that a run with these options finds, each with the interrupt that it is given; it leaves the machine so
  pub record AreLinksExplained (o : RunOptions) (before after : MachineState (Watch S)) (text : List ℕ) : Type 0 where
    pub gathering : Gathering
    pub answer : RoutingAnswer
    pub chosen_in : MachineState (Watch S)
    pub choice : IsChoice (watched accesses) o before chosen_in gathering answer
    pub are_told : AreLinksToldUnless o.dry (zip gathering.links answer.choice) chosen_in after text
