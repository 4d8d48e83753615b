-- The lines of `why` where a run is refused.
use Rattle.std.specs.Prelude.{◌≡◌, ◌≢◌, ◌≤◌, ⊤, ℕ, zero, suc, List, [], ◌∷◌, ◌++◌, Option, Some, None, codes, decimal}
use Rattle.ar_space.specs.Accesses.{byte_count}
use Rattle.ar_space.specs.declared.refusal.Refusal.{Refusal}
use Rattle.ar_space.specs.declared.space.Place.{Place}
use Rattle.ar_space.specs.declared.space.Place.TheVariants.{Memory, Io, Pci}
use Rattle.aml_path.specs.Text.{text_of}
use Rattle.watched_space.specs.declared.last_access.Accessed.{Accessed}
use Rattle.watched_space.specs.declared.last_access.Direction.{Direction}
use Rattle.watched_space.specs.declared.last_access.Direction.TheVariants.{Read, Write}
use Rattle.acpiroute_shell.specs.ErrorLines.{refusal_words}
use Rattle.acpiroute_shell.specs.Hexadecimal.{hexadecimal}
use Rattle.acpi_explain.specs.declared.explanation.Explanation.{Explanation}
use Rattle.acpi_explain.specs.declared.stage.Stage.{Stage}
use Rattle.acpi_explain.specs.declared.stage.Stage.TheVariants.{Loading, Calling, RoutingTable, Reading, Setting, ReadingAgain, Gathering}

-- `DSDT`, or an SSDT by its number
abbrev pub table_words : ℕ → List ℕ
table_words zero = codes "DSDT"
table_words (suc n) = codes "SSDT " ++ decimal (suc n)

-- what was done
abbrev pub stage_words : Stage → List ℕ
stage_words (Loading n) = codes "loading " ++ table_words n
stage_words (Calling p) = codes "calling " ++ text_of p
stage_words (RoutingTable p) = codes "reading the routing table of " ++ text_of p
stage_words (Reading p) = codes "reading " ++ text_of p
stage_words (Setting p) = codes "setting " ++ text_of p
stage_words (ReadingAgain p) = codes "reading " ++ (text_of p ++ codes " again")
stage_words Gathering = codes "gathering links and pins"

-- `while` and what was done, where that is known
abbrev pub stage_line : Option Stage → List ℕ
stage_line None = []
stage_line (Some stage) = codes "while " ++ (stage_words stage ++ codes "\n")

-- a number behind a blank
abbrev pub number_behind : ℕ → List ℕ
number_behind n = codes " " ++ hexadecimal n

-- a place, as a line of a machine text begins
abbrev pub place_words : Place → List ℕ
place_words (Memory address) = codes "mem " ++ hexadecimal address
place_words (Io port) = codes "io " ++ hexadecimal port
place_words (Pci seg bus dev func reg) =
    codes "pci " ++ (hexadecimal seg ++ (number_behind bus ++ (number_behind dev ++ (number_behind func ++ number_behind reg))))

abbrev pub direction_word : Direction → List ℕ
direction_word Read = codes "read "
direction_word Write = codes "write "

-- `access`, the direction, the place, and how many bytes
abbrev pub access_line : Option Accessed → List ℕ
access_line None = []
access_line (Some a) = codes "access " ++ (direction_word a.direction ++ (place_words a.place ++ (codes " " ++ (decimal (byte_count a.width) ++ codes "\n"))))

-- ---- where evaluation was refused

-- a line that begins with a word
abbrev pub line_of : List ℕ → List ℕ → List ℕ
line_of word rest = word ++ (rest ++ codes "\n")

-- no line feed stands in it
abbrev pub IsInLine : List ℕ → Type 0
IsInLine [] = ⊤
IsInLine (b ∷ bs) = (b ≢ 10) × IsInLine bs

abbrev pub AreInLine : List (List ℕ) → Type 0
AreInLine [] = ⊤
AreInLine (rest ∷ more) = IsInLine rest × AreInLine more

abbrev pub term_lines : List (List ℕ) → List ℕ
term_lines [] = []
term_lines (rest ∷ more) = line_of (codes "in ") rest ++ term_lines more

abbrev pub name_line : Option (List ℕ) → List ℕ
name_line None = []
name_line (Some rest) = line_of (codes "name ") rest

-- lines of terms, each of which begins with `in`
abbrev pub AreTerms : List ℕ → Type 0
AreTerms text = (terms : List (List ℕ)) × AreInLine terms × (text ≡ term_lines terms)

abbrev pub IsNameInLine : Option (List ℕ) → Type 0
IsNameInLine None = ⊤
IsNameInLine (Some rest) = IsInLine rest

-- Such lines, and behind them at most one that begins with `name`. What else they say is that of the evaluator's own frames, and no
-- definition has it.
abbrev pub ArePlaces : List ℕ → Type 0
ArePlaces text = (terms : List (List ℕ)) × (name : Option (List ℕ)) × AreInLine terms × IsNameInLine name × (text ≡ term_lines terms ++ name_line name)

-- how many steps were taken, of those that there were
abbrev pub steps_line : Option ℕ → ℕ → List ℕ
steps_line None steps = []
steps_line (Some taken) steps = codes "steps " ++ (decimal taken ++ (codes " of " ++ (decimal steps ++ codes "\n")))

-- no more than there were
abbrev pub AreWithin : ℕ → Option ℕ → Type 0
AreWithin steps None = ⊤
AreWithin steps (Some taken) = taken ≤ steps

abbrev pub IsSteps : ℕ → List ℕ → Type 0
IsSteps steps text = (taken : Option ℕ) × AreWithin steps taken × (text ≡ steps_line taken steps)

-- ---- a refusal

-- the refusal as its error line has it, and its name
abbrev pub refusal_line : Refusal → List ℕ → List ℕ
refusal_line e name = refusal_words e ++ (codes " " ++ (name ++ codes "\n"))

abbrev pub help_line : List ℕ → List ℕ
help_line help = codes "help " ++ (help ++ codes "\n")

-- the refusal; what was done; the lines of the terms that were being evaluated; the access; the line of the steps; and what to do
abbrev pub refused_text : Refusal → List ℕ → Option Stage → List ℕ → Option Accessed → List ℕ → List ℕ → List ℕ
refused_text e name stage places access steps help =
    refusal_line e name ++ (stage_line stage ++ (places ++ (access_line access ++ (steps ++ help_line help))))

-- What explains the refusal of a run: its text has the lines of the refusal, of this stage and this access, where so many steps might be
-- taken. The name of the refusal and the help, a line each, stand in a table, and no definition has them.
pub record IsExplanation (e : Refusal) (stage : Option Stage) (access : Option Accessed) (steps : ℕ) (x : Explanation) : Type 0 where
  pub name : List ℕ
  pub is_name : IsInLine name
  pub places : List ℕ
  pub are_places : ArePlaces places
  pub taken : List ℕ
  pub is_taken : IsSteps steps taken
  pub help : List ℕ
  pub is_help : IsInLine help
  pub is_refusal : x.refusal ≡ e
  pub is_stage : x.stage ≡ stage
  pub is_access : x.access ≡ access
  pub is_text : x.text.items ≡ refused_text e name stage places access taken help
