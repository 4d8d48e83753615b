-- Why a run ends with status 1.
use Rattle.std.specs.Prelude.{◌≡◌, ◌⊎◌, ℕ, Bool, true, false, List, [], Option, Some, Err}
use Rattle.clap.specs.Kinds.{IsAmong}
use Rattle.clap.specs.declared.error.kind.ErrorKind.{ErrorKind}
use Rattle.ar_space.specs.declared.refusal.Refusal.{Refusal}
use Rattle.ar_space.specs.declared.refusal.Refusal.TheVariants.{Input, OutOfMemory}
use Rattle.ar_space.specs.declared.refusal.InputFault.TheVariants.{ReadFault, WriteFault}
use Rattle.acpiroute_shell.specs.declared.request.Request.{Request}
use Rattle.acpiroute_shell.specs.declared.request.Asked.TheVariants.{For}
use Rattle.acpiroute_shell.specs.CommandLine.{asked_of, faults_of}
use Rattle.acpiroute_shell.specs.Deliveries.{refusal_told}
use Rattle.acpiroute_shell.specs.Held.{Held, Takes}
use Rattle.acpiroute_shell.specs.Input.{input_of, IsInput}
use Rattle.acpiroute_lib.specs.Passed.{told_passed}
use Rattle.acpiroute_lib.specs.Runs.{IsAnswerOver, IsHelp}

-- the refusal that the command of the words, in which nothing is wrong, answers over the input; where that is too long, the refusal of
-- its length
pub record IsOwnRefusal (words : List (List ℕ)) (input : List ℕ) (r : Refusal) : Type 0 where
  pub request : Request
  pub no_fault : faults_of words ≡ []
  pub asked : asked_of words ≡ Some (For request)
  pub answers : IsAnswerOver request (input_of input) (Err r)

-- the refusal that a run tells: of a write where one failed, else of a read where one failed, and else want of memory or its own
abbrev pub IsCause : List (List ℕ) → Bool → Bool → List ℕ → Refusal → Type 0
IsCause words read_failed true input r = r ≡ Input WriteFault
IsCause words true false input r = r ≡ Input ReadFault
IsCause words false false input r = (r ≡ OutOfMemory) ⊎ IsOwnRefusal words input r

-- the lines before that of a refusal: those of what the command of the words passes over, where nothing is wrong with them; none where
-- they ask for help, which can fail to be written
abbrev pub IsPassed : List (List ℕ) → Bool → Bool → List ℕ → List ℕ → Type 0
IsPassed words read_failed write_failed input passed =
    ((q : Request) × (faults_of words ≡ []) × (asked_of words ≡ Some (For q)) × (passed ≡ told_passed q read_failed input))
    ⊎ ((write_failed ≡ true) × ((k : ErrorKind) × IsHelp k × IsAmong k (faults_of words)) × (passed ≡ []))

-- a run tells a refusal for such a cause, by its line on the errors, the last there
pub record TellsCause (words : List (List ℕ)) (left : Option (List ℕ)) (read_failed write_failed : Bool) (errors errors2 : Held) : Type 0 where
  pub input : List ℕ
  pub is_input : IsInput left input
  pub refusal : Refusal
  pub is_cause : IsCause words read_failed write_failed input refusal
  pub passed : List ℕ
  pub is_passed : IsPassed words read_failed write_failed input passed
  pub line : Takes errors errors2 (refusal_told passed refusal)
