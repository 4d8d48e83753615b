-- What a run has to say, and what it leaves in its writers.
use Rattle.std.specs.Prelude.{◌≡◌, ◌≢◌, ◌⊎◌, ◌<◌, length, ℕ, Bool, true, false, List, [], ◌∷◌, Option, Some, Ok, Err, codes}
use Rattle.clap.specs.Kinds.{IsAmong}
use Rattle.clap.specs.declared.error.kind.ErrorKind.{ErrorKind}
use Rattle.clap.specs.declared.error.kind.ErrorKind.TheVariants as kind
use Rattle.ar_space.specs.Outcome.{Outcome, NotMemory}
use Rattle.ar_space.specs.declared.refusal.Refusal.TheVariants.{Input}
use Rattle.ar_space.specs.declared.refusal.InputFault.TheVariants.{ReadFault}
use Rattle.acpiroute_shell.specs.declared.request.Request.{Request}
use Rattle.acpiroute_shell.specs.declared.request.Asked.TheVariants.{For, BadAvoid}
use Rattle.acpiroute_shell.specs.CommandLine.{asked_of, faults_of}
use Rattle.acpiroute_shell.specs.Deliveries.{Reply, reply_of, Delivered}
use Rattle.acpiroute_shell.specs.Held.{Held}
use Rattle.acpiroute_shell.specs.Input.{input_of, IsInput}
use Rattle.acpiroute_shell.specs.Written.{Written}
use Rattle.acpiroute_lib.specs.Commands.{IsAnswer}
use Rattle.acpiroute_lib.specs.Passed.{told_passed}

-- the answer over an input that is short enough, and else its refusal
abbrev pub IsAnswerOver : Request → Outcome (List ℕ) → Outcome Written → Type 0
IsAnswerOver q (Ok input) r = IsAnswer q input r
IsAnswerOver q (Err e) r = r ≡ Err e

-- what a request comes to over all that was left, and where a read failed: that alone
abbrev pub ComesTo : Request → Bool → List ℕ → Outcome Written → Type 0
ComesTo q true input r = r ≡ Err (Input ReadFault)
ComesTo q false input r = NotMemory r → IsAnswerOver q (input_of input) r

-- what is told where memory runs out before the words are read
abbrev pub no_memory : Reply
no_memory = record { text = []; line = codes "error: out of memory\n"; status = 2 }

-- a text that goes to the output with status 0
abbrev pub IsHelp : ErrorKind → Type 0
IsHelp fault = (fault ≡ kind.DisplayHelp) ⊎ (fault ≡ kind.DisplayVersion)

-- how a fault of the words is told: want of memory by its line, help by a text on the output with status 0, all else by a text on
-- the errors with status 2; the texts are clap's
pub record Shows (fault : ErrorKind) (r : Reply) : Type 0 where
  pub memory : fault ≡ kind.OutOfMemory → r ≡ no_memory
  pub help : IsHelp fault → (r.status ≡ 0) × (r.line ≡ []) × (0 < length r.text)
  pub other : fault ≢ kind.OutOfMemory → (IsHelp fault → ⊥) → (r.status ≡ 2) × (r.text ≡ []) × (0 < length r.line)

-- a fault of the words is told, or that memory ran out before they were read
pub record Complained (words : List (List ℕ)) (r : Reply) : Type 0 where
  pub fault : ErrorKind
  pub found : IsAmong fault (kind.OutOfMemory ∷ faults_of words)
  pub shown : Shows fault r

-- what is told where the text of `--avoid` is no list of interrupts
abbrev pub bad_avoid : Reply
bad_avoid = record { text = []; line = codes "bad --avoid\n"; status = 2 }

-- the words ask for a route that avoids what is no list of interrupts, and nothing else is wrong with them
pub record Declined (words : List (List ℕ)) (r : Reply) : Type 0 where
  pub no_fault : faults_of words ≡ []
  pub asked : asked_of words ≡ Some BadAvoid
  pub is : r ≡ bad_avoid

-- the words ask for this, and the request comes to that outcome over the input
pub record Worked (words : List (List ℕ)) (read_failed : Bool) (input : List ℕ) (r : Reply) : Type 0 where
  pub request : Request
  pub no_fault : faults_of words ≡ []
  pub asked : asked_of words ≡ Some (For request)
  pub outcome : Outcome Written
  pub comes : ComesTo request read_failed input outcome
  pub is : r ≡ reply_of (told_passed request read_failed input) outcome

-- what a run over these words has to say
abbrev pub IsReply : List (List ℕ) → Bool → List ℕ → Reply → Type 0
IsReply words read_failed input r = Complained words r ⊎ (Declined words r ⊎ Worked words read_failed input r)

-- What a run leaves: what it has to say is delivered. What needs no input is said over any; where the bytes are known that were
-- left to the reader, the input is these.
pub record Ran (words : List (List ℕ)) (left : Option (List ℕ)) (read_failed : Bool) (status : ℕ) (output output2 errors errors2 : Held) : Type 0 where
  pub input : List ℕ
  pub is_input : IsInput left input
  pub reply : Reply
  pub is_reply : IsReply words read_failed input reply
  pub delivered : Delivered reply status output output2 errors errors2

-- what a request leaves
pub record Served (q : Request) (left : Option (List ℕ)) (read_failed : Bool) (status : ℕ) (output output2 errors errors2 : Held) : Type 0 where
  pub input : List ℕ
  pub is_input : IsInput left input
  pub outcome : Outcome Written
  pub comes : ComesTo q read_failed input outcome
  pub delivered : Delivered (reply_of (told_passed q read_failed input) outcome) status output output2 errors errors2

-- what a fault of the words leaves
pub record Shown (fault : ErrorKind) (status : ℕ) (output output2 errors errors2 : Held) : Type 0 where
  pub told : ErrorKind
  pub is_told : IsAmong told (kind.OutOfMemory ∷ fault ∷ [])
  pub reply : Reply
  pub shown : Shows told reply
  pub delivered : Delivered reply status output output2 errors errors2
