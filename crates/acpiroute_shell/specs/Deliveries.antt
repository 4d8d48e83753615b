-- What a run has to say, and what it leaves in the writers.
use Rattle.std.specs.Prelude.{◌≡◌, ◌⊎◌, ℕ, List, [], ◌++◌, Ok, Err, if◌then◌else◌}
use Rattle.ar_space.specs.Outcome.{Outcome}
use Rattle.ar_space.specs.declared.refusal.Refusal.{Refusal}
use Rattle.ar_space.specs.declared.refusal.Refusal.TheVariants.{Input, OutOfMemory}
use Rattle.ar_space.specs.declared.refusal.InputFault.TheVariants.{WriteFault}
use Rattle.acpiroute_shell.specs.ErrorLines.{error_line}
use Rattle.acpiroute_shell.specs.Held.{Held, Takes}
use Rattle.acpiroute_shell.specs.Written.{Written, status_of}

-- a text for the output, lines for the errors, and the exit status
pub record Reply : Type 0 where
  pub text : List ℕ
  pub line : List ℕ
  pub status : ℕ

-- a refusal is told behind what was passed over before it; where memory ran out, that alone is told
abbrev pub refusal_told : List ℕ → Refusal → List ℕ
refusal_told passed OutOfMemory = error_line OutOfMemory
refusal_told passed r = passed ++ error_line r

-- an answer goes to the output with its own status, and what was passed over to the errors; a refusal is lines on the errors alone, with
-- status 1
abbrev pub reply_of : List ℕ → Outcome Written → Reply
reply_of passed (Ok answer) = record { text = answer.text; line = passed; status = status_of answer.completion }
reply_of passed (Err r) = record { text = []; line = refusal_told passed r; status = 1 }

-- A reply, delivered. Where a write to the output failed, the line of the fault stands behind its lines, and the status is 1. Where a write
-- to the errors failed, nothing else is changed by it.
pub record Delivered (r : Reply) (status : ℕ) (output output2 errors errors2 : Held) : Type 0 where
  pub text : Takes output output2 r.text
  pub line : Takes errors errors2 (if output2.has_failed then r.line ++ error_line (Input WriteFault) else r.line)
  pub status_is : status ≡ (if output2.has_failed then 1 else r.status)

-- an answer is told as it is; memory may run out for the line of a refusal
abbrev pub IsToldAs : Outcome Written → Outcome Written → Type 0
IsToldAs (Ok answer) told = told ≡ Ok answer
IsToldAs (Err r) told = (told ≡ Err r) ⊎ (told ≡ Err OutOfMemory)

-- an outcome, delivered
pub record Told (passed : List ℕ) (outcome : Outcome Written) (status : ℕ) (output output2 errors errors2 : Held) : Type 0 where
  pub told : Outcome Written
  pub is_told : IsToldAs outcome told
  pub delivered : Delivered (reply_of passed told) status output output2 errors errors2
