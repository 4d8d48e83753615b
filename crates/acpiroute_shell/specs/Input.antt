-- The whole input.
use Rattle.std.specs.Prelude.{◌≡◌, ℕ, ◌≤◌, ◌<◌, nat_le, Bool, true, false, List, length, Option, Result, Ok, Err, IfSome, if◌then◌else◌}
use Rattle.ar_space.specs.Outcome.{Outcome}
use Rattle.ar_space.specs.declared.refusal.Refusal.TheVariants.{Input}
use Rattle.ar_space.specs.declared.refusal.InputFault.TheVariants.{TextTooLong}
use Rattle.acpiroute_shell.specs.declared.input.Stop.{Stop}
use Rattle.acpiroute_shell.specs.declared.input.Stop.TheVariants.{OutOfMemory, ReadFault, TooLong}

-- at most 16 MiB
unfoldable pub input_of : List ℕ → Outcome (List ℕ)
input_of bytes = if nat_le (length bytes) 16777216 then Ok bytes else Err (Input TextTooLong)

-- these are all bytes that were left, where those are known
abbrev pub IsInput : Option (List ℕ) → List ℕ → Type 0
IsInput left input = IfSome left (λ bytes. bytes ≡ input)

-- how reading within a limit ended: with all of it, past the limit, by a read that failed, or because memory ran out
abbrev pub EndsAs : ℕ → Bool → List ℕ → Result (List ℕ) Stop → Type 0
EndsAs limit read_failed input (Ok bytes) = (read_failed ≡ false) × (bytes ≡ input) × (length input ≤ limit)
EndsAs limit read_failed input (Err TooLong) = (read_failed ≡ false) × (limit < length input)
EndsAs limit read_failed input (Err ReadFault) = read_failed ≡ true
EndsAs limit read_failed input (Err OutOfMemory) = read_failed ≡ false

-- what reading to the end answers, and whether a read failed
pub record IsRead (limit : ℕ) (left : Option (List ℕ)) (read_failed : Bool) (r : Result (List ℕ) Stop) : Type 0 where
  pub input : List ℕ
  pub is_input : IsInput left input
  pub ends : EndsAs limit read_failed input r

-- as `seen`, of what stops reading
abbrev pub read_as : {A B E : Type 0} → (A → B) → Result A E → Result B E
read_as view (Ok a) = Ok (view a)
read_as view (Err e) = Err e
