-- Reads of a source, one behind the other.
use Rattle.std.specs.Prelude.{◌≡◌, ℕ, zero, suc, ◌≤◌, List, Option}
use Rattle.std.specs.Io.KnownBytes.{Consumes}

-- so many reads lead from the first state to the second, where `one_read` says what one leads to
abbrev pub Reads : {S : Type 0} → (S → S → Type 0) → ℕ → S → S → Type 0
Reads one_read zero before after = after ≡ before
Reads one_read (suc n) before after = (between : _) × Reads one_read n before between × one_read between after

-- at most so many reads lead from the first state to the second
pub record ReadsWithin {S : Type 0} (one_read : S → S → Type 0) (limit : ℕ) (before after : S) : Type 0 where
  pub count : ℕ
  pub within : count ≤ limit
  pub reads : Reads one_read count before after

-- some bytes were taken from the front of those that were left, where those are known
abbrev pub TakesFront : Option (List ℕ) → Option (List ℕ) → Type 0
TakesFront before after = (bytes : List ℕ) × Consumes before after bytes
