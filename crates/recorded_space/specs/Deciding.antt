-- Whatever makes accesses, and decides by their answers which one is next.
use Rattle.std.specs.Prelude.{◌≡◌, ℕ, List, [], ◌∷◌, Some, Result, slice_get}
use Rattle.ar_space.specs.declared.refusal.SpaceFault.{SpaceFault}
use Rattle.ar_space.specs.declared.space.Width.{Width}
use Rattle.ar_space.specs.declared.space.Place.{Place}
use Rattle.ar_space.specs.Accesses.{Accesses}
use Rattle.space_trace.specs.declared.access.Access.{Access}
use Rattle.space_trace.specs.declared.access.Access.TheVariants as access
use Rattle.recorded_space.specs.declared.exchange.Exchange.{Exchange}
use Rattle.recorded_space.specs.declared.exchange.Exchange.TheVariants as exchange
use Rattle.recorded_space.specs.Exchanges.{access_of, IsKept}

-- it ends with an outcome, or makes an access and goes on by what that answers
pub data Deciding (A : Type 0) : Type 0 where
  ends : A → Deciding A
  reads : Place → Width → (Result ℕ SpaceFault → Deciding A) → Deciding A
  writes : Place → Width → ℕ → (Result (Unit {0}) SpaceFault → Deciding A) → Deciding A

-- what it ends with over a register space, and the space after it
unfoldable pub outcome : {S A : Type 0} → Accesses S → Deciding A → S → A × S
outcome accesses (ends a) s = (a, s)
outcome accesses (reads place width next) s = let done = accesses.reads s place width in outcome accesses (next done.0) done.1
outcome accesses (writes place width value next) s = let done = accesses.writes s place width value in outcome accesses (next done.0) done.1

-- the accesses that it makes over a register space, one after the other
unfoldable pub made : {S A : Type 0} → Accesses S → Deciding A → S → List Access
made accesses (ends a) s = []
made accesses (reads place width next) s = let done = accesses.reads s place width in access.Read place width ∷ made accesses (next done.0) done.1
made accesses (writes place width value next) s = let done = accesses.writes s place width value in access.Write place width value ∷ made accesses (next done.0) done.1

-- a register space gives the answers of a record, where the accesses of that are made one after the other
unfoldable pub Gives : {S : Type 0} → Accesses S → List Exchange → S → Type 0
Gives accesses [] s = Unit {0}
Gives accesses (exchange.Read place width answer ∷ rest) s = let done = accesses.reads s place width in (done.0 ≡ answer) × Gives accesses rest done.1
Gives accesses (exchange.Write place width value answer ∷ rest) s = let done = accesses.writes s place width value in (done.0 ≡ answer) × Gives accesses rest done.1

-- each entry of a record is the access that is made there over a register space, with a value that fits its width
abbrev pub IsRecordOf : {S A : Type 0} → Accesses S → Deciding A → S → List Exchange → Type 0
IsRecordOf accesses what s entries = (k : ℕ) (entry : Exchange) → slice_get entries k ≡ Some entry → IsKept entry × (slice_get (made accesses what s) k ≡ Some (access_of entry))
