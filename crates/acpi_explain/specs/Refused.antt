-- The first of some changes that is refused: those before it are answered, and leave the state in which it is refused.
use Rattle.std.specs.Prelude.{◌≡◌, ◌≢◌, ⊤, ℕ, Bool, true, false, List, [], ◌∷◌, ◌++◌, length, Option, Some, None, Ok, Err}
use Rattle.ar_space.specs.Outcome.{Outcome}
use Rattle.ar_space.specs.Change.{Change}
use Rattle.ar_space.specs.declared.refusal.Refusal.{Refusal}
use Rattle.ar_space.specs.declared.refusal.Refusal.TheVariants.{OutOfMemory}

-- the change is answered
abbrev pub IsAsked : {S A : Type 0} → Change S A → S → S → Type 0
IsAsked {A = A} m before after = (answer : A) × (m before ≡ (Ok answer, after))

-- the change for each of a list is answered, one after another
abbrev pub AreAnswered : {S A B : Type 0} → (A → Change S B) → List A → S → S → Type 0
AreAnswered f [] before after = before ≡ after
AreAnswered {S = S} {B = B} f (x ∷ xs) before after = (answer : B) × (next : S) × (f x before ≡ (Ok answer, next)) × AreAnswered f xs next after

-- the change for x is refused by e, and x is the first of a list of which that holds; so many stand before it
pub record IsFirstRefused {S A B : Type 0} (f : A → Change S B) (list : List A) (number : ℕ) (x : A) (before after : S) (e : Refusal) : Type 0 where
  pub earlier : List A
  pub later : List A
  pub are_all : list ≡ earlier ++ x ∷ later
  pub are_counted : length earlier ≡ number
  pub there : S
  pub are_answered : AreAnswered f earlier before there
  pub is_refused : f x there ≡ (Err e, after)

-- all are answered; or one is refused, of which the number is told
abbrev pub IsHowFar : {S A B : Type 0} → (A → Change S B) → List A → S → S → Option ℕ → Type 0
IsHowFar f list before after None = AreAnswered f list before after
IsHowFar {A = A} f list before after (Some n) = (e : Refusal) × (x : A) × IsFirstRefused f list n x before after e

abbrev pub is_memory : Refusal → Bool
is_memory OutOfMemory = true
is_memory e = false

-- whether a call was refused; nothing is told where memory ran out
abbrev pub TellsRefused : {A : Type 0} → Outcome A → Bool → Type 0
TellsRefused (Ok a) true = ⊥
TellsRefused (Ok a) false = ⊤
TellsRefused (Err e) true = e ≢ OutOfMemory
TellsRefused (Err e) false = ⊥
