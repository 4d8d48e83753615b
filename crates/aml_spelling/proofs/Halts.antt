-- What a step of reading that refuses tells of what is left.
use Rattle.std.proofs.Common.{◌≡◌, ℕ, ◌+◌, ◌<◌, List, [], ◌∷◌, length, Bool, true, false, Ok, Err, refl, subst, ◌∙◌, sym, ap}
use Rattle.std.specs.Prelude.{nat_lt, if◌then◌else◌}
use Rattle.std.proofs.lemmas.Bool.{ltb-true}
use Rattle.ar_space.specs.declared.refusal.Refusal.{Refusal}
use Rattle.ar_space.specs.declared.refusal.Refusal.TheVariants as refusals
use Rattle.ar_space.specs.declared.refusal.TermFault.TheVariants.{Truncated}
use Rattle.ar_space.specs.Outcome.{Outcome}
use Rattle.ar_space.specs.Change.{give, stop, go_on, ◌>>=◌}
use Rattle.aml_grammar.specs.State.{State, Step, look, byte, byte_of, peek, peek_of, next_bytes}

-- a step refused, and left a state
abbrev pub Stopped : {A : Type 0} → Outcome A × State → Refusal → State → Type 0
Stopped p r s = p ≡ (Err r, s)

-- Where the step refuses, F holds of the refusal.
pub record Halts {A : Type 0} (m : Step A) (s : State) (F : Refusal → Type 0) : Type 0 where
  pub is : (r : Refusal) (s2 : State) → m s ≡ (Err r, s2) → F r

pub went_on : {A : Type 0} {a : A} {r : Refusal} {s s2 : State} → Stopped (Ok a, s) r s2 → ⊥
went_on {a = a} {r = r} e = let v : Ok a ≡ Err r = ap (λ q. q.0) e in cc v

pub same_refusal : {A : Type 0} {q r : Refusal} {s s2 : State} → Stopped {A = A} (Err q, s) r s2 → q ≡ r
same_refusal {A = A} {q = q} {r = r} e = let x : Outcome A = Err q in let y : Outcome A = Err r in let v : x ≡ y = ap (λ p. p.0) e in cc v

go : {A B : Type 0} (p : Outcome A × State) (k : A → Step B) (s : State) (m : Step A) (F : Refusal → Type 0) → m s ≡ p → Halts m s F → ((a : A) (s1 : State) → m s ≡ (Ok a, s1) → Halts (k a) s1 F) → (r : Refusal) (s2 : State) → go_on p.0 p.1 k ≡ (Err r, s2) → F r
unfolding go_on
go (Ok a, s1) k s m F at h i r s2 e = (i a s1 at).is r s2 e
go (Err q, s1) k s m F at h i r s2 e = subst F (same_refusal e) (h.is q s1 at)

pub halts_then : {A B : Type 0} {m : Step A} {k : A → Step B} {s : State} {F : Refusal → Type 0} → Halts m s F → ((a : A) (s1 : State) → m s ≡ (Ok a, s1) → Halts (k a) s1 F) → Halts (m >>= k) s F
unfolding ◌>>=◌
halts_then {m = m} {k = k} {s = s} {F = F} h i = record { is = λ r s2 e. go (m s) k s m F refl h i r s2 e }

pub halts_give : {A : Type 0} {s : State} {F : Refusal → Type 0} (a : A) → Halts (give a) s F
unfolding give
halts_give a = record { is = λ r s2 e. absurd (went_on e) }

pub halts_stop : {A : Type 0} {s : State} {F : Refusal → Type 0} (q : Refusal) → F q → Halts {A = A} (stop q) s F
unfolding stop
halts_stop {F = F} q h = record { is = λ r s2 e. subst F (same_refusal e) h }

pub halts_map : {A B : Type 0} {m : Step A} {s : State} {F : Refusal → Type 0} (g : A → B) → Halts m s F → Halts (m >>= (λ a. give (g a))) s F
halts_map g h = halts_then h (λ a s1 e. halts_give (g a))

pub halts_more : {A : Type 0} {m : Step A} {s : State} {F G : Refusal → Type 0} → Halts m s F → ((r : Refusal) → F r → G r) → Halts m s G
halts_more h i = record { is = λ r s2 e. i r (h.is r s2 e) }

pub halts_look : {A B : Type 0} {s : State} {F : Refusal → Type 0} (f : State → A) (k : A → Step B) → Halts (k (f s)) s F → Halts (look f >>= k) s F
unfolding ◌>>=◌ go_on look
halts_look f k h = record { is = λ r s2 e. h.is r s2 e }

pub halts_if : {A : Type 0} {m n : Step A} {s : State} {F : Refusal → Type 0} (b : Bool) → (b ≡ true → Halts m s F) → (b ≡ false → Halts n s F) → Halts (if b then m else n) s F
halts_if true h i = h refl
halts_if false h i = i refl

-- ---- bytes

-- bytes are missing at the end
abbrev pub Missing : ℕ → State → Refusal → Type 0
Missing n s r = (r ≡ refusals.Term Truncated (s.at + length s.rest)) × (length s.rest < n)

one_missing : (bs : List ℕ) (s : State) (r : Refusal) (s2 : State) → bs ≡ s.rest → byte_of bs s ≡ (Err r, s2) → (r ≡ refusals.Term Truncated s.at) × (s.rest ≡ [])
one_missing [] s r s2 is e = (sym (same_refusal e), sym is)
one_missing (b ∷ bs) s r s2 is e = absurd (went_on e)

pub halts_byte : (s : State) → Halts byte s (λ r. (r ≡ refusals.Term Truncated s.at) × (s.rest ≡ []))
unfolding byte
halts_byte s = record { is = λ r s2 e. one_missing s.rest s r s2 refl e }

pub too_few : {A : Type 0} (c : Bool) (q : Refusal) (a : A) (s s1 : State) (r : Refusal) (s2 : State) → Stopped {A = A} (if c then (Err q, s) else (Ok a, s1)) r s2 → (c ≡ true) × (r ≡ q)
too_few true q a s s1 r s2 e = (refl, sym (same_refusal e))
too_few false q a s s1 r s2 e = absurd (went_on e)

pub halts_bytes : (n : ℕ) (s : State) → Halts (next_bytes n) s (Missing n s)
unfolding next_bytes
halts_bytes n s = record { is = λ r s2 e. let k = too_few (nat_lt (length s.rest) n) _ _ s _ r s2 e in (k.1, ltb-true (length s.rest) n k.0) }

-- ---- the next byte

peeked : {B : Type 0} (bs : List ℕ) (k : ℕ → Step B) (s : State) (F : Refusal → Type 0) → s.rest ≡ bs → (s.rest ≡ [] → F (refusals.Term Truncated s.at)) → ((b : ℕ) (bs : List ℕ) → s.rest ≡ b ∷ bs → Halts (k b) s F) → (r : Refusal) (s2 : State) → go_on (peek_of bs s).0 (peek_of bs s).1 k ≡ (Err r, s2) → F r
unfolding go_on
peeked [] k s F is none h r s2 e = subst F (same_refusal e) (none is)
peeked (b ∷ bs) k s F is none h r s2 e = (h b bs is).is r s2 e

pub halts_peek : {B : Type 0} {k : ℕ → Step B} {s : State} {F : Refusal → Type 0} → (s.rest ≡ [] → F (refusals.Term Truncated s.at)) → ((b : ℕ) (bs : List ℕ) → s.rest ≡ b ∷ bs → Halts (k b) s F) → Halts (peek >>= k) s F
unfolding ◌>>=◌ peek
halts_peek {k = k} {s = s} {F = F} none h = record { is = λ r s2 e. peeked s.rest k s F refl none h r s2 e }

-- a byte that was seen before
pub halts_seen : {B : Type 0} {s : State} {F : Refusal → Type 0} {b : ℕ} {bs : List ℕ} (k : ℕ → Step B) → s.rest ≡ b ∷ bs → ((s1 : State) → s1.at ≡ s.at + 1 → s1.rest ≡ bs → s1.arities ≡ s.arities → Halts (k b) s1 F) → Halts (byte >>= k) s F
unfolding ◌>>=◌ go_on byte
halts_seen {s = s} {bs = bs} k is h = record { is = λ r s2 e. (h (record s { at = s.at + 1; rest = bs }) refl refl refl).is r s2 (sym (ap (λ (l : List ℕ). go_on (byte_of l s).0 (byte_of l s).1 k) is) ∙ e) }
