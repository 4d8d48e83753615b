-- Steps that refuse, and steps one after another of which one refuses.
use Rattle.std.proofs.Common.{◌≡◌, ℕ, ◌+◌, List, [], ◌∷◌, Bool, true, false, Ok, Err, refl, ◌∙◌, ap}
use Rattle.std.specs.Prelude.{if◌then◌else◌}
use Rattle.ar_space.specs.Outcome.{Outcome}
use Rattle.ar_space.specs.Change.{stop, settle, go_on, ◌>>=◌}
use Rattle.ar_space.specs.declared.refusal.Refusal.{Refusal}
use Rattle.ar_space.specs.declared.refusal.Refusal.TheVariants as refusals
use Rattle.ar_space.specs.declared.refusal.TermFault.TheVariants.{Truncated}
use Rattle.aml_grammar.specs.State.{State, Step, look, byte, byte_of, peek, peek_of}

-- the step refuses so
pub record Refused {A : Type 0} (m : Step A) (s : State) (r : Refusal) : Type 0 where
  pub is : (m s).0 ≡ Err r

first_of : {A B : Type 0} (p : Outcome A × State) (k : A → Step B) (r : Refusal) → p.0 ≡ Err r → (go_on p.0 p.1 k).0 ≡ Err r
unfolding go_on
first_of (Ok a, s) k r e = absurd (cc e)
first_of (Err q, s) k r e = let same : q ≡ r = cc e in ap (λ (x : Refusal). Err x) same

pub refused_first : {A B : Type 0} {m : Step A} {s : State} {r : Refusal} (k : A → Step B) → Refused m s r → Refused (m >>= k) s r
unfolding ◌>>=◌
refused_first {m = m} {s = s} {r = r} k h = record { is = first_of (m s) k r h.is }

pub refused_next : {A B : Type 0} {s s1 : State} {r : Refusal} {a : A} (m : Step A) (k : A → Step B) → m s ≡ (Ok a, s1) → Refused (k a) s1 r → Refused (m >>= k) s r
unfolding ◌>>=◌ go_on
refused_next m k e h = record { is = rw e h.is }

pub refused_stop : {A : Type 0} (r : Refusal) (s : State) → Refused {A = A} (stop r) s r
unfolding stop
refused_stop r s = record { is = refl }

pub refused_yes : {A : Type 0} {m : Step A} {s : State} {r : Refusal} {c : Bool} (n : Step A) → c ≡ true → Refused m s r → Refused (if c then m else n) s r
refused_yes n e h = rw e h

pub refused_no : {A : Type 0} {n : Step A} {s : State} {r : Refusal} {c : Bool} (m : Step A) → c ≡ false → Refused n s r → Refused (if c then m else n) s r
refused_no m e h = rw e h

pub refused_as : {A : Type 0} {m n : Step A} {s : State} {r : Refusal} → m s ≡ n s → Refused n s r → Refused m s r
refused_as e h = record { is = ap (λ (p : Outcome _ × State). p.0) e ∙ h.is }

pub refused_look : {A B : Type 0} {s : State} {r : Refusal} (f : State → A) (k : A → Step B) → Refused (k (f s)) s r → Refused (look f >>= k) s r
unfolding ◌>>=◌ go_on look
refused_look f k h = record { is = h.is }

pub refused_peek : {B : Type 0} {s : State} {r : Refusal} {b : ℕ} {bs : List ℕ} (k : ℕ → Step B) → s.rest ≡ b ∷ bs → Refused (k b) s r → Refused (peek >>= k) s r
unfolding ◌>>=◌ go_on peek
refused_peek {s = s} k is h = record { is = ap (λ (l : List ℕ). (go_on (peek_of l s).0 (peek_of l s).1 k).0) is ∙ h.is }

pub refused_none : {B : Type 0} {s : State} (k : ℕ → Step B) → s.rest ≡ [] → Refused (peek >>= k) s (refusals.Term Truncated s.at)
unfolding ◌>>=◌ go_on peek
refused_none {s = s} k is = record { is = ap (λ (l : List ℕ). (go_on (peek_of l s).0 (peek_of l s).1 k).0) is }

pub refused_seen : {B : Type 0} {s : State} {r : Refusal} {b : ℕ} {bs : List ℕ} (k : ℕ → Step B) → s.rest ≡ b ∷ bs → Refused (k b) (record s { at = s.at + 1; rest = bs }) r → Refused (byte >>= k) s r
unfolding ◌>>=◌ go_on byte
refused_seen {s = s} k is h = record { is = ap (λ (l : List ℕ). (go_on (byte_of l s).0 (byte_of l s).1 k).0) is ∙ h.is }

pub refused_missing : {B : Type 0} {s : State} (k : ℕ → Step B) → s.rest ≡ [] → Refused (byte >>= k) s (refusals.Term Truncated s.at)
unfolding ◌>>=◌ go_on byte
refused_missing {s = s} k is = record { is = ap (λ (l : List ℕ). (go_on (byte_of l s).0 (byte_of l s).1 k).0) is }

pub refused_settle : {A B : Type 0} {x : Outcome A} {a : A} {s : State} {r : Refusal} (k : A → Step B) → x ≡ Ok a → Refused (k a) s r → Refused (settle x >>= k) s r
unfolding ◌>>=◌ go_on settle
refused_settle k e h = record { is = rw e h.is }

pub refused_settled : {A B : Type 0} {x : Outcome A} {s : State} {r : Refusal} (k : A → Step B) → x ≡ Err r → Refused (settle x >>= k) s r
unfolding ◌>>=◌ go_on settle
refused_settled k e = record { is = rw e refl }
