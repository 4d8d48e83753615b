-- Steps that go a known number of bytes on, and know the bytes alone.
use Rattle.std.proofs.Common.{◌≡◌, ℕ, zero, suc, ◌+◌, ◌-◌, ◌*◌, ◌≤◌, List, [], ◌∷◌, length, take, Bool, true, false, Ok, Err, refl, ◌∙◌, sym, ap, add_assoc, add-zero, length-drop, arith}
use Rattle.std.specs.Prelude.{min, nat_lt, if◌then◌else◌}
use Rattle.std.proofs.lemmas.List.{drop-drop}
use Rattle.std.proofs.lemmas.Bool.{ltb-false}
use Rattle.ar_space.specs.Outcome.{Outcome}
use Rattle.ar_space.specs.Change.{give, stop, settle, go_on, ◌>>=◌}
use Rattle.ar_space.specs.declared.refusal.Refusal.{Refusal}
use Rattle.aml_grammar.specs.State.{State, Step, past, byte, byte_of, peek, peek_of, look, next_bytes, times}
use Rattle.aml_marks.specs.Marked.{Place, place_of, bare_state, Walk, after, gives, over, first}
use Rattle.aml_marks.specs.Marked.{past as past_place}
use Rattle.aml_marks.proofs.Follows.{same_value, same_state, refused, both, Follows, goes_same}

-- the same state with nothing declared
abbrev pub bared : State → State
bared s = bare_state (place_of s)

-- The step goes n bytes on, as many as are left, and gives the same value where nothing is declared.
pub record Moves {A : Type 0} (n : ℕ) (m : Step A) (s : State) : Type 0 where
  pub is : (a : A) (t : State) → m s ≡ (Ok a, t) → (t ≡ past n s) × (n ≤ length s.rest) × (m (bared s) ≡ (Ok a, past n (bared s)))

past_past : (m n : ℕ) (s : State) → past m (past n s) ≡ past (n + m) s
past_past m n s = rw (add_assoc, drop-drop m n s.rest) refl

pub bind_is : {A B : Type 0} (m : Step A) (k : A → Step B) {a : A} {s t : State} → m s ≡ (Ok a, t) → (m >>= k) s ≡ k a t
unfolding ◌>>=◌ go_on
bind_is {A = A} m k e = ap (λ (r : Outcome A × State). go_on r.0 r.1 k) e

pub moves_then : {A B : Type 0} {m : Step A} {k : A → Step B} {i j : ℕ} {s : State} → Moves i m s → ((a : A) (t : State) → m s ≡ (Ok a, t) → t ≡ past i s → Moves j (k a) t) → Moves (i + j) (m >>= k) s
moves_then {B = B} {m = m} {k = k} {i = i} {j = j} {s = s} h l = record {
  is = λ b u e.
      let p = both m k s b u e in
      let x = h.is p.0 p.1 p.2 in
      let y = (l p.0 p.1 p.2 x.0).is b u p.3 in
      let len : length p.1.rest ≡ length s.rest - i = ap (λ (t : State). length t.rest) x.0 ∙ length-drop i s.rest in
      let bare : bared p.1 ≡ past i (bared s) = ap bared x.0 in
      let whole : State → Outcome B × State = λ v. (Ok b, v) in (
        y.0 ∙ ap (past j) x.0 ∙ past_past j i s,
        omega (arith, x.1, y.1, len),
        bind_is m k x.2 ∙ ap (k p.0) (sym bare) ∙ y.2 ∙ ap whole (ap (past j) bare ∙ past_past j i (bared s)),
      );
}

pub moves_as : {A : Type 0} {m : Step A} {i j : ℕ} {s : State} → i ≡ j → Moves i m s → Moves j m s
moves_as e h = rw (← e) h

no_past : (s : State) → past 0 s ≡ s
no_past s = rw add-zero refl

pub moves_give : {A : Type 0} {s : State} (a : A) → Moves 0 (give a) s
unfolding give
moves_give {s = s} a = record { is = λ b t e. (sym (same_state e) ∙ sym (no_past s), omega arith, rw (same_value e) (ap (λ u. (Ok b, u)) (sym (no_past (bared s))))) }

pub moves_stop : {A : Type 0} {n : ℕ} {s : State} (r : Refusal) → Moves {A = A} n (stop r) s
unfolding stop
moves_stop r = record { is = λ b t e. absurd (refused e) }

pub moves_settle : {A : Type 0} {s : State} (x : Outcome A) → Moves 0 (settle x) s
unfolding settle
moves_settle {s = s} (Ok a) = record { is = λ b t e. (sym (same_state e) ∙ sym (no_past s), omega arith, rw (same_value e) (ap (λ u. (Ok b, u)) (sym (no_past (bared s))))) }
moves_settle (Err r) = record { is = λ b t e. absurd (refused e) }

-- ---- bytes

byte_from : (s : State) (bs : List ℕ) → s.rest ≡ bs → (b : ℕ) (t : State) → byte_of bs s ≡ (Ok b, t) → (b ≡ first s.rest) × (t ≡ past 1 s) × (1 ≤ length s.rest) × (byte_of bs (bared s) ≡ (Ok b, past 1 (bared s)))
byte_from s [] is b t e = absurd (refused e)
byte_from s (c ∷ bs) is b t e = rw (is, ← same_value e) (refl, sym (same_state e), omega arith, refl)

pub byte_is : (s : State) (b : ℕ) (t : State) → byte s ≡ (Ok b, t) → b ≡ first s.rest
unfolding byte
byte_is s b t e = (byte_from s s.rest refl b t e).0

pub moves_byte : (s : State) → Moves 1 byte s
unfolding byte
moves_byte s = record { is = λ b t e. let x = byte_from s s.rest refl b t e in (x.1, x.2, x.3) }

bytes_if : (n : ℕ) (s : State) (test : Bool) → nat_lt (length s.rest) n ≡ test → (bs : List ℕ) (t : State) → next_bytes n s ≡ (Ok bs, t) → (bs ≡ take n s.rest) × (t ≡ past n s) × (n ≤ length s.rest) × (next_bytes n (bared s) ≡ (Ok bs, past n (bared s)))
unfolding next_bytes
bytes_if n s true is bs t e = absurd (refused (rw is at e))
bytes_if n s false is bs t e = let f = rw is at e in rw (is, ← same_value f) (refl, sym (same_state f), ltb-false (length s.rest) n is, refl)

pub bytes_are : (n : ℕ) (s : State) (bs : List ℕ) (t : State) → next_bytes n s ≡ (Ok bs, t) → bs ≡ take n s.rest
bytes_are n s bs t e = (bytes_if n s (nat_lt (length s.rest) n) refl bs t e).0

pub moves_bytes : (n : ℕ) (s : State) → Moves n (next_bytes n) s
moves_bytes n s = record { is = λ bs t e. let x = bytes_if n s (nat_lt (length s.rest) n) refl bs t e in (x.1, x.2, x.3) }

peek_from : {B : Type 0} {k : ℕ → Step B} {n : ℕ} (s : State) (bs : List ℕ) → s.rest ≡ bs → ((b : ℕ) → first s.rest ≡ b → Moves n (k b) s) → (b : B) (t : State) → go_on (peek_of bs s).0 (peek_of bs s).1 k ≡ (Ok b, t) → (t ≡ past n s) × (n ≤ length s.rest) × (go_on (peek_of bs (bared s)).0 (peek_of bs (bared s)).1 k ≡ (Ok b, past n (bared s)))
unfolding go_on
peek_from s [] is h b t e = absurd (refused e)
peek_from s (c ∷ bs) is h b t e = (h c (ap first is)).is b t e

pub moves_peek : {B : Type 0} {k : ℕ → Step B} {n : ℕ} {s : State} → ((b : ℕ) → first s.rest ≡ b → Moves n (k b) s) → Moves n (peek >>= k) s
unfolding peek ◌>>=◌
moves_peek {s = s} h = record { is = λ b t e. peek_from s s.rest refl h b t e }

pub moves_if : {A : Type 0} {m n : Step A} {i j : ℕ} {s : State} (b : Bool) → (b ≡ true → Moves i m s) → (b ≡ false → Moves j n s) → Moves (if b then i else j) (if b then m else n) s
moves_if true h i = h refl
moves_if false h i = i refl

pub moves_times : {A : Type 0} {m : Step A} (width n : ℕ) (s : State) → ((s : State) → Moves width m s) → Moves (width * n) (times m n) s
unfolding times
moves_times width zero s h = moves_as (omega arith) (moves_give [])
moves_times width (suc n) s h = moves_as (grind arith) (moves_then (h s) (λ x s1 e is. moves_then (moves_times width n s1 h) (λ xs s2 e is. moves_give (x ∷ xs))))

-- ---- walks that go as far

pub min_is : (n m : ℕ) → n ≤ m → min n m ≡ n
min_is n m le = grind arith

pub over_is : (n : ℕ) (p : Place) → n ≤ length p.rest → over n p ≡ past_place n p
over_is n p le = rw (min_is n (length p.rest) le) refl

-- Where the step gives a value, the walk gives it too, and both go to the same place: for steps that know the bytes alone.
pub record Takes {A : Type 0} (m : Step A) (w : Walk A) (s : State) : Type 0 where
  pub is : (a : A) (t : State) → m s ≡ (Ok a, t) → (w (place_of s) ≡ (a, place_of t)) × (s.at ≤ t.at) × (t.at + length t.rest ≡ s.at + length s.rest) × (t.marks ≡ s.marks)

pub takes_moves : {A : Type 0} {m : Step A} {s : State} (n : ℕ) (w : Walk A) → Moves n m s → ((a : A) (t : State) → m s ≡ (Ok a, t) → w (place_of s) ≡ (a, over n (place_of s))) → Takes m w s
takes_moves {s = s} n w h value = record {
  is = λ a t e.
      let x = h.is a t e in
      rw x.0 (value a t e ∙ ap (λ p. (a, p)) (over_is n (place_of s) x.1), omega arith, rw (length-drop n s.rest) (omega (arith, x.1)), refl);
}

pub takes_then : {A B : Type 0} {m : Step A} {k : A → Step B} {w : Walk A} {v : A → Walk B} {s : State} → Takes m w s → ((a : A) (t : State) → Takes (k a) (v a) t) → Takes (m >>= k) (after w v) s
unfolding after
takes_then {m = m} {k = k} {s = s} h l = record {
  is = λ b u e.
      let p = both m k s b u e in
      let x = h.is p.0 p.1 p.2 in
      let y = (l p.0 p.1).is b u p.3 in
      (rw x.0 y.0, omega (arith, x.1, y.1), y.2 ∙ x.2, y.3 ∙ x.3);
}

pub takes_give : {A : Type 0} {s : State} (a : A) → Takes (give a) (gives a) s
unfolding give gives
takes_give a = record { is = λ b t e. rw (← same_state e, ← same_value e) (refl, omega arith, refl, refl) }

pub takes_look : {A B : Type 0} {w : Walk B} {s : State} (f : State → A) (k : A → Step B) → Takes (k (f s)) w s → Takes (look f >>= k) w s
unfolding look ◌>>=◌ go_on
takes_look f k h = record { is = λ b t e. h.is b t e }

pub follows_takes : {A : Type 0} {count : ℕ → ℕ} {m : Step A} {w : Walk A} {s : State} → Takes m w s → Follows count m w s
follows_takes {s = s} h = record { is = λ a t e. let x = h.is a t e in (goes_same s t x.1 x.2 x.3, λ fits kept. x.0) }
