-- Steps of reading whose outcome depends on no byte after those that they read, one after another.
use Rattle.std.proofs.Common.{◌≡◌, ℕ, zero, suc, ◌+◌, ◌≤◌, List, [], ◌∷◌, ◌++◌, length, Bool, true, false, Ok, Err, refl, subst, ◌∙◌, sym, ap, length-append, arith}
use Rattle.std.specs.Prelude.{if◌then◌else◌}
use Rattle.ar_space.specs.declared.refusal.Refusal.{Refusal}
use Rattle.ar_space.specs.declared.refusal.Refusal.TheVariants as refusals
use Rattle.ar_space.specs.declared.refusal.NameFault.TheVariants.{BadName}
use Rattle.ar_space.specs.declared.refusal.TermFault.TheVariants.{TooDeep}
use Rattle.ar_space.specs.Outcome.{Outcome}
use Rattle.ar_space.specs.Change.{give, stop, settle, go_on, ◌>>=◌}
use Rattle.aml_grammar.specs.State.{State, Step, fault, bad_name, look, times}
use Rattle.aml_scan.proofs.Takes.{Gave}
use Rattle.aml_spelling.specs.Reach.{ahead, reach, Placed}

-- how many bytes were read; and, where it was looked at, the next one
abbrev pub seen : Bool → State → ℕ
seen false s = s.at
seen true s = s.at + ahead s.rest

-- on how many of the first bytes an outcome depends
abbrev pub reached : {A : Type 0} → Bool → Outcome A → State → ℕ
reached w (Ok a) s = seen w s
reached w (Err r) s = reach r s

-- two states that differ in the bytes from a place on, and in nothing else
pub record Apart (place : ℕ) (s t : State) : Type 0 where
  pub front : List ℕ
  pub back : List ℕ
  pub other : List ℕ
  pub one : s.rest ≡ front ++ back
  pub two : t ≡ record s { rest = front ++ other }
  pub size : length other ≡ length back
  pub here : s.at + length front ≡ place

-- outcomes that are the same, and what is left after them
abbrev pub Alike : {A : Type 0} → ℕ → Outcome A → State → Outcome A → State → Type 0
Alike p (Ok a) s q t = (q ≡ Ok a) × Apart p s t
Alike p (Err r) s q t = (q ≡ Err r) × (t.at ≡ s.at)

-- The outcome depends on no byte after those that were read. The first Bool says whether the next byte was looked at before,
-- the second one whether it may have been after.
pub record Steady {A : Type 0} (before after : Bool) (m : Step A) (s : State) : Type 0 where
  pub onward : seen before s ≤ reached after (m s).0 (m s).1
  pub placed : (r : Refusal) → (m s).0 ≡ Err r → Placed r (m s).1
  pub same : (p : ℕ) (t : State) → Apart p s t → reached after (m s).0 (m s).1 ≤ p → Alike p (m s).0 (m s).1 (m t).0 (m t).1

pub apart_at : {p : ℕ} {s t : State} → Apart p s t → t.at ≡ s.at
apart_at a = ap (λ (u : State). u.at) a.two

pub apart_rest : {p : ℕ} {s t : State} (a : Apart p s t) → t.rest ≡ a.front ++ a.other
apart_rest a = ap (λ (u : State). u.rest) a.two

pub apart_length : {p : ℕ} {s t : State} → Apart p s t → length t.rest ≡ length s.rest
apart_length a = rw (apart_rest a, a.one, length-append, length-append, a.size) refl

-- a state that is left as it was, apart from another one
pub steady_on : {A : Type 0} {b w : Bool} {m : Step A} {s s1 : State} {a : A} → Steady b w m s → m s ≡ (Ok a, s1) → seen b s ≤ seen w s1
steady_on {b = b} {w = w} {s = s} h e = subst (λ (q : Outcome _ × State). seen b s ≤ reached w q.0 q.1) e h.onward

-- ---- one step after another

module _ {A B : Type 0} (w v : Bool) (k : A → Step B) where
  then_onward : (o : Outcome A) (s : State) → ((a : A) (s1 : State) → Gave (o, s) a s1 → Steady w v (k a) s1) → reached w o s ≤ reached v (go_on o s k).0 (go_on o s k).1
  unfolding go_on
  then_onward (Ok a) s i = (i a s refl).onward
  then_onward (Err r) s i = omega arith

  then_placed : (o : Outcome A) (s : State) → ((a : A) (s1 : State) → Gave (o, s) a s1 → Steady w v (k a) s1) → ((r : Refusal) → o ≡ Err r → Placed r s) → (r : Refusal) → (go_on o s k).0 ≡ Err r → Placed r (go_on o s k).1
  unfolding go_on
  then_placed (Ok a) s i h r e = (i a s refl).placed r e
  then_placed (Err q) s i h r e = let f : q ≡ r = cc e in h r (ap (λ x. Err x) f)

  then_same : (p : ℕ) (o : Outcome A) (s : State) (q : Outcome A) (t : State) → ((a : A) (s1 : State) → Gave (o, s) a s1 → Steady w v (k a) s1) → Alike p o s q t → reached v (go_on o s k).0 (go_on o s k).1 ≤ p
      → Alike p (go_on o s k).0 (go_on o s k).1 (go_on q t k).0 (go_on q t k).1
  unfolding go_on
  then_same p (Ok a) s q t i h le = rw h.0 ((i a s refl).same p t h.1 le)
  then_same p (Err r) s q t i h le = rw h.0 (refl, h.1)

pub steady_bind : {A B : Type 0} {b w v : Bool} {m : Step A} {k : A → Step B} {s : State} → Steady b w m s → ((a : A) (s1 : State) → m s ≡ (Ok a, s1) → Steady w v (k a) s1) → Steady b v (m >>= k) s
unfolding ◌>>=◌
steady_bind {w = w} {v = v} {m = m} {k = k} {s = s} h i =
    let on = then_onward w v k (m s).0 (m s).1 i in
    record {
      onward = omega (arith, h.onward, on);
      placed = then_placed w v k (m s).0 (m s).1 i h.placed;
      same = λ p t apart le. then_same w v k p (m s).0 (m s).1 (m t).0 (m t).1 i (h.same p t apart (omega (arith, le, on))) le;
    }

pub steady_then : {A B : Type 0} {b w v : Bool} {m : Step A} {k : A → Step B} {s : State} → Steady b w m s → ((a : A) (s1 : State) → Steady w v (k a) s1) → Steady b v (m >>= k) s
steady_then h i = steady_bind h (λ a s1 _. i a s1)

-- a step that is another one here, and so it is where other bytes follow
pub steady_as : {A : Type 0} {b w : Bool} {m n : Step A} {s : State} → m s ≡ n s → ((p : ℕ) (t : State) → Apart p s t → reached w (n s).0 (n s).1 ≤ p → seen b s ≤ p → m t ≡ n t) → Steady b w n s → Steady b w m s
steady_as {A = A} {b = b} {w = w} {m = m} {n = n} {s = s} is also h = record {
  onward = subst (λ (q : Outcome A × State). seen b s ≤ reached w q.0 q.1) (sym is) h.onward;
  placed = subst (λ (q : Outcome A × State). (r : Refusal) → q.0 ≡ Err r → Placed r q.1) (sym is) h.placed;
  same = λ p t apart le.
      let far : reached w (n s).0 (n s).1 ≤ p = subst (λ (q : Outcome A × State). reached w q.0 q.1 ≤ p) is le in
      subst (λ (q : Outcome A × State). Alike p q.0 q.1 (m t).0 (m t).1) (sym is)
      (subst (λ (q : Outcome A × State). Alike p (n s).0 (n s).1 q.0 q.1) (sym (also p t apart far (omega (arith, far, h.onward)))) (h.same p t apart far));
}

-- ---- values and refusals

pub steady_give : {A : Type 0} {b : Bool} (a : A) (s : State) → Steady b b (give a) s
unfolding give
steady_give a s = record { onward = omega arith; placed = λ r e. absurd (cc e); same = λ p t apart le. (refl, apart) }

pub steady_map : {A B : Type 0} {b w : Bool} {m : Step A} {s : State} (g : A → B) → Steady b w m s → Steady b w (m >>= (λ a. give (g a))) s
steady_map g h = steady_then h (λ a s1. steady_give (g a) s1)

pub steady_stop : {A : Type 0} {b w : Bool} {s : State} (r : Refusal) → seen b s ≤ reach r s → Placed r s → Steady {A = A} b w (stop r) s
unfolding stop
steady_stop {s = s} r le is = record {
  onward = le;
  placed = λ q e. let f : r ≡ q = cc e in subst (λ (x : Refusal). Placed x s) f is;
  same = λ p t apart far. (refl, apart_at apart);
}

seen_next : (b : Bool) (s : State) → seen b s ≤ s.at + ahead s.rest
seen_next false s = omega arith
seen_next true s = omega arith

-- refusals that depend on the next byte too
pub steady_bad : {A : Type 0} {b w : Bool} (s : State) → Steady {A = A} b w bad_name s
steady_bad {b = b} s = steady_stop (refusals.Name BadName) (seen_next b s) tt

pub steady_too_deep : {A : Type 0} {b w : Bool} (item : ℕ) (s : State) → Steady {A = A} b w (fault TooDeep item) s
steady_too_deep {b = b} item s = steady_stop (refusals.Term TooDeep item) (seen_next b s) tt

pub steady_settled : {A : Type 0} {b : Bool} (x : Outcome A) (s : State) → ((r : Refusal) → x ≡ Err r → (seen b s ≤ reach r s) × Placed r s) → Steady b b (settle x) s
unfolding settle
steady_settled (Ok a) s h = record { onward = omega arith; placed = λ r e. absurd (cc e); same = λ p t apart le. (refl, apart) }
steady_settled {b = b} (Err r) s h = record { onward = (h r refl).0; placed = λ q e. (h q e).1; same = λ p t apart far. (refl, apart_at apart) }

pub steady_if : {A : Type 0} {b w : Bool} {m n : Step A} {s : State} (c : Bool) → (c ≡ true → Steady b w m s) → (c ≡ false → Steady b w n s) → Steady b w (if c then m else n) s
steady_if true h i = h refl
steady_if false h i = i refl

-- what doesn't depend on the bytes that are left
pub steady_look : {A B : Type 0} {b w : Bool} {s : State} (f : State → A) (k : A → Step B) → ((ys : List ℕ) → f (record s { rest = ys }) ≡ f s) → Steady b w (k (f s)) s → Steady b w (look f >>= k) s
unfolding ◌>>=◌ go_on look
steady_look {s = s} f k free h = steady_as {n = k (f s)} refl (λ p t apart far on. ap (λ a. k a t) (ap f apart.two ∙ free (apart.front ++ apart.other))) h

-- ---- where the next byte was looked at, and where not

more_reached : {A : Type 0} (o : Outcome A) (s : State) → reached false o s ≤ reached true o s
more_reached (Ok a) s = omega arith
more_reached (Err r) s = omega arith

pub steady_more : {A : Type 0} {b : Bool} {m : Step A} {s : State} → Steady b false m s → Steady b true m s
steady_more {m = m} {s = s} h =
    let on = more_reached (m s).0 (m s).1 in
    record { onward = omega (arith, h.onward, on); placed = h.placed; same = λ p t apart le. h.same p t apart (omega (arith, le, on)) }

pub steady_from : {A : Type 0} {w : Bool} {m : Step A} {s : State} (b : Bool) → Steady true w m s → Steady b w m s
steady_from true h = h
steady_from {s = s} false h = record { onward = omega (arith, h.onward); placed = h.placed; same = h.same }

-- ---- n times

module _ {A : Type 0} {w : Bool} (m : Step A) (h : (s : State) → Steady true w m s) where
  pub steady_times : (n : ℕ) (s : State) → Steady w w (times m n) s
  unfolding times
  steady_times zero s = steady_give [] s
  steady_times (suc n) s = steady_then (steady_from w (h s)) (λ x s1. steady_map (λ xs. x ∷ xs) (steady_times n s1))

  pub steady_some : (n : ℕ) (s : State) → Steady true w (times m (suc n)) s
  unfolding times
  steady_some n s = steady_then (h s) (λ x s1. steady_map (λ xs. x ∷ xs) (steady_times n s1))
