-- What reading by marks gives where reading by arities gives a value.
use Rattle.std.proofs.Common.{◌≡◌, ℕ, zero, suc, ◌+◌, ◌<◌, ◌≤◌, List, [], ◌∷◌, length, Bool, true, false, Ok, Err, refl, ◌∙◌, sym, ap, arith}
use Rattle.std.specs.Prelude.{if◌then◌else◌}
use Rattle.ar_space.specs.declared.refusal.Refusal.{Refusal}
use Rattle.ar_space.specs.Outcome.{Outcome}
use Rattle.ar_space.specs.Change.{Change, give, stop, settle, go_on, ◌>>=◌}
use Rattle.aml_arities.specs.Arities.{or_none}
use Rattle.aml_grammar.specs.State.{State, Step, look, peek, peek_of, times, until_of, until_end}
use Rattle.aml_grammar.specs.Tree.{Part}
use Rattle.aml_marks.specs.Marked.{Place, place_of, Walk, after, gives, first, to_part, turns_of, to_end, all_of, found_at, count_at}
use Rattle.aml_marks.proofs.MarksOfLists.{Ordered, ordered_on}

-- ---- outcomes

abbrev pub Gave : {S A : Type 0} → Outcome A × S → A → S → Type 0
Gave p a s = p ≡ (Ok a, s)

pub same_value : {S A : Type 0} {a b : A} {s s2 : S} → Gave (Ok a, s) b s2 → a ≡ b
same_value {a = a} {b = b} e = let x : Outcome _ = Ok a in let y : Outcome _ = Ok b in let v : x ≡ y = ap (λ q. q.0) e in cc v

pub same_state : {S A : Type 0} {a b : A} {s s2 : S} → Gave (Ok a, s) b s2 → s ≡ s2
same_state e = ap (λ q. q.1) e

pub refused : {S A : Type 0} {b : A} {r : Refusal} {s s2 : S} → Gave (Err r, s) b s2 → ⊥
refused {b = b} {r = r} e = let v : Err r ≡ Ok b = ap (λ q. q.0) e in cc v

abbrev pub paired : {A B : Type 0} → A → B → A × B
paired a p = (a, p)

pub pair_is : {A B : Type 0} {a b : A} {p q : B} → a ≡ b → p ≡ q → paired a p ≡ paired b q
pair_is e f = rw (e, f) refl

parted : {S A B : Type 0} (p : Outcome A × S) (k : A → Change S B) (b : B) (s2 : S) → go_on p.0 p.1 k ≡ (Ok b, s2) → (a : A) × (s1 : S) × (p ≡ (Ok a, s1)) × (k a s1 ≡ (Ok b, s2))
unfolding go_on
parted (Ok a, s1) k b s2 e = (a, s1, refl, e)
parted (Err r, s1) k b s2 e = absurd (refused e)

-- a step that gives a value gives the values of its parts
pub both : {S A B : Type 0} (m : Change S A) (k : A → Change S B) (s : S) (b : B) (s2 : S) → (m >>= k) s ≡ (Ok b, s2) → (a : A) × (s1 : S) × (m s ≡ (Ok a, s1)) × (k a s1 ≡ (Ok b, s2))
unfolding ◌>>=◌
both m k s b s2 e = parted (m s) k b s2 e

-- ---- how states go on

-- the marks are in order, and all stand before what is left
abbrev pub Kept : State → Type 0
Kept s = Ordered s.at s.marks

-- the counts of the walk are those of the marks, so far
abbrev pub Fits : (ℕ → ℕ) → State → Type 0
Fits count s = (o : ℕ) → o < s.at → count o ≡ count_at s.marks o

pub record Goes (s s2 : State) : Type 0 where
  pub le : s.at ≤ s2.at
  pub ends : s2.at + length s2.rest ≡ s.at + length s.rest
  pub keeps : (o : ℕ) → o < s.at → found_at s2.marks o ≡ found_at s.marks o
  pub kept : Kept s → Kept s2

pub goes_along : {s s1 s2 : State} → Goes s s1 → Goes s1 s2 → Goes s s2
goes_along g h = record {
  le = omega (arith, g.le, h.le);
  ends = h.ends ∙ g.ends;
  keeps = λ o lt. h.keeps o (omega (arith, g.le, lt)) ∙ g.keeps o lt;
  kept = λ k. h.kept (g.kept k);
}

pub kept_on : (s t : State) → s.at ≤ t.at → t.marks ≡ s.marks → Kept s → Kept t
kept_on s t le same k = rw same (ordered_on s.marks s.at t.at le k)

-- further on, and the same marks
pub goes_same : (s t : State) → s.at ≤ t.at → t.at + length t.rest ≡ s.at + length s.rest → t.marks ≡ s.marks → Goes s t
goes_same s t le ends same = record { le = le; ends = ends; keeps = λ o lt. ap (λ l. found_at l o) same; kept = kept_on s t le same }

pub goes_nowhere : {s : State} → Goes s s
goes_nowhere {s = s} = goes_same s s (omega arith) refl refl

-- What is left to show of a walk whose step went from s to s2 and gave a.
abbrev pub Gone : {A : Type 0} → (ℕ → ℕ) → Walk A → State → A → State → Type 0
Gone count w s a s2 = Goes s s2 × (Fits count s2 → Kept s → w (place_of s) ≡ (a, place_of s2))

-- at another value and another state that are the same
pub carry : {A : Type 0} {a b : A} {s1 s2 : State} (count : ℕ → ℕ) (w : Walk A) (s : State) → a ≡ b → s1 ≡ s2 → Gone count w s a s1 → Gone count w s b s2
carry count w s e f h = rw (← e, ← f) h

fits_before : {count : ℕ → ℕ} {s1 s2 : State} → Goes s1 s2 → Fits count s2 → Fits count s1
fits_before g fits o lt = fits o (omega (arith, g.le, lt)) ∙ ap or_none (g.keeps o lt)

-- Where the step gives a value, the walk gives it too, and both go to the same place.
pub record Follows {A : Type 0} (count : ℕ → ℕ) (m : Step A) (w : Walk A) (s : State) : Type 0 where
  pub is : (a : A) (s2 : State) → m s ≡ (Ok a, s2) → Gone count w s a s2

-- The same, where the walk gives only what f sees of the value.
pub record FollowsBy {A B : Type 0} (count : ℕ → ℕ) (f : A → B) (m : Step A) (w : Walk B) (s : State) : Type 0 where
  pub is : (a : A) (s2 : State) → m s ≡ (Ok a, s2) → Gone count w s (f a) s2

module _ {count : ℕ → ℕ} where
  pub by_then : {A B C : Type 0} {f : A → B} {m : Step A} {k : A → Step C} {w : Walk B} {s : State} (v : B → Walk C) → FollowsBy count f m w s → ((a : A) (s1 : State) → Goes s s1 → Follows count (k a) (v (f a)) s1) → Follows count (m >>= k) (after w v) s
  unfolding after
  by_then {m = m} {k = k} {w = w} {s = s} v h i = record {
    is = λ b s2 e.
        let p = both m k s b s2 e in
        let x = h.is p.0 p.1 p.2 in
        let y = (i p.0 p.1 x.0).is b s2 p.3 in
        (goes_along x.0 y.0, λ fits kept. rw (x.1 (fits_before y.0 fits) kept) (y.1 fits (x.0.kept kept)));
  }

  pub follows_then : {A B : Type 0} {m : Step A} {k : A → Step B} {w : Walk A} {v : A → Walk B} {s : State} → Follows count m w s → ((a : A) (s1 : State) → Goes s s1 → Follows count (k a) (v a) s1) → Follows count (m >>= k) (after w v) s
  follows_then {A = A} {m = m} {w = w} {v = v} {s = s} h i = by_then {f = λ (a : A). a} v (record { is = h.is }) i

  pub follows_give : {A : Type 0} {s : State} (a : A) → Follows count (give a) (gives a) s
  unfolding give gives
  follows_give {s = s} a = record { is = λ b s2 e. rw (← same_state e, ← same_value e) (goes_nowhere, λ fits kept. refl) }

  pub follows_stop : {A : Type 0} {s : State} {w : Walk A} (e : Refusal) → Follows {A = A} count (stop e) w s
  unfolding stop
  follows_stop r = record { is = λ b s2 e. absurd (refused e) }

  -- a walk that is another one here
  pub follows_as : {A : Type 0} {m : Step A} {w v : Walk A} {s : State} → v (place_of s) ≡ w (place_of s) → Follows count m w s → Follows count m v s
  follows_as same h = record { is = λ a s2 e. let x = h.is a s2 e in (x.0, λ fits kept. same ∙ x.1 fits kept) }

  -- a step that is another one here
  pub steps_as : {A : Type 0} {m n : Step A} {w : Walk A} {s : State} → m s ≡ n s → Follows count n w s → Follows count m w s
  steps_as same h = record { is = λ a s2 e. h.is a s2 (sym same ∙ e) }

  pub follows_if : {A : Type 0} {m n : Step A} {w v : Walk A} {s : State} (b : Bool) → (b ≡ true → Follows count m w s) → (b ≡ false → Follows count n v s) → Follows count (if b then m else n) (if b then w else v) s
  follows_if true h i = h refl
  follows_if false h i = i refl

  -- a test that only the step makes, and refuses
  pub follows_only_if : {A : Type 0} {m n : Step A} {w : Walk A} {s : State} (b : Bool) → (b ≡ true → Follows count m w s) → (b ≡ false → Follows count n w s) → Follows count (if b then m else n) w s
  follows_only_if true h i = h refl
  follows_only_if false h i = i refl

  pub follows_map : {A B : Type 0} {m : Step A} {w : Walk A} {s : State} (f : A → B) → Follows count m w s → Follows count (m >>= (λ a. give (f a))) (after w (λ a. gives (f a))) s
  follows_map f h = follows_then h (λ a s1 g. follows_give (f a))

  pub follows_part : {A : Type 0} {m : Step A} {w : Walk A} {s : State} (f : A → Part) → Follows count m w s → Follows count (m >>= (λ a. give (f a))) (to_part f w) s
  unfolding after gives
  follows_part f h = follows_as refl (follows_map f h)

  pub follows_look : {A B : Type 0} {w : Walk B} {s : State} (f : State → A) (k : A → Step B) → Follows count (k (f s)) w s → Follows count (look f >>= k) w s
  unfolding look ◌>>=◌ go_on
  follows_look {s = s} f k h = record { is = λ b s2 e. h.is b s2 e }

  pub follows_settle : {A B : Type 0} {w : Walk B} {s : State} (x : Outcome A) (k : A → Step B) → ((a : A) → Follows count (k a) w s) → Follows count (settle x >>= k) w s
  unfolding settle ◌>>=◌ go_on
  follows_settle (Ok a) k h = record { is = λ b s2 e. (h a).is b s2 e }
  follows_settle (Err r) k h = record { is = λ b s2 e. absurd (refused e) }

  -- ---- the next byte, which stays

  peeked : {B : Type 0} {k : ℕ → Step B} {w : Walk B} (s : State) (bs : List ℕ) → s.rest ≡ bs → ((b : ℕ) → first s.rest ≡ b → Follows count (k b) w s) → (b : B) (s2 : State) → go_on (peek_of bs s).0 (peek_of bs s).1 k ≡ (Ok b, s2) → Gone count w s b s2
  unfolding go_on
  peeked s [] is h b s2 e = absurd (refused e)
  peeked s (c ∷ bs) is h b s2 e = (h c (ap first is)).is b s2 e

  pub follows_peek : {B : Type 0} {k : ℕ → Step B} {w : Walk B} {s : State} → ((b : ℕ) → first s.rest ≡ b → Follows count (k b) w s) → Follows count (peek >>= k) w s
  unfolding peek ◌>>=◌
  follows_peek {s = s} h = record { is = λ b s2 e. peeked s s.rest refl h b s2 e }

-- ---- steps that leave place and marks

-- whatever the step gives has the property, and place and marks stay
pub record Stays {A : Type 0} (Q : A → Type 0) (m : Step A) : Type 0 where
  pub is : (s : State) (a : A) (t : State) → m s ≡ (Ok a, t) → Q a × (place_of t ≡ place_of s) × (t.marks ≡ s.marks)

pub stays_then : {A B : Type 0} {Q : B → Type 0} {m : Step A} {k : A → Step B} (P : A → Type 0) → Stays P m → ((a : A) → Stays Q (k a)) → Stays Q (m >>= k)
stays_then {m = m} {k = k} P h i = record {
  is = λ s b t e.
      let p = both m k s b t e in
      let x = h.is s p.0 p.1 p.2 in
      let y = (i p.0).is p.1 b t p.3 in
      (y.0, y.1 ∙ x.1, y.2 ∙ x.2);
}

pub stays_give : {A : Type 0} {Q : A → Type 0} (a : A) → Q a → Stays Q (give a)
unfolding give
stays_give a q = record { is = λ s b t e. rw (← same_state e, ← same_value e) (q, refl, refl) }

abbrev pub Any : {A : Type 0} → A → Type 0
Any a = Unit {0}

pub stays_settle : {A : Type 0} (x : Outcome A) → Stays Any (settle x)
unfolding settle
stays_settle (Ok a) = record { is = λ s b t e. rw (← same_state e) (tt, refl, refl) }
stays_settle (Err r) = record { is = λ s b t e. absurd (refused e) }

pub stays_look : {A : Type 0} (f : State → A) → Stays Any (look f)
unfolding look
stays_look f = record { is = λ s b t e. rw (← same_state e) (tt, refl, refl) }

-- a step that stays, and what follows of it
pub follows_quiet : {A B : Type 0} {count : ℕ → ℕ} {P : A → Type 0} {m : Step A} {k : A → Step B} {w : Walk B} {s : State} → Stays P m → ((a : A) (t : State) → Follows count (k a) w t) → Follows count (m >>= k) w s
follows_quiet {m = m} {k = k} {w = w} {s = s} h i = record {
  is = λ b s2 e.
      let p = both m k s b s2 e in
      let q = h.is s p.0 p.1 p.2 in
      let y = (i p.0 p.1).is b s2 p.3 in
      let at_is : p.1.at ≡ s.at = ap (λ (p : Place). p.at) q.1 in
      let g = goes_same s p.1 (omega (arith, at_is)) (ap (λ (p : Place). p.at + length p.rest) q.1) q.2 in
      (goes_along g y.0, λ fits kept. ap w (sym q.1) ∙ y.1 fits (g.kept kept));
}

goes_to : (s s1 s2 : State) → Goes s s1 → place_of s2 ≡ place_of s1 → s2.marks ≡ s1.marks → Goes s s2
goes_to s s1 s2 g place marks =
    let at_is : s2.at ≡ s1.at = ap (λ (p : Place). p.at) place in
    goes_along g (goes_same s1 s2 (omega (arith, at_is)) (ap (λ (p : Place). p.at + length p.rest) place) marks)

-- what a step gives is seen at once, and what follows of it changes neither place nor marks
pub by_first : {A B C : Type 0} {count : ℕ → ℕ} {m : Step A} {w : Walk A} {s : State} (g : B → C) (f : A → C) (k : A → Step B) → Follows count m w s → ((a : A) → Stays (λ b. g b ≡ f a) (k a)) → FollowsBy count g (m >>= k) (λ p. (f (w p).0, (w p).1)) s
by_first {A = A} {count = count} {m = m} {s = s} g f k h quiet = record {
  is = λ b s2 e.
      let p = both m k s b s2 e in
      let x = h.is p.0 p.1 p.2 in
      let q = (quiet p.0).is p.1 b s2 p.3 in
      let at_is : s2.at ≡ p.1.at = ap (λ (p : Place). p.at) q.1 in (
        goes_to s p.1 s2 x.0 q.1 q.2,
        λ fits kept.
            let got = x.1 (λ o lt. fits o (omega (arith, lt, at_is)) ∙ ap (λ l. count_at l o) q.2) kept in
            ap (λ (r : A × Place). (f r.0, r.1)) got ∙ pair_is (sym q.0) (sym q.1),
      );
}

-- ---- one step again and again

module _ {count : ℕ → ℕ} {A : Type 0} {m : Step A} {w : Walk A} (h : (s : State) → Follows count m w s) where
  pub follows_times : (n : ℕ) (s : State) → Follows count (times m n) (turns_of w n) s
  unfolding times turns_of
  follows_times zero s = follows_give []
  follows_times (suc n) s = follows_then (h s) (λ x s1 g. follows_then (follows_times n s1) (λ xs s2 g. follows_give (x ∷ xs)))

  until_one : (n : ℕ) (s : State) (bs : List ℕ) → ((s1 : State) → Follows count (until_end m n) (to_end w n) s1) → Follows count (until_of m (until_end m n) bs) (all_of w (to_end w n) bs) s
  until_one n s [] i = follows_give []
  until_one n s (b ∷ bs) i = follows_then (h s) (λ x s1 g. follows_then (i s1) (λ xs s2 g. follows_give (x ∷ xs)))

  pub follows_until : (n : ℕ) (s : State) → Follows count (until_end m n) (to_end w n) s
  unfolding until_end to_end give
  follows_until zero s = record { is = λ b s2 e. rw (← same_state e, ← same_value e) (goes_nowhere, λ fits kept. refl) }
  follows_until (suc n) s = record { is = λ b s2 e. (until_one n s s.rest (follows_until n)).is b s2 e }
