-- What follows for a loop of steps, whose values are put one after another.
use Rattle.std.specs.Prelude.{◌≡◌, ℕ, zero, suc, ◌-◌, ◌+◌, ◌<◌, ◌≤◌, List, [], ◌∷◌, ◌++◌, length, Ok, Err, IsErr, IsErrAnd, refl}
use Rattle.std.proofs.Common.{◌∙◌, sym, ap, append_assoc, arith}
use Rattle.std.proofs.lemmas.List.{append-nil}
use Rattle.ar_space.specs.declared.refusal.Refusal.{Refusal}
use Rattle.ar_space.specs.Outcome.{Outcome, seen}
use Rattle.ar_space.specs.Change.{Does, Same, give, go_on, ◌>>=◌}
use Rattle.aml_grammar.specs.State.{State, Step, times, until_of, until_end}

-- what was read before, and then the rest
unfoldable pub with_front : {A : Type 0} → List A → Step (List A) → Step (List A)
with_front front m = do
  xs ← m
  give (front ++ xs)

-- one value before those of a step
abbrev pub before : {A : Type 0} → A → Step (List A) → Step (List A)
before x m = do
  xs ← m
  give (x ∷ xs)

with_nothing : {A : Type 0} (o : Outcome (List A)) (s : State) → go_on o s (λ xs. give ([] ++ xs)) ≡ (o, s)
unfolding go_on give
with_nothing (Ok xs) s = refl
with_nothing (Err e) s = refl

regroup : {A : Type 0} (front : List A) (x : A) (o : Outcome (List A)) (s : State) → go_on (go_on o s (λ xs. give (x ∷ xs))).0 (go_on o s (λ xs. give (x ∷ xs))).1 (λ ys. give (front ++ ys)) ≡ go_on o s (λ xs. give ((front ++ x ∷ []) ++ xs))
unfolding go_on give
regroup front x (Ok xs) s = ap (λ ys. (Ok ys, s)) (simp append_assoc)
regroup front x (Err e) s = refl

pub front_init : {A : Type 0} (m : Step (List A)) (start : State) → Same m start (with_front [] m) start
unfolding with_front ◌>>=◌
front_init m start = record { is = sym (with_nothing (m start).0 (m start).1) }

pub until_is : {A : Type 0} (m : Step A) (n : ℕ) (s : State) (rest : List ℕ) → s.rest ≡ rest → 0 < length rest → until_end m (suc n) s ≡ (m >>= (λ x. before x (until_end m n))) s
unfolding until_end
until_is m n s [] is some = absurd (omega arith)
until_is m n s (b ∷ bs) is some = ap (λ r. until_of m (until_end m n) r s) is

pub until_over : {A : Type 0} (m : Step A) (n : ℕ) (s : State) (rest : List ℕ) → s.rest ≡ rest → length rest ≡ 0 → until_end m n s ≡ (Ok [], s)
unfolding until_end give
until_over m zero s rest is none = refl
until_over m (suc n) s [] is none = ap (λ r. until_of m (until_end m n) r s) is
until_over m (suc n) s (b ∷ bs) is none = absurd (omega arith)

pub times_init : {A : Type 0} (m : Step A) (count : ℕ) (start : State) → Same (times m count) start (with_front [] (times m (count - 0))) start
times_init m count start = let k : count - 0 ≡ count = omega arith in rw k (front_init (times m count) start)

pub until_init : {A : Type 0} (m : Step A) (start : State) → Same (until_end m (length start.rest)) start (with_front [] (until_end m (length start.rest - 0))) start
until_init m start = let k : length start.rest - 0 ≡ length start.rest = omega arith in rw k (front_init (until_end m (length start.rest)) start)

module _ {A : Type 0} {T : Step (List A)} {start : State} where
  pub front_turn : {B : Type 0} {here after : State} {x : B} (front : List A) (value : B → A) (m : Step B) (more : B → Step (List A)) → Same T start (with_front front (m >>= (λ y. before (value y) (more y)))) here → Does (Ok x) after m here
      → Same T start (with_front (front ++ value x ∷ []) (more x)) after
  unfolding with_front ◌>>=◌ go_on
  front_turn {after = after} {x = x} front value m more h i = record { is = h.is ∙ rw (i.is tt) (regroup front (value x) (more x after).0 (more x after).1) }

  pub front_err : {B C : Type 0} {here after : State} {e : Refusal} (r : Outcome C) (view : C → List A) (front : List A) (m : Step B) (k : B → Step (List A)) → Same T start (with_front front (m >>= k)) here → Does {A = B} (Err e) after m here
      → IsErr r × IsErrAnd r (λ z. z ≡ e) → Does (seen view r) after T start
  unfolding with_front ◌>>=◌ go_on
  front_err (Ok y) view front m k h i f = absurd (cc f.0)
  front_err (Err z) view front m k h i f = record { is = λ ne. h.is ∙ rw (i.is (λ q. ne (f.1 ∙ q)), f.1) refl }

  pub front_done : {here : State} (front : List A) (m : Step (List A)) → m here ≡ (Ok [], here) → Same T start (with_front front m) here → Does (Ok front) here T start
  unfolding with_front ◌>>=◌ go_on give
  front_done {here = here} front m e h = record { is = λ ne. h.is ∙ rw e (ap (λ xs. (Ok xs, here)) (append-nil front)) }

  -- ---- n times

  pub times_turn : {here after : State} {x : A} (front : List A) (m : Step A) (count i : ℕ) → i < count → Same T start (with_front front (times m (count - i))) here → Does (Ok x) after m here
      → Same T start (with_front (front ++ x ∷ []) (times m (count - (i + 1)))) after
  unfolding times
  times_turn front m count i lt h d =
      let k : count - i ≡ suc (count - (i + 1)) = omega arith in
      front_turn front (λ y. y) m (λ y. times m (count - (i + 1))) (rw k at h) d

  pub times_err : {C : Type 0} {here after : State} {e : Refusal} (r : Outcome C) (view : C → List A) (front : List A) (m : Step A) (count i : ℕ) → i < count → Same T start (with_front front (times m (count - i))) here
      → Does {A = A} (Err e) after m here → IsErr r × IsErrAnd r (λ z. z ≡ e) → Does (seen view r) after T start
  unfolding times
  times_err r view front m count i lt h d f =
      let k : count - i ≡ suc (count - (i + 1)) = omega arith in
      front_err r view front m (λ y. before y (times m (count - (i + 1)))) (rw k at h) d f

  pub times_done : {here : State} (front : List A) (m : Step A) (count i : ℕ) → count ≤ i → Same T start (with_front front (times m (count - i))) here → Does (Ok front) here T start
  unfolding times give
  times_done {here = here} front m count i le h =
      let k : count - i ≡ 0 = omega arith in
      front_done front (times m (count - i)) (rw k refl) h

  -- ---- until nothing is left

  until_same : {here : State} (front : List A) (m : Step A) (n : ℕ) → 0 < length here.rest → 0 < n → Same T start (with_front front (until_end m n)) here → Same T start (with_front front (m >>= (λ x. before x (until_end m (n - 1))))) here
  unfolding with_front ◌>>=◌
  until_same {here = here} front m n some more h =
      let k : n ≡ suc (n - 1) = omega arith in
      let one : until_end m n here ≡ (m >>= (λ x. before x (until_end m (n - 1)))) here = ap (λ j. until_end m j here) k ∙ until_is m (n - 1) here here.rest refl some in
      record { is = h.is ∙ ap (λ p. go_on p.0 p.1 (λ xs. give (front ++ xs))) one }

  pub until_turn : {here after : State} {x : A} (front : List A) (m : Step A) (n : ℕ) → 0 < length here.rest → 0 < n → Same T start (with_front front (until_end m n)) here → Does (Ok x) after m here
      → Same T start (with_front (front ++ x ∷ []) (until_end m (n - 1))) after
  until_turn front m n some more h d = front_turn front (λ y. y) m (λ y. until_end m (n - 1)) (until_same front m n some more h) d

  pub until_err : {C : Type 0} {here after : State} {e : Refusal} (r : Outcome C) (view : C → List A) (front : List A) (m : Step A) (n : ℕ) → 0 < length here.rest → 0 < n → Same T start (with_front front (until_end m n)) here
      → Does {A = A} (Err e) after m here → IsErr r × IsErrAnd r (λ z. z ≡ e) → Does (seen view r) after T start
  until_err r view front m n some more h d f = front_err r view front m (λ y. before y (until_end m (n - 1))) (until_same front m n some more h) d f

  pub until_done : {here : State} (front : List A) (m : Step A) (n : ℕ) → length here.rest ≡ 0 → Same T start (with_front front (until_end m n)) here → Does (Ok front) here T start
  until_done {here = here} front m n none h = front_done front (until_end m n) (until_over m n here here.rest refl none) h
