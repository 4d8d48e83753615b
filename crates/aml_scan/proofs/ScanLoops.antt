-- What follows for a loop of steps whose values are left out.
use Rattle.std.specs.Prelude.{◌≡◌, ℕ, suc, ◌-◌, ◌+◌, ◌<◌, ◌≤◌, List, [], ◌∷◌, length, drop, true, false, Ok, Err, IsErr, IsErrAnd, refl}
use Rattle.std.proofs.Common.{◌∙◌, ap, get_or, arith}
use Rattle.std.proofs.lemmas.List.{drop_all}
use Rattle.ar_space.specs.declared.refusal.Refusal.{Refusal}
use Rattle.ar_space.specs.Outcome.{Outcome}
use Rattle.ar_space.specs.Change.{Does, Same, give, go_on, ◌>>=◌}
use Rattle.ar_space.proofs.Changes.{does_same}
use Rattle.aml_path.specs.declared.segment.Seg.{Seg}
use Rattle.aml_grammar.specs.declared.kinds.OperandKind.{OperandKind}
use Rattle.aml_grammar.specs.declared.context.Context.{Context}
use Rattle.aml_grammar.specs.declared.context.Earlier.{Earlier}
use Rattle.aml_grammar.specs.State.{State, Step, times, until_end}
use Rattle.aml_grammar.specs.Grammar.{Inner, operand, operands, is_nothing}
use Rattle.aml_scan.specs.Scanned.{kept, scanned, seen_so}
use Rattle.aml_scan.proofs.Scans.{kept_kept_err}
use Rattle.aml_scan.proofs.Loops.{before, until_is, until_over}
use Rattle.aml_scan.proofs.Levels.{at_index, operands_is, operands_none, operands_nil}

-- a step whose value is known, as one whose value is left out

pub scanned_known : {A : Type 0} {a : A} {s s2 : State} (m : Step A) → Does (Ok a) s2 m s → Does (Ok tt) s2 (scanned m) s
unfolding kept
scanned_known m h = record { is = λ _. rw (h.is tt) refl }

pub scanned_refused : {A : Type 0} {e : Refusal} {s s2 : State} (m : Step A) → Does {A = A} (Err e) s2 m s → Does {A = Unit {0}} (Err e) s2 (scanned m) s
unfolding kept
scanned_refused m h = record { is = λ ne. rw (h.is ne) refl }

abbrev nothing : {A : Type 0} → Outcome A × State → Outcome (Unit {0}) × State
nothing = seen_so (λ _. tt)

forgotten : {A : Type 0} (x : A) (o : Outcome (List A)) (s : State) → nothing (go_on o s (λ xs. give (x ∷ xs))) ≡ nothing (o, s)
unfolding go_on give
forgotten x (Ok xs) s = refl
forgotten x (Err e) s = refl

module _ {A B D : Type 0} (g : B → D) (value : B → A) (more : D → Step (List A)) where
  turned : {d : D} {after : State} (p : Outcome B × State) → seen_so g p ≡ (Ok d, after) → nothing (go_on p.0 p.1 (λ y. before (value y) (more (g y)))) ≡ nothing (more d after)
  unfolding go_on ◌>>=◌
  turned {d = d} {after = after} (Ok b, s) e =
      let v : Ok (g b) ≡ Ok d = ap (λ q. q.0) e in
      let w : s ≡ after = ap (λ q. q.1) e in
      let u : g b ≡ d = cc v in
      rw (w, u) (forgotten (value b) (more d after).0 (more d after).1)
  turned {d = d} (Err x, s) e = absurd (let v : Err x ≡ Ok d = ap (λ q. q.0) e in cc v)

  pub scanned_turn : {start here after : State} {d : D} {T : Step (Unit {0})} (m : Step B) → Same T start (scanned (m >>= (λ y. before (value y) (more (g y))))) here → Does (Ok d) after (kept g m) here → Same T start (scanned (more d)) after
  unfolding kept ◌>>=◌
  scanned_turn {here = here} m h i = record { is = h.is ∙ turned (m here) (i.is tt) }

  pub scanned_err : {start here after : State} {e : Refusal} {r : Outcome (Unit {0})} {T : Step (Unit {0})} (m : Step B) → Same T start (scanned (m >>= (λ y. before (value y) (more (g y))))) here → Does {A = D} (Err e) after (kept g m) here → IsErr r × IsErrAnd r (λ z. z ≡ e) → Does r after T start
  scanned_err m h i f = does_same h (kept_kept_err g (λ _. tt) m (λ y. before (value y) (more (g y))) i f)

module _ {A : Type 0} {start : State} {T : Step (Unit {0})} (m : Step A) where
  -- ---- n times

  more_times : {here : State} (count i : ℕ) → i < count → Same T start (scanned (times m (count - i))) here → Same T start (scanned (m >>= (λ y. before y (times m (count - (i + 1)))))) here
  unfolding times
  more_times count i lt h = let k : count - i ≡ suc (count - (i + 1)) = omega arith in rw k at h

  pub times_turn : {here after : State} (count i : ℕ) → i < count → Same T start (scanned (times m (count - i))) here → Does (Ok tt) after (scanned m) here → Same T start (scanned (times m (count - (i + 1)))) after
  times_turn count i lt h d = scanned_turn (λ _. tt) (λ y. y) (λ _. times m (count - (i + 1))) m (more_times count i lt h) d

  pub times_err : {here after : State} {e : Refusal} {r : Outcome (Unit {0})} (count i : ℕ) → i < count → Same T start (scanned (times m (count - i))) here → Does {A = Unit {0}} (Err e) after (scanned m) here → IsErr r × IsErrAnd r (λ z. z ≡ e) → Does r after T start
  times_err count i lt h d f = scanned_err (λ _. tt) (λ y. y) (λ _. times m (count - (i + 1))) m (more_times count i lt h) d f

  pub times_done : {here : State} (count i : ℕ) → count ≤ i → Same T start (scanned (times m (count - i))) here → Does (Ok tt) here T start
  unfolding times give kept
  times_done {here = here} count i le h = let k : count - i ≡ 0 = omega arith in let e : scanned (times m (count - i)) here ≡ (Ok tt, here) = rw k refl in record { is = λ _. h.is ∙ e }

  -- ---- until nothing is left

  more_until : {here : State} (n : ℕ) → 0 < length here.rest → 0 < n → Same T start (scanned (until_end m n)) here → Same T start (scanned (m >>= (λ y. before y (until_end m (n - 1))))) here
  unfolding kept
  more_until {here = here} n some more h =
      let k : n ≡ suc (n - 1) = omega arith in
      let one : until_end m n here ≡ (m >>= (λ x. before x (until_end m (n - 1)))) here = ap (λ j. until_end m j here) k ∙ until_is m (n - 1) here here.rest refl some in
      record { is = h.is ∙ ap (nothing) one }

  pub until_turn : {here after : State} (n : ℕ) → 0 < length here.rest → 0 < n → Same T start (scanned (until_end m n)) here → Does (Ok tt) after (scanned m) here → Same T start (scanned (until_end m (n - 1))) after
  until_turn n some more h d = scanned_turn (λ _. tt) (λ y. y) (λ _. until_end m (n - 1)) m (more_until n some more h) d

  pub until_err : {here after : State} {e : Refusal} {r : Outcome (Unit {0})} (n : ℕ) → 0 < length here.rest → 0 < n → Same T start (scanned (until_end m n)) here → Does {A = Unit {0}} (Err e) after (scanned m) here → IsErr r × IsErrAnd r (λ z. z ≡ e) → Does r after T start
  until_err n some more h d f = scanned_err (λ _. tt) (λ y. y) (λ _. until_end m (n - 1)) m (more_until n some more h) d f

  pub until_done : {here : State} (n : ℕ) → length here.rest ≡ 0 → Same T start (scanned (until_end m n)) here → Does (Ok tt) here T start
  unfolding kept
  until_done {here = here} n none h = let e : scanned (until_end m n) here ≡ (Ok tt, here) = ap (nothing) (until_over m n here here.rest refl none) in record { is = λ _. h.is ∙ e }

-- ---- the operands of a term

module _ (inner : Inner) (scope : List Seg) (context : Context) (start : ℕ) where
  module _ {T : Step (Unit {0})} {first here : State} (ks : List OperandKind) (i : ℕ) (d : OperandKind) (earlier : Earlier) (lt : i < length ks) (so_far : Same T first (scanned (operands inner scope context start (drop i ks) earlier)) here) where
    operands_at : is_nothing (get_or ks i d) ≡ false → Same T first (scanned (operand inner scope context start (get_or ks i d) earlier >>= (λ x. before x.0 (operands inner scope context start (drop (i + 1) ks) x.1)))) here
    operands_at some = rw (at_index ks i d lt, operands_is inner scope context start (get_or ks i d) (drop (i + 1) ks) earlier some) at so_far

    pub operands_turn : {after : State} {later : Earlier} → is_nothing (get_or ks i d) ≡ false → Does (Ok later) after (kept (λ x. x.1) (operand inner scope context start (get_or ks i d) earlier)) here → Same T first (scanned (operands inner scope context start (drop (i + 1) ks) later)) after
    operands_turn some h = scanned_turn (λ x. x.1) (λ x. x.0) (λ e. operands inner scope context start (drop (i + 1) ks) e) (operand inner scope context start (get_or ks i d) earlier) (operands_at some) h

    pub operands_err : {after : State} {e : Refusal} {r : Outcome (Unit {0})} → is_nothing (get_or ks i d) ≡ false → Does {A = Earlier} (Err e) after (kept (λ x. x.1) (operand inner scope context start (get_or ks i d) earlier)) here → IsErr r × IsErrAnd r (λ z. z ≡ e) → Does r after T first
    operands_err some h f = scanned_err (λ x. x.1) (λ x. x.0) (λ e. operands inner scope context start (drop (i + 1) ks) e) (operand inner scope context start (get_or ks i d) earlier) (operands_at some) h f

    pub operands_end : is_nothing (get_or ks i d) ≡ true → Does (Ok tt) here T first
    unfolding kept
    operands_end none = let e : operands inner scope context start (drop i ks) earlier here ≡ (Ok [], here) = ap (λ l. operands inner scope context start l earlier here) (at_index ks i d lt) ∙ operands_none inner scope context start (get_or ks i d) (drop (i + 1) ks) earlier here none in record { is = λ _. so_far.is ∙ ap (nothing) e }

  pub operands_done : {T : Step (Unit {0})} {first here : State} (ks : List OperandKind) (i : ℕ) (earlier : Earlier) → length ks ≤ i → Same T first (scanned (operands inner scope context start (drop i ks) earlier)) here → Does (Ok tt) here T first
  unfolding kept
  operands_done {here = here} ks i earlier le so_far = record { is = λ _. so_far.is ∙ ap (nothing) (operands_nil inner scope context start (drop i ks) earlier here (drop_all i ks le)) }
