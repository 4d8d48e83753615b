-- Packages, and steps until nothing is left, are steady where what is read in them is.
use Rattle.std.proofs.Common.{◌≡◌, ℕ, zero, suc, ◌+◌, ◌-◌, ◌<◌, ◌≤◌, min, List, [], ◌∷◌, ◌++◌, length, take, drop, Bool, true, false, Ok, Err, refl, subst, ◌∙◌, sym, ap, length-drop, length-take, ltb-true, ltb-false, arith}
use Rattle.std.specs.Prelude.{nat_lt}
use Rattle.std.proofs.lemmas.List.{take-append-le, drop-append-le}
use Rattle.ar_space.specs.declared.refusal.Refusal.{Refusal}
use Rattle.ar_space.specs.Outcome.{Outcome}
use Rattle.ar_space.specs.Change.{give, go_on, ◌>>=◌}
use Rattle.aml_grammar.specs.State.{State, Step, package_size, enter, narrow, leave, until_of, until_end}
use Rattle.aml_grammar.specs.Grammar.{packed}
use Rattle.aml_spelling.specs.Reach.{Placed}
use Rattle.aml_spelling.proofs.Steady.{reached, Apart, Alike, Steady, apart_length, steady_then, steady_as, steady_give, steady_map}
use Rattle.aml_spelling.proofs.SteadyBytes.{steady_package_size}

-- ---- packages

take_past : (xs ys : List ℕ) (n : ℕ) → length xs ≤ n → take n (xs ++ ys) ≡ xs ++ take (n - length xs) ys
take_past [] ys n le = let k : n - length {A = ℕ} [] ≡ n = omega arith in rw k refl
take_past (x ∷ xs) ys zero le = absurd (omega (arith, le))
take_past (x ∷ xs) ys (suc n) le = let k : suc n - length (x ∷ xs) ≡ n - length xs = omega arith in rw k (ap (λ l. x ∷ l) (take_past xs ys n (omega (arith, le))))

-- the bytes of a package of n bytes, and what stands after them
abbrev within : ℕ → State → State
within n s = record s { rest = take n s.rest }

abbrev beyond : ℕ → State → ℕ × List ℕ
beyond n s = (s.at + n, drop n s.rest)

abbrev out_of : {A : Type 0} → ℕ → State → Outcome A → State → Outcome A × State
out_of n s o s2 = go_on o s2 (λ x. leave (beyond n s) x)

inside : {A : Type 0} → Step A → ℕ → Step A
inside m n s = out_of n s (m (within n s)).0 (m (within n s)).1

out_onward : {A : Type 0} (n : ℕ) (s : State) (o : Outcome A) (s2 : State) → s.at ≤ reached true o s2 → s.at ≤ reached true (out_of n s o s2).0 (out_of n s o s2).1
unfolding go_on
out_onward n s (Ok x) s2 le = omega arith
out_onward n s (Err r) s2 le = le

out_placed : {A : Type 0} (n : ℕ) (s : State) (o : Outcome A) (s2 : State) → ((r : Refusal) → o ≡ Err r → Placed r s2) → (r : Refusal) → (out_of n s o s2).0 ≡ Err r → Placed r (out_of n s o s2).1
unfolding go_on
out_placed n s (Ok x) s2 h r e = absurd (cc e)
out_placed n s (Err q) s2 h r e = h r e

-- the whole package stands before the bytes that differ
out_fit : {A : Type 0} (p n : ℕ) (s t : State) (o : Outcome A) (s2 : State) (apart : Apart p s t) → n ≤ length apart.front → Alike p (out_of n s o s2).0 (out_of n s o s2).1 (out_of n t o s2).0 (out_of n t o s2).1
unfolding go_on
out_fit p n s t (Ok x) s2 apart le = (
  refl,
  record {
    front = drop n apart.front;
    back = apart.back;
    other = apart.other;
    size = apart.size;
    one = ap (λ (l : List ℕ). drop n l) apart.one ∙ drop-append-le n apart.front apart.back le;
    two = ap (λ (u : State). record s2 { at = u.at + n; rest = drop n u.rest }) apart.two ∙ ap (λ (l : List ℕ). record s2 { at = s.at + n; rest = l }) (drop-append-le n apart.front apart.other le);
    here = omega (arith, apart.here, le, length-drop n apart.front);
  },
)
out_fit p n s t (Err r) s2 apart le = (refl, refl)

within_fit : {p : ℕ} {s t : State} (n : ℕ) (apart : Apart p s t) → n ≤ length apart.front → within n t ≡ within n s
within_fit {s = s} n apart le =
    ap (λ (u : State). within n u) apart.two
    ∙ ap (λ (l : List ℕ). record s { rest = l }) (take-append-le n apart.front apart.other le ∙ sym (take-append-le n apart.front apart.back le) ∙ ap (λ (l : List ℕ). take n l) (sym apart.one))

-- the bytes that differ begin in the package
within_apart : {p : ℕ} {s t : State} (n : ℕ) (apart : Apart p s t) → length apart.front ≤ n → Apart p (within n s) (within n t)
within_apart {s = s} n apart le =
    let k = n - length apart.front in
    record {
      front = apart.front;
      back = take (n - length apart.front) apart.back;
      other = take (n - length apart.front) apart.other;
      one = ap (λ (l : List ℕ). take n l) apart.one ∙ take_past apart.front apart.back n le;
      two = ap (λ (u : State). within n u) apart.two ∙ ap (λ (l : List ℕ). record s { rest = l }) (take_past apart.front apart.other n le);
      size = length-take (n - length apart.front) apart.other ∙ ap (λ i. min (n - length apart.front) i) apart.size ∙ sym (length-take (n - length apart.front) apart.back);
      here = apart.here;
    }

out_past : {A : Type 0} (p n : ℕ) (s t : State) (o : Outcome A) (s2 : State) (q : Outcome A) (t2 : State) → p < s.at + n → (reached true o s2 ≤ p → Alike p o s2 q t2) → reached true (out_of n s o s2).0 (out_of n s o s2).1 ≤ p
    → Alike p (out_of n s o s2).0 (out_of n s o s2).1 (out_of n t q t2).0 (out_of n t q t2).1
unfolding go_on
out_past p n s t (Ok x) s2 q t2 lt h le = absurd (omega (arith, lt, le))
out_past p n s t (Err r) s2 q t2 lt h le = let same = h le in rw same.0 (refl, same.1)

inside_same : {A : Type 0} (m : Step A) (n : ℕ) (s : State) → Steady true true m (within n s) → (p : ℕ) (t : State) (apart : Apart p s t) (c : Bool) → nat_lt (length apart.front) n ≡ c → reached true (inside m n s).0 (inside m n s).1 ≤ p
    → Alike p (inside m n s).0 (inside m n s).1 (inside m n t).0 (inside m n t).1
unfolding inside
inside_same m n s h p t apart true is le =
    let lt : length apart.front < n = ltb-true (length apart.front) n is in
    out_past p n s t (m (within n s)).0 (m (within n s)).1 (m (within n t)).0 (m (within n t)).1 (omega (arith, lt, apart.here)) (h.same p (within n t) (within_apart n apart (omega (arith, lt)))) le
inside_same {A = A} m n s h p t apart false is le =
    let fits : n ≤ length apart.front = ltb-false (length apart.front) n is in
    let same : m (within n t) ≡ m (within n s) = ap m (within_fit n apart fits) in
    subst (λ (q : Outcome A × State). Alike p (inside m n s).0 (inside m n s).1 (out_of n t q.0 q.1).0 (out_of n t q.0 q.1).1) (sym same) (out_fit p n s t (m (within n s)).0 (m (within n s)).1 apart fits)

steady_inside : {A : Type 0} (m : Step A) (n : ℕ) (s : State) → Steady true true m (within n s) → Steady false true (inside m n) s
unfolding inside
steady_inside m n s h = record {
  onward = out_onward n s (m (within n s)).0 (m (within n s)).1 (omega (arith, h.onward));
  placed = out_placed n s (m (within n s)).0 (m (within n s)).1 h.placed;
  same = λ p t apart le. inside_same m n s h p t apart (nat_lt (length apart.front) n) refl le;
}

enter_first : {A : Type 0} (m : Step A) (o : Outcome ℕ) (s : State) → go_on (go_on o s narrow).0 (go_on o s narrow).1 (λ outer. m >>= (λ x. leave outer x)) ≡ go_on o s (inside m)
unfolding go_on inside ◌>>=◌
enter_first m (Ok n) s = refl
enter_first m (Err r) s = refl

packed_is : {A : Type 0} (m : Step A) (s : State) → packed true m s ≡ (package_size >>= inside m) s
unfolding ◌>>=◌ enter
packed_is m s = enter_first m (package_size s).0 (package_size s).1

pub steady_packed : {A : Type 0} (c : Bool) (m : Step A) → ((s : State) → Steady true true m s) → (s : State) → Steady true true (packed c m) s
steady_packed true m h s = steady_as {n = package_size >>= inside m} (packed_is m s) (λ p t apart far on. packed_is m t) (steady_then (steady_package_size s) (λ n s1. steady_inside m n s1 (h (within n s1))))
steady_packed false m h s = h s

-- ---- until nothing is left

until_is : {A : Type 0} (m : Step A) (more : Step (List A)) (rs rt : List ℕ) → length rt ≡ length rs → until_of m more rt ≡ until_of m more rs
until_is m more [] [] e = refl
until_is m more [] (b ∷ rt) e = absurd (omega (arith, e))
until_is m more (b ∷ rs) [] e = absurd (omega (arith, e))
until_is m more (b ∷ rs) (c ∷ rt) e = refl

module _ {A : Type 0} (m : Step A) (h : (s : State) → Steady true true m s) where
  until_of_steady : (more : Step (List A)) → ((s : State) → Steady true true more s) → (rs : List ℕ) (s : State) → Steady true true (until_of m more rs) s
  until_of_steady more i [] s = steady_give [] s
  until_of_steady more i (b ∷ rs) s = steady_then (h s) (λ x s1. steady_map (λ xs. x ∷ xs) (i s1))

  pub steady_until : (n : ℕ) (s : State) → Steady true true (until_end m n) s
  unfolding until_end give
  steady_until zero s = steady_as {n = give []} refl (λ p t apart far on. refl) (steady_give [] s)
  steady_until (suc n) s = steady_as {n = until_of m (until_end m n) s.rest} refl (λ p t apart far on. ap (λ k. k t) (until_is m (until_end m n) s.rest t.rest (apart_length apart))) (until_of_steady (until_end m n) (steady_until n) s.rest s)
