-- There is one first least assignment, and one set that is shown.
use Rattle.std.proofs.Common.{◌≡◌, ◌≢◌, ℕ, zero, suc, ◌+◌, ◌<◌, ◌≤◌, List, [], ◌∷◌, length, refl, sym, ◌∙◌, ap, subst, arith, take, inl, inr, Option}
use Rattle.std.specs.Prelude.{◌⊎◌, Contains, is_some}
use Rattle.std.specs.List.Sorted.{IsStrictlyIncreasing}
use Rattle.std.proofs.lemmas.Bool.{cases_order}
use Rattle.std.proofs.lemmas.List.{take-take, get_or-take, length-take}
use Rattle.std.proofs.lemmas.List.Kept.{AllPairs-from_increasing}
use Rattle.route_model.specs.Routing.{wired_to, NotAfter, IsFirstLeast}
use Rattle.route_model.specs.Placement.{IsPlacement, CanPlace, CanPlaceBut}
use Rattle.route_model.proofs.Assignments.{length_assignment}
use Rattle.route_solve.specs.Room.{room_of}
use Rattle.route_solve.specs.Shown.{Shown, IsCrowdedSet}
use Rattle.route_solve.specs.Shown.Shown.{Idle, Wired, Crowded}
use Rattle.route_solve.proofs.Parts.{placement_take}
use Rattle.route_solve.proofs.Filtered.{here, there, cons_cases}

both_ways : (a b : List ℕ) → length a ≡ length b → NotAfter a b → NotAfter b a → a ≡ b
both_ways [] [] e f g = refl
both_ways [] (y ∷ ys) e f g = absurd (omega arith)
both_ways (x ∷ xs) [] e f g = absurd (omega arith)
both_ways (x ∷ xs) (y ∷ ys) e (inl less) (inl more) = absurd (omega arith)
both_ways (x ∷ xs) (y ∷ ys) e (inl less) (inr g) = absurd (let h = g.0 in omega arith)
both_ways (x ∷ xs) (y ∷ ys) e (inr f) (inl more) = absurd (let h = f.0 in omega arith)
both_ways (x ∷ xs) (y ∷ ys) e (inr f) (inr g) = ap (λ (n : ℕ). n ∷ xs) f.0 ∙ ap (λ (ms : List ℕ). y ∷ ms) (both_ways xs ys (omega arith) f.1 g.1)

pub one_assignment : (offers : List (List ℕ)) (wired : List (ℕ × ℕ)) (a b : List ℕ) → IsFirstLeast offers wired a → IsFirstLeast offers wired b → a ≡ b
one_assignment offers wired a b ha hb =
    let la = length_assignment offers a ha.is_least.offered in
    let lb = length_assignment offers b hb.is_least.offered in
    both_ways a b (omega arith) (ha.first b hb.is_least) (hb.first a ha.is_least)

-- ascending lists with the same numbers are the same
first_is_least : (x : ℕ) (xs : List ℕ) (n : ℕ) → IsStrictlyIncreasing (x ∷ xs) → Contains (x ∷ xs) n → x ≤ n
first_is_least x xs n up (zero, b, e) = omega arith
first_is_least x xs n up (suc k, b, e) = let f = AllPairs-from_increasing (x ∷ xs) up 0 (suc k) n (omega arith) b in omega arith

rest_is_above : (x : ℕ) (xs : List ℕ) (n : ℕ) → IsStrictlyIncreasing (x ∷ xs) → Contains xs n → x < n
rest_is_above x xs n up c = let b = c.1 in let e = c.2 in let f = AllPairs-from_increasing (x ∷ xs) up 0 (suc c.0) n (omega arith) (omega arith) in omega arith

rest_ascends : (x : ℕ) (xs : List ℕ) → IsStrictlyIncreasing (x ∷ xs) → IsStrictlyIncreasing xs
rest_ascends x xs up k l = AllPairs-from_increasing (x ∷ xs) up (suc k) (suc (k + 1)) 0 (omega arith) (omega arith)

in_rest : (x y : ℕ) (ys : List ℕ) (n : ℕ) → x ≡ y → x < n → Contains (y ∷ ys) n → Contains ys n
in_rest x y ys n e above c = go (cons_cases n y ys c)
  where
    go : (y ≡ n) ⊎ Contains ys n → Contains ys n
    go (inl is) = absurd (omega arith)
    go (inr d) = d

same_numbers : (xs ys : List ℕ) → IsStrictlyIncreasing xs → IsStrictlyIncreasing ys → ((n : ℕ) → Contains xs n → Contains ys n) → ((n : ℕ) → Contains ys n → Contains xs n) → xs ≡ ys
same_numbers [] [] up vp f g = refl
same_numbers [] (y ∷ ys) up vp f g = absurd (let b = (g y (here y y ys refl)).1 in omega arith)
same_numbers (x ∷ xs) [] up vp f g = absurd (let b = (f x (here x x xs refl)).1 in omega arith)
same_numbers (x ∷ xs) (y ∷ ys) up vp f g =
    let a = first_is_least y ys x vp (f x (here x x xs refl)) in
    let b = first_is_least x xs y up (g y (here y y ys refl)) in
    let e : x ≡ y = omega arith in
    let rest = same_numbers xs ys (rest_ascends x xs up) (rest_ascends y ys vp)
    (λ n c. in_rest x y ys n e (rest_is_above x xs n up c) (f n (there n x xs c)))
    (λ n c. in_rest y x xs n (sym e) (rest_is_above y ys n vp c) (g n (there n y ys c))) in
    ap (λ (n : ℕ). n ∷ xs) e ∙ ap (λ (ns : List ℕ). y ∷ ns) rest

-- the three kinds of set
record IsIdle (k : ℕ) (links interrupts : List ℕ) : Type 0 where
  none : k ≡ 0
  no_links : links ≡ []
  no_interrupts : interrupts ≡ []

record IsWired (wired : List (ℕ × ℕ)) (k : ℕ) (links interrupts : List ℕ) : Type 0 where
  interrupt : ℕ
  positive : 0 < k
  busy : wired_to wired interrupt ≡ k
  first : (j : ℕ) → j < interrupt → wired_to wired j ≢ k
  no_links : links ≡ []
  alone : interrupts ≡ interrupt ∷ []

record IsCrowded (offers : List (List ℕ)) (wired : List (ℕ × ℕ)) (k : ℕ) (links interrupts : List ℕ) : Type 0 where
  level : ℕ
  above : k ≡ level + 1
  none : (i : ℕ) → wired_to wired i ≢ k
  set : IsCrowdedSet offers (room_of level wired []) links interrupts

kind : (offers : List (List ℕ)) (wired : List (ℕ × ℕ)) (k : ℕ) (links interrupts : List ℕ) → Shown offers wired k links interrupts → IsIdle k links interrupts ⊎ (IsWired wired k links interrupts ⊎ IsCrowded offers wired k links interrupts)
kind offers wired k links interrupts Idle = inl (record { none = refl; no_links = refl; no_interrupts = refl })
kind offers wired k links interrupts (Wired {i} positive busy first) = inr (inl (record { interrupt = i; positive = positive; busy = busy; first = first; no_links = refl; alone = refl }))
kind offers wired k links interrupts (Crowded level none set) = inr (inr (record { level = level; above = refl; none = none; set = set }))

-- fewer of the first links can be placed where more can
fewer_placed : (offers : List (List ℕ)) (room : ℕ → ℕ) (m n : ℕ) → m ≤ n → n ≤ length offers → CanPlace (take n offers) room → CanPlace (take m offers) room
fewer_placed offers room m n less within (p, placed, whole) =
    let cut = take-take m n offers less in
    let front = placement_take m (take n offers) room p placed in
    let long = length-take m p in
    (take m p, subst (λ (os : List (List ℕ)). IsPlacement os room (take m p)) cut front, λ k b. ap is_some (get_or-take m p k Option.None (omega arith)) ∙ whole k (omega arith))

module _ (offers : List (List ℕ)) (room : ℕ → ℕ) (s t s' t' : List ℕ) (a : IsCrowdedSet offers room s t) (b : IsCrowdedSet offers room s' t') where
  same_last : a.last ≡ b.last
  same_last = go (cases_order a.last b.last)
    where
      go : (a.last ≡ b.last) ⊎ ((a.last < b.last) ⊎ (b.last < a.last)) → a.last ≡ b.last
      go (inl e) = e
      go (inr (inl less)) = let w = b.within in absurd (a.not_all (fewer_placed offers room (a.last + 1) b.last (omega arith) (omega arith) b.before))
      go (inr (inr more)) = let w = a.within in absurd (b.not_all (fewer_placed offers room (b.last + 1) a.last (omega arith) (omega arith) a.before))

  IsLink : ℕ → ℕ → Type 0
  IsLink last l = (l ≤ last) × CanPlaceBut (take (last + 1) offers) room l

  same_links : s ≡ s'
  same_links = same_numbers s s' a.links_ascend b.links_ascend
      (λ l c. (b.is_link l).1 (subst (λ last. (l ≤ last) × CanPlaceBut (take (last + 1) offers) room l) same_last ((a.is_link l).0 c)))
      (λ l c. (a.is_link l).1 (subst (λ last. (l ≤ last) × CanPlaceBut (take (last + 1) offers) room l) (sym same_last) ((b.is_link l).0 c)))

  same_interrupts : t ≡ t'
  same_interrupts = same_numbers t t' a.interrupts_ascend b.interrupts_ascend
      (λ n c. let w = (a.is_interrupt n).0 c in (b.is_interrupt n).1 (w.0, subst (λ (ls : List ℕ). Contains ls w.0) same_links w.1, w.2))
      (λ n c. let w = (b.is_interrupt n).0 c in (a.is_interrupt n).1 (w.0, subst (λ (ls : List ℕ). Contains ls w.0) (sym same_links) w.1, w.2))

pub one_set : (offers : List (List ℕ)) (wired : List (ℕ × ℕ)) (k : ℕ) (s t s' t' : List ℕ) → Shown offers wired k s t → Shown offers wired k s' t' → (s ≡ s') × (t ≡ t')
one_set offers wired k s t s' t' a b = go (kind offers wired k s t a) (kind offers wired k s' t' b)
  where
    go : IsIdle k s t ⊎ (IsWired wired k s t ⊎ IsCrowded offers wired k s t) → IsIdle k s' t' ⊎ (IsWired wired k s' t' ⊎ IsCrowded offers wired k s' t') → (s ≡ s') × (t ≡ t')
    go (inl x) (inl y) = (x.no_links ∙ sym y.no_links, x.no_interrupts ∙ sym y.no_interrupts)
    go (inl x) (inr (inl y)) = absurd (let e = x.none in let f = y.positive in omega arith)
    go (inl x) (inr (inr y)) = absurd (let e = x.none in let f = y.above in omega arith)
    go (inr (inl x)) (inl y) = absurd (let e = y.none in let f = x.positive in omega arith)
    go (inr (inl x)) (inr (inl y)) = (x.no_links ∙ sym y.no_links, x.alone ∙ (ap (λ (i : ℕ). i ∷ []) (least (cases_order x.interrupt y.interrupt)) ∙ sym y.alone))
      where
        least : (x.interrupt ≡ y.interrupt) ⊎ ((x.interrupt < y.interrupt) ⊎ (y.interrupt < x.interrupt)) → x.interrupt ≡ y.interrupt
        least (inl e) = e
        least (inr (inl less)) = absurd (y.first x.interrupt less x.busy)
        least (inr (inr more)) = absurd (x.first y.interrupt more y.busy)
    go (inr (inl x)) (inr (inr y)) = absurd (y.none x.interrupt x.busy)
    go (inr (inr x)) (inl y) = absurd (let e = y.none in let f = x.above in omega arith)
    go (inr (inr x)) (inr (inl y)) = absurd (x.none y.interrupt y.busy)
    go (inr (inr x)) (inr (inr y)) =
        let e : y.level ≡ x.level = let f = x.above in let g = y.above in omega arith in
        let other = subst (λ level. IsCrowdedSet offers (room_of level wired []) s' t') e y.set in
        (same_links offers (room_of x.level wired []) s t s' t' x.set other, same_interrupts offers (room_of x.level wired []) s t s' t' x.set other)
