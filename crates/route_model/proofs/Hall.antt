use Rattle.std.proofs.Common.{◌≡◌, ℕ, zero, suc, ◌<◌, ◌≤◌, Bool, true, false, cond, List, [], ◌∷◌, length, refl, sym, ◌∙◌, ap, arith, Option, Some, None, get_or, inl, inr}
use Rattle.std.specs.Prelude.{count_by, ◌⊎◌, is_some, is_none, IsSome}
use Rattle.std.proofs.lemmas.Bool.{eqb-true, eq-eqb, false≢true, true≢false}
use Rattle.route_model.specs.Placement.{is_at, place_of, is_reached, taken, IsPlacement, CanPlace, CanPlaceBut, IsStuck}
use Rattle.route_model.proofs.Counting.{one_if, count_cons, count_yes, count_no, Tells, fewer}

-- where one list passes, so does the other
pub count_pointwise : {X Y : Type 0} (p : X → Bool) (q : Y → Bool) (d : X) (e : Y) (xs : List X) (ys : List Y) → length xs ≡ length ys → ((k : ℕ) → k < length xs → p (get_or xs k d) ≡ true → q (get_or ys k e) ≡ true) → count_by p xs ≤ count_by q ys
count_pointwise p q d e [] ys l h = omega arith
count_pointwise p q d e (x ∷ xs) [] l h = absurd (omega arith)
count_pointwise p q d e (x ∷ xs) (y ∷ ys) l h =
    let rest = count_pointwise p q d e xs ys (omega arith) (λ k b. h (suc k) (omega arith)) in
    let here = h 0 (omega arith) in
    let a = count_cons p x xs in
    let b = count_cons q y ys in
    let c : one_if (p x) ≤ one_if (q y) = go (p x) (q y) here in
    omega arith
  where
    go : (s t : Bool) → (s ≡ true → t ≡ true) → one_if s ≤ one_if t
    go true t f = rw (f refl) (omega arith)
    go false t f = omega arith

-- and at one place the other alone
pub count_pointwise_less : {X Y : Type 0} (p : X → Bool) (q : Y → Bool) (d : X) (e : Y) (xs : List X) (ys : List Y) (l : ℕ) → l < length xs → p (get_or xs l d) ≡ false → q (get_or ys l e) ≡ true → length xs ≡ length ys → ((k : ℕ) → k < length xs → p (get_or xs k d) ≡ true → q (get_or ys k e) ≡ true) → count_by p xs < count_by q ys
count_pointwise_less p q d e [] ys l b f t s h = absurd (omega arith)
count_pointwise_less p q d e (x ∷ xs) [] l b f t s h = absurd (omega arith)
count_pointwise_less p q d e (x ∷ xs) (y ∷ ys) zero b f t s h =
    let rest = count_pointwise p q d e xs ys (omega arith) (λ k b. h (suc k) (omega arith)) in
    omega (arith, count_no p x xs f, count_yes q y ys t)
count_pointwise_less p q d e (x ∷ xs) (y ∷ ys) (suc l) b f t s h =
    let rest = count_pointwise_less p q d e xs ys l (omega arith) f t (omega arith) (λ k b. h (suc k) (omega arith)) in
    let a = count_cons p x xs in
    let b = count_cons q y ys in
    let c : one_if (p x) ≤ one_if (q y) = go (p x) (q y) (h 0 (omega arith)) in
    omega arith
  where
    go : (s t : Bool) → (s ≡ true → t ≡ true) → one_if s ≤ one_if t
    go true t f = rw (f refl) (omega arith)
    go false t f = omega arith

-- what is counted stands somewhere
pub counted_somewhere : {X : Type 0} (p : X → Bool) (d : X) (xs : List X) → 0 < count_by p xs → (k : ℕ) × (k < length xs) × (p (get_or xs k d) ≡ true)
counted_somewhere p d [] h = absurd (omega arith)
counted_somewhere p d (x ∷ xs) h = go (p x) refl (counted_somewhere p d xs)
  where
    go : (b : Bool) → p x ≡ b → (0 < count_by p xs → (k : ℕ) × (k < length xs) × (p (get_or xs k d) ≡ true)) → (k : ℕ) × (k < suc (length xs)) × (p (get_or (x ∷ xs) k d) ≡ true)
    go true e ih = (0, omega arith, e)
    go false e ih = let w = ih (omega (arith, count_no p x xs e)) in (suc w.0, omega (arith, w.1), w.2)

pub zero_or_more : (n : ℕ) → (n ≡ 0) ⊎ (0 < n)
zero_or_more zero = inl refl
zero_or_more (suc n) = inr (omega arith)

-- the same place, as a test
abbrev pub same_place : Option ℕ → Option ℕ → Bool
same_place None y = is_none y
same_place (Some n) y = is_at n y

pub is_at_true : (n : ℕ) (o : Option ℕ) → is_at n o ≡ true → o ≡ Some n
is_at_true n None h = absurd (false≢true h)
is_at_true n (Some m) h = ap Some (eqb-true m n h)

pub same_place_tells : Tells same_place
same_place_tells = record { sound = sound; itself = itself }
  where
    sound : (x y : Option ℕ) → same_place x y ≡ true → x ≡ y
    sound None None h = refl
    sound None (Some m) h = absurd (false≢true h)
    sound (Some n) y h = sym (is_at_true n y h)

    itself : (x : Option ℕ) → same_place x x ≡ true
    itself None = refl
    itself (Some n) = eq-eqb n n refl

-- the numbers of the links that were reached
pub masked : List Bool → List (Option ℕ) → List (Option ℕ)
masked [] [] = []
masked [] (x ∷ xs) = None ∷ masked [] xs
masked (r ∷ rs) [] = []
masked (r ∷ rs) (x ∷ xs) = cond r x None ∷ masked rs xs

length-masked : (rs : List Bool) (xs : List (Option ℕ)) → length (masked rs xs) ≡ length xs
unfolding masked
length-masked [] [] = refl
length-masked [] (x ∷ xs) = ap suc (length-masked [] xs)
length-masked (r ∷ rs) [] = refl
length-masked (r ∷ rs) (x ∷ xs) = ap suc (length-masked rs xs)

masked_at : (rs : List Bool) (xs : List (Option ℕ)) (k : ℕ) → place_of (masked rs xs) k ≡ cond (is_reached rs k) (place_of xs k) None
unfolding masked
masked_at [] [] k = refl
masked_at [] (x ∷ xs) zero = refl
masked_at [] (x ∷ xs) (suc k) = masked_at [] xs k
masked_at (r ∷ rs) [] k = go (is_reached (r ∷ rs) k)
  where
    go : (b : Bool) → ◌≡◌ {A = Option ℕ} None (cond b None None)
    go true = refl
    go false = refl
masked_at (r ∷ rs) (x ∷ xs) zero = refl
masked_at (r ∷ rs) (x ∷ xs) (suc k) = masked_at rs xs k

masked_yes : (rs : List Bool) (xs : List (Option ℕ)) (k : ℕ) → is_reached rs k ≡ true → place_of (masked rs xs) k ≡ place_of xs k
masked_yes rs xs k h = masked_at rs xs k ∙ ap (λ b. cond b (place_of xs k) None) h

masked_some : (rs : List Bool) (xs : List (Option ℕ)) (k : ℕ) → is_some (place_of (masked rs xs) k) ≡ true → is_reached rs k ≡ true
masked_some rs xs k h = go (is_reached rs k) (place_of xs k) (sym (ap is_some (masked_at rs xs k)) ∙ h)
  where
    go : (b : Bool) (o : Option ℕ) → is_some (cond b o None) ≡ true → b ≡ true
    go true o h = refl
    go false o h = absurd (false≢true h)

masked_is : (rs : List Bool) (xs : List (Option ℕ)) (k n : ℕ) → is_at n (place_of (masked rs xs) k) ≡ true → (is_reached rs k ≡ true) × (place_of xs k ≡ Some n)
masked_is rs xs k n h =
    let at = is_at_true n (place_of (masked rs xs) k) h in
    let r = masked_some rs xs k (ap is_some at) in
    (r, sym (masked_yes rs xs k r) ∙ at)

at_itself : (n : ℕ) (o : Option ℕ) → o ≡ Some n → is_at n o ≡ true
at_itself n o h = ap (is_at n) h ∙ eq-eqb n n refl

module _ (offers : List (List ℕ)) (room : ℕ → ℕ) (p : List (Option ℕ)) (reached : List Bool) (l : ℕ) (stuck : IsStuck offers room p reached l) where
  -- a number that a reached link has is not more often there than among the reached links of the search
  hall_at : (b : List (Option ℕ)) → length b ≡ length p → IsPlacement offers room b → (n : ℕ) → (taken (masked reached b) n ≡ 0) ⊎ (0 < taken (masked reached b) n) → taken (masked reached b) n ≤ taken (masked reached p) n
  hall_at b same placed n (inl none) = omega arith
  hall_at b same placed n (inr some) =
      let w = counted_somewhere (is_at n) None (masked reached b) some in
      let there = masked_is reached b w.0 n w.2 in
      let offered = placed.offered w.0 n there.1 in
      let full = stuck.full w.0 n there.0 offered in
      let held : taken p n ≤ taken (masked reached p) n =
      count_pointwise (is_at n) (is_at n) None None p (masked reached p) (sym (length-masked reached p)) (λ j bound at.
      let is = is_at_true n (place_of p j) at in
      at_itself n _ (masked_yes reached p j (stuck.holders w.0 j n there.0 offered is) ∙ is)) in
      let part : taken (masked reached b) n ≤ taken b n =
      count_pointwise (is_at n) (is_at n) None None (masked reached b) b (length-masked reached b) (λ j bound at. at_itself n _ (masked_is reached b j n at).1) in
      let fits = placed.within n in
      omega arith

  -- no placement within the rooms has a number for each link that was reached
  pub hall : (b : List (Option ℕ)) → length b ≡ length p → IsPlacement offers room b → ((k : ℕ) → is_reached reached k ≡ true → k < length p → IsSome (place_of b k)) → ⊥
  hall b same placed whole =
      let mp = masked reached p in
      let mb = masked reached b in
      let lp = length-masked reached p in
      let lb = length-masked reached b in
      let less : count_by is_some mp < count_by is_some mb =
      count_pointwise_less is_some is_some None None mp mb l
      (omega (arith, stuck.within_links))
      (ap is_some (masked_yes reached p l stuck.begins ∙ stuck.unplaced))
      (ap is_some (masked_yes reached b l stuck.begins) ∙ whole l stuck.begins stuck.within_links)
      (omega arith)
      (λ k bound h. let r = masked_some reached p k h in ap is_some (masked_yes reached b k r) ∙ whole k r (omega arith)) in
      let more : count_by is_some mb ≤ count_by is_some mp = fewer same_place same_place_tells is_some mb mp (each b same placed) in
      omega arith
    where
      each : (b : List (Option ℕ)) → length b ≡ length p → IsPlacement offers room b → (x : Option ℕ) → is_some x ≡ true → count_by (same_place x) (masked reached b) ≤ count_by (same_place x) (masked reached p)
      each b same placed None h = absurd (false≢true h)
      each b same placed (Some n) h = hall_at b same placed n (zero_or_more (taken (masked reached b) n))

  pub no_place : CanPlace offers room → length p ≡ length offers → ⊥
  no_place c same = hall c.0 (c.1.same_length ∙ sym same) c.1 (λ k r b. let e = c.1.same_length in c.2 k (omega arith))

  -- a link that wasn't reached is none that the others could do without
  pub no_place_but : (k : ℕ) → is_reached reached k ≡ false → CanPlaceBut offers room k → length p ≡ length offers → ⊥
  no_place_but k f c same =
      let e = c.1.same_length in
      hall c.0 (c.1.same_length ∙ sym same) c.1 (λ j r b. c.3 j (omega arith) (λ is. true≢false (sym r ∙ (ap (is_reached reached) is ∙ f))))
