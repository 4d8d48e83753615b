-- Changes that maintain what is known of a state, and give what fits; lists whose items fit.
use Rattle.std.specs.Prelude.{◌≡◌, ◌⊎◌, ◌<◌, ℕ, zero, suc, List, [], ◌∷◌, ◌++◌, length, take, replicate, slice_get, slice_set, slice_index_or, Bool, true, false, Some, Ok, Err, refl, if◌then◌else◌}
use Rattle.std.proofs.Common.{arith, ap, inl, inr, subst}
use Rattle.ar_space.specs.declared.refusal.Refusal.{Refusal}
use Rattle.ar_space.specs.Outcome.{Outcome}
use Rattle.ar_space.specs.Change.{Change, give, stop, settle, go_on, ◌>>=◌}
use Rattle.aml_laws.specs.Plain.{AreBytes}
use Rattle.aml_laws.specs.AllWithin.{Each}
use Rattle.aml_laws.proofs.ReadingStepsGiveBytes.{take_bytes}

-- ---- what a change answers and leaves

pub record Maintained {H A : Type 0} (I : H → Type 0) (Fit : A → Type 0) (x : Outcome A × H) : Type 0 where
  pub state : I x.1
  pub gives : (a : A) → x.0 ≡ Ok a → Fit a

pub record Maintains {H A : Type 0} (I : H → Type 0) (Fit : A → Type 0) (m : Change H A) : Type 0 where
  pub maintains : (h : H) → I h → Maintained I Fit (m h)

pub ok_fits : {A : Type 0} (Fit : A → Type 0) (x y : A) → ◌≡◌ {A = Outcome A} (Ok x) (Ok y) → Fit x → Fit y
ok_fits {A} Fit x y e h = let same : x ≡ y = cc e in subst Fit same h

module _ {H A : Type 0} {I : H → Type 0} {Fit : A → Type 0} where
  pub ok_maintained : (a : A) (h : H) → I h → Fit a → Maintained I Fit (Ok a, h)
  ok_maintained a h i fit = record { state = i; gives = λ b e. ok_fits Fit a b e fit }

  pub err_maintained : (e : Refusal) (h : H) → I h → Maintained I Fit (Err e, h)
  err_maintained e h i = record { state = i; gives = λ b is. absurd (cc is) }

  pub settled_maintained : (x : Outcome A) (h : H) → I h → ((a : A) → x ≡ Ok a → Fit a) → Maintained I Fit (x, h)
  settled_maintained x h i fit = record { state = i; gives = fit }

  pub if_maintained : (b : Bool) (x y : Outcome A × H) → (b ≡ true → Maintained I Fit x) → (b ≡ false → Maintained I Fit y) → Maintained I Fit (if b then x else y)
  if_maintained true x y f g = f refl
  if_maintained false x y f g = g refl

  pub give_maintains : (a : A) → Fit a → Maintains I Fit (give a)
  unfolding give
  give_maintains a fit = record { maintains = λ h i. ok_maintained a h i fit }

  pub stop_maintains : (e : Refusal) → Maintains I Fit (stop e)
  unfolding stop
  stop_maintains e = record { maintains = λ h i. err_maintained e h i }

  pub settle_maintains : (x : Outcome A) → ((a : A) → x ≡ Ok a → Fit a) → Maintains I Fit (settle x)
  unfolding settle
  settle_maintains x fit = record { maintains = λ h i. settled_maintained x h i fit }

pub weaker_maintains : {H A : Type 0} {I : H → Type 0} {Fit Fits : A → Type 0} (m : Change H A) → ((a : A) → Fit a → Fits a) → Maintains I Fit m → Maintains I Fits m
weaker_maintains m f g = record { maintains = λ h i. record { state = (g.maintains h i).state; gives = λ a e. f a ((g.maintains h i).gives a e) } }

module _ {H A B : Type 0} {I : H → Type 0} {Fit : A → Type 0} {Fits : B → Type 0} where
  go_on_maintained : (r : Outcome A) (h : H) (k : A → Change H B) → Maintained I Fit (r, h) → ((a : A) → Fit a → Maintains I Fits (k a)) → Maintained I Fits (go_on r h k)
  unfolding go_on
  go_on_maintained (Ok a) h k g all = (all a (g.gives a refl)).maintains h g.state
  go_on_maintained (Err e) h k g all = err_maintained e h g.state

  pub then_maintains : (m : Change H A) (k : A → Change H B) → Maintains I Fit m → ((a : A) → Fit a → Maintains I Fits (k a)) → Maintains I Fits (m >>= k)
  unfolding ◌>>=◌
  then_maintains m k f all = record { maintains = λ h i. go_on_maintained (m h).0 (m h).1 k (f.maintains h i) all }

-- one after another at a state, where more is known of what the first one gives and leaves
module _ {H A B : Type 0} {I : H → Type 0} {Fit : A → Type 0} {Fits : B → Type 0} (Known : A → H → Type 0) where
  go_on_maintained_at : (r : Outcome A) (h : H) (k : A → Change H B) → Maintained I Fit (r, h) → ((a : A) → r ≡ Ok a → Known a h) → ((a : A) (i : H) → Fit a → I i → Known a i → Maintained I Fits (k a i)) → Maintained I Fits (go_on r h k)
  unfolding go_on
  go_on_maintained_at (Ok a) h k g known all = all a h (g.gives a refl) g.state (known a refl)
  go_on_maintained_at (Err e) h k g known all = err_maintained e h g.state

  pub then_maintained_at : (m : Change H A) (k : A → Change H B) (h : H) → Maintained I Fit (m h) → ((a : A) → (m h).0 ≡ Ok a → Known a (m h).1) → ((a : A) (i : H) → Fit a → I i → Known a i → Maintained I Fits (k a i)) → Maintained I Fits ((m >>= k) h)
  unfolding ◌>>=◌
  then_maintained_at m k h g known all = go_on_maintained_at (m h).0 (m h).1 k g known all

-- ---- lists

pub each_map : {A : Type 0} {Fit Fits : A → Type 0} → ((x : A) → Fit x → Fits x) → (xs : List A) → Each Fit xs → Each Fits xs
each_map f [] h = tt
each_map f (x ∷ xs) h = (f x h.0, each_map f xs h.1)

module _ {A : Type 0} (Fit : A → Type 0) where
  pub each_push : (xs : List A) (y : A) → Each Fit xs → Fit y → Each Fit (xs ++ y ∷ [])
  each_push [] y h f = (f, tt)
  each_push (x ∷ xs) y h f = (h.0, each_push xs y h.1 f)

  pub each_at : (xs : List A) (n : ℕ) (x : A) → Each Fit xs → slice_get xs n ≡ Some x → Fit x
  each_at [] n x h at = absurd (cc at)
  each_at (y ∷ xs) zero x h at = let same : y ≡ x = cc at in subst Fit same h.0
  each_at (y ∷ xs) (suc n) x h at = each_at xs n x h.1 at

  pub each_set : (xs : List A) (n : ℕ) (y : A) → Each Fit xs → Fit y → Each Fit (slice_set xs n y)
  each_set [] n y h f = h
  each_set (x ∷ xs) zero y h f = (f, h.1)
  each_set (x ∷ xs) (suc n) y h f = (h.0, each_set xs n y h.1 f)

  pub index_fits : (xs : List A) (i : ℕ) (u : A) → Each Fit xs → Fit u → Fit (slice_index_or xs i u)
  index_fits [] i u h f = f
  index_fits (x ∷ xs) zero u h f = h.0
  index_fits (x ∷ xs) (suc i) u h f = index_fits xs i u h.1 f

  pub each_take : (n : ℕ) (xs : List A) → Each Fit xs → Each Fit (take n xs)
  each_take zero xs h = tt
  each_take (suc n) [] h = h
  each_take (suc n) (x ∷ xs) h = (h.0, each_take n xs h.1)

  pub each_append : (xs ys : List A) → Each Fit xs → Each Fit ys → Each Fit (xs ++ ys)
  each_append [] ys h f = f
  each_append (x ∷ xs) ys h f = (h.0, each_append xs ys h.1 f)

  pub each_replicate : (n : ℕ) (x : A) → Fit x → Each Fit (replicate n x)
  each_replicate zero x f = tt
  each_replicate (suc n) x f = (f, each_replicate n x f)

-- ---- items by index

pub index_is : {A : Type 0} (xs : List A) (i : ℕ) (u x : A) → slice_get xs i ≡ Some x → slice_index_or xs i u ≡ x
index_is [] i u x at = absurd (cc at)
index_is (y ∷ ys) zero u x at = cc at
index_is (y ∷ ys) (suc i) u x at = index_is ys i u x at

pushed_at : {A : Type 0} (xs : List A) (y : A) (i : ℕ) (x : A) → slice_get (xs ++ y ∷ []) i ≡ Some x → (slice_get xs i ≡ Some x) ⊎ ((length xs ≡ i) × (y ≡ x))
pushed_at [] y zero x at = inr (refl, cc at)
pushed_at [] y (suc i) x at = absurd (cc at)
pushed_at (z ∷ zs) y zero x at = inl at
pushed_at (z ∷ zs) y (suc i) x at = next (pushed_at zs y i x at)
  where
    next : (slice_get zs i ≡ Some x) ⊎ ((length zs ≡ i) × (y ≡ x)) → (slice_get (z ∷ zs) (suc i) ≡ Some x) ⊎ ((length (z ∷ zs) ≡ suc i) × (y ≡ x))
    next (inl old) = inl old
    next (inr same) = inr (ap suc same.0, same.1)

set_at : {A : Type 0} (xs : List A) (n : ℕ) (y : A) (i : ℕ) (x : A) → slice_get (slice_set xs n y) i ≡ Some x → (slice_get xs i ≡ Some x) ⊎ ((n ≡ i) × (y ≡ x))
set_at [] n y i x at = inl at
set_at (z ∷ zs) zero y zero x at = inr (refl, cc at)
set_at (z ∷ zs) zero y (suc i) x at = inl at
set_at (z ∷ zs) (suc n) y zero x at = inl at
set_at (z ∷ zs) (suc n) y (suc i) x at = next (set_at zs n y i x at)
  where
    next : (slice_get zs i ≡ Some x) ⊎ ((n ≡ i) × (y ≡ x)) → (slice_get (z ∷ zs) (suc i) ≡ Some x) ⊎ ((suc n ≡ suc i) × (y ≡ x))
    next (inl old) = inl old
    next (inr same) = inr (ap suc same.0, same.1)

pub each_from : {A : Type 0} {Fit : A → Type 0} (xs : List A) → ((i : ℕ) (x : A) → slice_get xs i ≡ Some x → Fit x) → Each Fit xs
each_from [] h = tt
each_from (x ∷ xs) h = (h 0 x refl, each_from xs (λ i. h (suc i)))

module _ {A : Type 0} (Fit : ℕ → A → Type 0) where
  pub pushed_fits : (xs : List A) (y : A) (i : ℕ) (x : A) → ((j : ℕ) (z : A) → slice_get xs j ≡ Some z → Fit j z) → Fit (length xs) y → slice_get (xs ++ y ∷ []) i ≡ Some x → Fit i x
  pushed_fits xs y i x h f at = by_side (pushed_at xs y i x at)
    where
      by_side : (slice_get xs i ≡ Some x) ⊎ ((length xs ≡ i) × (y ≡ x)) → Fit i x
      by_side (inl old) = h i x old
      by_side (inr same) = subst (λ (z : A). Fit i z) same.1 (subst (λ (j : ℕ). Fit j y) same.0 f)

  pub set_fits : (xs : List A) (n : ℕ) (y : A) (i : ℕ) (x : A) → ((j : ℕ) (z : A) → slice_get xs j ≡ Some z → Fit j z) → Fit n y → slice_get (slice_set xs n y) i ≡ Some x → Fit i x
  set_fits xs n y i x h f at = by_side (set_at xs n y i x at)
    where
      by_side : (slice_get xs i ≡ Some x) ⊎ ((n ≡ i) × (y ≡ x)) → Fit i x
      by_side (inl old) = h i x old
      by_side (inr same) = subst (λ (z : A). Fit i z) same.1 (subst (λ (j : ℕ). Fit j y) same.0 f)

pub set_length : {A : Type 0} (xs : List A) (n : ℕ) (y : A) → length (slice_set xs n y) ≡ length xs
set_length [] n y = refl
set_length (x ∷ xs) zero y = refl
set_length (x ∷ xs) (suc n) y = ap suc (set_length xs n y)

-- ---- lists of bytes

pub joined_bytes : (xs ys : List ℕ) → AreBytes xs → AreBytes ys → AreBytes (xs ++ ys)
joined_bytes [] ys h k i = k i
joined_bytes (x ∷ xs) ys h k zero = h 0
joined_bytes (x ∷ xs) ys h k (suc i) = joined_bytes xs ys (λ j. h (suc j)) k i

pub zero_bytes : (n : ℕ) → AreBytes (replicate n 0)
zero_bytes zero i = omega arith
zero_bytes (suc n) zero = omega arith
zero_bytes (suc n) (suc i) = zero_bytes n i

pub byte_before_bytes : (b : ℕ) (bs : List ℕ) → b < 256 → AreBytes bs → AreBytes (b ∷ bs)
byte_before_bytes b bs l h zero = l
byte_before_bytes b bs l h (suc i) = h i

pub set_bytes : (bs : List ℕ) (n b : ℕ) → AreBytes bs → b < 256 → AreBytes (slice_set bs n b)
set_bytes [] n b h l i = h i
set_bytes (x ∷ bs) zero b h l zero = l
set_bytes (x ∷ bs) zero b h l (suc i) = h (suc i)
set_bytes (x ∷ bs) (suc n) b h l zero = h 0
set_bytes (x ∷ bs) (suc n) b h l (suc i) = set_bytes bs n b (λ j. h (suc j)) l i

pub bytes_by_room : (b : Bool) (new zs : List ℕ) (room : ℕ) → AreBytes new → AreBytes zs → AreBytes (if b then new else take room new ++ zs)
bytes_by_room true new zs room h k = h
bytes_by_room false new zs room h k = joined_bytes (take room new) zs (take_bytes room new h) k
