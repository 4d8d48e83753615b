-- Two register spaces side by side, and changes that go the same way over both until the spaces part, or until the left one is refused by
-- what its profile leaves out.
use Rattle.std.specs.Prelude.{◌≡◌, ◌⊎◌, ◌≤◌, ℕ, zero, suc, Bool, true, false, Ok, Err, refl, if◌then◌else◌}
use Rattle.std.proofs.Common.{arith, inl, inr, sym, subst, ap, ◌∙◌}
use Rattle.ar_space.specs.declared.refusal.Refusal.{Refusal}
use Rattle.ar_space.specs.declared.refusal.Refusal.TheVariants as refusal
use Rattle.ar_space.specs.declared.refusal.EvaluationFault.TheVariants.{OutOfSteps, DepthSetting}
use Rattle.ar_space.specs.declared.space.Width.{Width}
use Rattle.ar_space.specs.declared.space.Place.{Place}
use Rattle.ar_space.specs.Accesses.{Accesses}
use Rattle.ar_space.specs.Outcome.{Outcome}
use Rattle.ar_space.specs.Change.{Change, give, stop, settle, go_on, ◌>>=◌}
use Rattle.aml_world.specs.declared.state.profile.Profile.{Profile}
use Rattle.aml_world.specs.declared.state.settings.Nesting.{Nesting}
use Rattle.aml_world.specs.declared.state.profile.Profile.TheVariants as profiles
use Rattle.aml_world.specs.state.PassedOver.{is_passable}
use Rattle.aml_laws.specs.Widened.{LeftOut}

-- Spaces are in step where each access is answered alike by both, and leaves them in step, or parts them. Once they have parted, no
-- access of either of them changes that.
pub record SideBySide {S T : Type 0} (accesses : Accesses S) (accesses2 : Accesses T) : Type 1 where
  pub InStep : S → T → Type 0
  pub Parted : S → T → Type 0
  pub reads : (s : S) (t : T) (place : Place) (width : Width) → InStep s t
      → Parted (accesses.reads s place width).1 (accesses2.reads t place width).1 ⊎ (((accesses2.reads t place width).0 ≡ (accesses.reads s place width).0) × InStep (accesses.reads s place width).1 (accesses2.reads t place width).1)
  pub writes : (s : S) (t : T) (place : Place) (width : Width) (value : ℕ) → InStep s t
      → Parted (accesses.writes s place width value).1 (accesses2.writes t place width value).1
      ⊎ (((accesses2.writes t place width value).0 ≡ (accesses.writes s place width value).0) × InStep (accesses.writes s place width value).1 (accesses2.writes t place width value).1)
  pub left_reads : (s : S) (t : T) (place : Place) (width : Width) → Parted s t → Parted (accesses.reads s place width).1 t
  pub left_writes : (s : S) (t : T) (place : Place) (width : Width) (value : ℕ) → Parted s t → Parted (accesses.writes s place width value).1 t
  pub right_reads : (s : S) (t : T) (place : Place) (width : Width) → Parted s t → Parted s (accesses2.reads t place width).1
  pub right_writes : (s : S) (t : T) (place : Place) (width : Width) (value : ℕ) → Parted s t → Parted s (accesses2.writes t place width value).1

-- the profile and the depth of the right run, by those of the left one
abbrev pub Raise : Type 0
Raise = (Profile → Profile) × (Nesting → Nesting)

-- whether runs have the same profile, and no refusal ends their likeness that the wide profile passes over; or the right one is wide, with as
-- many steps, and as deep
abbrev pub Passes : Raise → (Refusal → Type 0) → (ℕ → ℕ) → Type 0
Passes raise Ends more = (((p : Profile) → raise.0 p ≡ p) × ((e : Refusal) → is_passable e ≡ true → Ends e → ⊥)) ⊎ (((p : Profile) → raise.0 p ≡ profiles.Wide) × (((n : ℕ) → more n ≡ n) × ((d : Nesting) → raise.1 d ≡ d)))

-- a refusal that only the right one passes over
abbrev pub MayPass : {raise : Raise} {Ends : Refusal → Type 0} {more : ℕ → ℕ} → Passes raise Ends more → Refusal → Type 0
MayPass (inl h) e = ⊥
MayPass (inr h) e = is_passable e ≡ true

-- both are as deep, or the right one may be deeper, and what the left one refuses as too deep for its setting ends their likeness
abbrev pub Deepens : Raise → (Refusal → Type 0) → Type 0
Deepens raise Ends = ((d : Nesting) → raise.1 d ≡ d) ⊎ (Ends (refusal.Evaluation DepthSetting) × ((d : Nesting) → (d.calls ≤ (raise.1 d).calls) × (d.levels ≤ (raise.1 d).levels)))

-- Runs side by side: over such spaces, and on the right in a profile that evaluates what the left one does, and with as many steps or
-- more, and as deep or deeper. A refusal by what a profile leaves out ends the likeness, where the profiles differ, one for want of steps,
-- where the steps do, and one of what is deeper than the setting allows, where the settings do.
pub record Sides {S T : Type 0} (accesses : Accesses S) (accesses2 : Accesses T) : Type 1 where
  pub beside : SideBySide accesses accesses2
  pub raise : Raise
  pub Ends : Refusal → Type 0
  pub wide_stays : raise.0 profiles.Wide ≡ profiles.Wide
  pub core_stays : (raise.0 profiles.Core ≡ profiles.Core) ⊎ ((e : Refusal) → LeftOut e → Ends e)
  pub deepens : Deepens raise Ends
  pub more : ℕ → ℕ
  pub more_next : (n : ℕ) → more (suc n) ≡ suc (more n)
  pub none_left : ((n : ℕ) → more n ≡ n) ⊎ Ends (refusal.Evaluation OutOfSteps)
  pub passes : Passes raise Ends more

-- over such spaces in the same profile, with as many steps
abbrev pub alike : {S T : Type 0} {accesses : Accesses S} {accesses2 : Accesses T} → SideBySide accesses accesses2 → Sides accesses accesses2
alike side = record { beside = side; raise = (λ p. p, λ d. d); Ends = λ e. ⊥; wide_stays = refl; core_stays = inl refl; deepens = inl (λ d. refl); more = λ n. n; more_next = λ n. refl; none_left = inl (λ n. refl); passes = inl (λ p. refl, λ e yes h. h) }

-- bounds on the steps of the left one and of the right one: the same, or no less on the right where want of steps ends the likeness
abbrev pub Fits : {S T : Type 0} {accesses : Accesses S} {accesses2 : Accesses T} → Sides accesses accesses2 → ℕ → ℕ → Type 0
Fits side j k = (j ≡ k) ⊎ (side.Ends (refusal.Evaluation OutOfSteps) × (j ≤ k))

module _ {S T : Type 0} {accesses : Accesses S} {accesses2 : Accesses T} (side : Sides accesses accesses2) where
  pub fits_before : (j k : ℕ) → Fits side (suc j) (suc k) → Fits side j k
  fits_before j k (inl same) = inl (omega arith)
  fits_before j k (inr (ends, le)) = inr (ends, omega arith)

  pub fits_next : (j k : ℕ) → Fits side j k → Fits side (suc j) (suc k)
  fits_next j k (inl same) = inl (ap (λ n. suc n) same)
  fits_next j k (inr (ends, le)) = inr (ends, omega arith)

  pub fits_none : (j : ℕ) → Fits side (suc j) zero → ⊥
  fits_none j (inl same) = absurd (omega arith)
  fits_none j (inr (ends, le)) = absurd (omega arith)

  pub fits_ended : (k : ℕ) → Fits side zero (suc k) → side.Ends (refusal.Evaluation OutOfSteps)
  fits_ended k (inl same) = absurd (omega arith)
  fits_ended k (inr (ends, le)) = ends

  pub ended_fits : (k : ℕ) → side.Ends (refusal.Evaluation OutOfSteps) → Fits side zero k
  ended_fits k ends = inr (ends, omega arith)

  no_fewer : (n : ℕ) → n ≤ side.more n
  no_fewer zero = omega arith
  no_fewer (suc n) = let le = no_fewer n in let next = side.more_next n in omega arith

  more_fits_by : (n : ℕ) → ((k : ℕ) → side.more k ≡ k) ⊎ side.Ends (refusal.Evaluation OutOfSteps) → Fits side n (side.more n)
  more_fits_by n (inl same) = inl (sym (same n))
  more_fits_by n (inr ends) = inr (ends, no_fewer n)

  pub more_fits : (n : ℕ) → Fits side n (side.more n)
  more_fits n = more_fits_by n side.none_left

-- an outcome is a refusal that ends the likeness
abbrev pub IsEnded : {A : Type 0} → (Refusal → Type 0) → Outcome A → Type 0
IsEnded Ends (Ok a) = ⊥
IsEnded Ends (Err e) = Ends e

-- states of two kinds, each with a space in it: what is the same but for the space, the profile and the steps that are left
pub record Shape (S T X Y : Type 0) : Type 0 where
  pub left : X → S
  pub right : Y → T
  pub over : Raise → (ℕ → ℕ) → X → T → Y

-- the spaces themselves
abbrev pub spaces : {S T : Type 0} → Shape S T S T
spaces = record { left = λ s. s; right = λ t. t; over = λ raise more s t. t }

-- what two changes came to: the spaces have parted, or the left one was refused so that the likeness ends, or outcomes and states are the
-- same but for the spaces, which are in step, and the profiles
abbrev pub Comes : {S T X Y : Type 0} {accesses : Accesses S} {accesses2 : Accesses T} → Sides accesses accesses2 → Shape S T X Y → {A : Type 0} → Outcome A × X → Outcome A × Y → Type 0
Comes {T = T} side shape p q =
    side.beside.Parted (shape.left p.1) (shape.right q.1) ⊎ (IsEnded side.Ends p.0 ⊎ ((t : T) × (q ≡ (p.0, shape.over side.raise side.more p.1 t)) × side.beside.InStep (shape.left p.1) t))

-- the same in the same profile: then nothing but the spaces parts them
abbrev pub Goes : {S T X Y : Type 0} {accesses : Accesses S} {accesses2 : Accesses T} → SideBySide accesses accesses2 → Shape S T X Y → {A : Type 0} → Outcome A × X → Outcome A × Y → Type 0
Goes {T = T} side shape p q = side.Parted (shape.left p.1) (shape.right q.1) ⊎ ((t : T) × (q ≡ (p.0, shape.over (λ r. r, λ d. d) (λ n. n) p.1 t)) × side.InStep (shape.left p.1) t)

pub none_ended : {A : Type 0} (r : Outcome A) → IsEnded (λ e. ⊥) r → ⊥
none_ended (Ok a) h = h
none_ended (Err e) h = h

pub goes_from : {S T X Y A : Type 0} {accesses : Accesses S} {accesses2 : Accesses T} (side : SideBySide accesses accesses2) (shape : Shape S T X Y) (p : Outcome A × X) (q : Outcome A × Y) → Comes (alike side) shape p q → Goes side shape p q
goes_from side shape p q (inl parted) = inl parted
goes_from side shape p q (inr (inl ended)) = absurd (none_ended p.0 ended)
goes_from side shape p q (inr (inr same)) = inr same

-- two changes that go the same way until the spaces part, and leave spaces parted that have
pub record Together {S T X Y A : Type 0} {accesses : Accesses S} {accesses2 : Accesses T} (side : Sides accesses accesses2) (shape : Shape S T X Y) (m : Change X A) (n : Change Y A) : Type 0 where
  pub left_parted : (x : X) (t : T) → side.beside.Parted (shape.left x) t → side.beside.Parted (shape.left (m x).1) t
  pub right_parted : (s : S) (y : Y) → side.beside.Parted s (shape.right y) → side.beside.Parted s (shape.right (n y).1)
  pub goes : (x : X) (t : T) → side.beside.InStep (shape.left x) t → Comes side shape (m x) (n (shape.over side.raise side.more x t))

-- a refusal that ends the likeness is handed on
go_on_ended : {X A B : Type 0} (Ends : Refusal → Type 0) (r : Outcome A) (x : X) (k : A → Change X B) → IsEnded Ends r → IsEnded Ends (go_on r x k).0
unfolding go_on
go_on_ended Ends (Ok a) x k h = absurd h
go_on_ended Ends (Err e) x k h = h

module _ {S T X Y : Type 0} {accesses : Accesses S} {accesses2 : Accesses T} {side : Sides accesses accesses2} {shape : Shape S T X Y} where
  -- changes that leave their spaces alone
  pub plain : {A : Type 0} {m : Change X A} {n : Change Y A} → ((x : X) → shape.left (m x).1 ≡ shape.left x) → ((y : Y) → shape.right (n y).1 ≡ shape.right y)
      → ((x : X) (t : T) → n (shape.over side.raise side.more x t) ≡ ((m x).0, shape.over side.raise side.more (m x).1 t)) → Together side shape m n
  plain {m = m} {n = n} l r same = record {
    left_parted = λ x t p. subst (λ s. side.beside.Parted s t) (sym (l x)) p;
    right_parted = λ s y p. subst (λ t. side.beside.Parted s t) (sym (r y)) p;
    goes = λ x t i. inr (inr (t, same x t, subst (λ s. side.beside.InStep s t) (sym (l x)) i));
  }

  pub give_together : {A : Type 0} (a : A) → Together side shape (give a) (give a)
  unfolding give
  give_together a = plain (λ x. refl) (λ y. refl) (λ x t. refl)

  pub stop_together : {A : Type 0} (e : Refusal) → Together {A = A} side shape (stop e) (stop e)
  unfolding stop
  stop_together e = plain (λ x. refl) (λ y. refl) (λ x t. refl)

  -- a refusal that ends the likeness, whatever the right one does
  pub ended_together : {A : Type 0} (e : Refusal) {n : Change Y A} → side.Ends e → ((s : S) (y : Y) → side.beside.Parted s (shape.right y) → side.beside.Parted s (shape.right (n y).1)) → Together side shape (stop e) n
  unfolding stop
  ended_together e ends right = record { left_parted = λ x t p. p; right_parted = right; goes = λ x t i. inr (inl ends) }

  pub settle_together : {A : Type 0} (r : Outcome A) → Together side shape (settle r) (settle r)
  unfolding settle
  settle_together r = plain (λ x. refl) (λ y. refl) (λ x t. refl)

  -- ---- one after another

  go_on_left : {A B : Type 0} (r : Outcome A) (x : X) (t : T) (k : A → Change X B) (l : A → Change Y B) → ((a : A) → Together side shape (k a) (l a)) → side.beside.Parted (shape.left x) t → side.beside.Parted (shape.left (go_on r x k).1) t
  unfolding go_on
  go_on_left (Ok a) x t k l h p = (h a).left_parted x t p
  go_on_left (Err e) x t k l h p = p

  go_on_right : {A B : Type 0} (r : Outcome A) (s : S) (y : Y) (k : A → Change X B) (l : A → Change Y B) → ((a : A) → Together side shape (k a) (l a)) → side.beside.Parted s (shape.right y) → side.beside.Parted s (shape.right (go_on r y l).1)
  unfolding go_on
  go_on_right (Ok a) s y k l h p = (h a).right_parted s y p
  go_on_right (Err e) s y k l h p = p

  go_on_goes : {A B : Type 0} (r : Outcome A) (x : X) (t : T) (k : A → Change X B) (l : A → Change Y B) → ((a : A) → Together side shape (k a) (l a)) → side.beside.InStep (shape.left x) t → Comes side shape (go_on r x k) (go_on r (shape.over side.raise side.more x t) l)
  unfolding go_on
  go_on_goes (Ok a) x t k l h i = (h a).goes x t i
  go_on_goes (Err e) x t k l h i = inr (inr (t, refl, i))

  then_goes : {A B : Type 0} (p : Outcome A × X) (q : Outcome A × Y) (k : A → Change X B) (l : A → Change Y B) → ((a : A) → Together side shape (k a) (l a)) → Comes side shape p q → Comes side shape (go_on p.0 p.1 k) (go_on q.0 q.1 l)
  then_goes p q k l h (inl parted) = inl (go_on_left p.0 p.1 _ k l h (go_on_right q.0 _ q.1 k l h parted))
  then_goes p q k l h (inr (inl ended)) = inr (inl (go_on_ended side.Ends p.0 p.1 k ended))
  then_goes p q k l h (inr (inr (t, same, i))) = subst (λ (u : Outcome _ × Y). Comes side shape (go_on p.0 p.1 k) (go_on u.0 u.1 l)) (sym same) (go_on_goes p.0 p.1 t k l h i)

  pub then_together : {A B : Type 0} {m : Change X A} {n : Change Y A} {k : A → Change X B} {l : A → Change Y B} → Together side shape m n → ((a : A) → Together side shape (k a) (l a)) → Together side shape (m >>= k) (n >>= l)
  unfolding ◌>>=◌
  then_together {m = m} {n = n} {k = k} {l = l} f h = record {
    left_parted = λ x t p. go_on_left (m x).0 (m x).1 t k l h (f.left_parted x t p);
    right_parted = λ s y p. go_on_right (n y).0 s (n y).1 k l h (f.right_parted s y p);
    goes = λ x t i. then_goes (m x) (n (shape.over side.raise side.more x t)) k l h (f.goes x t i);
  }

  -- ---- one or the other, by what is the same on both sides

  pub either_together : {A : Type 0} {m k : Change X A} {n l : Change Y A} (first : Bool) → Together side shape m n → Together side shape k l → Together side shape (λ x. if first then m x else k x) (λ y. if first then n y else l y)
  either_together true f g = record { left_parted = f.left_parted; right_parted = f.right_parted; goes = f.goes }
  either_together false f g = record { left_parted = g.left_parted; right_parted = g.right_parted; goes = g.goes }

  choice_left : {A : Type 0} {m k : Change X A} {n l : Change Y A} (b : Bool) (x : X) (t : T) → Together side shape m n → Together side shape k l → side.beside.Parted (shape.left x) t → side.beside.Parted (shape.left (if b then m x else k x).1) t
  choice_left true x t f g p = f.left_parted x t p
  choice_left false x t f g p = g.left_parted x t p

  choice_right : {A : Type 0} {m k : Change X A} {n l : Change Y A} (b : Bool) (s : S) (y : Y) → Together side shape m n → Together side shape k l → side.beside.Parted s (shape.right y) → side.beside.Parted s (shape.right (if b then n y else l y).1)
  choice_right true s y f g p = f.right_parted s y p
  choice_right false s y f g p = g.right_parted s y p

  choice_goes : {A : Type 0} {m k : Change X A} {n l : Change Y A} (b : Bool) (x : X) (t : T) → Together side shape m n → Together side shape k l → side.beside.InStep (shape.left x) t
      → Comes side shape (if b then m x else k x) (if b then n (shape.over side.raise side.more x t) else l (shape.over side.raise side.more x t))
  choice_goes true x t f g i = f.goes x t i
  choice_goes false x t f g i = g.goes x t i

  -- the same of a test of the states
  pub choice_together : {A : Type 0} {m k : Change X A} {n l : Change Y A} (first : X → Bool) (first2 : Y → Bool) → ((x : X) (t : T) → first2 (shape.over side.raise side.more x t) ≡ first x) → Together side shape m n → Together side shape k l
      → Together side shape (λ x. if first x then m x else k x) (λ y. if first2 y then n y else l y)
  choice_together {m = m} {k = k} {n = n} {l = l} first first2 same f g = record {
    left_parted = λ x t p. choice_left (first x) x t f g p;
    right_parted = λ s y p. choice_right (first2 y) s y f g p;
    goes = λ x t i. subst (λ b. Comes side shape (if first x then m x else k x) (if b then n (shape.over side.raise side.more x t) else l (shape.over side.raise side.more x t))) (sym (same x t)) (choice_goes (first x) x t f g i);
  }

-- ---- a change of a part of a state

module _ {S T X Y X2 Y2 A B : Type 0} {accesses : Accesses S} {accesses2 : Accesses T} (side : Sides accesses accesses2) (shape : Shape S T X Y) (shape2 : Shape S T X2 Y2) where
  wrapped_goes : (φ : Outcome A × X → Outcome B × X2) (ψ : Outcome A × Y → Outcome B × Y2) → ((p : Outcome A × X) → shape2.left (φ p).1 ≡ shape.left p.1) → ((q : Outcome A × Y) → shape2.right (ψ q).1 ≡ shape.right q.1)
      → ((r : Outcome A) (x : X) (t : T) → ψ (r, shape.over side.raise side.more x t) ≡ ((φ (r, x)).0, shape2.over side.raise side.more (φ (r, x)).1 t)) → ((p : Outcome A × X) → IsEnded side.Ends p.0 → IsEnded side.Ends (φ p).0) → (p : Outcome A × X) (q : Outcome A × Y) → Comes side shape p q → Comes side shape2 (φ p) (ψ q)
  wrapped_goes φ ψ l r same still p q (inl parted) = inl (subst (λ s. side.beside.Parted s (shape2.right (ψ q).1)) (sym (l p)) (subst (λ t. side.beside.Parted (shape.left p.1) t) (sym (r q)) parted))
  wrapped_goes φ ψ l r same still p q (inr (inl ended)) = inr (inl (still p ended))
  wrapped_goes φ ψ l r same still p q (inr (inr (t, is, i))) = inr (inr (t, ap ψ is ∙ same p.0 p.1 t, subst (λ s. side.beside.InStep s t) (sym (l p)) i))

module _ {S T X Y X2 Y2 A B : Type 0} {accesses : Accesses S} {accesses2 : Accesses T} {side : Sides accesses accesses2} {shape : Shape S T X Y} {shape2 : Shape S T X2 Y2} where
  -- into: the part that is changed; out: the whole with the outcome and the part as they are then
  pub wrapped_together : {m : Change X A} {n : Change Y A} (into : X2 → X) (into2 : Y2 → Y) (out : X2 → Outcome A × X → Outcome B × X2) (out2 : Y2 → Outcome A × Y → Outcome B × Y2)
      → ((x : X2) → shape.left (into x) ≡ shape2.left x) → ((y : Y2) → shape.right (into2 y) ≡ shape2.right y) → ((x : X2) (t : T) → into2 (shape2.over side.raise side.more x t) ≡ shape.over side.raise side.more (into x) t)
      → ((x : X2) (p : Outcome A × X) → shape2.left (out x p).1 ≡ shape.left p.1) → ((y : Y2) (q : Outcome A × Y) → shape2.right (out2 y q).1 ≡ shape.right q.1)
      → ((x : X2) (u : T) (r : Outcome A) (x1 : X) (t : T) → out2 (shape2.over side.raise side.more x u) (r, shape.over side.raise side.more x1 t) ≡ ((out x (r, x1)).0, shape2.over side.raise side.more (out x (r, x1)).1 t))
      → ((x : X2) (p : Outcome A × X) → IsEnded side.Ends p.0 → IsEnded side.Ends (out x p).0) → Together side shape m n → Together side shape2 (λ x. out x (m (into x))) (λ y. out2 y (n (into2 y)))
  wrapped_together {m = m} {n = n} into into2 out out2 a b c d e f still h = record {
    left_parted = λ x t p. subst (λ s. side.beside.Parted s t) (sym (d x (m (into x)))) (h.left_parted (into x) t (subst (λ s. side.beside.Parted s t) (sym (a x)) p));
    right_parted = λ s y p. subst (λ t. side.beside.Parted s t) (sym (e y (n (into2 y)))) (h.right_parted s (into2 y) (subst (λ t. side.beside.Parted s t) (sym (b y)) p));
    goes = λ x t i. wrapped_goes side shape shape2 (out x) (out2 (shape2.over side.raise side.more x t)) (d x) (e (shape2.over side.raise side.more x t)) (f x t) (still x) (m (into x)) (n (into2 (shape2.over side.raise side.more x t)))
        (subst (λ y. Comes side shape (m (into x)) (n y)) (sym (c x t)) (h.goes (into x) t (subst (λ s. side.beside.InStep s t) (sym (a x)) i)));
  }
