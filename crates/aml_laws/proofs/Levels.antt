-- Runs side by side at module level, where the wide profile passes over items that are refused: there such a refusal of the left one ends
-- the likeness too, where the profiles differ. In the bodies of control methods it doesn't.
use Rattle.std.specs.Prelude.{◌≡◌, ◌⊎◌, ◌+◌, ℕ, Bool, true, false, Ok, Err, refl}
use Rattle.std.proofs.Common.{inl, inr, sym, subst, arith, ◌∙◌}
use Rattle.ar_space.specs.declared.refusal.Refusal.{Refusal}
use Rattle.ar_space.specs.Accesses.{Accesses}
use Rattle.ar_space.specs.Outcome.{Outcome}
use Rattle.ar_space.specs.Change.{Change}
use Rattle.aml_world.specs.declared.state.profile.Profile.TheVariants as profiles
use Rattle.aml_world.specs.declared.state.profile.Profile.{Profile}
use Rattle.aml_world.specs.state.PassedOver.{is_passable}
use Rattle.aml_meaning.specs.Tasks.{module_level}
use Rattle.aml_laws.specs.Widened.{LeftOut}
use Rattle.aml_laws.proofs.Together.{SideBySide, Raise, Deepens, Sides, Passes, MayPass, Shape, Together, Comes, IsEnded, alike}

pub no_module : (depth : ℕ) → module_level (depth + 1) ≡ false
no_module depth = grind arith

abbrev pub passes_more : {raise : Raise} {Ends : Refusal → Type 0} {more : ℕ → ℕ} (listed : Bool) (p : Passes raise Ends more) → Passes raise (λ e. Ends e ⊎ ((listed ≡ true) × MayPass p e)) more
passes_more listed (inl h) = inl (h.0, λ e holds x. elim x [ inl k ↦ h.1 e holds k | inr k ↦ k.1 ])
passes_more listed (inr h) = inr h

abbrev pub core_more : (raise : Raise) {Ends More : Refusal → Type 0} → (raise.0 profiles.Core ≡ profiles.Core) ⊎ ((e : Refusal) → LeftOut e → Ends e) → (raise.0 profiles.Core ≡ profiles.Core) ⊎ ((e : Refusal) → LeftOut e → Ends e ⊎ More e)
core_more raise (inl h) = inl h
core_more raise (inr h) = inr (λ e k. inl (h e k))

abbrev pub deepens_more : (raise : Raise) (Ends More : Refusal → Type 0) → Deepens raise Ends → Deepens raise (λ e. Ends e ⊎ More e)
deepens_more raise Ends More (inl h) = inl h
deepens_more raise Ends More (inr h) = inr (inl h.0, h.1)

abbrev pub none_more : {more : ℕ → ℕ} {E M : Type 0} → ((n : ℕ) → more n ≡ n) ⊎ E → ((n : ℕ) → more n ≡ n) ⊎ (E ⊎ M)
none_more (inl h) = inl h
none_more (inr h) = inr (inl h)

module _ {S T : Type 0} {accesses : Accesses S} {accesses2 : Accesses T} where
  -- by how many control methods are being called
  abbrev pub level : Sides accesses accesses2 → ℕ → Sides accesses accesses2
  level side depth = record {
    beside = side.beside;
    raise = side.raise;
    Ends = λ e. side.Ends e ⊎ ((module_level depth ≡ true) × MayPass side.passes e);
    wide_stays = side.wide_stays;
    core_stays = core_more side.raise side.core_stays;
    deepens = deepens_more side.raise side.Ends (λ e. (module_level depth ≡ true) × MayPass side.passes e) side.deepens;
    more = side.more;
    more_next = side.more_next;
    none_left = none_more side.none_left;
    passes = passes_more (module_level depth) side.passes;
  }

  module _ {A : Type 0} (side : Sides accesses accesses2) where
    more_ended : (depth : ℕ) (r : Outcome A) → IsEnded side.Ends r → IsEnded (level side depth).Ends r
    more_ended depth (Ok a) h = h
    more_ended depth (Err e) h = inl h

    fewer_ended : (depth : ℕ) → module_level depth ≡ false → (r : Outcome A) → IsEnded (level side depth).Ends r → IsEnded side.Ends r
    fewer_ended depth fails (Ok a) h = h
    fewer_ended depth fails (Err e) (inl h) = h
    fewer_ended depth fails (Err e) (inr h) = absurd (cc (sym fails ∙ h.0))

    alike_ended : (depth : ℕ) (same : (p : Profile) → side.raise.0 p ≡ p) (unpassed : (e : Refusal) → is_passable e ≡ true → side.Ends e → ⊥) → side.passes ≡ inl (same, unpassed) → (r : Outcome A) → IsEnded (level side depth).Ends r → IsEnded side.Ends r
    alike_ended depth same unpassed is (Ok a) h = h
    alike_ended depth same unpassed is (Err e) (inl h) = h
    alike_ended depth same unpassed is (Err e) (inr h) = absurd (subst (λ p. MayPass p e) is h.1)

  module _ {X Y A : Type 0} (side : Sides accesses accesses2) (shape : Shape S T X Y) where
    more_comes : (depth : ℕ) (p : Outcome A × X) (q : Outcome A × Y) → Comes side shape p q → Comes (level side depth) shape p q
    more_comes depth p q (inl parted) = inl parted
    more_comes depth p q (inr (inl ended)) = inr (inl (more_ended side depth p.0 ended))
    more_comes depth p q (inr (inr same)) = inr (inr same)

    fewer_comes : (depth : ℕ) → module_level depth ≡ false → (p : Outcome A × X) (q : Outcome A × Y) → Comes (level side depth) shape p q → Comes side shape p q
    fewer_comes depth fails p q (inl parted) = inl parted
    fewer_comes depth fails p q (inr (inl ended)) = inr (inl (fewer_ended side depth fails p.0 ended))
    fewer_comes depth fails p q (inr (inr same)) = inr (inr same)

    alike_comes : (depth : ℕ) (same : (p : Profile) → side.raise.0 p ≡ p) (unpassed : (e : Refusal) → is_passable e ≡ true → side.Ends e → ⊥) → side.passes ≡ inl (same, unpassed) → (p : Outcome A × X) (q : Outcome A × Y) → Comes (level side depth) shape p q → Comes side shape p q
    alike_comes depth same unpassed is p q (inl parted) = inl parted
    alike_comes depth same unpassed is p q (inr (inl ended)) = inr (inl (alike_ended side depth same unpassed is p.0 ended))
    alike_comes depth same unpassed is p q (inr (inr h)) = inr (inr h)

  module _ {X Y A : Type 0} {shape : Shape S T X Y} (side : Sides accesses accesses2) where
    -- what goes the same way at all levels
    pub at_level : {m : Change X A} {n : Change Y A} (depth : ℕ) → Together side shape m n → Together (level side depth) shape m n
    at_level {m = m} {n = n} depth h = record { left_parted = h.left_parted; right_parted = h.right_parted; goes = λ x t i. more_comes side shape depth (m x) (n (shape.over side.raise side.more x t)) (h.goes x t i) }

    -- in the body of a control method nothing is passed over
    pub in_body : {m : Change X A} {n : Change Y A} (depth : ℕ) → module_level depth ≡ false → Together (level side depth) shape m n → Together side shape m n
    in_body {m = m} {n = n} depth fails h = record { left_parted = h.left_parted; right_parted = h.right_parted; goes = λ x t i. fewer_comes side shape depth fails (m x) (n (shape.over side.raise side.more x t)) (h.goes x t i) }

    pub from_body : {m : Change X A} {n : Change Y A} (depth d : ℕ) → Together (level side (depth + 1)) shape m n → Together (level side d) shape m n
    from_body depth d h = at_level d (in_body (depth + 1) (no_module depth) h)

    -- in the same profile nothing is passed over on one side alone
    pub in_one_profile : {m : Change X A} {n : Change Y A} (depth : ℕ) (same : (p : Profile) → side.raise.0 p ≡ p) (unpassed : (e : Refusal) → is_passable e ≡ true → side.Ends e → ⊥) → side.passes ≡ inl (same, unpassed) → Together (level side depth) shape m n → Together side shape m n
    in_one_profile {m = m} {n = n} depth same unpassed is h = record { left_parted = h.left_parted; right_parted = h.right_parted; goes = λ x t i. alike_comes side shape depth same unpassed is (m x) (n (shape.over side.raise side.more x t)) (h.goes x t i) }

pub one_profile : {S T X Y A : Type 0} {accesses : Accesses S} {accesses2 : Accesses T} {shape : Shape S T X Y} {m : Change X A} {n : Change Y A} (beside : SideBySide accesses accesses2) (depth : ℕ) → Together (level (alike beside) depth) shape m n → Together (alike beside) shape m n
one_profile beside depth h = in_one_profile (alike beside) depth (λ p. refl) (λ e holds k. k) refl h
