-- Of a part at the front of some bytes one thing holds at most: it is there whole, or more bytes are needed, or a byte is wrong.
use Rattle.std.proofs.Common.{◌≡◌, ℕ, List, [], ◌∷◌, ◌++◌, refl, subst, ◌∙◌, sym, ap, inl, inr, append_assoc, append-nil}
use Rattle.std.specs.Prelude.{◌⊎◌}
use Rattle.aml_spelling.specs.Faults.{Sort, Short, Starts, Wrong}

-- none is the beginning of another one
abbrev pub Apart : Sort → Type 0
Apart Is = (front : List ℕ) (b : ℕ) (more : List ℕ) → Is front → Is (front ++ b ∷ more) → ⊥

-- it stands whole at the front
abbrev pub Whole : Sort → List ℕ → Type 0
Whole Is bytes = (front : List ℕ) × (back : List ℕ) × (bytes ≡ front ++ back) × Is front

one_then : (front : List ℕ) (b : ℕ) (back more : List ℕ) → (front ++ b ∷ back) ++ more ≡ (front ++ b ∷ []) ++ (back ++ more)
one_then front b back more = append_assoc front (b ∷ back) more ∙ sym (append_assoc front (b ∷ []) (back ++ more))

pub short_not_wrong : (Is : Sort) (bytes : List ℕ) → Short Is bytes → Wrong Is bytes → ⊥
short_not_wrong Is bytes s w =
    let whole : Is ((w.0 ++ w.1 ∷ w.2) ++ s.0 ∷ s.1) = subst (λ (l : List ℕ). Is (l ++ s.0 ∷ s.1)) w.3 s.2 in
    w.5 (w.2 ++ s.0 ∷ s.1, subst (λ (l : List ℕ). Is l) (one_then w.0 w.1 w.2 (s.0 ∷ s.1)) whole)

longer : (Is : Sort) → Apart Is → (front back more : List ℕ) (b : ℕ) → Is front → Is ((front ++ back) ++ b ∷ more) → ⊥
longer Is apart front [] more b h i = apart front b more h (subst (λ (l : List ℕ). Is (l ++ b ∷ more)) (append-nil front) i)
longer Is apart front (c ∷ cs) more b h i = apart front c (cs ++ b ∷ more) h (subst (λ (l : List ℕ). Is l) (append_assoc front (c ∷ cs) (b ∷ more)) i)

pub whole_not_short : (Is : Sort) → Apart Is → (bytes : List ℕ) → Whole Is bytes → Short Is bytes → ⊥
whole_not_short Is apart bytes w s = longer Is apart w.0 w.1 s.1 s.0 w.3 (subst (λ (l : List ℕ). Is (l ++ s.0 ∷ s.1)) w.2 s.2)

head_of : (x y : ℕ) (xs ys : List ℕ) → x ∷ xs ≡ y ∷ ys → (x ≡ y) × (xs ≡ ys)
head_of x y xs ys e = (cc e, cc e)

both : (x y : ℕ) (f g : List ℕ) (b : ℕ) → x ≡ y → ((m : List ℕ) × (g ≡ f ++ m)) ⊎ ((m : List ℕ) × (f ≡ (g ++ b ∷ []) ++ m)) → ((m : List ℕ) × (y ∷ g ≡ (x ∷ f) ++ m)) ⊎ ((m : List ℕ) × (x ∷ f ≡ ((y ∷ g) ++ b ∷ []) ++ m))
both x y f g b e (inl h) = inl (h.0, rw e (ap (λ (l : List ℕ). y ∷ l) h.1))
both x y f g b e (inr h) = inr (h.0, rw e (ap (λ (l : List ℕ). y ∷ l) h.1))

-- of two fronts of the same bytes one is the beginning of the other
pub two_fronts : (f g : List ℕ) (b : ℕ) (fs gs : List ℕ) → f ++ fs ≡ g ++ b ∷ gs → ((m : List ℕ) × (g ≡ f ++ m)) ⊎ ((m : List ℕ) × (f ≡ (g ++ b ∷ []) ++ m))
two_fronts [] g b fs gs e = inl (g, refl)
two_fronts (x ∷ f) [] b fs gs e = let h = head_of x b (f ++ fs) gs e in inr (f, ap (λ (y : ℕ). y ∷ f) h.0)
two_fronts (x ∷ f) (y ∷ g) b fs gs e = let h = head_of x y (f ++ fs) (g ++ b ∷ gs) e in both x y f g b h.0 (two_fronts f g b fs gs h.1)

pub wrong_front : (Is : Sort) → Apart Is → (f g : List ℕ) (b : ℕ) → Is f → Short Is g → (Starts Is (g ++ b ∷ []) → ⊥) → ((m : List ℕ) × (g ≡ f ++ m)) ⊎ ((m : List ℕ) × (f ≡ (g ++ b ∷ []) ++ m)) → ⊥
wrong_front Is apart f g b h s n (inl x) = longer Is apart f x.0 s.1 s.0 h (subst (λ (l : List ℕ). Is (l ++ s.0 ∷ s.1)) x.1 s.2)
wrong_front Is apart f g b h s n (inr x) = n (x.0, subst (λ (l : List ℕ). Is l) x.1 h)

pub whole_not_wrong : (Is : Sort) → Apart Is → (bytes : List ℕ) → Whole Is bytes → Wrong Is bytes → ⊥
whole_not_wrong Is apart bytes w x = wrong_front Is apart w.0 x.0 x.1 w.3 x.4 x.5 (two_fronts w.0 x.0 x.1 w.1 x.2 (sym w.2 ∙ x.3))
