-- Parts that are made of others: a fault of one of these, where it is wanted, is a fault of the whole.
use Rattle.std.proofs.Common.{◌≡◌, ℕ, ◌+◌, List, [], ◌∷◌, ◌++◌, length, Bool, true, refl, subst, ◌∙◌, sym, ap, append_assoc}
use Rattle.ar_space.specs.declared.refusal.Refusal.{Refusal}
use Rattle.ar_space.specs.declared.refusal.Refusal.TheVariants as refusals
use Rattle.ar_space.specs.declared.refusal.NameFault.TheVariants.{BadName}
use Rattle.ar_space.specs.declared.refusal.TermFault.TheVariants.{Truncated}
use Rattle.aml_spelling.specs.Faults.{Sort, Spot, Short, Starts, Wrong, AtPart}
use Rattle.aml_spelling.proofs.FaultSorts.{Apart, two_fronts, wrong_front}

-- one after the other
abbrev pub Then : Sort → Sort → Sort
Then P Q spelling = (f : List ℕ) × (g : List ℕ) × (spelling ≡ f ++ g) × P f × Q g

-- one byte that passes a test
abbrev pub Byte : (ℕ → Bool) → Sort
Byte test spelling = (b : ℕ) × (spelling ≡ b ∷ []) × (test b ≡ true)

-- ---- none is the beginning of another one

two_bytes : (c b d : ℕ) (more : List ℕ) → c ∷ b ∷ more ≡ d ∷ [] → ⊥
two_bytes c b d more e = let f : b ∷ more ≡ [] = cc e in cc f

pub byte_apart : (test : ℕ → Bool) → Apart (Byte test)
byte_apart test front b more h i = two_bytes h.0 b i.0 more (sym (ap (λ (l : List ℕ). l ++ b ∷ more) h.1) ∙ i.1)

no_head : (c : ℕ) (l : List ℕ) → c ∷ l ≡ [] → ⊥
no_head c l e = cc e

heads : (c d : ℕ) (k l : List ℕ) → c ∷ k ≡ d ∷ l → (c ≡ d) × (k ≡ l)
heads c d k l e = (cc e, cc e)

-- two such parts at one place are one
pub one_front : (P : Sort) → Apart P → (p f q x : List ℕ) → P p → P f → p ++ q ≡ f ++ x → (p ≡ f) × (q ≡ x)
one_front P apart [] [] q x h i e = (refl, e)
one_front P apart [] (d ∷ f) q x h i e = absurd (apart [] d f h i)
one_front P apart (c ∷ p) [] q x h i e = absurd (apart [] c p i h)
one_front P apart (c ∷ p) (d ∷ f) q x h i e =
    let k = heads c d (p ++ q) (f ++ x) e in
    let j = one_front (λ (l : List ℕ). P (c ∷ l)) (λ front b more. apart (c ∷ front) b more) p f q x h (subst (λ (a : ℕ). P (a ∷ f)) (sym k.0) i) k.1 in
    (rw (k.0, j.0) refl, j.1)

pub then_apart : (P Q : Sort) → Apart P → Apart Q → Apart (Then P Q)
then_apart P Q one two front b more h i =
    let k = one_front P one h.0 i.0 (h.1 ++ b ∷ more) i.1 h.3 i.3 (sym (append_assoc h.0 h.1 (b ∷ more)) ∙ sym (ap (λ (l : List ℕ). l ++ b ∷ more) h.2) ∙ i.2) in
    two h.1 b more h.4 (subst (λ (l : List ℕ). Q l) (sym k.1) i.4)

-- ---- the fault of the first one

short_first : (P Q : Sort) (q l : List ℕ) → Q q → Short P l → Short (Then P Q) l
short_first P Q q l h s = (s.0, s.1 ++ q, (l ++ s.0 ∷ s.1, q, sym (append_assoc l (s.0 ∷ s.1) q), s.2, h))

wrong_first : (P Q : Sort) → Apart P → (q l : List ℕ) → Q q → Wrong P l → Wrong (Then P Q) l
wrong_first P Q apart q l h w = (
  w.0,
  w.1,
  w.2,
  w.3,
  short_first P Q q w.0 h w.4,
  λ starts.
      let t = starts.1 in
      wrong_front P apart t.0 w.0 w.1 t.3 w.4 w.5 (two_fronts t.0 w.0 w.1 t.1 starts.0 (sym t.2 ∙ append_assoc w.0 (w.1 ∷ []) starts.0)),
)

-- ---- the fault of the next one

short_next : (P Q : Sort) (f g : List ℕ) → P f → Short Q g → Short (Then P Q) (f ++ g)
short_next P Q f g h s = (s.0, s.1, (f, g ++ s.0 ∷ s.1, append_assoc f g (s.0 ∷ s.1), h, s.2))

wrong_next : (P Q : Sort) → Apart P → (f g : List ℕ) → P f → Wrong Q g → Wrong (Then P Q) (f ++ g)
wrong_next P Q apart f g h w = (
  f ++ w.0,
  w.1,
  w.2,
  ap (λ (l : List ℕ). f ++ l) w.3 ∙ sym (append_assoc f w.0 (w.1 ∷ w.2)),
  short_next P Q f w.0 h w.4,
  λ starts.
      let t = starts.1 in
      let whole : ((f ++ w.0) ++ w.1 ∷ []) ++ starts.0 ≡ f ++ ((w.0 ++ w.1 ∷ []) ++ starts.0) =
      ap (λ (l : List ℕ). l ++ starts.0) (append_assoc f w.0 (w.1 ∷ [])) ∙ append_assoc f (w.0 ++ w.1 ∷ []) starts.0 in
      let k = one_front P apart t.0 f t.1 ((w.0 ++ w.1 ∷ []) ++ starts.0) t.3 h (sym t.2 ∙ whole) in
      w.5 (starts.0, subst (λ (l : List ℕ). Q l) k.1 t.4),
)

-- ---- a fault of one part that is one of another

-- where a list ends
abbrev pub end_of : Spot → ℕ
end_of spot = spot.at + length spot.rest

pub lifted : (P Q : Sort) (spot next : Spot) → (Short P next.rest → Short Q spot.rest) → (Wrong P next.rest → Wrong Q spot.rest) → end_of next ≡ end_of spot → (r : Refusal) → AtPart P next r → AtPart Q spot r
lifted P Q spot next short wrong ends (refusals.Term Truncated offset) h = (short h.0, h.1 ∙ ends)
lifted P Q spot next short wrong ends (refusals.Name BadName) h = wrong h
lifted P Q spot next short wrong ends r h = absurd h

pub at_first : (P Q : Sort) → Apart P → (q : List ℕ) → Q q → (spot : Spot) (r : Refusal) → AtPart P spot r → AtPart (Then P Q) spot r
at_first P Q apart q h spot r = lifted P (Then P Q) spot spot (short_first P Q q spot.rest h) (wrong_first P Q apart q spot.rest h) refl r

pub at_next : (P Q : Sort) → Apart P → (f : List ℕ) → P f → (spot next : Spot) → spot.rest ≡ f ++ next.rest → end_of next ≡ end_of spot → (r : Refusal) → AtPart Q next r → AtPart (Then P Q) spot r
at_next P Q apart f h spot next is ends r = lifted Q (Then P Q) spot next (λ s. subst (λ (l : List ℕ). Short (Then P Q) l) (sym is) (short_next P Q f next.rest h s))
    (λ w. subst (λ (l : List ℕ). Wrong (Then P Q) l) (sym is) (wrong_next P Q apart f next.rest h w)) ends r

-- behind bytes that all parts of a sort begin with
behind_short : (Q : Sort) (f g : List ℕ) → Short (λ (l : List ℕ). Q (f ++ l)) g → Short Q (f ++ g)
behind_short Q f g s = (s.0, s.1, subst (λ (l : List ℕ). Q l) (sym (append_assoc f g (s.0 ∷ s.1))) s.2)

behind_wrong : (Q : Sort) (f g : List ℕ) → Wrong (λ (l : List ℕ). Q (f ++ l)) g → Wrong Q (f ++ g)
behind_wrong Q f g w = (
  f ++ w.0,
  w.1,
  w.2,
  ap (λ (l : List ℕ). f ++ l) w.3 ∙ sym (append_assoc f w.0 (w.1 ∷ w.2)),
  behind_short Q f w.0 w.4,
  λ starts.
      w.5 (starts.0, subst (λ (l : List ℕ). Q l) (ap (λ (l : List ℕ). l ++ starts.0) (append_assoc f w.0 (w.1 ∷ [])) ∙ append_assoc f (w.0 ++ w.1 ∷ []) starts.0) starts.1),
)

pub at_behind : (Q : Sort) (f : List ℕ) (spot next : Spot) → spot.rest ≡ f ++ next.rest → end_of next ≡ end_of spot → (r : Refusal) → AtPart (λ (l : List ℕ). Q (f ++ l)) next r → AtPart Q spot r
at_behind Q f spot next is ends r = lifted (λ (l : List ℕ). Q (f ++ l)) Q spot next (λ s. subst (λ (l : List ℕ). Short Q l) (sym is) (behind_short Q f next.rest s))
    (λ w. subst (λ (l : List ℕ). Wrong Q l) (sym is) (behind_wrong Q f next.rest w)) ends r

-- two sorts that are the same where they begin with this byte
module _ (P Q : Sort) (b : ℕ) (to : (l : List ℕ) → P (b ∷ l) → Q (b ∷ l)) (back : (l : List ℕ) → Q (b ∷ l) → P (b ∷ l)) (none : Short Q []) where
  like_wrong : (front : List ℕ) (c : ℕ) (bs left : List ℕ) → b ∷ bs ≡ front ++ c ∷ left → Short P front → (Starts P (front ++ c ∷ []) → ⊥) → Wrong Q (b ∷ bs)
  like_wrong [] c bs left is s never =
      let k = heads b c bs left is in
      ([], c, left, is, none, λ starts. never (starts.0, subst (λ (d : ℕ). P (d ∷ starts.0)) k.0 (back starts.0 (subst (λ (d : ℕ). Q (d ∷ starts.0)) (sym k.0) starts.1))))
  like_wrong (d ∷ front) c bs left is s never =
      let k = heads b d bs (front ++ c ∷ left) is in (
        d ∷ front,
        c,
        left,
        is,
        (s.0, s.1, subst (λ (e : ℕ). Q (e ∷ (front ++ s.0 ∷ s.1))) k.0 (to (front ++ s.0 ∷ s.1) (subst (λ (e : ℕ). P (e ∷ (front ++ s.0 ∷ s.1))) (sym k.0) s.2))),
        λ starts. never (starts.0, subst (λ (e : ℕ). P (e ∷ ((front ++ c ∷ []) ++ starts.0))) k.0 (back ((front ++ c ∷ []) ++ starts.0) (subst (λ (e : ℕ). Q (e ∷ ((front ++ c ∷ []) ++ starts.0))) (sym k.0) starts.1))),
      )

  pub at_like : (spot : Spot) (bs : List ℕ) → spot.rest ≡ b ∷ bs → (r : Refusal) → AtPart P spot r → AtPart Q spot r
  at_like spot bs is r = lifted P Q spot spot
      (λ s. subst (λ (l : List ℕ). Short Q l) (sym is) (let t = subst (λ (l : List ℕ). Short P l) is s in (t.0, t.1, to (bs ++ t.0 ∷ t.1) t.2)))
      (λ w. subst (λ (l : List ℕ). Wrong Q l) (sym is) (like_wrong w.0 w.1 bs w.2 (sym is ∙ w.3) w.4 w.5)) refl r
