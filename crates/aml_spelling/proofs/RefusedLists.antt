-- A fault behind items that pass is what reading the list refuses.
use Rattle.std.proofs.Common.{◌≡◌, ℕ, zero, suc, ◌+◌, ◌<◌, ◌≤◌, List, [], ◌∷◌, ◌++◌, length, Bool, true, false, refl, subst, ◌∙◌, sym, ap, append_assoc, length-append, arith}
use Rattle.std.specs.Prelude.{◌==◌}
use Rattle.std.proofs.lemmas.Bool.{eqb-true}
use Rattle.ar_space.specs.declared.refusal.Refusal.{Refusal}
use Rattle.aml_path.specs.declared.segment.Seg.{Seg}
use Rattle.aml_arities.specs.declared.arities.Arity.{Arity}
use Rattle.aml_grammar.specs.State.{State, Step, until_of, until_end, is_next}
use Rattle.aml_grammar.specs.Tree.{Tree, Trees, no_trees, tree}
use Rattle.aml_scan.specs.Spelling.{Begins, Around, Place, Spells, SpellsAll}
use Rattle.aml_spelling.specs.Stands.{Stands, StandAll}
use Rattle.aml_spelling.specs.Faults.{Spot, behind, lacks_else, ends_with_if, Passes}
use Rattle.aml_spelling.proofs.Ends.{Ends}
use Rattle.aml_spelling.proofs.FaultLists.{spot_of}
use Rattle.aml_spelling.proofs.FaultTerms.{same_spot}
use Rattle.aml_spelling.proofs.Gets.{Gets}
use Rattle.aml_spelling.proofs.Refused.{Refused, refused_first, refused_next, refused_as}

at_here : (n : ℕ) → n + 0 ≡ n
at_here n = omega arith

moved_by : (a b c d e : ℕ) → b ≡ c + d → e + d ≡ a + b → e ≡ a + c
moved_by a b c d e f g = omega (arith, f, g)

not_next : (bs : List ℕ) → (Begins 0xA1 0xA1 bs → ⊥) → is_next 0xA1 bs ≡ false
not_next [] h = refl
not_next (b ∷ bs) h = by_first (b == 0xA1) refl
  where
    by_first : (c : Bool) → (b == 0xA1) ≡ c → (b == 0xA1) ≡ false
    by_first true e = let same : b ≡ 0xA1 = eqb-true b 0xA1 e in absurd (h (omega (arith, same), omega (arith, same)))
    by_first false e = e

first_byte : (l : List ℕ) → 0 < length l → (b : ℕ) × (bs : List ℕ) × (l ≡ b ∷ bs)
first_byte [] some = absurd (omega (arith, some))
first_byte (b ∷ bs) some = (b, bs, refl)

-- where reading stands behind a part
pub moved_at : {A : Type 0} {m : Step A} {s : State} {a : A} {rest : List ℕ} {known : List Arity} (front : List ℕ) → ((t : State) → Ends m t) → s.rest ≡ front ++ rest → (g : Gets m s a rest known) → g.after.at ≡ s.at + length front
moved_at {s = s} {a = a} {rest = rest} front ends is g =
    let n : length s.rest ≡ length front + length rest = ap (λ (l : List ℕ). length l) is ∙ length-append front rest in
    let e : g.after.at + length g.after.rest ≡ s.at + length s.rest = (ends s).is a g.after g.is in
    let k : length g.after.rest ≡ length rest = ap (λ (l : List ℕ). length l) g.left in
    omega (arith, n, e, k)

module _ (levels : ℕ) (scope : List Seg) (around : Around) (item : ℕ) (place : Place) (m : Step Tree) (F : Spot → Refusal → Type 0)
    (gets : (t : Tree) (front rest : List ℕ) (known after : List Arity) (s : State) → Spells around place t front → Stands levels scope around place t known after → (lacks_else t ≡ true → is_next 0xA1 rest ≡ false) → s.rest ≡ front ++ rest → s.arities ≡ known → Gets m s t rest after)
    (some : (t : Tree) (front : List ℕ) → Spells around place t front → 0 < length front)
    (apart : (t u : Tree) (front next rest : List ℕ) → Spells around place t front → lacks_else t ≡ true → Spells around place u next → is_next 0xA1 (next ++ rest) ≡ false)
    (ends : (s : State) → Ends m s)
    (refuses : (s : State) (r : Refusal) → F (spot_of levels scope around item s) r → Refused m s r) where
  spot_at : State → Spot
  spot_at s = spot_of levels scope around item s

  -- what follows an item that passes
  follows : (t : Tree) (ts : Trees) (front f g back : List ℕ) → Spells around place t f → SpellsAll around place ts g → (ends_with_if (tree t ts) ≡ true → Begins 0xA1 0xA1 back → ⊥) → lacks_else t ≡ true → is_next 0xA1 (g ++ back) ≡ false
  unfolding Spells
  follows t no_trees front f g back spelled rest alone lacks = ap (λ (l : List ℕ). is_next 0xA1 (l ++ back)) rest ∙ not_next back (alone lacks)
  follows t (tree u us) front f g back spelled rest alone lacks = ap (λ (l : List ℕ). is_next 0xA1 (l ++ back)) rest.2 ∙ ap (λ (l : List ℕ). is_next 0xA1 l) (append_assoc rest.0 rest.1 back) ∙ apart t u f rest.0 (rest.1 ++ back) spelled lacks rest.3

  last_of : (t : Tree) (ts : Trees) (back : List ℕ) → (ends_with_if (tree t ts) ≡ true → Begins 0xA1 0xA1 back → ⊥) → ends_with_if ts ≡ true → Begins 0xA1 0xA1 back → ⊥
  last_of t no_trees back alone e begins = cc e
  last_of t (tree u us) back alone e begins = alone e begins

  refused_here : (n : ℕ) (s : State) (r : Refusal) (next : Spot) → Passes (spot_of levels scope around item s) place no_trees next → F next r → Refused (until_end m (suc n)) s r
  unfolding until_end Spells Stands
  refused_here n s r next p f =
      let whole : s.rest ≡ p.1 = p.3 ∙ ap (λ (l : List ℕ). l ++ p.1) p.5 in
      let k = first_byte p.1 p.4 in
      let front : length p.0 ≡ 0 = ap (λ (l : List ℕ). length l) p.5 in
      let same : next ≡ spot_of levels scope around item s = p.7 ∙ same_spot levels scope around (s.at + length p.0) s.at p.1 s.rest p.2 s.arities item item (omega (arith, front)) (sym whole) p.6 refl in
      refused_as {n = until_of m (until_end m n) (k.0 ∷ k.1)} (ap (λ (l : List ℕ). until_of m (until_end m n) l s) (whole ∙ k.2)) (refused_first _ (refuses s r (subst (λ (spot : Spot). F spot r) same f)))

  pub until_refused : (n : ℕ) (ts : Trees) (s : State) (r : Refusal) (next : Spot) → length s.rest ≤ n → Passes (spot_of levels scope around item s) place ts next → F next r → Refused (until_end m n) s r
  unfolding until_end Spells Stands
  until_refused zero ts s r next le p f =
      let k : length s.rest ≡ length p.0 + length p.1 = ap (λ (l : List ℕ). length l) p.3 ∙ length-append p.0 p.1 in
      absurd (omega (arith, k, le, p.4))
  until_refused (suc n) no_trees s r next le p f = refused_here n s r next p f
  until_refused (suc n) (tree t ts) s r next le p f =
      let a = p.5 in
      let b = p.6 in
      let whole : s.rest ≡ a.0 ++ (a.1 ++ p.1) = p.3 ∙ ap (λ (l : List ℕ). l ++ p.1) a.2 ∙ append_assoc a.0 a.1 p.1 in
      let g = gets t a.0 (a.1 ++ p.1) s.arities b.0 s a.3 b.1 (follows t ts p.0 a.0 a.1 p.1 a.3 a.4 p.8) whole refl in
      let there : g.after.at ≡ s.at + length a.0 = moved_at a.0 ends whole g in
      let len : length p.0 ≡ length a.0 + length a.1 = ap (λ (l : List ℕ). length l) a.2 ∙ length-append a.0 a.1 in
      let long : length s.rest ≡ length a.0 + length (a.1 ++ p.1) = ap (λ (l : List ℕ). length l) whole ∙ length-append a.0 (a.1 ++ p.1) in
      let size : length g.after.rest ≡ length (a.1 ++ p.1) = ap (λ (l : List ℕ). length l) g.left in
      let on : next ≡ behind a.1 p.1 p.2 (spot_of levels scope around item g.after) = p.7 ∙ same_spot levels scope around (s.at + length p.0) (g.after.at + length a.1) p.1 p.1 p.2 p.2 item item (omega (arith, there, len)) refl refl refl in
      let passes : Passes (spot_of levels scope around item g.after) place ts next =
      (a.1, p.1, p.2, g.left, p.4, a.4, subst (λ (known : List Arity). StandAll levels scope around place ts known p.2) (sym g.knows) b.2, on, last_of t ts p.1 p.8) in
      let k = first_byte s.rest (omega (arith, long, some t a.0 a.3)) in
      refused_as {n = until_of m (until_end m n) (k.0 ∷ k.1)} (ap (λ (l : List ℕ). until_of m (until_end m n) l s) k.2)
      (refused_next _ _ g.is (refused_first _ (until_refused n ts g.after r next (omega (arith, le, long, size, some t a.0 a.3)) passes f)))
