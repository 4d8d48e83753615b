-- The index's order: only equal keys tie.
use Rattle.std.proofs.Common.{◌≡◌, ℕ, ◌≤◌, Bool, true, false, List, [], ◌∷◌, inl, inr, refl, ap, sym, ◌∙◌, rules, arith}
use Rattle.std.specs.Prelude.{◌&&◌}
use Rattle.std.proofs.lemmas.Bool.{cases_lt}
use Rattle.std.proofs.lemmas.Bool.Decides.{nat_tests}
use Rattle.std.proofs.lemmas.Map.Keys.{le_from_not_gt}
use Rattle.std.specs.Cmp.Lexicographic.{slice_cmp}
use Rattle.aml_path.specs.Characters.{is_segment, is_lead_name_char, is_name_char}
use Rattle.std.specs.declared.cmp.Ordering.{Ordering}
use Rattle.std.specs.declared.cmp.Ordering.TheVariants.{Less, Equal, Greater}
use Rattle.std.specs.Ordering.{nat_cmp, eq_by_cmp, is_eq, is_gt, ordering_then}
use Rattle.std.specs.Cmp.{IsTotalOrder, nat_cmp_is, eq_by_cmp_equiv, nat_cmp_total, then_total, on_total}
use Rattle.std.specs.Cmp.Rules.{comparing}
use Rattle.std.specs.FinMap.{nat_cmp-IsAntisymmetric}
use Rattle.aml_path.specs.declared.segment.Seg.{Seg}
use Rattle.aml_path.specs.Segments.{seg_cmp}
use Rattle.aml_path.proofs.Segments.{seg_cmp_exact}
use Rattle.aml_namespace.specs.Tree.{index_cmp}

pub seg_total : IsTotalOrder seg_cmp
seg_total = search (comparing, rules) depth 9

pub index_total : IsTotalOrder index_cmp
index_total = then_total (on_total (λ (t : ℕ × Seg). t.0) nat_cmp_total) (on_total (λ (t : ℕ × Seg). t.1) seg_total)

both_equal : (a b : Ordering) → is_eq (ordering_then a b) ≡ true → (a ≡ Equal) × (b ≡ Equal)
both_equal Less b is = absurd (cc is)
both_equal Equal Less is = absurd (cc is)
both_equal Equal Equal is = (refl, refl)
both_equal Equal Greater is = absurd (cc is)
both_equal Greater b is = absurd (cc is)

pub same_key : (p q : ℕ) (s t : Seg) → eq_by_cmp index_cmp (p, s) (q, t) ≡ true → (p ≡ q) × (s ≡ t)
same_key p q s t is = let e = both_equal (nat_cmp p q) (seg_cmp s t) is in (nat_cmp-IsAntisymmetric p q e.0, seg_cmp_exact s t e.1)

pub key_itself : (p : ℕ) (s : Seg) → eq_by_cmp index_cmp (p, s) (p, s) ≡ true
key_itself p s = (eq_by_cmp_equiv index_total).refl (p, s)

-- ---- the least segment, before the children of a node

not_above : (x y : ℕ) → x ≤ y → is_gt (nat_cmp x y) ≡ false
not_above x y le = elim (cases_lt x y) [
  | inl lt ↦ ap is_gt (sym (nat_cmp_is x y Less lt))
  | inr ge ↦ ap is_gt (sym (nat_cmp_is x y Equal (omega (arith, le, ge))))
]

then_not : (r t : Ordering) → is_gt r ≡ false → is_gt t ≡ false → is_gt (ordering_then r t) ≡ false
then_not Less t h i = refl
then_not Equal t h i = i
then_not Greater t h i = h

first_not : (r t : Ordering) → is_gt (ordering_then r t) ≡ false → is_gt r ≡ false
first_not Less t h = refl
first_not Equal t h = refl
first_not Greater t h = h

both : (a b : Bool) → (a && b) ≡ true → (a ≡ true) × (b ≡ true)
both true true is = (is, is)
both true false is = absurd (cc is)
both false b is = absurd (cc is)

lead_from : (a : ℕ) → is_lead_name_char a ≡ true → 65 ≤ a
lead_from a is = grind (arith, nat_tests)

name_from : (a : ℕ) → is_name_char a ≡ true → 48 ≤ a
name_from a is = grind (arith, nat_tests)

least_bytes : (bs : List ℕ) → is_segment bs ≡ true → is_gt (slice_cmp nat_cmp (65 ∷ 48 ∷ 48 ∷ 48 ∷ []) bs) ≡ false
least_bytes [] is = absurd (cc is)
least_bytes (a ∷ []) is = absurd (cc is)
least_bytes (a ∷ b ∷ []) is = absurd (cc is)
least_bytes (a ∷ b ∷ c ∷ []) is = absurd (cc is)
least_bytes (a ∷ b ∷ c ∷ d ∷ []) is =
    let last = both (is_lead_name_char a && is_name_char b && is_name_char c) (is_name_char d) is in
    let third = both (is_lead_name_char a && is_name_char b) (is_name_char c) last.0 in
    let front = both (is_lead_name_char a) (is_name_char b) third.0 in
    then_not _ _ (not_above 65 a (lead_from a front.0)) (then_not _ _ (not_above 48 b (name_from b front.1)) (then_not _ _ (not_above 48 c (name_from c third.1)) (then_not _ _ (not_above 48 d (name_from d last.1)) refl)))
least_bytes (a ∷ b ∷ c ∷ d ∷ e ∷ bs) is = absurd (cc is)

module _ (p : ℕ) (low : Seg) (least : low.bytes ≡ 65 ∷ 48 ∷ 48 ∷ 48 ∷ []) where
  least_is : (s : Seg) → is_gt (seg_cmp low s) ≡ false
  least_is s = ap (λ (bs : List ℕ). is_gt (slice_cmp nat_cmp bs s.bytes)) least ∙ least_bytes s.bytes s.valid

  pub from_least : (s : Seg) → is_gt (index_cmp (p, low) (p, s)) ≡ false
  from_least s = then_not (nat_cmp p p) (seg_cmp low s) (not_above p p (omega arith)) (least_is s)

  -- an entry from there on that is no later than a child is one of this parent
  pub same_parent : (k : ℕ × Seg) (s : Seg) → is_gt (index_cmp (p, low) k) ≡ false → is_gt (index_cmp k (p, s)) ≡ false → k.0 ≡ p
  same_parent k s from to =
      let up : p ≤ k.0 = le_from_not_gt p k.0 (first_not (nat_cmp p k.0) (seg_cmp low k.1) from) in
      let down : k.0 ≤ p = le_from_not_gt k.0 p (first_not (nat_cmp k.0 p) (seg_cmp k.1 s) to) in
      omega (arith, up, down)

  pub from_least_later : (k : ℕ × Seg) → p ≤ k.0 → is_gt (index_cmp (p, low) k) ≡ false
  from_least_later k le = then_not (nat_cmp p k.0) (seg_cmp low k.1) (not_above p k.0 le) (least_is k.1)
