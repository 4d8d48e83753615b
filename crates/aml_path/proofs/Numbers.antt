-- The numbers that four bytes make are ordered as the bytes are.
use Rattle.std.proofs.Common.{◌≡◌, ℕ, ◌+◌, ◌*◌, ◌<◌, List, [], ◌∷◌, true, sym, arith}
use Rattle.std.specs.Prelude.{◌==◌, nat_eq}
use Rattle.std.specs.declared.cmp.Ordering.{Ordering}
use Rattle.std.specs.declared.cmp.Ordering.TheVariants.{Less, Equal, Greater}
use Rattle.std.specs.Ordering.{MatchOrdering, nat_cmp, ordering_then}
use Rattle.std.specs.Cmp.{nat_cmp_is, ranks}
use Rattle.std.specs.Cmp.Lexicographic.{slice_cmp, pointwise}
use Rattle.std.specs.Int.{from_be_bytes, w32}
use Rattle.std.proofs.lemmas.Bool.Decides.{nat_tests}
use Rattle.aml_path.specs.Characters.{is_segment}
use Rattle.aml_path.proofs.Ascii.{segment_small}

-- four digits in base 256, the first highest
abbrev four : ℕ → ℕ → ℕ → ℕ → ℕ
four a b c d = a * 16777216 + b * 65536 + c * 256 + d

module _ (a b c d e f g h : ℕ) (lb : b < 256) (lc : c < 256) (ld : d < 256) (lf : f < 256) (lg : g < 256) (lh : h < 256) where
  abbrev Stand : Ordering → Type 0
  Stand r = MatchOrdering r (four a b c d < four e f g h) (four a b c d ≡ four e f g h) (four e f g h < four a b c d)

  by_fourth : (r : Ordering) → a ≡ e → b ≡ f → c ≡ g → MatchOrdering r (d < h) (d ≡ h) (h < d) → Stand (ordering_then r Equal)
  by_fourth Less one two three is = omega arith
  by_fourth Equal one two three is = omega arith
  by_fourth Greater one two three is = omega arith

  by_third : (r : Ordering) → a ≡ e → b ≡ f → MatchOrdering r (c < g) (c ≡ g) (g < c) → Stand (ordering_then r (ordering_then (nat_cmp d h) Equal))
  by_third Less one two is = omega arith
  by_third Equal one two is = by_fourth (nat_cmp d h) one two is (ranks d h)
  by_third Greater one two is = omega arith

  by_second : (r : Ordering) → a ≡ e → MatchOrdering r (b < f) (b ≡ f) (f < b) → Stand (ordering_then r (ordering_then (nat_cmp c g) (ordering_then (nat_cmp d h) Equal)))
  by_second Less one is = omega arith
  by_second Equal one is = by_third (nat_cmp c g) one is (ranks c g)
  by_second Greater one is = omega arith

  by_first : (r : Ordering) → MatchOrdering r (a < e) (a ≡ e) (e < a) → Stand (ordering_then r (ordering_then (nat_cmp b f) (ordering_then (nat_cmp c g) (ordering_then (nat_cmp d h) Equal))))
  by_first Less is = omega arith
  by_first Equal is = by_second (nat_cmp b f) is (ranks b f)
  by_first Greater is = omega arith

  ordered : slice_cmp nat_cmp (a ∷ b ∷ c ∷ d ∷ []) (e ∷ f ∷ g ∷ h ∷ []) ≡ nat_cmp (four a b c d) (four e f g h)
  ordered = nat_cmp_is (four a b c d) (four e f g h) _ (by_first (nat_cmp a e) (ranks a e))

  same : (four a b c d == four e f g h) ≡ pointwise nat_eq (a ∷ b ∷ c ∷ d ∷ []) (e ∷ f ∷ g ∷ h ∷ [])
  same = grind (arith, nat_tests)

pub number_order : (p q : List ℕ) → is_segment p ≡ true → is_segment q ≡ true → nat_cmp (from_be_bytes w32 p) (from_be_bytes w32 q) ≡ slice_cmp nat_cmp p q
number_order (a ∷ b ∷ c ∷ d ∷ []) (e ∷ f ∷ g ∷ h ∷ []) is so =
    let x = segment_small (a ∷ b ∷ c ∷ d ∷ []) is in
    let y = segment_small (e ∷ f ∷ g ∷ h ∷ []) so in
    sym (ordered a b c d e f g h (omega (arith, x 1)) (omega (arith, x 2)) (omega (arith, x 3)) (omega (arith, y 1)) (omega (arith, y 2)) (omega (arith, y 3)))
number_order (a ∷ b ∷ c ∷ d ∷ []) q is so = absurd (cc so)
number_order p q is so = absurd (cc is)

pub number_same : (p q : List ℕ) → is_segment p ≡ true → is_segment q ≡ true → (from_be_bytes w32 p == from_be_bytes w32 q) ≡ pointwise nat_eq p q
number_same (a ∷ b ∷ c ∷ d ∷ []) (e ∷ f ∷ g ∷ h ∷ []) is so =
    let x = segment_small (a ∷ b ∷ c ∷ d ∷ []) is in
    let y = segment_small (e ∷ f ∷ g ∷ h ∷ []) so in
    same a b c d e f g h (omega (arith, x 1)) (omega (arith, x 2)) (omega (arith, x 3)) (omega (arith, y 1)) (omega (arith, y 2)) (omega (arith, y 3))
number_same (a ∷ b ∷ c ∷ d ∷ []) q is so = absurd (cc so)
number_same p q is so = absurd (cc is)
