-- The way up from a node passes the segments of its path, the last one first.
use Rattle.std.proofs.Common.{◌≡◌, ℕ, ◌+◌, ◌-◌, ◌<◌, ◌≤◌, List, [], ◌∷◌, ◌++◌, length, drop, get_or, Some, Bool, true, false, not, ◌&&◌, nat_eq, refl, ap, sym, ◌∙◌, arith, append_assoc}
use Rattle.std.proofs.lemmas.List.{drop_more}
use Rattle.std.proofs.lemmas.Bool.{eqb-true}
use Rattle.std.specs.Cmp.Lexicographic.{pointwise}
use Rattle.aml_path.specs.declared.segment.Seg.{Seg}
use Rattle.aml_path.proofs.Segments.{same_seg}
use Rattle.aml_namespace.specs.Namespace.{Map, numbered}
use Rattle.aml_namespace.specs.Search.{Found, IsParent}

first_true : (a b : Bool) → (a && b) ≡ true → a ≡ true
first_true true b h = refl
first_true false b h = h

second_true : (a b : Bool) → (a && b) ≡ true → b ≡ true
second_true true b h = h
second_true false b h = absurd (cc h)

numbers_same : (xs ys : List ℕ) → pointwise nat_eq xs ys ≡ true → xs ≡ ys
numbers_same [] [] h = refl
numbers_same [] (y ∷ ys) h = absurd (cc h)
numbers_same (x ∷ xs) [] h = absurd (cc h)
numbers_same (x ∷ xs) (y ∷ ys) h =
    let head : x ≡ y = eqb-true x y (first_true _ _ h) in
    let tail : xs ≡ ys = numbers_same xs ys (second_true _ _ h) in
    cc (head, tail)

-- segments that compare as equal are one
pub equal_segments : (s t : Seg) → true ≡ pointwise nat_eq s.bytes t.bytes → s ≡ t
equal_segments s t is = same_seg s t (numbers_same _ _ (sym is))

segments_same : (s t : Seg) → false ≡ not (pointwise nat_eq s.bytes t.bytes) → s ≡ t
segments_same s t h = same_seg s t (numbers_same _ _ (by _ h))
  where
    by : (b : Bool) → false ≡ not b → b ≡ true
    by true h = refl
    by false h = absurd (cc h)

-- one level up, the segment in between stands before those that were passed
pub passed : (m : Map) (path : List Seg) (g : Found) (n : ℕ) (s d : Seg) (segments : List Seg) (depth : ℕ) → 0 < depth → depth ≤ length segments
    → d ≡ get_or segments (depth - 1) d → false ≡ not (pointwise nat_eq d.bytes s.bytes) → path ≡ g.0 ++ drop depth segments → IsParent m g.0 n s
    → (f : Found) × (numbered n m ≡ Some f) × (path ≡ f.0 ++ drop (depth - 1) segments)
passed m path g n s d segments depth some within at same is up =
    let next : depth - 1 + 1 ≡ depth = omega (arith, some) in
    let here : get_or segments (depth - 1) d ≡ s = sym at ∙ segments_same d s same in
    let rest : drop (depth - 1) segments ≡ s ∷ drop depth segments = drop_more segments (depth - 1) d (omega (arith, some, within)) ∙ ap (λ x. x ∷ drop (depth - 1 + 1) segments) here ∙ ap (λ k. s ∷ drop k segments) next in
    (up.above, up.stands, is ∙ ap (λ p. p ++ drop depth segments) up.ends ∙ append_assoc up.above.0 (s ∷ []) (drop depth segments) ∙ ap (λ x. up.above.0 ++ x) (sym rest))
