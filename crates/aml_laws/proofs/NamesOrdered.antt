-- The order of segments and of paths: the first place where they differ decides.
use Rattle.std.specs.Prelude.{◌≡◌, ◌<◌, ℕ, List, [], ◌∷◌, ◌++◌, refl}
use Rattle.std.proofs.Common.{sym}
use Rattle.std.specs.declared.cmp.Ordering.{Ordering}
use Rattle.std.specs.declared.cmp.Ordering.TheVariants.{Less, Equal, Greater}
use Rattle.std.specs.Ordering.{nat_cmp}
use Rattle.std.specs.Cmp.{nat_cmp_is}
use Rattle.std.specs.Cmp.Lexicographic.{slice_cmp}
use Rattle.aml_path.specs.declared.segment.Seg.{Seg}
use Rattle.aml_path.specs.Segments.{seg_cmp}
use Rattle.aml_path.specs.Paths.{path_cmp}

-- lists, by any order of what they hold

module _ {K : Type 0} (R : K → K → Ordering) (same : (x : K) → R x x ≡ Equal) where
  itself : (xs : List K) → slice_cmp R xs xs ≡ Equal
  itself [] = refl
  itself (x ∷ xs) = rw (same x) (itself xs)

  before : (front : List K) (x y : K) (xs ys : List K) → R x y ≡ Less → slice_cmp R (front ++ x ∷ xs) (front ++ y ∷ ys) ≡ Less
  before [] x y xs ys less = rw less refl
  before (f ∷ front) x y xs ys less = rw (same f) (before front x y xs ys less)

  behind : (front : List K) (x y : K) (xs ys : List K) → R x y ≡ Greater → slice_cmp R (front ++ x ∷ xs) (front ++ y ∷ ys) ≡ Greater
  behind [] x y xs ys greater = rw greater refl
  behind (f ∷ front) x y xs ys greater = rw (same f) (behind front x y xs ys greater)

  longer : (front : List K) (x : K) (xs : List K) → slice_cmp R (front ++ x ∷ xs) front ≡ Greater
  longer [] x xs = refl
  longer (f ∷ front) x xs = rw (same f) (longer front x xs)

-- segments

same_number : (n : ℕ) → nat_cmp n n ≡ Equal
same_number n = sym (nat_cmp_is n n Equal refl)

lower : (a b : ℕ) → a < b → nat_cmp a b ≡ Less
lower a b less = sym (nat_cmp_is a b Less less)

higher : (a b : ℕ) → a < b → nat_cmp b a ≡ Greater
higher a b less = sym (nat_cmp_is b a Greater less)

pub lower_character_first : (s t : Seg) (front xs ys : List ℕ) (a b : ℕ) → s.bytes ≡ front ++ a ∷ xs → t.bytes ≡ front ++ b ∷ ys → a < b
    → (seg_cmp s t ≡ Less) × (seg_cmp t s ≡ Greater)
lower_character_first s t front xs ys a b is so less =
    (rw (is, so) (before nat_cmp same_number front a b xs ys (lower a b less)), rw (is, so) (behind nat_cmp same_number front b a ys xs (higher a b less)))

pub same_characters : (s t : Seg) → s.bytes ≡ t.bytes → seg_cmp s t ≡ Equal
same_characters s t is = rw is (itself nat_cmp same_number t.bytes)

-- paths

same_segment : (s : Seg) → seg_cmp s s ≡ Equal
same_segment s = same_characters s s refl

pub earlier_segment_first : (front p q : List Seg) (s t : Seg) → seg_cmp s t ≡ Less → path_cmp (front ++ s ∷ p) (front ++ t ∷ q) ≡ Less
earlier_segment_first front p q s t less = before seg_cmp same_segment front s t p q less

pub later_segment_last : (front p q : List Seg) (s t : Seg) → seg_cmp s t ≡ Greater → path_cmp (front ++ s ∷ p) (front ++ t ∷ q) ≡ Greater
later_segment_last front p q s t greater = behind seg_cmp same_segment front s t p q greater

pub longer_last : (path : List Seg) (segment : Seg) (rest : List Seg) → path_cmp (path ++ segment ∷ rest) path ≡ Greater
longer_last path segment rest = longer seg_cmp same_segment path segment rest

pub same_paths : (path : List Seg) → path_cmp path path ≡ Equal
same_paths path = itself seg_cmp same_segment path
