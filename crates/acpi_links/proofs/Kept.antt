-- The links that are found stay in order.
use Rattle.std.proofs.Common.{◌≡◌, ℕ, suc, ◌+◌, ◌<◌, ◌≤◌, List, [], ◌∷◌, ◌++◌, Option, Some, None, length, map, drop, get_or, ◌∙◌, sym, ap, arith, drop-cons, add-one, append_assoc, append-nil, length-append}
use Rattle.std.specs.declared.cmp.Ordering.{Ordering}
use Rattle.std.specs.List.{AllByRecursion}
use Rattle.std.specs.List.Sorted.{IsStrictlySortedBy}
use Rattle.std.specs.Prelude.{All}
use Rattle.std.proofs.lemmas.List.{drop_all, map-append}
use Rattle.std.proofs.lemmas.List.Elements.{All-push}
use Rattle.aml_path.specs.declared.segment.Seg.{Seg}
use Rattle.aml_path.specs.Paths.{path_cmp}
use Rattle.acpi_links.specs.Links.{PresentLink, IsAt, HasLeft, IsLeft, with_link}

module _ {A : Type 0} where
  all-without : (P : A → Type 0) (xs ys : List A) (y : A) → AllByRecursion P (xs ++ y ∷ ys) → AllByRecursion P (xs ++ ys)
  all-without P [] ys y h = h.1
  all-without P (x ∷ xs) ys y h = (h.0, all-without P xs ys y h.1)

  sorted-without : (R : A → A → Ordering) (xs ys : List A) (y : A) → IsStrictlySortedBy R (xs ++ y ∷ ys) → IsStrictlySortedBy R (xs ++ ys)
  unfolding IsStrictlySortedBy
  sorted-without R [] ys y h = h.1
  sorted-without R (x ∷ xs) ys y h = (all-without (λ z. R x z ≡ _) xs ys y h.0, sorted-without R xs ys y h.1)

paths : List PresentLink → List (List Seg)
paths list = map (λ link. link.0) list

-- with the link at a path, or without it
kept : (list : List PresentLink) (found : Option PresentLink) (p : List Seg) (rest : List (List Seg)) → IsAt p found
    → IsStrictlySortedBy path_cmp (paths list ++ p ∷ rest) → IsStrictlySortedBy path_cmp (paths (with_link list found) ++ rest)
unfolding paths
kept list None p rest at s = sorted-without path_cmp (paths list) rest p s
kept list (Some link) p rest at s = rw (map-append (λ (l : PresentLink). l.0) list (link ∷ []), append_assoc (paths list) (link.0 ∷ []) rest, at) s

pub kept_in_order : (list after : List PresentLink) (found : Option PresentLink) (links : List (List Seg)) (i : ℕ) (p : List Seg)
    → after ≡ with_link list found → IsAt p found → i < length links → p ≡ get_or links i p
    → IsStrictlySortedBy path_cmp (map (λ link. link.0) list ++ drop i links) → IsStrictlySortedBy path_cmp (map (λ link. link.0) after ++ drop (i + 1) links)
unfolding paths
kept_in_order list after found links i p e at l is s =
    let here : drop i links ≡ p ∷ drop (i + 1) links = rw add-one (drop-cons links i p l ∙ ap (λ q. q ∷ drop (suc i) links) (sym is)) in
    rw e (kept list found p (drop (i + 1) links) at (rw (← here) s))

few-with : (list : List PresentLink) (found : Option PresentLink) → length (with_link list found) ≤ length list + 1
few-with list None = omega arith
few-with list (Some link) = omega (arith, length-append list (link ∷ []))

pub kept_few : (list after : List PresentLink) (found : Option PresentLink) (i : ℕ) → after ≡ with_link list found → length list ≤ i → length after ≤ i + 1
kept_few list after found i e l = rw e (let h = few-with list found in omega arith)

pub end_in_order : (list : List PresentLink) (links : List (List Seg)) (i : ℕ) → length links ≤ i
    → IsStrictlySortedBy path_cmp (map (λ link. link.0) list ++ drop i links) → IsStrictlySortedBy path_cmp (map (λ link. link.0) list)
end_in_order list links i l s = rw (← append-nil (map (λ (link : PresentLink). link.0) list), ← drop_all i links l) s

-- something of each link's offer is left
left-with : (avoid : List ℕ) (list : List PresentLink) (found : Option PresentLink) → IsLeft avoid found → All (HasLeft avoid) list → All (HasLeft avoid) (with_link list found)
left-with avoid list None left all = all
left-with avoid list (Some link) left all = All-push (HasLeft avoid) list link all left

pub kept_left : (avoid : List ℕ) (list after : List PresentLink) (found : Option PresentLink) → after ≡ with_link list found → IsLeft avoid found → All (HasLeft avoid) list → All (HasLeft avoid) after
kept_left avoid list after found e left all = rw e (left-with avoid list found left all)
