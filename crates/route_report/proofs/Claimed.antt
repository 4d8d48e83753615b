-- The claim that is made of an assignment and its bound is in order.
use Rattle.std.proofs.Common.{◌≡◌, ℕ, zero, suc, ◌+◌, ◌<◌, ◌==◌, Bool, false, cond, Option, List, [], ◌∷◌, length, map, refl, sym, ◌∙◌, ap, ap₂, arith, get_or}
use Rattle.std.specs.Prelude.{All}
use Rattle.std.specs.declared.cmp.Ordering.{Ordering}
use Rattle.std.specs.declared.cmp.Ordering.TheVariants.{Less, Equal, Greater}
use Rattle.std.specs.Ordering.{is_lt, nat_cmp, ordering_reverse, ordering_then}
use Rattle.std.specs.Cmp.{IsTotalOrder}
use Rattle.std.specs.Cmp.Lexicographic.{slice_cmp}
use Rattle.std.specs.List.Sorted.{IsSorted, IsStrictlyIncreasing, IsStrictlySortedBy}
use Rattle.std.proofs.lemmas.Bool.{lt-ltb}
use Rattle.std.proofs.lemmas.Cmp.{nat_cmp_total}
use Rattle.std.proofs.lemmas.List.{length-map, get_or-map}
use Rattle.std.proofs.lemmas.List.Kept.{AllPairs-from_increasing}
use Rattle.std.proofs.lemmas.Map.Keys.{Less-from_sorted}
use Rattle.aml_path.specs.declared.segment.Seg.{Seg}
use Rattle.aml_path.specs.Paths.{path_cmp}
use Rattle.route_model.specs.Links.{OfferingLink, paths_of}
use Rattle.route_model.proofs.Paths.{path_total}
use Rattle.route_check.specs.Claimed.{gives_of, paths_at, claim_of}
use Rattle.route_report.specs.Ordered.{link_order, wired_order, give_order, IsInOrder}

not_less : (o p : Ordering) → p ≡ ordering_reverse o → o ≡ Less → is_lt p ≡ false
not_less Less p e h = ap is_lt e
not_less Equal p e h = absurd (cc h)
not_less Greater p e h = absurd (cc h)

not_less_then : (o p q : Ordering) → p ≡ ordering_reverse o → o ≡ Less → is_lt (ordering_then p q) ≡ false
not_less_then Less p q e h = ap (λ r. is_lt (ordering_then r q)) e
not_less_then Equal p q e h = absurd (cc h)
not_less_then Greater p q e h = absurd (cc h)

-- keys that ascend decide
module _ {X K : Type 0} (key : X → K) (order : K → K → Ordering) (total : IsTotalOrder order) (rest : X → X → Ordering) where
  by_key : (xs : List X) → ((i j : ℕ) (d : X) → i < j → j < length xs → order (key (get_or xs i d)) (key (get_or xs j d)) ≡ Less) → IsSorted (λ x y. ordering_then (order (key x) (key y)) (rest x y)) xs
  by_key xs up k d low b = not_less_then _ _ _ (total.antisymm (key (get_or xs (k + 1) d)) (key (get_or xs k d))) (up k (k + 1) d (omega arith) b)

less_of : (m n : ℕ) → m < n → nat_cmp m n ≡ Less
less_of m n l = ap (λ (b : Bool). cond b Less (cond (m == n) Equal Greater)) (lt-ltb m n l)

path_at : (links : List OfferingLink) → IsStrictlySortedBy path_cmp (paths_of links) → (i j : ℕ) (d : OfferingLink) → i < j → j < length links → path_cmp (get_or links i d).path (get_or links j d).path ≡ Less
path_at links up i j d lt b =
    let long = length-map links (λ (l : OfferingLink). l.path) in
    let one = get_or-map (λ (l : OfferingLink). l.path) links i d [] (omega arith) in
    let other = get_or-map (λ (l : OfferingLink). l.path) links j d [] b in
    ap₂ path_cmp (sym one) (sym other) ∙ Less-from_sorted path_cmp (paths_of links) i j [] up lt (omega arith)

-- the gives are those of the links, in their order
give_at : (links : List OfferingLink) (choice : List ℕ) (i : ℕ) (d : List Seg × ℕ) (e : OfferingLink) → i < length (gives_of links choice) → (i < length links) × ((get_or (gives_of links choice) i d).0 ≡ (get_or links i e).path)
give_at [] choice i d e b = absurd (omega arith)
give_at (l ∷ ls) [] i d e b = absurd (omega arith)
give_at (l ∷ ls) (n ∷ ns) zero d e b = (omega arith, refl)
give_at (l ∷ ls) (n ∷ ns) (suc i) d e b = let at = give_at ls ns i d e (omega arith) in let within = at.0 in (omega arith, at.1)

number_at : (xs : List ℕ) → IsStrictlyIncreasing xs → (i j d : ℕ) → i < j → j < length xs → nat_cmp (get_or xs i d) (get_or xs j d) ≡ Less
number_at xs up i j d lt b = less_of _ _ (AllPairs-from_increasing xs up i j d lt b)

count_at : (wired : List (ℕ × ℕ)) → IsStrictlyIncreasing (map (λ w. w.0) wired) → (i j : ℕ) (d : ℕ × ℕ) → i < j → j < length wired → nat_cmp (get_or wired i d).0 (get_or wired j d).0 ≡ Less
count_at wired up i j d lt b =
    let long = length-map wired (λ (w : ℕ × ℕ). w.0) in
    let one = get_or-map (λ (w : ℕ × ℕ). w.0) wired i d 0 (omega arith) in
    let other = get_or-map (λ (w : ℕ × ℕ). w.0) wired j d 0 b in
    ap₂ nat_cmp (sym one) (sym other) ∙ number_at (map (λ w. w.0) wired) up i j 0 lt (omega arith)

pub numbers_sorted : (xs : List ℕ) → IsStrictlyIncreasing xs → IsSorted nat_cmp xs
numbers_sorted xs up k d low b = not_less _ _ (nat_cmp_total.antisymm (get_or xs (k + 1) d) (get_or xs k d)) (number_at xs up k (k + 1) d (omega arith) b)

gives_at : (links : List OfferingLink) (choice : List ℕ) → IsStrictlySortedBy path_cmp (paths_of links) → (i j : ℕ) (d : List Seg × ℕ) → i < j → j < length (gives_of links choice) → path_cmp (get_or (gives_of links choice) i d).0 (get_or (gives_of links choice) j d).0 ≡ Less
gives_at links choice up i j d lt b =
    let e : OfferingLink = record { path = []; offers = [] } in
    let one = give_at links choice i d e (omega arith) in
    let other = give_at links choice j d e b in
    ap₂ path_cmp one.1 other.1 ∙ path_at links up i j e lt other.0

set_sorted : (links : List OfferingLink) (places : List ℕ) → IsStrictlySortedBy path_cmp (paths_of links) → IsStrictlyIncreasing places → All (λ l. l < length links) places → IsSorted path_cmp (paths_at links places)
set_sorted links places in_order up within k d low b =
    let f = λ (l : ℕ). get_or (paths_of links) l [] in
    let long = length-map places f in
    let paths = length-map links (λ (l : OfferingLink). l.path) in
    let inside : k + 1 < length places = omega arith in
    let one = get_or-map f places k 0 d (omega arith) in
    let other = get_or-map f places (k + 1) 0 d inside in
    let less = AllPairs-from_increasing places up k (k + 1) 0 (omega arith) inside in
    let last = within (k + 1) 0 inside in
    let before = ap₂ path_cmp one other ∙ Less-from_sorted path_cmp (paths_of links) (get_or places k 0) (get_or places (k + 1) 0) [] in_order less (omega arith) in
    not_less _ _ (path_total.antisymm (get_or (paths_at links places) (k + 1) d) (get_or (paths_at links places) k d)) before

none_sorted : {X : Type 0} (order : X → X → Ordering) → IsSorted order []
none_sorted order k d low b = absurd (omega arith)

links_sorted : (links : List OfferingLink) → IsStrictlySortedBy path_cmp (paths_of links) → IsSorted link_order links
links_sorted links up = by_key (λ (l : OfferingLink). l.path) path_cmp path_total (λ k l. slice_cmp nat_cmp k.offers l.offers) links (path_at links up)

wired_sorted : (wired : List (ℕ × ℕ)) → IsStrictlyIncreasing (map (λ w. w.0) wired) → IsSorted wired_order wired
wired_sorted wired up = by_key (λ (w : ℕ × ℕ). w.0) nat_cmp nat_cmp_total (λ v w. nat_cmp v.1 w.1) wired (count_at wired up)

gives_sorted : (links : List OfferingLink) (choice : List ℕ) → IsStrictlySortedBy path_cmp (paths_of links) → IsSorted give_order (gives_of links choice)
gives_sorted links choice up = by_key (λ (g : List Seg × ℕ). g.0) path_cmp path_total (λ g h. nat_cmp g.1 h.1) (gives_of links choice) (gives_at links choice up)

pub claim_is_in_order : (links : List OfferingLink) (wired : List (ℕ × ℕ)) (sci : Option ℕ) (avoid choice : List ℕ) (k : ℕ) (places interrupts : List ℕ) → IsStrictlyIncreasing avoid → IsStrictlySortedBy path_cmp (paths_of links) → IsStrictlyIncreasing (map (λ w. w.0) wired)
    → IsStrictlyIncreasing places → All (λ l. l < length links) places → IsStrictlyIncreasing interrupts → IsInOrder (claim_of links wired sci avoid choice k places interrupts)
claim_is_in_order links wired sci avoid choice zero places interrupts avoided in_order ascending up within set = record {
  links = links_sorted links in_order;
  wired = wired_sorted wired ascending;
  avoid = avoided;
  gives = gives_sorted links choice in_order;
  set = none_sorted path_cmp;
  interrupts = none_sorted nat_cmp;
}
claim_is_in_order links wired sci avoid choice (suc m) places interrupts avoided in_order ascending up within set = record {
  links = links_sorted links in_order;
  wired = wired_sorted wired ascending;
  avoid = avoided;
  gives = gives_sorted links choice in_order;
  set = set_sorted links places in_order up within;
  interrupts = numbers_sorted interrupts set;
}
