-- Gives that stand in the order of the links.
use Rattle.std.proofs.Common.{◌≡◌, ℕ, ◌+◌, ◌<◌, ◌≤◌, List, [], ◌∷◌, ◌++◌, length, map, refl, sym, ◌∙◌, ap, ap₂, arith, get_or, take}
use Rattle.std.proofs.lemmas.List.{length-map, get_or-map, take_more, take_all, map-append}
use Rattle.aml_path.specs.declared.segment.Seg.{Seg}
use Rattle.aml_path.specs.Paths.{path_cmp}
use Rattle.route_model.specs.Links.{OfferingLink, paths_of}
use Rattle.route_model.specs.Bound.{IsDistinct}
use Rattle.route_check.specs.Ascending.{Ascends, AreAligned}
use Rattle.route_check.specs.Claimed.{gives_of}
use Rattle.route_check.specs.Valid.{keys_of, given_to, choice_of}
use Rattle.route_check.proofs.Ascending.{path_exact, ascending_distinct}
use Rattle.route_check.proofs.Claimed.{choice_given}

heads : {X : Type 0} (x y : X) (xs ys : List X) → x ∷ xs ≡ y ∷ ys → x ≡ y
heads x y xs ys e = cc

tails : {X : Type 0} (x y : X) (xs ys : List X) → x ∷ xs ≡ y ∷ ys → xs ≡ ys
tails x y xs ys e = cc

-- gives with the keys of the links are those of the links and their numbers
gives_are : (links : List OfferingLink) (gives : List (List Seg × ℕ)) → paths_of links ≡ keys_of gives → gives ≡ gives_of links (map (λ g. g.1) gives)
gives_are [] [] e = refl
gives_are [] (g ∷ gs) e = let z = ap length e in absurd (omega arith)
gives_are (l ∷ ls) [] e = refl
gives_are (l ∷ ls) (g ∷ gs) e =
    ap₂ (λ (p : List Seg) (rest : List (List Seg × ℕ)). (p, g.1) ∷ rest) (sym (heads l.path g.0 (paths_of ls) (keys_of gs) e)) (gives_are ls gs (tails l.path g.0 (paths_of ls) (keys_of gs) e))

pub aligned_choice : (links : List OfferingLink) (gives : List (List Seg × ℕ)) → paths_of links ≡ keys_of gives → IsDistinct (keys_of gives) → AreAligned links gives
aligned_choice links gives e distinct =
    let ns : List ℕ = map (λ (g : List Seg × ℕ). g.1) gives in
    let a = length-map links (λ (l : OfferingLink). l.path) in
    let b = length-map gives (λ (g : List Seg × ℕ). g.0) in
    let d = length-map gives (λ (g : List Seg × ℕ). g.1) in
    let z = ap length e in
    ap (choice_of links) (gives_are links gives e) ∙ choice_given links ns (rw e distinct) (omega arith)

-- what the two tests say
pub aligned : (links : List OfferingLink) (gives : List (List Seg × ℕ)) → Ascends path_cmp (λ g. g.0) gives → paths_of links ≡ keys_of gives → AreAligned links gives
aligned links gives up e = aligned_choice links gives e (ascending_distinct path_cmp path_exact (λ g. g.0) gives up)

-- one place more with the same path
pub in_turn_more : (links : List OfferingLink) (gives : List (List Seg × ℕ)) (i : ℕ) (l : OfferingLink) (g : List Seg × ℕ) → i < length links → i < length gives → l ≡ get_or links i l → g ≡ get_or gives i g → l.path ≡ g.0
    → paths_of (take i links) ≡ keys_of (take i gives) → paths_of (take (i + 1) links) ≡ keys_of (take (i + 1) gives)
in_turn_more links gives i l g bl bg at_l at_g same so_far =
    let path = λ (x : OfferingLink). x.path in
    let key = λ (x : List Seg × ℕ). x.0 in
    let left = ap paths_of (take_more links i l bl ∙ ap (λ x. take i links ++ x ∷ []) (sym at_l)) ∙ map-append path (take i links) (l ∷ []) in
    let right = ap keys_of (take_more gives i g bg ∙ ap (λ x. take i gives ++ x ∷ []) (sym at_g)) ∙ map-append key (take i gives) (g ∷ []) in
    left ∙ (ap₂ (λ (ps : List (List Seg)) (p : List Seg). ps ++ p ∷ []) so_far same ∙ sym right)

pub in_turn_done : (links : List OfferingLink) (gives : List (List Seg × ℕ)) (i : ℕ) → length links ≤ i → length gives ≤ i → paths_of (take i links) ≡ keys_of (take i gives) → paths_of links ≡ keys_of gives
in_turn_done links gives i bl bg e = ap paths_of (sym (take_all i links bl)) ∙ (e ∙ ap keys_of (take_all i gives bg))

-- what the link at a place is given
pub given_there : (links : List OfferingLink) (gives : List (List Seg × ℕ)) (i : ℕ) (l : OfferingLink) → i < length links → l ≡ get_or links i l → given_to gives l.path ≡ get_or (choice_of links gives) i 0
given_there links gives i l b at = ap (λ (x : OfferingLink). given_to gives x.path) at ∙ sym (get_or-map (λ (x : OfferingLink). given_to gives x.path) links i l 0 b)

pub aligned_there : (links : List OfferingLink) (gives : List (List Seg × ℕ)) (i : ℕ) (g : List Seg × ℕ) → i < length links → AreAligned links gives → (i < length gives) × (g ≡ get_or gives i g → g.1 ≡ get_or (choice_of links gives) i 0)
aligned_there links gives i g b e =
    let a = length-map links (λ (l : OfferingLink). given_to gives l.path) in
    let d = length-map gives (λ (g : List Seg × ℕ). g.1) in
    let z = ap length e in
    let within : i < length gives = omega arith in
    (within, λ at. ap (λ (x : List Seg × ℕ). x.1) at ∙ (sym (get_or-map (λ (x : List Seg × ℕ). x.1) gives i g 0 within) ∙ ap (λ (ns : List ℕ). get_or ns i 0) (sym e)))
