-- A valid claim is proved, whoever wrote it.
use Rattle.std.proofs.Common.{◌≡◌, ℕ, zero, suc, ◌<◌, ◌≤◌, List, [], ◌∷◌, length, map, sym, subst, arith, get_or, inl, inr}
use Rattle.std.specs.Prelude.{◌⊎◌, Contains, All}
use Rattle.std.proofs.lemmas.List.{length-map}
use Rattle.std.proofs.lemmas.List.Elements.{All-head, All-tail, All-contains}
use Rattle.aml_path.specs.declared.segment.Seg.{Seg}
use Rattle.aml_path.specs.Paths.{path_eq}
use Rattle.route_model.specs.Links.{OfferingLink, paths_of}
use Rattle.route_model.specs.Routing.{busiest, IsAssignment}
use Rattle.route_model.specs.Placement.{Offers}
use Rattle.route_model.proofs.Paths.{path_tells}
use Rattle.route_model.proofs.Bounds.{bound_least}
use Rattle.route_check.specs.Claims.{RoutingClaim}
use Rattle.route_check.specs.Valid.{effective_offers, effective_counts, given_to, choice_of, set_links, set_interrupts, SomeInterrupt, OffersInside, IsCrowded, Valid, IsProved}

module _ (offered : OfferingLink → List ℕ) where
  assigned : (gives : List (List Seg × ℕ)) (links : List OfferingLink) → All (λ l. Contains (offered l) (given_to gives l.path)) links → IsAssignment (map offered links) (choice_of links gives)
  assigned gives [] h = tt
  assigned gives (l ∷ ls) h = (All-head (λ x. Contains (offered x) (given_to gives x.path)) l ls h, assigned gives ls (All-tail (λ x. Contains (offered x) (given_to gives x.path)) l ls h))

  inside : (set : List (List Seg)) (interrupts : List ℕ) (links : List OfferingLink) → All (λ l. Contains set l.path → All (Contains interrupts) (offered l)) links → (l n : ℕ) (d : List Seg) → Contains set (get_or (paths_of links) l d) → l < length (paths_of links) → Offers (map offered links) l n → Contains interrupts n
  inside set interrupts [] h l n d c b o = absurd (omega arith)
  inside set interrupts (x ∷ xs) h zero n d c b o = All-contains (Contains interrupts) (offered x) n (All-head (λ l. Contains set l.path → All (Contains interrupts) (offered l)) x xs h c) o
  inside set interrupts (x ∷ xs) h (suc l) n d c b o = inside set interrupts xs (All-tail (λ l. Contains set l.path → All (Contains interrupts) (offered l)) x xs h) l n d c (omega arith) o

pub proved : (c : RoutingClaim) → Valid c → IsProved c
proved c v =
    record {
      assigned = assigned (effective_offers c) c.gives c.links v.all_offered;
      busiest_is = v.busiest_right;
      least = λ b h. least b h v.bound;
    }
  where
    least : (b : List ℕ) → IsAssignment (map (effective_offers c) c.links) b → (c.busiest ≡ 0) ⊎ (SomeInterrupt c × OffersInside c × IsCrowded c) → c.busiest ≤ busiest (effective_counts c) b
    least b h (inl e) = omega arith
    least b h (inr t) =
        let n1 = length-map c.links (λ (l : OfferingLink). l.path) in
        let n2 = length-map c.links (effective_offers c) in
        bound_least path_eq path_tells [] (paths_of c.links) (map (effective_offers c) c.links) (effective_counts c) (set_links c) (set_interrupts c) c.busiest (omega arith)
        (record {
          some = t.0;
          distinct_links = v.none_repeated.set;
          distinct_interrupts = v.none_repeated.interrupts;
          known = λ x i. All-contains (Contains (paths_of c.links)) (set_links c) x v.none_missing.set_known i;
          inside = λ l n x i b d e o. inside (effective_offers c) (set_links c) (set_interrupts c) c.links t.1 l n d (subst (Contains (set_links c)) (sym e) i) b o;
          crowded = t.2;
        }) b h
