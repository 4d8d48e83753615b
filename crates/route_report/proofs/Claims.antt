-- What is read is in order, and has what the lines said.
use Rattle.std.proofs.Common.{◌≡◌, subst, refl, ℕ, ◌+◌, List, [], ◌∷◌, ◌++◌, Ok, Option, Some, None}
use Rattle.std.specs.Prelude.{is_some}
use Rattle.std.specs.Ordering.{nat_cmp}
use Rattle.std.specs.FinMap.{nat_cmp-IsAntisymmetric}
use Rattle.std.specs.List.Sorted.{IsPermutation, IsSorted, IsStrictlyIncreasing}
use Rattle.std.proofs.lemmas.Cmp.{nat_cmp_total}
use Rattle.std.proofs.lemmas.List.Sorted.{IsPermutation-refl}
use Rattle.std.proofs.lemmas.Map.Keys.{IsStrictlyIncreasing-dedup}
use Rattle.aml_path.specs.Paths.{path_cmp}
use Rattle.route_model.proofs.Paths.{path_total}
use Rattle.route_check.specs.Claims.{BoundingSet, RoutingClaim, links_of_bound, interrupts_of_bound}
use Rattle.text_words.specs.Words.{words}
use Rattle.route_report.specs.Lines.{lines}
use Rattle.route_report.specs.Reports.{is_spread}
use Rattle.route_report.specs.Ordered.{in_order, barred_by, link_order, wired_order, give_order, bound_in_order, claim_in_order, IsInOrder, HasSameElements}
use Rattle.route_report.specs.Reading.{Said, first_said, here, claimed, line, heading, lines_read, all_read, claim_of_text}
use Rattle.route_report.proofs.Ascending.{AvoidAscends, here_ascends, first_ascends, line_ascends}
use Rattle.route_report.proofs.Orders.{path_exact, link_exact, wired_exact, give_exact, link_total, wired_total, give_total}
use Rattle.route_report.proofs.Sorting.{stays, is_sorted, permuted, same_elements}
use Rattle.route_report.proofs.Turns.{went_on}

set_sorted : (b : Option BoundingSet) → IsSorted path_cmp (links_of_bound (bound_in_order b))
set_sorted None = is_sorted path_cmp path_total path_exact []
set_sorted (Some b) = is_sorted path_cmp path_total path_exact b.links

interrupts_sorted : (b : Option BoundingSet) → IsSorted nat_cmp (interrupts_of_bound (bound_in_order b))
interrupts_sorted None = is_sorted nat_cmp nat_cmp_total nat_cmp-IsAntisymmetric []
interrupts_sorted (Some b) = is_sorted nat_cmp nat_cmp_total nat_cmp-IsAntisymmetric b.interrupts

pub claim_sorted : (c : RoutingClaim) → IsStrictlyIncreasing c.avoid → IsInOrder (claim_in_order c)
claim_sorted c up = record {
  links = is_sorted link_order link_total link_exact c.links;
  wired = is_sorted wired_order wired_total wired_exact c.wired;
  avoid = up;
  gives = is_sorted give_order give_total give_exact c.gives;
  set = set_sorted c.bound;
  interrupts = interrupts_sorted c.bound;
}

bound_stays : (b : Option BoundingSet) → IsSorted path_cmp (links_of_bound b) → IsSorted nat_cmp (interrupts_of_bound b) → bound_in_order b ≡ b
bound_stays None p n = refl
bound_stays (Some b) p n =
    let links = stays path_cmp path_total path_exact b.links p in
    let interrupts = stays nat_cmp nat_cmp_total nat_cmp-IsAntisymmetric b.interrupts n in
    rw (links, interrupts) refl

pub claim_stays : (c : RoutingClaim) → IsInOrder c → claim_in_order c ≡ c
claim_stays c h =
    let links = stays link_order link_total link_exact c.links h.links in
    let wired = stays wired_order wired_total wired_exact c.wired h.wired in
    let gives = stays give_order give_total give_exact c.gives h.gives in
    rw (links, wired, gives, bound_stays c.bound h.set h.interrupts) refl

set_elements : (b : Option BoundingSet) → IsPermutation (links_of_bound b) (links_of_bound (bound_in_order b))
set_elements None = IsPermutation-refl []
set_elements (Some b) = same_elements path_cmp path_total path_exact b.links

interrupt_elements : (b : Option BoundingSet) → IsPermutation (interrupts_of_bound b) (interrupts_of_bound (bound_in_order b))
interrupt_elements None = IsPermutation-refl []
interrupt_elements (Some b) = same_elements nat_cmp nat_cmp_total nat_cmp-IsAntisymmetric b.interrupts

same_presence : (b : Option BoundingSet) → is_some b ≡ is_some (bound_in_order b)
same_presence None = refl
same_presence (Some b) = refl

-- claims with the same elements are the same in order
bound_same : (b c : Option BoundingSet) → IsPermutation (links_of_bound b) (links_of_bound c) → IsPermutation (interrupts_of_bound b) (interrupts_of_bound c) → is_some b ≡ is_some c → bound_in_order b ≡ bound_in_order c
bound_same None None p n e = refl
bound_same None (Some c) p n e = absurd (cc e)
bound_same (Some b) None p n e = absurd (cc e)
bound_same (Some b) (Some c) p n e =
    let links = permuted path_cmp path_total path_exact b.links c.links p in
    let interrupts = permuted nat_cmp nat_cmp_total nat_cmp-IsAntisymmetric b.interrupts c.interrupts n in
    rw (links, interrupts) refl

pub claims_same : (c d : RoutingClaim) → HasSameElements c d → claim_in_order c ≡ claim_in_order d
claims_same c d h =
    let links = permuted link_order link_total link_exact c.links d.links h.links in
    let wired = permuted wired_order wired_total wired_exact c.wired d.wired h.wired in
    let gives = permuted give_order give_total give_exact c.gives d.gives h.gives in
    rw (links, wired, h.sci, h.avoid, gives, h.busiest, bound_same c.bound d.bound h.set h.interrupts h.bound, h.spread) refl

pub claim_elements : (c : RoutingClaim) → HasSameElements c (claim_in_order c)
claim_elements c = record {
  links = same_elements link_order link_total link_exact c.links;
  wired = same_elements wired_order wired_total wired_exact c.wired;
  sci = refl;
  avoid = refl;
  gives = same_elements give_order give_total give_exact c.gives;
  set = set_elements c.bound;
  interrupts = interrupt_elements c.bound;
  busiest = refl;
  bound = same_presence c.bound;
  spread = refl;
}

-- what is claimed of what was said
barred_ascends : (ns : List ℕ) (ms : Option (List ℕ)) → IsStrictlyIncreasing ns → IsStrictlyIncreasing (barred_by ns ms)
barred_ascends ns None up = up
barred_ascends ns (Some ms) up = IsStrictlyIncreasing-dedup (in_order nat_cmp (ns ++ ms)) (is_sorted nat_cmp nat_cmp_total nat_cmp-IsAntisymmetric (ns ++ ms))

said_in_order : (n : ℕ) (d : Said) (c : RoutingClaim) → AvoidAscends d.avoid → claimed n d ≡ Ok c → IsInOrder c
unfolding claimed
said_in_order n d c up e =
    let s = went_on (here n d.sci) _ c e in
    let ns = went_on (here n d.avoid) _ c s.2 in
    let r = went_on (here n d.rule) _ c ns.2 in
    let k = went_on (here n d.busiest) _ c r.2 in
    let b = went_on (here n d.bound) _ c k.2 in
    let raw : RoutingClaim = record { links = d.links; wired = d.wired; sci = s.0; avoid = barred_by ns.0 d.spared; gives = d.gives; busiest = k.0; bound = b.0; spread = is_spread r.0 } in
    let is : claim_in_order raw ≡ c = cc (b.2) in
    subst IsInOrder is (claim_sorted raw (barred_ascends ns.0 d.spared (here_ascends n d.avoid ns.0 up ns.1)))

read_in_order : (n : ℕ) (ls : List (List ℕ)) (d : Said) (c : RoutingClaim) → AvoidAscends d.avoid → lines_read n ls d ≡ Ok c → IsInOrder c
unfolding lines_read
read_in_order n [] d c up e = said_in_order n d c up e
read_in_order n (l ∷ ls) d c up e =
    let a = went_on (line n (words l) d) (λ f. lines_read (n + 1) ls f) c e in
    read_in_order (n + 1) ls a.0 c (line_ascends n d a.0 (words l) up a.1) a.2

all_in_order : (ls : List (List ℕ)) (c : RoutingClaim) → all_read ls ≡ Ok c → IsInOrder c
unfolding all_read
all_in_order [] c e = absurd (cc e)
all_in_order (l ∷ ls) c e = let a = went_on (heading 1 (words l)) (λ v. lines_read 2 ls (first_said v)) c e in read_in_order 2 ls (first_said a.0) c (first_ascends a.0) a.2

pub text_in_order : (text : List ℕ) (c : RoutingClaim) → claim_of_text text ≡ Ok c → IsInOrder c
unfolding claim_of_text
text_in_order text c e = all_in_order (lines text) c e
