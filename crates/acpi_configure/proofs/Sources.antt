-- Counts that wire as many sources to each interrupt make the same interrupt the busiest, and links share as little as they can by the one
-- as by the other.
use Rattle.std.proofs.Common.{◌≡◌, ◌∙◌, ap, sym, refl, ℕ, ◌+◌, ◌-◌, ◌*◌, ◌<◌, ◌≤◌, cond, List, [], ◌∷◌, ◌++◌, Option, Some, None, length, arith}
use Rattle.std.specs.Prelude.{◌==◌, sum_by, count_by, option_to_list, if◌then◌else◌}
use Rattle.std.proofs.lemmas.List.Sums.{sum_by-cons, sum_by-append}
use Rattle.route_model.specs.Bound.{IsLowerBound}
use Rattle.route_model.specs.Routing.{given, wired_to, load, busiest}
use Rattle.route_model.proofs.Loads.{load-le, busiest-le}
use Rattle.route_check.specs.Valid.{sci_counts}
use Rattle.route_spread.specs.Sharing.{excess, IsLeastShared}

-- ---- counts

pub beside : (a b : List (ℕ × ℕ)) (n : ℕ) → wired_to (a ++ b) n ≡ wired_to a n + wired_to b n
beside a b n = sum_by-append (λ (w : ℕ × ℕ). if w.0 == n then w.1 else 0) a b

pub sci_counted : (sci : Option ℕ) (n : ℕ) → wired_to (sci_counts sci) n ≡ count_by (λ m. m == n) (option_to_list sci)
sci_counted None n = refl
sci_counted (Some m) n = sum_by-cons (λ (w : ℕ × ℕ). if w.0 == n then w.1 else 0) (m, 1) [] ∙ sym (sum_by-cons (λ k. cond (k == n) 1 0) m [])

less_busy : (a b : List (ℕ × ℕ)) (choice : List ℕ) → ((n : ℕ) → wired_to a n ≡ wired_to b n) → busiest a choice ≤ busiest b choice
less_busy a b choice h = busiest-le a choice (busiest b choice) (λ i. let l = load-le b choice i in let e = h i in omega arith)

pub same_busiest : (a b : List (ℕ × ℕ)) (choice : List ℕ) → ((n : ℕ) → wired_to a n ≡ wired_to b n) → busiest a choice ≡ busiest b choice
same_busiest a b choice h =
    let l = less_busy a b choice h in
    let m = less_busy b a choice (λ n. sym (h n)) in
    omega arith

same_sum : (f g : ℕ → ℕ) (ns : List ℕ) → ((n : ℕ) → f n ≡ g n) → sum_by f ns ≡ sum_by g ns
same_sum f g [] h = refl
same_sum f g (n ∷ ns) h =
    let a = sum_by-cons f n ns in
    let b = sum_by-cons g n ns in
    let e = h n in
    let rest = same_sum f g ns h in
    omega arith

pub same_bound : (offers : List (List ℕ)) (a b : List (ℕ × ℕ)) (k : ℕ) (links interrupts : List ℕ) → ((n : ℕ) → wired_to a n ≡ wired_to b n) → IsLowerBound offers a k links interrupts → IsLowerBound offers b k links interrupts
same_bound offers a b k links interrupts h l = record {
  some = l.some;
  distinct_links = l.distinct_links;
  distinct_interrupts = l.distinct_interrupts;
  known = l.known;
  inside = l.inside;
  crowded = rw (← same_sum (wired_to a) (wired_to b) interrupts h) l.crowded;
}

same_excess : (a b : List (ℕ × ℕ)) (numbers choice : List ℕ) (k : ℕ) → ((n : ℕ) → wired_to a n ≡ wired_to b n) → excess a numbers choice k ≡ excess b numbers choice k
same_excess a b numbers choice k h = same_sum (λ n. load a choice n - k) (λ n. load b choice n - k) numbers (λ n. ap (λ (m : ℕ). given choice n + m - k) (h n))

pub same_sharing : (offers : List (List ℕ)) (a b : List (ℕ × ℕ)) (choice : List ℕ) → ((n : ℕ) → wired_to a n ≡ wired_to b n) → IsLeastShared offers a choice → IsLeastShared offers b choice
same_sharing offers a b choice h s = record {
  offered = s.offered;
  least = λ numbers other k has assigned.
      let one = same_excess a b numbers choice k h in
      let two = same_excess a b numbers other k h in
      let less = s.least numbers other k has assigned in
      omega arith;
}
