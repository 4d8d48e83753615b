-- The parts of a problem.
use Rattle.std.proofs.Common.{◌≡◌, ℕ, ◌+◌, ◌<◌, ◌≤◌, Bool, true, false, ◌&&◌, List, [], ◌∷◌, ◌++◌, Option, Some, None, length, map, drop, get_or, Ok, arith, refl, ◌∙◌, sym, ap, drop-cons, add-one, append_assoc, append-nil}
use Rattle.std.proofs.lemmas.List.{drop_all, get_or-map, length-map}
use Rattle.std.proofs.lemmas.List.Kept.{IsStrictlyIncreasing-filter}
use Rattle.std.specs.Prelude.{All, sum_by, not}
use Rattle.std.specs.List.{cons_option}
use Rattle.std.specs.List.Sorted.{IsStrictlySortedBy, IsStrictlyIncreasing}
use Rattle.std.specs.Ordering.{nat_cmp, match_ordering}
use Rattle.std.specs.declared.cmp.Ordering.{Ordering}
use Rattle.std.specs.declared.cmp.Ordering.TheVariants.{Less, Equal, Greater}
use Rattle.std.specs.BTreeSet.{insert_key}
use Rattle.ar_space.specs.Outcome.{Answers}
use Rattle.aml_path.specs.declared.segment.Seg.{Seg}
use Rattle.aml_path.specs.Paths.{path_cmp}
use Rattle.acpi_resources.specs.Numbers.{with_numbers}
use Rattle.acpi_prt.specs.declared.pin.Pin.{Pin}
use Rattle.route_model.specs.Avoided.{is_avoided, are_all_avoided, without}
use Rattle.route_model.specs.Links.{OfferingLink, paths_of}
use Rattle.route_solve.specs.Fits.{Fits, IsOffer}
use Rattle.acpi_links.specs.Links.{PresentLink}
use Rattle.acpi_links.specs.Problems.{wired_number, with_number, wired_numbers, wired_counts, source_numbers, offering, problem_of}

pushed : (o : Option ℕ) (list rest : List ℕ) → with_number list o ++ rest ≡ list ++ cons_option o rest
pushed None list rest = refl
pushed (Some n) list rest = append_assoc list (n ∷ []) rest

pub number_more : (all list after : List ℕ) (pins : List (List Seg × Pin)) (i : ℕ) (pin : List Seg × Pin)
    → list ++ wired_numbers (drop i pins) ≡ all → i < length pins → pin ≡ get_or pins i pin → after ≡ with_number list (wired_number pin.1.route)
    → after ++ wired_numbers (drop (i + 1) pins) ≡ all
unfolding wired_numbers
number_more all list after pins i pin so l at e =
    rw (e, add-one) (pushed (wired_number pin.1.route) list _ ∙ (sym (rw (drop-cons pins i pin l, ← at) refl) ∙ so))

pub numbers_end : (all list : List ℕ) (pins : List (List Seg × Pin)) (i : ℕ) → list ++ wired_numbers (drop i pins) ≡ all → length pins ≤ i → list ≡ all
unfolding wired_numbers
numbers_end all list pins i so l = sym (append-nil list) ∙ (sym (rw (drop_all i pins l) refl) ∙ so)

pub set_more : (all set after ns : List ℕ) (i : ℕ)
    → with_numbers set (drop i ns) ≡ all → i < length ns → after ≡ insert_key nat_cmp set (get_or ns i 0) → with_numbers after (drop (i + 1) ns) ≡ all
unfolding with_numbers
set_more all set after ns i so l e = rw (e, add-one) (sym (rw (drop-cons ns i 0 l) refl) ∙ so)

pub set_end : (all set after ns : List ℕ) (i : ℕ) → with_numbers set (drop i ns) ≡ all → length ns ≤ i → after ≡ set → after ≡ all
unfolding with_numbers
set_end all set after ns i so l e = e ∙ (sym (rw (drop_all i ns l) refl) ∙ so)

-- a set has no more numbers than were put into it
by_order : (o : Ordering) (a b c : List ℕ) (k : ℕ) → length a ≤ k → length b ≤ k → length c ≤ k → length (match_ordering o a b c) ≤ k
by_order Less a b c k x y z = x
by_order Equal a b c k x y z = y
by_order Greater a b c k x y z = z

one_grown : (set : List ℕ) (n : ℕ) → length (insert_key nat_cmp set n) ≤ length set + 1
one_grown [] n = omega arith
one_grown (m ∷ ms) n =
    let h = one_grown ms n in
    by_order (nat_cmp n m) (n ∷ m ∷ ms) (m ∷ ms) (m ∷ insert_key nat_cmp ms n) (length (m ∷ ms) + 1) (omega arith) (omega arith) (omega arith)

pub set_grown : (after set : List ℕ) (i n : ℕ) → after ≡ insert_key nat_cmp set n → length set ≤ i → length after ≤ i + 1
set_grown after set i n e l = rw e (let h = one_grown set n in omega arith)

pub set_few : (after set : List ℕ) (i k : ℕ) → after ≡ set → length set ≤ i → i ≤ k → length after ≤ k
set_few after set i k e l m = rw e (omega arith)

-- what is left of an offer where some interrupts are avoided is an offer, if anything is left
left_few : (avoid numbers : List ℕ) → length (without avoid numbers) ≤ length numbers
unfolding without
left_few avoid [] = omega arith
left_few avoid (n ∷ ns) = by (is_avoided avoid n) refl (left_few avoid ns)
  where
    by : (b : Bool) → is_avoided avoid n ≡ b → length (without avoid ns) ≤ length ns → length (without avoid (n ∷ ns)) ≤ length (n ∷ ns)
    by true is rest = rw is (omega arith)
    by false is rest = rw is (omega arith)

left_some : (avoid numbers : List ℕ) → are_all_avoided avoid numbers ≡ false → 0 < length (without avoid numbers)
unfolding without
left_some avoid [] e = absurd (cc e)
left_some avoid (n ∷ ns) e = by (is_avoided avoid n) refl (left_some avoid ns)
  where
    by : (b : Bool) → is_avoided avoid n ≡ b → (are_all_avoided avoid ns ≡ false → 0 < length (without avoid ns)) → 0 < length (without avoid (n ∷ ns))
    by true is rest = rw is (rest (sym (ap (λ b. b && are_all_avoided avoid ns) is) ∙ e))
    by false is rest = rw is (omega arith)

pub left_offer : (avoid numbers left : List ℕ) → left ≡ without avoid numbers → are_all_avoided avoid numbers ≡ false → 0 < length numbers → length numbers ≤ 255 → IsStrictlyIncreasing numbers → IsOffer left
unfolding without
left_offer avoid numbers left is e some few up = rw is record {
  some = left_some avoid numbers e;
  few = (let h = left_few avoid numbers in omega arith);
  ascending = IsStrictlyIncreasing-filter (λ n. not (is_avoided avoid n)) numbers up;
}

-- a problem is made of its parts, and can be solved
pub problem_is : (avoid : List ℕ) (sci : Option ℕ) (links : List PresentLink) (pins : List (List Seg × Pin)) (ls : List OfferingLink) (ns : List ℕ) (wired : List (ℕ × ℕ))
    → Answers (Ok ls) (Ok (map (offering avoid) links)) → ns ≡ source_numbers sci pins → wired ≡ wired_counts ns
    → Answers (Ok (record { links = ls; wired = wired })) (Ok (problem_of avoid sci links pins))
unfolding problem_of
problem_is avoid sci links pins ls ns wired a n w = record { is = λ _. cc (a.is tt, n, w) }

offering-paths : (avoid : List ℕ) (links : List PresentLink) → paths_of (map (offering avoid) links) ≡ map (λ link. link.0) links
offering-paths avoid [] = refl
offering-paths avoid (l ∷ ls) = ap (λ rest. l.0 ∷ rest) (offering-paths avoid ls)

no_link : OfferingLink
no_link = record { path = []; offers = [] }

pub problem_fits : (avoid : List ℕ) (links : List PresentLink) (ls : List OfferingLink) (wired : List (ℕ × ℕ))
    → Answers (Ok ls) (Ok (map (offering avoid) links)) → length links ≤ 256 → IsStrictlySortedBy path_cmp (map (λ link. link.0) links) → All (λ l. IsOffer l.offers) ls
    → IsStrictlyIncreasing (map (λ w. w.0) wired) → sum_by (λ w. w.1) wired ≤ 4096 → Fits (record { links = ls; wired = wired })
problem_fits avoid links ls wired a few order offers ascend counts =
    let same : map (offering avoid) links ≡ ls = cc (a.is tt) in
    record {
      few = rw (← same, length-map) few;
      in_order = rw (← same, offering-paths avoid links) order;
      offers = λ k l. rw (get_or-map (λ (l : OfferingLink). l.offers) ls k no_link [] l) (offers k no_link l);
      wired_in_order = ascend;
      counts = counts;
    }
