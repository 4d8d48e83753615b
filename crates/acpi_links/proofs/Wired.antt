-- An interrupt has as many wired sources as there are pins wired to it.
use Rattle.std.proofs.Common.{◌≡◌, ℕ, suc, ◌+◌, ◌≤◌, Bool, true, false, cond, List, [], ◌∷◌, length, map, refl, sym, ◌∙◌, ap, subst, arith, rules, inl, inr}
use Rattle.std.specs.Prelude.{◌==◌, ◌||◌, ◌++◌, Option, option_to_list, Contains, count_by, if◌then◌else◌}
use Rattle.std.specs.List.{AllByRecursion, filter_map, list_any, cons_option}
use Rattle.std.specs.List.Sorted.{IsStrictlySortedBy, IsStrictlyIncreasing}
use Rattle.std.specs.Ordering.{nat_cmp}
use Rattle.std.specs.declared.cmp.Ordering.TheVariants.{Less}
use Rattle.std.specs.BTreeSet.{insert_key}
use Rattle.std.proofs.lemmas.Bool.{false≢true, eqb-true, eq-eqb, or_parts, or_right}
use Rattle.std.proofs.lemmas.Cmp.{nat_cmp_total}
use Rattle.std.proofs.lemmas.List.{length-map}
use Rattle.std.proofs.lemmas.List.Sums.{sum_by-cons, sum_by-append}
use Rattle.std.proofs.lemmas.Map.Keys.{IsStrictlyIncreasing-from_sorted}
use Rattle.aml_path.specs.declared.segment.Seg.{Seg}
use Rattle.acpi_prt.specs.declared.pin.Pin.{Pin}
use Rattle.acpi_prt.specs.declared.pin.Route.{Route}
use Rattle.acpi_prt.specs.declared.pin.Route.TheVariants.{Wired, Link}
use Rattle.acpi_resources.specs.Numbers.{with_numbers, set_of}
use Rattle.acpi_resources.proofs.Counts.{length-set_of}
use Rattle.acpi_resources.proofs.Members.{members_of_set}
use Rattle.route_model.specs.Routing.{wired_to}
use Rattle.acpi_links.specs.Links.{PresentLink}
use Rattle.acpi_links.specs.Problems.{wired_number, wired_numbers, counted, wired_counts, pin_counts, source_numbers, problem_of}
use Rattle.acpi_links.specs.Wiring.{is_wired_to}
use Rattle.acpi_links.proofs.Members.{first, behind, first_or_behind, inserted_ascends}

unlike : (m n : ℕ) → nat_cmp m n ≡ Less → (n == m) ≡ false
unlike m n e = grind (arith, rules)

-- how often a list has a number
times : ℕ → List ℕ → ℕ
times n ms = count_by (λ m. m == n) ms

times-nil : (n : ℕ) → times n [] ≡ 0
unfolding times
times-nil n = refl

times-cons : (n m : ℕ) (ms : List ℕ) → times n (m ∷ ms) ≡ cond (m == n) 1 0 + times n ms
unfolding times
times-cons n m ms = sum_by-cons (λ k. cond (k == n) 1 0) m ms

-- how many sources some numbers wire to n, each as often as ms has it
wired : List ℕ → ℕ → List ℕ → ℕ
wired ms n set = wired_to (map (counted ms) set) n

wired-nil : (ms : List ℕ) (n : ℕ) → wired ms n [] ≡ 0
unfolding wired
wired-nil ms n = refl

wired-cons : (ms : List ℕ) (n m : ℕ) (set : List ℕ) → wired ms n (m ∷ set) ≡ (if m == n then times m ms else 0) + wired ms n set
unfolding wired times
wired-cons ms n m set = sum_by-cons (λ (w : ℕ × ℕ). if w.0 == n then w.1 else 0) (counted ms m) (map (counted ms) set)

wired-other : (ms : List ℕ) (n m : ℕ) (set : List ℕ) → (m == n) ≡ false → wired ms n (m ∷ set) ≡ 0 + wired ms n set
wired-other ms n m set e = wired-cons ms n m set ∙ ap (λ b. (if b then times m ms else 0) + wired ms n set) e

wired-same : (ms : List ℕ) (n m : ℕ) (set : List ℕ) → (m == n) ≡ true → wired ms n (m ∷ set) ≡ times m ms + wired ms n set
wired-same ms n m set e = wired-cons ms n m set ∙ ap (λ b. (if b then times m ms else 0) + wired ms n set) e

has : ℕ → List ℕ → Bool
has n xs = list_any (λ m. m == n) xs

-- a number that a set lacks
wired-lacks : (ms : List ℕ) (n : ℕ) (set : List ℕ) → has n set ≡ false → wired ms n set ≡ 0
unfolding has
wired-lacks ms n [] e = wired-nil ms n
wired-lacks ms n (m ∷ set) e =
    let parts = or_parts (m == n) (list_any (λ m. m == n) set) e in
    let more = wired-other ms n m set parts.0 in
    let none = wired-lacks ms n set parts.1 in
    omega arith

above-lacks : (n : ℕ) (set : List ℕ) → AllByRecursion (λ k. nat_cmp n k ≡ Less) set → has n set ≡ false
unfolding has
above-lacks n [] all = refl
above-lacks n (k ∷ set) all = rw (unlike n k all.0) (above-lacks n set all.1)

-- a number that a set has
wired-has : (ms : List ℕ) (n : ℕ) (set : List ℕ) → IsStrictlySortedBy nat_cmp set → has n set ≡ true → wired ms n set ≡ times n ms
unfolding IsStrictlySortedBy has
wired-has ms n [] up e = absurd (cc e)
wired-has ms n (m ∷ set) up e = by (m == n) refl (wired-has ms n set up.1)
  where
    by : (b : Bool) → (m == n) ≡ b → (list_any (λ k. k == n) set ≡ true → wired ms n set ≡ times n ms) → wired ms n (m ∷ set) ≡ times n ms
    by true is rest =
        let same : m ≡ n = eqb-true m n is in
        let lacks : has n set ≡ false = subst (λ (k : ℕ). has k set ≡ false) same (above-lacks m set up.0) in
        let this : wired ms n (m ∷ set) ≡ times m ms + wired ms n set = wired-same ms n m set is in
        let none : wired ms n set ≡ 0 = wired-lacks ms n set lacks in
        let also : times m ms ≡ times n ms = ap (λ (k : ℕ). times k ms) same in
        omega arith
    by false is rest =
        let more = wired-other ms n m set is in
        let others = rest (sym (ap (λ b. b || list_any (λ k. k == n) set) is) ∙ e) in
        omega arith

times-lacks : (n : ℕ) (ms : List ℕ) → has n ms ≡ false → times n ms ≡ 0
unfolding has
times-lacks n [] e = times-nil n
times-lacks n (m ∷ ms) e =
    let parts = or_parts (m == n) (list_any (λ k. k == n) ms) e in
    let more : times n (m ∷ ms) ≡ 0 + times n ms = times-cons n m ms ∙ ap (λ b. cond b 1 0 + times n ms) parts.0 in
    let none : times n ms ≡ 0 = times-lacks n ms parts.1 in
    omega arith

has_from : (n : ℕ) (xs : List ℕ) → has n xs ≡ true → Contains xs n
unfolding has
has_from n [] e = absurd (cc e)
has_from n (x ∷ xs) e = by (x == n) refl (has_from n xs)
  where
    by : (b : Bool) → (x == n) ≡ b → (list_any (λ k. k == n) xs ≡ true → Contains xs n) → Contains (x ∷ xs) n
    by true is rest = subst (Contains (x ∷ xs)) (eqb-true x n is) (first x xs)
    by false is rest = behind x n xs (rest (sym (ap (λ b. b || list_any (λ k. k == n) xs) is) ∙ e))

has_since : (n : ℕ) (xs : List ℕ) → Contains xs n → has n xs ≡ true
unfolding has
has_since n [] c = absurd (let h = c.1 in omega arith)
has_since n (x ∷ xs) c = elim (first_or_behind x n xs c) [
  | inl e ↦ ap (λ b. b || list_any (λ k. k == n) xs) (eq-eqb x n e)
  | inr d ↦ or_right (x == n) (list_any (λ k. k == n) xs) (has_since n xs d)
]

-- a set has what its list has
has_alike : (n : ℕ) (ms : List ℕ) → has n (set_of ms) ≡ false → has n ms ≡ false
has_alike n ms e = by (has n ms) refl
  where
    by : (b : Bool) → has n ms ≡ b → has n ms ≡ false
    by false is = is
    by true is = absurd (false≢true (sym e ∙ has_since n (set_of ms) ((members_of_set ms n).1 (has_from n ms is))))

set_ascends : (set ns : List ℕ) → IsStrictlySortedBy nat_cmp set → IsStrictlySortedBy nat_cmp (with_numbers set ns)
unfolding with_numbers
set_ascends set [] up = up
set_ascends set (n ∷ ns) up = set_ascends (insert_key nat_cmp set n) ns (inserted_ascends nat_cmp nat_cmp_total set n up)

none_ascends : IsStrictlySortedBy nat_cmp []
unfolding IsStrictlySortedBy
none_ascends = tt

wired_times : (ms : List ℕ) (n : ℕ) → wired ms n (set_of ms) ≡ times n ms
wired_times ms n = by (has n (set_of ms)) refl
  where
    by : (b : Bool) → has n (set_of ms) ≡ b → wired ms n (set_of ms) ≡ times n ms
    by true e = wired-has ms n (set_of ms) (set_ascends [] ms none_ascends) e
    by false e = wired-lacks ms n (set_of ms) e ∙ sym (times-lacks n ms (has_alike n ms e))

-- a pin more
abbrev pins_to : ℕ → List (List Seg × Pin) → ℕ
pins_to n pins = count_by (λ (pin : List Seg × Pin). is_wired_to n pin.1.route) pins

none_more : (k : ℕ) → k ≡ 0 + k
none_more k = omega arith

times_pins : (n : ℕ) (pins : List (List Seg × Pin)) → times n (wired_numbers pins) ≡ pins_to n pins
unfolding wired_numbers times
times_pins n [] = refl
times_pins n (pin ∷ pins) = by pin.1.route (times_pins n pins) ∙ sym (sum_by-cons (λ (p : List Seg × Pin). cond (is_wired_to n p.1.route) 1 0) pin pins)
  where
    by : (route : Route) → count_by (λ m. m == n) (filter_map (λ (p : List Seg × Pin). wired_number p.1.route) pins) ≡ pins_to n pins
        → count_by (λ m. m == n) (cons_option (wired_number route) (filter_map (λ (p : List Seg × Pin). wired_number p.1.route) pins)) ≡ cond (is_wired_to n route) 1 0 + pins_to n pins
    by (Wired m) rest = sum_by-cons (λ k. cond (k == n) 1 0) m (filter_map (λ (p : List Seg × Pin). wired_number p.1.route) pins) ∙ ap (λ k. cond (m == n) 1 0 + k) rest
    by (Link p) rest = rest ∙ none_more (pins_to n pins)

times-append : (n : ℕ) (ms ks : List ℕ) → times n (ms ++ ks) ≡ times n ms + times n ks
unfolding times
times-append n ms ks = sum_by-append (λ m. cond (m == n) 1 0) ms ks

counts_times : (ms : List ℕ) (n : ℕ) → wired_to (wired_counts ms) n ≡ times n ms
unfolding wired_counts wired
counts_times ms n = wired_times ms n

pub pins_counted : (pins : List (List Seg × Pin)) (interrupt : ℕ) → wired_to (pin_counts pins) interrupt ≡ count_by (λ pin. is_wired_to interrupt pin.1.route) pins
pins_counted pins interrupt = counts_times (wired_numbers pins) interrupt ∙ times_pins interrupt pins

pub sources_counted : (avoid : List ℕ) (sci : Option ℕ) (links : List PresentLink) (pins : List (List Seg × Pin)) (interrupt : ℕ)
    → wired_to (problem_of avoid sci links pins).wired interrupt ≡ count_by (λ pin. is_wired_to interrupt pin.1.route) pins + count_by (λ n. n == interrupt) (option_to_list sci)
unfolding problem_of source_numbers times
sources_counted avoid sci links pins interrupt =
    counts_times (wired_numbers pins ++ option_to_list sci) interrupt
    ∙ (times-append interrupt (wired_numbers pins) (option_to_list sci) ∙ ap (λ k. k + times interrupt (option_to_list sci)) (times_pins interrupt pins))

-- the counts are in order
pub set_in_order : (numbers : List ℕ) → IsStrictlyIncreasing (set_of numbers)
set_in_order numbers = IsStrictlyIncreasing-from_sorted (set_of numbers) (set_ascends [] numbers none_ascends)

firsts : (ms set : List ℕ) → map (λ w. w.0) (map (counted ms) set) ≡ set
firsts ms [] = refl
firsts ms (n ∷ ns) = ap (λ rest. n ∷ rest) (firsts ms ns)

pub counts_in_order : (pins : List (List Seg × Pin)) → IsStrictlyIncreasing (map (λ w. w.0) (pin_counts pins))
unfolding wired_counts
counts_in_order pins = rw (firsts (wired_numbers pins) (set_of (wired_numbers pins))) (set_in_order (wired_numbers pins))

few_numbers : (pins : List (List Seg × Pin)) → length (wired_numbers pins) ≤ length pins
unfolding wired_numbers
few_numbers [] = omega arith
few_numbers (pin ∷ pins) = by pin.1.route (few_numbers pins)
  where
    by : (route : Route) → length (filter_map (λ (p : List Seg × Pin). wired_number p.1.route) pins) ≤ length pins
        → length (cons_option (wired_number route) (filter_map (λ (p : List Seg × Pin). wired_number p.1.route) pins)) ≤ suc (length pins)
    by (Wired m) h = omega arith
    by (Link p) h = omega arith

pub counts_few : (pins : List (List Seg × Pin)) → length (pin_counts pins) ≤ length pins
unfolding wired_counts
counts_few pins =
    let a = length-map (set_of (wired_numbers pins)) (counted (wired_numbers pins)) in
    let b = length-set_of (wired_numbers pins) in
    let c = few_numbers pins in
    omega arith
