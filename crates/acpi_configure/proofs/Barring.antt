-- The interrupts that no link is given, as the problem has them and as a report claims them.
use Rattle.std.proofs.Common.{◌≡◌, ◌∙◌, ap, sym, subst, refl, ℕ, ◌<◌, ◌⊎◌, inl, inr, Bool, true, false, cond, List, [], ◌∷◌, ◌++◌, length, Option, Some, None, arith}
use Rattle.std.specs.Prelude.{◌↔◌, not, All, Contains}
use Rattle.std.specs.List.{filter_map, cons_option}
use Rattle.std.specs.List.Sorted.{IsStrictlyIncreasing}
use Rattle.std.specs.Ordering.{nat_cmp}
use Rattle.std.specs.FinMap.{nat_cmp-IsAntisymmetric}
use Rattle.std.proofs.lemmas.Cmp.{nat_cmp_total}
use Rattle.std.proofs.lemmas.List.Elements.{All-nil, All-cons, Contains-append_left, Contains-append_right, Contains-append_cases}
use Rattle.std.proofs.lemmas.Map.Keys.{IsStrictlyIncreasing-dedup}
use Rattle.aml_path.specs.declared.segment.Seg.{Seg}
use Rattle.acpi_resources.specs.Numbers.{set_of}
use Rattle.acpi_resources.proofs.Members.{members_of_set}
use Rattle.route_model.specs.Avoided.{is_avoided, without}
use Rattle.route_model.proofs.Filtered.{any_contains, contains_any}
use Rattle.route_model.proofs.NotAvoided.{avoided_is}
use Rattle.route_report.specs.Ordered.{in_order, barred, barred_by}
use Rattle.route_report.specs.Readable.{spared_numbers, spared_by, spared_devices, rule_by}
use Rattle.route_report.specs.Reports.{ReportedAfter, ReportedOptions, SparedDevice, is_spread}
use Rattle.route_report.proofs.Barred.{barred_has, barred_only}
use Rattle.route_report.proofs.Sorting.{is_sorted}
use Rattle.acpi_configure.specs.Others.{numbers_at, numbers_in, barred_if, spared_device, spared_line, rule_if, options_if}

-- ---- two lists with the same interrupts avoid the same

same_members : (xs ys : List ℕ) (n : ℕ) → Contains xs n ↔ Contains ys n → is_avoided xs n ≡ is_avoided ys n
same_members xs ys n h = avoided_is ys n (is_avoided xs n) ((λ t. h.0 (any_contains n xs t)), (λ c. contains_any n xs (h.1 c)))

pub set_alike : (avoid : List ℕ) (n : ℕ) → is_avoided (set_of avoid) n ≡ is_avoided avoid n
set_alike avoid n = same_members (set_of avoid) avoid n (members_of_set avoid n)

barred_both : (avoid spared : List ℕ) (n : ℕ) → Contains (barred (set_of avoid) spared) n ↔ Contains (avoid ++ spared) n
barred_both avoid spared n = (
  λ c. elim (Contains-append_cases (set_of avoid) spared n (barred_only (set_of avoid) spared n c)) [
    | inl d ↦ Contains-append_left avoid spared n ((members_of_set avoid n).0 d)
    | inr d ↦ Contains-append_right avoid spared n d
  ],
  λ c. barred_has (set_of avoid) spared n (elim (Contains-append_cases avoid spared n c) [
    | inl d ↦ Contains-append_left (set_of avoid) spared n ((members_of_set avoid n).1 d)
    | inr d ↦ Contains-append_right (set_of avoid) spared n d
  ]),
)

-- ---- the interrupts of devices

spared_one : (path : List Seg) (ns : List ℕ) (rest : List SparedDevice) → spared_numbers (cons_option (spared_device path ns) rest) ≡ ns ++ spared_numbers rest
unfolding spared_numbers
spared_one path [] rest = refl
spared_one path (n ∷ ns) rest = refl

pub spared_all : (asked : List ReportedAfter) → spared_numbers (filter_map spared_line asked) ≡ numbers_in asked
unfolding spared_numbers numbers_in
spared_all [] = refl
spared_all (line ∷ lines) = spared_one line.path (numbers_at line.state) (filter_map spared_line lines) ∙ ap (λ ns. numbers_at line.state ++ ns) (spared_all lines)

some_one : (path : List Seg) (ns : List ℕ) (rest : List SparedDevice) → All (λ s. 0 < length s.interrupts) rest → All (λ s. 0 < length s.interrupts) (cons_option (spared_device path ns) rest)
some_one path [] rest h = h
some_one path (n ∷ ns) rest h = All-cons (λ (s : SparedDevice). 0 < length s.interrupts) (record { device = path; interrupts = n ∷ ns }) rest (omega arith) h

some_each : (asked : List ReportedAfter) → All (λ s. 0 < length s.interrupts) (filter_map spared_line asked)
some_each [] = All-nil (λ (s : SparedDevice). 0 < length s.interrupts)
some_each (line ∷ lines) = some_one line.path (numbers_at line.state) (filter_map spared_line lines) (some_each lines)

pub some_spared : (spare spread : Bool) (asked : List ReportedAfter) → All (λ s. 0 < length s.interrupts) (spared_devices (options_if spare spread asked))
some_spared true spread asked = some_each asked
some_spared false true asked = some_each asked
some_spared false false asked = All-nil (λ (s : SparedDevice). 0 < length s.interrupts)

-- ---- a report claims just what the problem has

nothing_behind : (avoid : List ℕ) (n : ℕ) → Contains (avoid ++ []) n ↔ Contains avoid n
nothing_behind avoid n = (
  λ c. elim (Contains-append_cases avoid [] n c) [ inl d ↦ d | inr d ↦ absurd (let h = d.1 in omega arith) ],
  λ c. Contains-append_left avoid [] n c,
)

both_ways : {A B C : Type 0} → A ↔ B → B ↔ C → A ↔ C
both_ways f g = (λ a. g.0 (f.0 a), λ c. f.1 (g.1 c))

back : {A B : Type 0} → A ↔ B → B ↔ A
back f = (f.1, f.0)

spared_alike : (avoid : List ℕ) (asked : List ReportedAfter) (n : ℕ) → is_avoided (barred (set_of avoid) (spared_numbers (filter_map spared_line asked))) n ≡ is_avoided (set_of (avoid ++ numbers_in asked)) n
spared_alike avoid asked n =
    ap (λ (ns : List ℕ). is_avoided (barred (set_of avoid) ns) n) (spared_all asked)
    ∙ same_members (barred (set_of avoid) (numbers_in asked)) (set_of (avoid ++ numbers_in asked)) n (both_ways (barred_both avoid (numbers_in asked) n) (back (members_of_set (avoid ++ numbers_in asked) n)))

none_alike : (avoid : List ℕ) (n : ℕ) → is_avoided (barred (set_of avoid) []) n ≡ is_avoided avoid n
none_alike avoid n = same_members (barred (set_of avoid) []) avoid n (both_ways (barred_both avoid [] n) (nothing_behind avoid n))

unasked_alike : (avoid : List ℕ) (asked : List ReportedAfter) (n : ℕ) → asked ≡ [] → is_avoided (barred (set_of avoid) (spared_numbers (filter_map spared_line asked))) n ≡ is_avoided avoid n
unfolding numbers_in
unasked_alike avoid asked n none = ap (λ (ns : List ℕ). is_avoided (barred (set_of avoid) ns) n) (spared_all asked ∙ ap numbers_in none) ∙ none_alike avoid n

pub barred_alike : (spare spread : Bool) (avoid : List ℕ) (asked : List ReportedAfter) → (spare ≡ false → asked ≡ []) → (n : ℕ)
    → is_avoided (barred_by (set_of avoid) (spared_by (options_if spare spread asked))) n ≡ is_avoided (barred_if spare avoid asked) n
barred_alike true spread avoid asked none n = spared_alike avoid asked n
barred_alike false true avoid asked none n = unasked_alike avoid asked n (none refl)
barred_alike false false avoid asked none n = set_alike avoid n

pub rule_said : (spare spread : Bool) (asked : List ReportedAfter) → is_spread (rule_by (options_if spare spread asked)) ≡ spread
rule_said true true asked = refl
rule_said true false asked = refl
rule_said false true asked = refl
rule_said false false asked = refl

pub barred_up : (ns : List ℕ) (o : Option ReportedOptions) → IsStrictlyIncreasing ns → IsStrictlyIncreasing (barred_by ns (spared_by o))
barred_up ns None up = up
barred_up ns (Some o) up = IsStrictlyIncreasing-dedup (in_order nat_cmp (ns ++ spared_numbers o.spared)) (is_sorted nat_cmp nat_cmp_total nat_cmp-IsAntisymmetric (ns ++ spared_numbers o.spared))

-- ---- what is left of offers

pub same_without : (xs ys : List ℕ) → ((n : ℕ) → is_avoided xs n ≡ is_avoided ys n) → (ns : List ℕ) → without xs ns ≡ without ys ns
unfolding without
same_without xs ys h [] = refl
same_without xs ys h (n ∷ ns) =
    ap (λ (b : Bool). cond (not b) (n ∷ without xs ns) (without xs ns)) (h n)
    ∙ ap (λ (rest : List ℕ). cond (not (is_avoided ys n)) (n ∷ rest) rest) (same_without xs ys h ns)
