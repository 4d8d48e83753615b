-- Lists in which nothing stands twice, and the one element of a list that is such.
use Rattle.std.specs.Prelude.{◌≡◌, ◌<◌, ℕ, List, [], ◌∷◌, ◌++◌, map, filter, cond, Bool, true, false, Option, Some, None, Contains, refl}
use Rattle.std.specs.List.{AllByRecursion, filter_map, cons_option}
use Rattle.std.specs.List.Sorted.{IsStrictlySortedBy, IsStrictlyIncreasing}
use Rattle.std.specs.declared.cmp.Ordering.{Ordering}
use Rattle.std.specs.declared.cmp.Ordering.TheVariants.{Less, Equal}
use Rattle.std.proofs.Common.{inl, inr, ap, sym, subst, ◌∙◌, arith}
use Rattle.std.proofs.lemmas.List.Elements.{Contains-append_cases}
use Rattle.aml_namespace.specs.Walks.{Ascending}
use Rattle.acpi_links.proofs.Members.{first, behind, first_or_behind, no_member}
use Rattle.route_report.proofs.Ascending.{increasing_tail}
use Rattle.machine_laws.specs.KernelLines.{HasOne}

-- no two elements are the same
abbrev pub Apart : {A : Type 0} → List A → Type 0
Apart [] = Unit {0}
Apart {A} (x ∷ xs) = ((y : A) → Contains xs y → x ≡ y → ⊥) × Apart xs

pub apart_append : {A : Type 0} (xs ys : List A) → Apart xs → Apart ys → ((x y : A) → Contains xs x → Contains ys y → x ≡ y → ⊥) → Apart (xs ++ ys)
apart_append [] ys a b differ = b
apart_append (x ∷ xs) ys a b differ = (
  λ y c same. elim (Contains-append_cases xs ys y c) [ inl d ↦ a.0 y d same | inr d ↦ differ x y (first x xs) d same ],
  apart_append xs ys a.1 b (λ u v c d same. differ u v (behind x u xs c) d same),
)

-- what stands in a list that was mapped
pub mapped_from : {A B : Type 0} (f : A → B) (xs : List A) (y : B) → Contains (map f xs) y → (x : A) × Contains xs x × (f x ≡ y)
mapped_from f [] y c = absurd (no_member y c)
mapped_from {A} f (x ∷ xs) y c = elim (first_or_behind (f x) y (map f xs) c) [
  | inl same ↦ (x, first x xs, same)
  | inr d ↦ let r = mapped_from f xs y d in (r.0, behind x r.0 xs r.1, r.2)
]

pub mapped_has : {A B : Type 0} (f : A → B) (xs : List A) (x : A) → Contains xs x → Contains (map f xs) (f x)
mapped_has f [] x c = absurd (no_member x c)
mapped_has {A} {B} f (z ∷ zs) x c = elim (first_or_behind z x zs c) [
  | inl same ↦ subst (λ (v : B). Contains (f z ∷ map f zs) v) (ap f same) (first (f z) (map f zs))
  | inr d ↦ behind (f z) (f x) (map f zs) (mapped_has f zs x d)
]

pub apart_mapped : {A B : Type 0} (f : A → B) (xs : List A) → ((x y : A) → f x ≡ f y → x ≡ y) → Apart xs → Apart (map f xs)
apart_mapped f [] one a = tt
apart_mapped f (x ∷ xs) one a = (
  λ y c same. let r = mapped_from f xs y c in a.0 r.0 r.1 (one x r.0 (same ∙ sym r.2)),
  apart_mapped f xs one a.1,
)

-- what comes before all that follow it isn't among them
not_among : {A : Type 0} (R : A → A → Ordering) → ((x : A) → R x x ≡ Equal) → (x : A) (xs : List A) → AllByRecursion (λ y. R x y ≡ Less) xs → (y : A) → Contains xs y → x ≡ y → ⊥
not_among R tied x [] all y c same = no_member y c
not_among {A} R tied x (z ∷ zs) all y c same = elim (first_or_behind z y zs c) [
  | inl e ↦ let less : R x x ≡ Less = subst (λ (v : A). R x v ≡ Less) (e ∙ sym same) all.0 in cc (less, tied x)
  | inr d ↦ not_among R tied x zs all.1 y d same
]

pub apart_ascending : {A : Type 0} (R : A → A → Ordering) → ((x : A) → R x x ≡ Equal) → (xs : List A) → Ascending R xs → Apart xs
apart_ascending R tied [] up = tt
apart_ascending R tied (x ∷ xs) up = (not_among R tied x xs up.0, apart_ascending R tied xs up.1)

pub apart_sorted : {A : Type 0} (R : A → A → Ordering) → ((x : A) → R x x ≡ Equal) → (xs : List A) → IsStrictlySortedBy R xs → Apart xs
unfolding IsStrictlySortedBy
apart_sorted R tied [] up = tt
apart_sorted R tied (x ∷ xs) up = (not_among R tied x xs up.0, apart_sorted R tied xs up.1)

less_than_all : (x : ℕ) (xs : List ℕ) → IsStrictlyIncreasing (x ∷ xs) → (y : ℕ) → Contains xs y → x < y
less_than_all x [] up y c = absurd (no_member y c)
less_than_all x (z ∷ zs) up y c =
    let step : x < z = up 0 (omega arith) in
    elim (first_or_behind z y zs c) [
      | inl e ↦ omega arith
      | inr d ↦ let more : z < y = less_than_all z zs (increasing_tail x (z ∷ zs) up) y d in omega arith
    ]

pub apart_increasing : (xs : List ℕ) → IsStrictlyIncreasing xs → Apart xs
apart_increasing [] up = tt
apart_increasing (x ∷ xs) up = (λ y c same. let less = less_than_all x xs up y c in omega arith, apart_increasing xs (increasing_tail x xs up))

-- of things whose names are apart exactly one has a name that some thing has
pub one_named : {A B : Type 0} (f : A → B) (xs : List A) (b : B) → Contains (map f xs) b → Apart (map f xs) → HasOne (λ x. f x ≡ b) xs
one_named f [] b c a = absurd (no_member b c)
one_named {A} f (x ∷ xs) b c a = elim (first_or_behind (f x) b (map f xs) c) [
  | inl same ↦ record {
    one = x;
    earlier = [];
    later = xs;
    among = refl;
    is = same;
    not_earlier = λ other d e. no_member other d;
    not_later = λ other d e. a.0 (f other) (mapped_has f xs other d) (same ∙ sym e);
  }
  | inr d ↦ let rest = one_named f xs b d a.1 in record {
    one = rest.one;
    earlier = x ∷ rest.earlier;
    later = rest.later;
    among = ap (λ l. x ∷ l) rest.among;
    is = rest.is;
    not_earlier = λ other e same. elim (first_or_behind x other rest.earlier e) [
      | inl at ↦ a.0 b d (ap f at ∙ same)
      | inr h ↦ rest.not_earlier other h same
    ];
    not_later = rest.not_later;
  }
]

-- ---- what is picked of a list

pub picked_from : {A B : Type 0} (f : A → Option B) (xs : List A) (y : B) → Contains (filter_map f xs) y → (x : A) × Contains xs x × (f x ≡ Some y)
picked_from f [] y c = absurd (no_member y c)
picked_from {A} {B} f (x ∷ xs) y c = by (f x) refl c (picked_from f xs y)
  where
    by : (o : Option B) → f x ≡ o → Contains (cons_option o (filter_map f xs)) y → (Contains (filter_map f xs) y → (z : A) × Contains xs z × (f z ≡ Some y)) → (z : A) × Contains (x ∷ xs) z × (f z ≡ Some y)
    by None is d more = let r = more d in (r.0, behind x r.0 xs r.1, r.2)
    by (Some b) is d more = elim (first_or_behind b y (filter_map f xs) d) [
      | inl same ↦ (x, first x xs, is ∙ ap Some same)
      | inr e ↦ let r = more e in (r.0, behind x r.0 xs r.1, r.2)
    ]

pub picked_has : {A B : Type 0} (f : A → Option B) (xs : List A) (x : A) (y : B) → Contains xs x → f x ≡ Some y → Contains (filter_map f xs) y
picked_has f [] x y c is = absurd (no_member x c)
picked_has {A} {B} f (z ∷ zs) x y c is = elim (first_or_behind z x zs c) [
  | inl same ↦ subst (λ (o : Option B). Contains (cons_option o (filter_map f zs)) y) (sym (ap f same ∙ is)) (first y (filter_map f zs))
  | inr d ↦ by (f z) (picked_has f zs x y d is)
]
  where
    by : (o : Option B) → Contains (filter_map f zs) y → Contains (cons_option o (filter_map f zs)) y
    by None e = e
    by (Some b) e = behind b y (filter_map f zs) e

pub passed_from : {A : Type 0} (f : A → Bool) (xs : List A) (x : A) → Contains (filter f xs) x → Contains xs x × (f x ≡ true)
passed_from f [] x c = absurd (no_member x c)
passed_from {A} f (z ∷ zs) x c = by (f z) refl c (passed_from f zs x)
  where
    by : (b : Bool) → f z ≡ b → Contains (cond b (z ∷ filter f zs) (filter f zs)) x → (Contains (filter f zs) x → Contains zs x × (f x ≡ true)) → Contains (z ∷ zs) x × (f x ≡ true)
    by true is d more = elim (first_or_behind z x (filter f zs) d) [
      | inl same ↦ (subst (λ (v : A). Contains (z ∷ zs) v) same (first z zs), sym (ap f same) ∙ is)
      | inr e ↦ let r = more e in (behind z x zs r.0, r.1)
    ]
    by false is d more = let r = more d in (behind z x zs r.0, r.1)

pub passed_has : {A : Type 0} (f : A → Bool) (xs : List A) (x : A) → Contains xs x → f x ≡ true → Contains (filter f xs) x
passed_has f [] x c is = absurd (no_member x c)
passed_has {A} f (z ∷ zs) x c is = elim (first_or_behind z x zs c) [
  | inl same ↦ subst (λ (b : Bool). Contains (cond b (z ∷ filter f zs) (filter f zs)) x) (sym (ap f same ∙ is)) (subst (λ (v : A). Contains (z ∷ filter f zs) v) same (first z (filter f zs)))
  | inr d ↦ by (f z) (passed_has f zs x d is)
]
  where
    by : (b : Bool) → Contains (filter f zs) x → Contains (cond b (z ∷ filter f zs) (filter f zs)) x
    by true e = behind z x (filter f zs) e
    by false e = e

-- what passes ascends where all does
all_that_pass : {A : Type 0} (P : A → Type 0) (f : A → Bool) (xs : List A) → AllByRecursion P xs → AllByRecursion P (filter f xs)
all_that_pass P f [] all = all
all_that_pass P f (x ∷ xs) all = by (f x) (all_that_pass P f xs all.1)
  where
    by : (b : Bool) → AllByRecursion P (filter f xs) → AllByRecursion P (cond b (x ∷ filter f xs) (filter f xs))
    by true rest = (all.0, rest)
    by false rest = rest

pub passed_ascend : {A : Type 0} (R : A → A → Ordering) (f : A → Bool) (xs : List A) → Ascending R xs → Ascending R (filter f xs)
passed_ascend R f [] up = up
passed_ascend R f (x ∷ xs) up = by (f x) (passed_ascend R f xs up.1)
  where
    by : (b : Bool) → Ascending R (filter f xs) → Ascending R (cond b (x ∷ filter f xs) (filter f xs))
    by true rest = (all_that_pass (λ y. R x y ≡ Less) f xs up.0, rest)
    by false rest = rest
