-- What is picked in path order ascends.
use Rattle.std.proofs.Common.{◌≡◌, ℕ, ◌+◌, List, [], ◌∷◌, ◌++◌, length, take, map, T, Bool, true, false, Some, None, refl, sym, subst, ◌∙◌, arith, eqb→eq}
use Rattle.std.specs.Prelude.{Option, ◌&&◌, ◌==◌, nat_lt, slice_get, if◌then◌else◌}
use Rattle.std.specs.List.{filter_map, AllByRecursion}
use Rattle.std.specs.declared.cmp.Ordering.{Ordering}
use Rattle.std.specs.declared.cmp.Ordering.TheVariants.{Less, Equal, Greater}
use Rattle.std.specs.Ordering.{is_eq, is_lt, nat_cmp, ordering_then}
use Rattle.std.specs.Cmp.{nat_cmp_is}
use Rattle.std.specs.Cmp.Lexicographic.{slice_cmp}
use Rattle.std.proofs.lemmas.List.{take_all, take_more}
use Rattle.std.proofs.lemmas.Option.{get_or_from_slice_get}
use Rattle.std.specs.FinMap.{entries, keys, is_sorted, entries_sorted}
use Rattle.std.specs.FinMap.Entries.{below_all}
use Rattle.aml_path.specs.declared.segment.Seg.{Seg}
use Rattle.aml_path.specs.Segments.{seg_cmp}
use Rattle.aml_path.specs.Paths.{path_cmp, path_eq, is_below}
use Rattle.aml_namespace.specs.Namespace.{Map}
use Rattle.aml_namespace.proofs.Paths.{only_equal}
use Rattle.aml_namespace.specs.Walks.{child_of, children, named, walked, Ascending}

bytes_itself : (bs : List ℕ) → slice_cmp nat_cmp bs bs ≡ Equal
bytes_itself [] = refl
bytes_itself (b ∷ bs) = rw (sym (nat_cmp_is b b Equal refl)) (bytes_itself bs)

same_segment : (s : Seg) → seg_cmp s s ≡ Equal
same_segment s = bytes_itself s.bytes

first : (a b : Bool) → T (a && b) → T a
first true b p = tt
first false b p = p

second : (a b : Bool) → T (a && b) → T b
second true b p = p
second false b p = absurd p

less : (r : Ordering) → T (is_lt r) → r ≡ Less
less Less p = refl
less Equal p = absurd p
less Greater p = absurd p

module _ {K X : Type 0} (R : K → K → Ordering) where
  all_below : (x : K) (es : List (K × X)) → T (below_all R x es) → AllByRecursion (λ y. R x y ≡ Less) (map (λ e. e.0) es)
  all_below x [] h = tt
  all_below x (e ∷ es) h = (less (R x e.0) (first _ _ h), all_below x es (second _ _ h))

  -- the keys of entries in order ascend
  pub keys_ascend : (es : List (K × X)) → T (is_sorted R es) → Ascending R (map (λ e. e.0) es)
  keys_ascend [] h = tt
  keys_ascend (e ∷ es) h = (all_below e.0 es (first _ _ h), keys_ascend es (second _ _ h))

-- a pick that keeps the order
pub record Keeps {A B : Type 0} (R : A → A → Ordering) (S : B → B → Ordering) (f : A → Option B) : Type 0 where
  pub keeps : (x y : A) (a b : B) → R x y ≡ Less → f x ≡ Some a → f y ≡ Some b → S a b ≡ Less

module _ {A B : Type 0} (R : A → A → Ordering) (S : B → B → Ordering) (f : A → Option B) (kept : Keeps R S f) where
  rest_by : (x : A) (a : B) (y : A) (ys : List A) (o : Option B) → f y ≡ o → f x ≡ Some a → R x y ≡ Less → AllByRecursion (λ b. S a b ≡ Less) (filter_map f ys) → AllByRecursion (λ b. S a b ≡ Less) (filter_map f (y ∷ ys))
  rest_by x a y ys None is at lt more = rw is more
  rest_by x a y ys (Some b) is at lt more = rw is (kept.keeps x y a b lt at is, more)

  rest_at : (x : A) (a : B) (xs : List A) → f x ≡ Some a → AllByRecursion (λ y. R x y ≡ Less) xs → AllByRecursion (λ b. S a b ≡ Less) (filter_map f xs)
  rest_at x a [] at h = tt
  rest_at x a (y ∷ ys) at h = rest_by x a y ys (f y) refl at h.0 (rest_at x a ys at h.1)

  pick_by : (x : A) (xs : List A) (o : Option B) → f x ≡ o → AllByRecursion (λ y. R x y ≡ Less) xs → Ascending S (filter_map f xs) → Ascending S (filter_map f (x ∷ xs))
  pick_by x xs None is h more = rw is more
  pick_by x xs (Some a) is h more = rw is (rest_at x a xs is h, more)

  pub picks_ascend : (xs : List A) → Ascending R xs → Ascending S (filter_map f xs)
  picks_ascend [] h = tt
  picks_ascend (x ∷ xs) h = pick_by x xs (f x) refl h.0 (picks_ascend xs h.1)

-- all names but the root ascend, as they are themselves
named_is : (b : Bool) (p q : List Seg) → (if b then Some p else None) ≡ Some q → p ≡ q
named_is true p q is = cc is
named_is false p q is = absurd (cc is)

named_keeps : Keeps path_cmp path_cmp named
named_keeps = record {
  keeps = λ x y a b lt at other.
      rw (← named_is (nat_lt 0 (length x)) x a at, ← named_is (nat_lt 0 (length y)) y b other) lt;
}

pub walk_ascends : (m : Map) → Ascending path_cmp (walked m)
unfolding walked
walk_ascends m = picks_ascend path_cmp path_cmp named named_keeps (keys m) (keys_ascend path_cmp (entries m) (entries_sorted m))

-- a path one level below another is that path and a segment
equal : (r : Ordering) → is_eq r ≡ true → r ≡ Equal
equal Less is = absurd (cc is)
equal Equal is = refl
equal Greater is = absurd (cc is)

both : (a b : Bool) → (a && b) ≡ true → (a ≡ true) × (b ≡ true)
both true true is = (is, is)
both true false is = absurd (cc is)
both false b is = absurd (cc is)

chosen : {A : Type 0} (b : Bool) (o : Option A) (s : A) → (if b then o else None) ≡ Some s → (b ≡ true) × (o ≡ Some s)
chosen true o s is = (refl, is)
chosen false o s is = absurd (cc is)

pub child_path : (p q : List Seg) (s : Seg) → child_of p q ≡ Some s → q ≡ p ++ s ∷ []
child_path p q s is =
    let parts = chosen (length q == length p + 1 && is_below p q) (slice_get q (length p)) s is in
    let tests = both (length q == length p + 1) (is_below p q) parts.0 in
    let fronts = both (nat_lt (length p) (length q)) (path_eq (take (length p) q) p) tests.1 in
    let level : length q ≡ length p + 1 = eqb→eq (length q) (length p + 1) (subst T (sym tests.0) tt) in
    let front : take (length p) q ≡ p = only_equal (take (length p) q) p (equal _ fronts.1) in
    sym (take_all (length p + 1) q (omega arith)) ∙ take_more q (length p) s (omega arith) ∙ rw (front, get_or_from_slice_get q (length p) s s parts.1) refl

pub itself : (p : List Seg) (x y : List Seg) → path_cmp (p ++ x) (p ++ y) ≡ path_cmp x y
itself [] x y = refl
itself (s ∷ ss) x y = rw (same_segment s) (itself ss x y)

last_less : (r : Ordering) → ordering_then r Equal ≡ Less → r ≡ Less
last_less Less is = refl
last_less Equal is = absurd (cc is)
last_less Greater is = absurd (cc is)

children_keep : (p : List Seg) → Keeps path_cmp seg_cmp (child_of p)
children_keep p = record {
  keeps = λ x y a b lt at other.
      let below : path_cmp (p ++ a ∷ []) (p ++ b ∷ []) ≡ Less = rw (← child_path p x a at, ← child_path p y b other) lt in
      last_less (seg_cmp a b) (sym (itself p (a ∷ []) (b ∷ [])) ∙ below);
}

pub children_ascend : (p : List Seg) (m : Map) → Ascending seg_cmp (children p m)
unfolding children
children_ascend p m = picks_ascend path_cmp seg_cmp (child_of p) (children_keep p) (keys m) (keys_ascend path_cmp (entries m) (entries_sorted m))
