-- The children of a node, by the index and by the map of paths.
use Rattle.std.proofs.Common.{◌≡◌, ℕ, ◌+◌, Bool, true, false, cond, T, List, [], ◌∷◌, ◌++◌, length, map, inl, inr, Option, Some, None, is_some, refl, ap, sym, subst, ◌∙◌, arith, eqb→eq, length-append}
use Rattle.std.specs.Prelude.{◌==◌, ◌&&◌, ◌||◌, option_and_then, if◌then◌else◌, slice_get, not, filter, filter_map}
use Rattle.std.specs.Option.{option_map}
use Rattle.std.specs.List.{AllByRecursion, list_any}
use Rattle.std.proofs.lemmas.Bool.{cases_eq, cases_lt, eq-eqb, ne_eqb}
use Rattle.std.specs.declared.cmp.Ordering.{Ordering}
use Rattle.std.specs.declared.cmp.Ordering.TheVariants.{Less, Equal, Greater}
use Rattle.std.specs.Ordering.{nat_cmp, eq_by_cmp, is_eq, is_le, is_gt, ordering_then, ordering_reverse}
use Rattle.std.specs.Cmp.{IsTotalOrder, nat_cmp_is, eq_by_cmp_equiv}
use Rattle.std.specs.List.Sorted.{IsStrictlySortedBy}
use Rattle.std.specs.FinMap.{keys, contains_key-keys, IsAntisymmetric}
use Rattle.std.specs.BTreeMap.{is_at}
use Rattle.std.specs.Map.{lookup, keys_of}
use Rattle.aml_path.specs.declared.segment.Seg.{Seg}
use Rattle.aml_path.specs.Segments.{seg_cmp}
use Rattle.aml_path.proofs.Segments.{seg_cmp_exact}
use Rattle.aml_path.specs.Paths.{path_cmp}
use Rattle.aml_objects.specs.declared.node.NodeId.{NodeId}
use Rattle.aml_namespace.specs.Walks.{child_of, children, Ascending}
use Rattle.aml_namespace.specs.Nodes.{NodeMap}
use Rattle.aml_namespace.specs.Tree.{Index, index_cmp, child_in, down, map_of, Linked, segment_below, segments_below}
use Rattle.aml_namespace.proofs.Numbers.{apart}
use Rattle.aml_namespace.proofs.Paths.{down_append, other_path}
use Rattle.aml_namespace.proofs.Indexes.{seg_total, from_least, from_least_later}
use Rattle.aml_namespace.proofs.Ascent.{Keeps, picks_ascend, child_path, itself, children_ascend}
use Rattle.aml_namespace.proofs.Cutting.{is_below_is}
use Rattle.aml_namespace.proofs.Declaring.{contains, contains_child}

-- ---- two ascending lists of the same elements are one

module _ {A : Type 0} (R : A → A → Ordering) (total : IsTotalOrder R) (exact : IsAntisymmetric R) where
  abbrev pub has : List A → A → Bool
  has xs s = list_any (eq_by_cmp R s) xs

  not_among : (x : A) (ys : List A) → AllByRecursion (λ y. R x y ≡ Less) ys → has ys x ≡ false
  not_among x [] below = refl
  not_among x (y ∷ ys) below = ap (λ b. b || has ys x) (ap is_eq below.0) ∙ not_among x ys below.1

  below_more : (x y : A) (ys : List A) → R x y ≡ Less → AllByRecursion (λ z. R y z ≡ Less) ys → AllByRecursion (λ z. R x z ≡ Less) ys
  below_more x y [] lt below = tt
  below_more x y (z ∷ zs) lt below = (total.trans x y z lt below.0, below_more x y zs lt below.1)

  first_has : (x : A) (xs : List A) → has (x ∷ xs) x ≡ true
  first_has x xs = ap (λ b. b || has xs x) ((eq_by_cmp_equiv total).refl x)

  other_has : (b c : Bool) → b ≡ false → (b || c) ≡ c
  other_has true c is = absurd (cc is)
  other_has false c is = refl

  same_rest : (s x : A) (xs ys : List A) (b : Bool) → eq_by_cmp R s x ≡ b → AllByRecursion (λ y. R x y ≡ Less) xs → AllByRecursion (λ y. R x y ≡ Less) ys → has (x ∷ xs) s ≡ has (x ∷ ys) s → has xs s ≡ has ys s
  same_rest s x xs ys true is bx by same =
      let one : s ≡ x = exact s x (equal (R s x) is) in
      ap (has xs) one ∙ not_among x xs bx ∙ sym (ap (has ys) one ∙ not_among x ys by)
    where
      equal : (r : Ordering) → is_eq r ≡ true → r ≡ Equal
      equal Less e = absurd (cc e)
      equal Equal e = refl
      equal Greater e = absurd (cc e)
  same_rest s x xs ys false is bx by same = sym (other_has _ _ is) ∙ same ∙ other_has _ _ is

  pub same_ascending : (xs ys : List A) → Ascending R xs → Ascending R ys → ((s : A) → has xs s ≡ has ys s) → xs ≡ ys
  same_ascending [] [] a b same = refl
  same_ascending [] (y ∷ ys) a b same = absurd (cc (same y ∙ first_has y ys))
  same_ascending (x ∷ xs) [] a b same = absurd (cc (sym (same x) ∙ first_has x xs))
  same_ascending (x ∷ xs) (y ∷ ys) a b same = heads (R x y) refl (λ one. same_ascending xs ys a.1 b.1 (λ s. same_rest s x xs ys (eq_by_cmp R s x) refl a.0 (subst (λ z. AllByRecursion (λ w. R z w ≡ Less) ys) (sym one) b.0) (same s ∙ ap (λ z. has (z ∷ ys) s) (sym one))))
    where
      heads : (r : Ordering) → R x y ≡ r → (x ≡ y → xs ≡ ys) → x ∷ xs ≡ y ∷ ys
      heads Less is rest = absurd (cc (sym (first_has x xs) ∙ same x ∙ other_has _ (has ys x) (ap is_eq is) ∙ not_among x ys (below_more x y ys is b.0)))
      heads Equal is rest = let one : x ≡ y = exact x y is in ap (λ z. z ∷ xs) one ∙ ap (λ l. y ∷ l) (rest one)
      heads Greater is rest =
          let other : R y x ≡ Less = total.antisymm y x ∙ ap ordering_reverse is in
          absurd (cc (sym (first_has y ys) ∙ sym (same y) ∙ other_has _ (has xs y) (ap is_eq other) ∙ not_among y xs (below_more y x xs other a.0)))

-- ---- by the index

abbrev by_place : (ℕ × Seg) × NodeId → (ℕ × Seg) × NodeId → Ordering
by_place x y = index_cmp x.0 y.0

below_all : (k : ℕ × Seg) (es : Index) → AllByRecursion (λ y. index_cmp k y ≡ Less) (keys_of es) → AllByRecursion (λ (e : (ℕ × Seg) × NodeId). index_cmp k e.0 ≡ Less) es
below_all k [] h = tt
below_all k (e ∷ es) h = (h.0, below_all k es h.1)

places_ascend : (es : Index) → IsStrictlySortedBy index_cmp (keys_of es) → Ascending by_place es
unfolding IsStrictlySortedBy
places_ascend [] h = tt
places_ascend (e ∷ es) h = (below_all e.0 es h.0, places_ascend es h.1)

picked : (b : Bool) (s t : Seg) → (if b then Some s else None) ≡ Some t → (b ≡ true) × (s ≡ t)
picked true s t is = (refl, cc is)
picked false s t is = absurd (cc is)

parent_of : (p : ℕ) (e : (ℕ × Seg) × NodeId) (s : Seg) → segment_below p e ≡ Some s → (e.0.0 ≡ p) × (e.0.1 ≡ s)
parent_of p e s is = let both = picked (e.0.0 == p) e.0.1 s is in (eqb→eq e.0.0 p (subst T (sym both.0) tt), both.1)

segments_keep : (p : ℕ) → Keeps by_place seg_cmp (segment_below p)
segments_keep p = record {
  keeps = λ x y a b lt at other.
      let one = parent_of p x a at in
      let two = parent_of p y b other in
      let level : nat_cmp x.0.0 y.0.0 ≡ Equal = sym (nat_cmp_is x.0.0 y.0.0 Equal (one.0 ∙ sym two.0)) in
      sym (ap (λ r. ordering_then r (seg_cmp a b)) level) ∙ ap (λ s. ordering_then (nat_cmp x.0.0 y.0.0) (seg_cmp s b)) (sym one.1) ∙ ap (λ s. ordering_then (nat_cmp x.0.0 y.0.0) (seg_cmp x.0.1 s)) (sym two.1) ∙ lt;
}

below_ascend : (p : ℕ) (es : Index) → IsStrictlySortedBy index_cmp (keys_of es) → Ascending seg_cmp (segments_below p es)
below_ascend p es h = picks_ascend by_place seg_cmp (segment_below p) (segments_keep p) es (places_ascend es h)

nat_apart : (p q : ℕ) → (q == p) ≡ false → is_eq (nat_cmp p q) ≡ false
nat_apart p q is = elim (cases_eq p q) [
  | inl e ↦ absurd (cc (sym is ∙ eq-eqb q p (sym e)))
  | inr ne ↦ apart p q ne
]

then_apart : (r t : Ordering) → is_eq r ≡ false → is_eq (ordering_then r t) ≡ false
then_apart Less t h = h
then_apart Equal t h = absurd (cc h)
then_apart Greater t h = h

below_has : (p : ℕ) (es : Index) (s : Seg) → list_any (eq_by_cmp seg_cmp s) (segments_below p es) ≡ is_some (child_in es p s)
below_has p [] s = refl
below_has p (e ∷ es) s = by (e.0.0 == p) refl (below_has p es s)
  where
    lead : (b c : Bool) (o : Option NodeId) → c ≡ is_some (option_map (λ (i : NodeId). i.number) o) → (b || c) ≡ is_some (option_map (λ (i : NodeId). i.number) (cond b (Some e.1) o))
    lead true c o is = refl
    lead false c o is = is

    by : (b : Bool) → (e.0.0 == p) ≡ b → list_any (eq_by_cmp seg_cmp s) (segments_below p es) ≡ is_some (child_in es p s)
        → list_any (eq_by_cmp seg_cmp s) (segments_below p (e ∷ es)) ≡ is_some (option_map (λ (i : NodeId). i.number) (cond (is_at (index_cmp (p, s)) e.0) (Some e.1) (lookup (is_at (index_cmp (p, s))) es)))
    by true is rest =
        let level : nat_cmp p e.0.0 ≡ Equal = sym (nat_cmp_is p e.0.0 Equal (sym (eqb→eq e.0.0 p (subst T (sym is) tt)))) in
        rw (is, level) (lead (eq_by_cmp seg_cmp s e.0.1) (list_any (eq_by_cmp seg_cmp s) (segments_below p es)) (lookup (is_at (index_cmp (p, s))) es) rest)
    by false is rest =
        let other : is_at (index_cmp (p, s)) e.0 ≡ false = then_apart (nat_cmp p e.0.0) (seg_cmp s e.0.1) (nat_apart p e.0.0 is) in
        rw (is, other) rest

-- what lies between the least places below a parent and below the next number is the parent's
and_false : (b : Bool) → (b && false) ≡ false
and_false true = refl
and_false false = refl

le_is : (r : Ordering) → is_gt r ≡ false → is_le r ≡ true
le_is Less h = refl
le_is Equal h = refl
le_is Greater h = absurd (cc h)

above_all : (r t : Ordering) → r ≡ Greater → is_le (ordering_then r t) ≡ false
above_all r t is = ap (λ o. is_le (ordering_then o t)) is

module _ (p : ℕ) (low high : Seg) (least : low.bytes ≡ 65 ∷ 48 ∷ 48 ∷ 48 ∷ []) (least_high : high.bytes ≡ 65 ∷ 48 ∷ 48 ∷ 48 ∷ []) where
  between : (k : ℕ × Seg) → (is_le (index_cmp (p, low) k) && not (is_le (index_cmp (p + 1, high) k))) ≡ (k.0 == p)
  between k = elim (cases_lt k.0 p) [
    | inl lt ↦
        ap (λ b. b && not (is_le (index_cmp (p + 1, high) k))) (above_all (nat_cmp p k.0) (seg_cmp low k.1) (sym (nat_cmp_is p k.0 Greater lt)))
        ∙ sym (ne_eqb k.0 p (λ e. absurd (omega (arith, lt, e))))
    | inr ge ↦ elim (cases_eq k.0 p) [
      | inl e ↦
          let first : is_le (index_cmp (p, low) k) ≡ true = le_is _ (ap (λ n. is_gt (index_cmp (p, low) (n, k.1))) e ∙ from_least p low least k.1) in
          let past : is_le (index_cmp (p + 1, high) k) ≡ false = above_all (nat_cmp (p + 1) k.0) (seg_cmp high k.1) (sym (nat_cmp_is (p + 1) k.0 Greater (omega (arith, e)))) in
          ap (λ b. b && not (is_le (index_cmp (p + 1, high) k))) first ∙ ap not past ∙ sym (eq-eqb k.0 p e)
      | inr ne ↦
          let past : is_le (index_cmp (p + 1, high) k) ≡ true = le_is _ (from_least_later (p + 1) high least_high k (omega (arith, ge, ne))) in
          ap (λ b. is_le (index_cmp (p, low) k) && not b) past ∙ and_false (is_le (index_cmp (p, low) k)) ∙ sym (ne_eqb k.0 p ne)
    ]
  ]

  pub in_between : (es : Index) → map (λ (e : (ℕ × Seg) × NodeId). e.0.1) (filter (λ (e : (ℕ × Seg) × NodeId). is_le (index_cmp (p, low) e.0) && not (is_le (index_cmp (p + 1, high) e.0))) es) ≡ segments_below p es
  in_between [] = refl
  in_between (e ∷ es) = by (e.0.0 == p) refl (in_between es)
    where
      by : (b : Bool) → (e.0.0 == p) ≡ b → map (λ (e : (ℕ × Seg) × NodeId). e.0.1) (filter (λ (e : (ℕ × Seg) × NodeId). is_le (index_cmp (p, low) e.0) && not (is_le (index_cmp (p + 1, high) e.0))) es) ≡ segments_below p es
          → map (λ (e : (ℕ × Seg) × NodeId). e.0.1) (filter (λ (e : (ℕ × Seg) × NodeId). is_le (index_cmp (p, low) e.0) && not (is_le (index_cmp (p + 1, high) e.0))) (e ∷ es)) ≡ segments_below p (e ∷ es)
      by true is rest = let test : (is_le (index_cmp (p, low) e.0) && not (is_le (index_cmp (p + 1, high) e.0))) ≡ true = between e.0 ∙ is in rw (test, is) (ap (λ l. e.0.1 ∷ l) rest)
      by false is rest = let test : (is_le (index_cmp (p, low) e.0) && not (is_le (index_cmp (p + 1, high) e.0))) ≡ false = between e.0 ∙ is in rw (test, is) rest

-- ---- by the map

one_segment : (s t : Seg) → eq_by_cmp path_cmp (s ∷ []) (t ∷ []) ≡ eq_by_cmp seg_cmp s t
one_segment s t = by (seg_cmp s t)
  where
    by : (r : Ordering) → is_eq (ordering_then r Equal) ≡ is_eq r
    by Less = refl
    by Equal = refl
    by Greater = refl

last_is : (p : List Seg) (s : Seg) → slice_get (p ++ s ∷ []) (length p) ≡ Some s
last_is [] s = refl
last_is (t ∷ ts) s = last_is ts s

own_child : (p : List Seg) (s : Seg) → child_of p (p ++ s ∷ []) ≡ Some s
own_child p s =
    let level : (length (p ++ s ∷ []) == length p + 1) ≡ true = eq-eqb (length (p ++ s ∷ [])) (length p + 1) (length-append p (s ∷ [])) in
    rw (level, is_below_is p s []) (last_is p s)

children_has : (p : List Seg) (ks : List (List Seg)) (s : Seg) → list_any (eq_by_cmp seg_cmp s) (filter_map (child_of p) ks) ≡ list_any (eq_by_cmp path_cmp (p ++ s ∷ [])) ks
children_has p [] s = refl
children_has p (k ∷ ks) s = by (child_of p k) refl (children_has p ks s)
  where
    by : (o : Option Seg) → child_of p k ≡ o → list_any (eq_by_cmp seg_cmp s) (filter_map (child_of p) ks) ≡ list_any (eq_by_cmp path_cmp (p ++ s ∷ [])) ks
        → list_any (eq_by_cmp seg_cmp s) (filter_map (child_of p) (k ∷ ks)) ≡ (eq_by_cmp path_cmp (p ++ s ∷ []) k || list_any (eq_by_cmp path_cmp (p ++ s ∷ [])) ks)
    by None is rest =
        let other : eq_by_cmp path_cmp (p ++ s ∷ []) k ≡ false = other_path (eq_by_cmp path_cmp (p ++ s ∷ []) k) (p ++ s ∷ []) k refl (λ e. absurd (cc (sym is ∙ ap (child_of p) (sym e) ∙ own_child p s))) in
        rw (is, other) rest
    by (Some t) is rest =
        let tied : eq_by_cmp path_cmp (p ++ s ∷ []) k ≡ eq_by_cmp seg_cmp s t = ap (eq_by_cmp path_cmp (p ++ s ∷ [])) (child_path p k t is) ∙ ap is_eq (itself p (s ∷ []) (t ∷ [])) ∙ one_segment s t in
        rw (is, tied) (ap (λ b. eq_by_cmp seg_cmp s t || b) rest)

pub children_are : (m : NodeMap) (es : Index) (next : ℕ) (linked : Linked m (child_in es) next) → IsStrictlySortedBy index_cmp (keys_of es) → (p : List Seg) (n : ℕ) → down (child_in es) 0 p ≡ Some n → segments_below n es ≡ children p (map_of m)
unfolding children
children_are m es next linked ordered p n is =
    same_ascending seg_cmp seg_total seg_cmp_exact (segments_below n es) (children p (map_of m)) (below_ascend n es ordered) (children_ascend p (map_of m))
    (λ s. below_has n es s ∙ sym (contains_child m (child_in es) next linked p s n is) ∙ contains_key-keys (map_of m) (p ++ s ∷ []) ∙ sym (children_has p (keys (map_of m)) s))

pub no_children : (m : NodeMap) (es : Index) (next : ℕ) (linked : Linked m (child_in es) next) (p : List Seg) → down (child_in es) 0 p ≡ None → [] ≡ children p (map_of m)
unfolding children
no_children m es next linked p is = sym (same_ascending seg_cmp seg_total seg_cmp_exact (children p (map_of m)) [] (children_ascend p (map_of m)) tt (λ s.
    children_has p (keys (map_of m)) s ∙ sym (contains_key-keys (map_of m) (p ++ s ∷ []))
    ∙ contains m (child_in es) next linked (p ++ s ∷ []) ∙ ap is_some (down_append (child_in es) 0 p (s ∷ []) ∙ ap (option_and_then (λ k. down (child_in es) k (s ∷ []))) is)))
