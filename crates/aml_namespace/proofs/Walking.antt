-- The paths of all nodes, and those of the map.
use Rattle.std.proofs.Common.{◌≡◌, ℕ, zero, suc, ◌<◌, Bool, true, false, cond, List, [], ◌∷◌, length, Option, Some, None, is_some, refl, ap, sym, ◌∙◌, arith}
use Rattle.std.specs.Prelude.{◌&&◌, ◌||◌, nat_lt, filter_map}
use Rattle.std.specs.Option.{option_map}
use Rattle.std.specs.List.{list_any}
use Rattle.std.proofs.lemmas.Bool.Decides.{nat_tests}
use Rattle.std.specs.Ordering.{eq_by_cmp}
use Rattle.std.specs.FinMap.{get, keys, contains_key-keys}
use Rattle.std.specs.List.Sorted.{IsStrictlySortedBy}
use Rattle.std.specs.Map.{lookup}
use Rattle.std.specs.BTreeMap.{is_at}
use Rattle.std.specs.Cmp.{both_ways, eq_by_cmp_equiv}
use Rattle.aml_path.specs.declared.segment.Seg.{Seg}
use Rattle.aml_path.specs.Paths.{path_cmp}
use Rattle.aml_objects.specs.declared.entry.Entry.{Entry}
use Rattle.aml_objects.specs.declared.node.NodeId.{NodeId}
use Rattle.aml_namespace.specs.declared.node.Node.{Node}
use Rattle.aml_namespace.specs.Namespace.{Map, numbered}
use Rattle.aml_namespace.specs.Search.{Found}
use Rattle.aml_namespace.specs.Walks.{named, walked, is_named, Ascending}
use Rattle.aml_namespace.specs.Nodes.{NodeMap}
use Rattle.aml_namespace.specs.Tree.{Index, index_cmp, child_in, path_to, map_of, Linked}
use Rattle.aml_namespace.proofs.Paths.{path_total, only_equal, same_path, path_itself}
use Rattle.aml_namespace.proofs.Numbering.{standing, numbered_get, entry_at}
use Rattle.aml_namespace.proofs.Climbing.{node_of}
use Rattle.aml_namespace.proofs.Ascent.{walk_ascends}
use Rattle.aml_namespace.proofs.Children.{same_ascending}

-- whether an entry of the index is the node with this path
abbrev pub named_by : Map → List Seg → (ℕ × Seg) × NodeId → Bool
named_by names q e = is_named q (option_map (λ (f : Found). f.0) (numbered e.1.number names))

both : (a b : Bool) → (a && b) ≡ true → (a ≡ true) × (b ≡ true)
both true true is = (is, is)
both true false is = absurd (cc is)
both false b is = absurd (cc is)

-- ---- the map's names

named_has : (ks : List (List Seg)) (q : List Seg) → list_any (eq_by_cmp path_cmp q) (filter_map named ks) ≡ (nat_lt 0 (length q) && list_any (eq_by_cmp path_cmp q) ks)
named_has [] q = nothing (nat_lt 0 (length q))
  where
    nothing : (b : Bool) → false ≡ (b && false)
    nothing true = refl
    nothing false = refl
named_has (k ∷ ks) q = by (nat_lt 0 (length k)) (eq_by_cmp path_cmp q k) refl refl (named_has ks q)
  where
    rest_of : (b c : Bool) → (b && c) ≡ (b && (false || c))
    rest_of true c = refl
    rest_of false c = refl

    by : (b t : Bool) → nat_lt 0 (length k) ≡ b → eq_by_cmp path_cmp q k ≡ t → list_any (eq_by_cmp path_cmp q) (filter_map named ks) ≡ (nat_lt 0 (length q) && list_any (eq_by_cmp path_cmp q) ks)
        → list_any (eq_by_cmp path_cmp q) (filter_map named (k ∷ ks)) ≡ (nat_lt 0 (length q) && (eq_by_cmp path_cmp q k || list_any (eq_by_cmp path_cmp q) ks))
    by true true is tied rest =
        let long : nat_lt 0 (length q) ≡ true = ap (λ (p : List Seg). nat_lt 0 (length p)) (same_path q k tied) ∙ is in
        rw (is, tied, long) refl
    by true false is tied rest = rw (is, tied) (rest ∙ rest_of (nat_lt 0 (length q)) (list_any (eq_by_cmp path_cmp q) ks))
    by false true is tied rest =
        let short : nat_lt 0 (length q) ≡ false = ap (λ (p : List Seg). nat_lt 0 (length p)) (same_path q k tied) ∙ is in
        rw (is, short) (rest ∙ ap (λ b. b && list_any (eq_by_cmp path_cmp q) ks) short)
    by false false is tied rest = rw (is, tied) (rest ∙ rest_of (nat_lt 0 (length q)) (list_any (eq_by_cmp path_cmp q) ks))

-- ---- the nodes' names

any_found : (f : (ℕ × Seg) × NodeId → Bool) (es : Index) → list_any f es ≡ true → (e : (ℕ × Seg) × NodeId) × (f e ≡ true)
any_found f [] is = absurd (cc is)
any_found f (e ∷ es) is = by (f e) refl is (any_found f es)
  where
    by : (b : Bool) → f e ≡ b → (b || list_any f es) ≡ true → (list_any f es ≡ true → (e : (ℕ × Seg) × NodeId) × (f e ≡ true)) → (e : (ℕ × Seg) × NodeId) × (f e ≡ true)
    by true at is rest = (e, at)
    by false at is rest = rest is

lookup_any : (f : NodeId → Bool) (test : ℕ × Seg → Bool) (es : Index) (id : NodeId) → lookup test es ≡ Some id → f id ≡ true → list_any (λ (e : (ℕ × Seg) × NodeId). f e.1) es ≡ true
lookup_any f test [] id is at = absurd (cc is)
lookup_any f test (e ∷ es) id is at = by (test e.0) refl is (λ rest. lookup_any f test es id rest at)
  where
    any_more : (b : Bool) (c : Bool) → c ≡ true → (b || c) ≡ true
    any_more true c is = refl
    any_more false c is = is

    by : (b : Bool) → test e.0 ≡ b → cond b (Some e.1) (lookup test es) ≡ Some id → (lookup test es ≡ Some id → list_any (λ (e : (ℕ × Seg) × NodeId). f e.1) es ≡ true) → (f e.1 || list_any (λ (e : (ℕ × Seg) × NodeId). f e.1) es) ≡ true
    by true t is rest = let one : e.1 ≡ id = cc is in ap (λ b. b || list_any (λ (e : (ℕ × Seg) × NodeId). f e.1) es) (ap f one ∙ at)
    by false t is rest = any_more (f e.1) _ (rest is)

id_with : (o : Option NodeId) (n : ℕ) → option_map (λ (id : NodeId). id.number) o ≡ Some n → (id : NodeId) × (o ≡ Some id) × (id.number ≡ n)
id_with None n is = absurd (cc is)
id_with (Some id) n is = (id, refl, cc is)

some_is : (o : Option Entry) → is_some o ≡ true → (e : Entry) × (o ≡ Some e)
some_is None is = absurd (cc is)
some_is (Some e) is = (e, refl)

module _ (m : NodeMap) (es : Index) (next : ℕ) (linked : Linked m (child_in es) next) (q : List Seg) where
  stands : (o : Option Found) (n : ℕ) → numbered n (map_of m) ≡ o → is_named q (option_map (λ (f : Found). f.0) o) ≡ true → (nat_lt 0 (length q) && is_some (get (map_of m) q)) ≡ true
  stands None n at is = absurd (cc is)
  stands (Some f) n at is =
      let tests = both (nat_lt 0 (length f.0)) (eq_by_cmp path_cmp q f.0) is in
      let same : q ≡ f.0 = same_path q f.0 tests.1 in
      let x = node_of m (child_in es) next linked n f at in
      let there : is_some (get (map_of m) q) ≡ true = ap (λ (p : List Seg). is_some (get (map_of m) p)) (same ∙ ap (λ (g : Found). g.0) x.2) ∙ ap is_some (entry_at m (child_in es) next linked n x.0 x.1) in
      ap (λ (p : List Seg). nat_lt 0 (length p) && is_some (get (map_of m) q)) same ∙ ap (λ b. b && is_some (get (map_of m) q)) tests.0 ∙ there

  number_some : (n : ℕ) → path_to m n ≡ q → nat_lt 0 (length q) ≡ true → 0 < n
  number_some zero is long = absurd (cc (sym long ∙ ap (λ (p : List Seg). nat_lt 0 (length p)) (sym is)))
  number_some (suc n) is long = omega arith

  listed_in : nat_lt 0 (length q) ≡ true → (e : Entry) → get (map_of m) q ≡ Some e → list_any (named_by (map_of m) q) es ≡ true
  listed_in long e is =
      let s = standing m (child_in es) next linked q e is in
      let up = linked.up s.number s.node s.at (number_some s.number s.path long) in
      let id = id_with (lookup (is_at (index_cmp (s.node.parent.number, s.node.segment))) es) s.number up in
      let number : numbered id.0.number (map_of m) ≡ Some (path_to m s.number, s.node.entry) = ap (λ n. numbered n (map_of m)) id.2 ∙ numbered_get m (child_in es) next linked s.number ∙ ap (option_map (λ (x : Node). (path_to m s.number, x.entry))) s.at in
      let this : is_named q (option_map (λ (f : Found). f.0) (numbered id.0.number (map_of m))) ≡ true =
      ap (λ (o : Option Found). is_named q (option_map (λ (f : Found). f.0) o)) number
      ∙ ap (λ (p : List Seg). is_named q (Some p)) s.path ∙ ap (λ b. b && eq_by_cmp path_cmp q q) long ∙ path_itself q in
      lookup_any (λ (i : NodeId). is_named q (option_map (λ (f : Found). f.0) (numbered i.number (map_of m)))) (is_at (index_cmp (s.node.parent.number, s.node.segment))) es id.0 id.1 this

  pub all_named : list_any (named_by (map_of m) q) es ≡ list_any (eq_by_cmp path_cmp q) (walked (map_of m))
  unfolding walked
  all_named =
      both_ways (list_any (named_by (map_of m) q) es) (nat_lt 0 (length q) && is_some (get (map_of m) q))
      (λ is. let e = any_found (named_by (map_of m) q) es is in stands (numbered e.0.1.number (map_of m)) e.0.1.number refl e.1)
      (λ is. let tests = both (nat_lt 0 (length q)) (is_some (get (map_of m) q)) is in let e = some_is (get (map_of m) q) tests.1 in listed_in tests.0 e.0 e.1)
      ∙ ap (λ b. nat_lt 0 (length q) && b) (contains_key-keys (map_of m) q) ∙ sym (named_has (keys (map_of m)) q)

sorted_ascends : (ks : List (List Seg)) → IsStrictlySortedBy path_cmp ks → Ascending path_cmp ks
unfolding IsStrictlySortedBy
sorted_ascends [] h = tt
sorted_ascends (k ∷ ks) h = (h.0, sorted_ascends ks h.1)

pub walked_is : (m : NodeMap) (es : Index) (next : ℕ) → Linked m (child_in es) next → (ks : List (List Seg)) → IsStrictlySortedBy path_cmp ks → ((q : List Seg) → list_any (eq_by_cmp path_cmp q) ks ≡ list_any (named_by (map_of m) q) es) → ks ≡ walked (map_of m)
walked_is m es next linked ks ordered same =
    same_ascending path_cmp path_total only_equal ks (walked (map_of m)) (sorted_ascends ks ordered) (walk_ascends (map_of m)) (λ q. same q ∙ all_named m es next linked q)

-- ---- one path more

pub or_none : (b : Bool) → (b || false) ≡ b
or_none true = refl
or_none false = refl

pub or_more : (a b c : Bool) → ((a || b) || c) ≡ (a || (b || c))
or_more true b c = refl
or_more false b c = refl

pub none_put : (b : Bool) (q p : List Seg) → length p ≡ 0 → b ≡ (b || (nat_lt 0 (length p) && eq_by_cmp path_cmp q p))
none_put b q p is = let short : nat_lt 0 (length p) ≡ false = grind (arith, nat_tests, is) in rw short (sym (or_none b))

pub one_put : (b : Bool) (q p : List Seg) → 0 < length p → cond (eq_by_cmp path_cmp p q) true b ≡ (b || (nat_lt 0 (length p) && eq_by_cmp path_cmp q p))
one_put b q p some =
    let long : nat_lt 0 (length p) ≡ true = grind (arith, nat_tests, some) in
    by (eq_by_cmp path_cmp q p) b ((eq_by_cmp_equiv path_total).symm p q) ∙ sym (ap (λ t. b || (t && eq_by_cmp path_cmp q p)) long)
  where
    by : (t c : Bool) → eq_by_cmp path_cmp p q ≡ t → cond (eq_by_cmp path_cmp p q) true c ≡ (c || t)
    by true true is = ap (λ t. cond t true true) is
    by true false is = ap (λ t. cond t true false) is
    by false true is = ap (λ t. cond t true true) is
    by false false is = ap (λ t. cond t true false) is
