-- What stands after an object is replaced, and after the mutexes are released.
use Rattle.std.proofs.Common.{◌≡◌, ℕ, ◌&&◌, Bool, true, false, cond, T, List, [], ◌∷◌, map, inl, inr, Option, Some, None, Ok, Err, is_some, refl, ap, sym, subst, ◌∙◌}
use Rattle.std.specs.Prelude.{option_and_then}
use Rattle.std.specs.Option.{option_map}
use Rattle.std.proofs.lemmas.Bool.{cases_eq}
use Rattle.std.specs.Ordering.{nat_cmp, eq_by_cmp, is_eq, is_lt}
use Rattle.std.specs.FinMap.{get, insert, entries, entries_sorted, get-entries, get-insert, from_sorted, get-from_sorted, same_map, find, is_sorted}
use Rattle.std.specs.FinMap.Entries.{below_all}
use Rattle.ar_space.specs.declared.refusal.Refusal.TheVariants as refusal
use Rattle.ar_space.specs.declared.refusal.NamespaceFault.TheVariants.{NotFound}
use Rattle.aml_path.specs.declared.segment.Seg.{Seg}
use Rattle.aml_path.specs.Paths.{path_cmp}
use Rattle.aml_objects.specs.declared.entry.Entry.{Entry}
use Rattle.aml_objects.specs.declared.entry.NamedObject.{NamedObject}
use Rattle.aml_namespace.specs.declared.node.Node.{Node}
use Rattle.aml_namespace.specs.Namespace.{Map, Namespace, with_object, replaced_in, replaced, entry_released, mutexes_released, numbered}
use Rattle.aml_namespace.specs.Search.{Found, at_path}
use Rattle.aml_namespace.specs.Nodes.{NodeMap, object_in, object_put, with_node_object, node_released}
use Rattle.aml_namespace.specs.Tree.{Children, down, path_to, map_of, lies, Linked}
use Rattle.aml_namespace.proofs.Numbers.{here, apart, insert_here, insert_apart}
use Rattle.aml_namespace.proofs.Paths.{path_total, only_equal, same_path, path_itself, get_map, stands_of, path_of_root}
use Rattle.aml_namespace.proofs.Numbering.{entry_at}
use Rattle.aml_namespace.proofs.Climbing.{node_of}
use Rattle.aml_namespace.proofs.Searching.{some_is, found_there}
use Rattle.aml_namespace.proofs.Growth.{entry_of, changed_linked, changed_at}

-- ---- values of a map through a function

module _ (f : Entry → Entry) where
  abbrev pub with_values : List (List Seg × Entry) → List (List Seg × Entry)
  with_values es = map (λ e. (e.0, f e.1)) es

  below_values : (k : List Seg) (es : List (List Seg × Entry)) → below_all path_cmp k (with_values es) ≡ below_all path_cmp k es
  below_values k [] = refl
  below_values k (e ∷ es) = ap (λ b. is_lt (path_cmp k e.0) && b) (below_values k es)

  sorted_values : (es : List (List Seg × Entry)) → is_sorted path_cmp (with_values es) ≡ is_sorted path_cmp es
  sorted_values [] = refl
  sorted_values (e ∷ es) = λ i. below_values e.0 es i && sorted_values es i

  value_by : (b : Bool) (x : Entry) (o r : Option Entry) → o ≡ option_map f r → cond b (Some (f x)) o ≡ option_map f (cond b (Some x) r)
  value_by true x o r h = refl
  value_by false x o r h = h

  find_values : (k : List Seg) (es : List (List Seg × Entry)) → find path_cmp k (with_values es) ≡ option_map f (find path_cmp k es)
  find_values k [] = refl
  find_values k (e ∷ es) = value_by (is_eq (path_cmp k e.0)) e.1 _ _ (find_values k es)

  pub get_values : (m : Map) (k : List Seg) → get (from_sorted {R = path_cmp} (with_values (entries m))) k ≡ option_map f (get m k)
  get_values m k =
      get-from_sorted path_cmp _ k (subst T (sym (sorted_values (entries m))) (entries_sorted m))
      ∙ find_values k (entries m) ∙ ap (option_map f) (sym (get-entries m k))

-- what stands at a path after the mutexes are released: what stood there, released if it is a mutex
pub released_at : (s : Namespace) (p : List Seg) → get (mutexes_released s).map p ≡ option_map entry_released (get s.map p)
unfolding mutexes_released
released_at s p = get_values entry_released s.map p

module _ (m : NodeMap) (child : Children) (next : ℕ) (linked : Linked m child next) where
  -- ---- the mutexes released

  module _ (after : NodeMap) (released : (k : ℕ) → get after k ≡ option_map node_released (get m k)) where
    pub released_linked : Linked after child next
    released_linked = changed_linked m child next linked after (λ k y. node_released y) (λ k y. refl) (λ k y. refl) released

    each_released : (q : List Seg) → get (map_of after) q ≡ get (mutexes_released (record { map = map_of m; next = next })).map q
    each_released q =
        changed_at m child next linked after (λ k y. node_released y) (λ k y. refl) (λ k y. refl) released q
        ∙ by (down child 0 q) ∙ ap (option_map entry_released) (sym (get_map m child next linked q))
        ∙ sym (released_at (record { map = map_of m; next = next }) q)
      where
        by_node : (o : Option Node) → entry_of (option_map node_released o) ≡ option_map entry_released (entry_of o)
        by_node None = refl
        by_node (Some x) = refl

        by : (o : Option ℕ) → entry_of (option_and_then (λ k. option_map node_released (get m k)) o) ≡ option_map entry_released (entry_of (option_and_then (get m) o))
        by None = refl
        by (Some k) = by_node (get m k)

    pub released_is : record { map = map_of after; next = next } ≡ mutexes_released (record { map = map_of m; next = next })
    unfolding mutexes_released
    released_is = ap (λ (n : Map). record { map = n; next = next }) (same_map path_total only_equal (map_of after) (mutexes_released (record { map = map_of m; next = next })).map each_released)

  -- ---- another object

  module _ (n : ℕ) (x : Node) (o : NamedObject) (at : get m n ≡ Some x) where
    abbrev over : ℕ → Node → Node
    over k y = cond (eq_by_cmp nat_cmp k n) (with_node_object o y) y

    put_is : object_put m n o ≡ insert m n (with_node_object o x)
    unfolding object_put
    put_is = ap (object_in m n o) at

    untouched : (b : Bool) (z : Option Node) → b ≡ false → z ≡ option_map (λ (y : Node). cond b (with_node_object o y) y) z
    untouched true z is = absurd (cc is)
    untouched false None is = refl
    untouched false (Some y) is = refl

    over_put : (k : ℕ) → get (object_put m n o) k ≡ option_map (over k) (get m k)
    over_put k = ap (λ (a : NodeMap). get a k) put_is ∙ elim (cases_eq k n) [
      | inl e ↦
          ap (get (insert m n (with_node_object o x))) e ∙ insert_here m n (with_node_object o x)
          ∙ sym (ap (λ (j : ℕ). option_map (over j) (get m j)) e ∙ ap (option_map (over n)) at ∙ ap (λ b. Some (cond b (with_node_object o x) x)) (here n))
      | inr ne ↦ insert_apart m n (with_node_object o x) k ne ∙ untouched (eq_by_cmp nat_cmp k n) (get m k) (apart k n ne)
    ]

    lies_same : (b : Bool) (y : Node) → lies (Some (cond b (with_node_object o y) y)) ≡ lies (Some y)
    lies_same true y = refl
    lies_same false y = refl

    number_same : (b : Bool) (y : Node) → (cond b (with_node_object o y) y).entry.number ≡ y.entry.number
    number_same true y = refl
    number_same false y = refl

    pub over_linked : Linked (object_put m n o) child next
    over_linked = changed_linked m child next linked (object_put m n o) over (λ k y. lies_same (eq_by_cmp nat_cmp k n) y) (λ k y. number_same (eq_by_cmp nat_cmp k n) y) over_put

    over_at : (q : List Seg) (b : Bool) → eq_by_cmp path_cmp q (path_to m n) ≡ b → get (map_of (object_put m n o)) q ≡ cond b (Some (with_object o x.entry)) (get (map_of m) q)
    over_at q true e =
        changed_at m child next linked (object_put m n o) over (λ k y. lies_same (eq_by_cmp nat_cmp k n) y) (λ k y. number_same (eq_by_cmp nat_cmp k n) y) over_put q
        ∙ ap (λ (j : Option ℕ). entry_of (option_and_then (λ k. option_map (over k) (get m k)) j)) (ap (down child 0) (same_path q (path_to m n) e) ∙ stands_of m child next linked n (ap is_some at))
        ∙ ap (λ (z : Option Node). entry_of (option_map (over n) z)) at
        ∙ ap (λ b. Some (cond b (with_node_object o x) x).entry) (here n)
    over_at q false e =
        changed_at m child next linked (object_put m n o) over (λ k y. lies_same (eq_by_cmp nat_cmp k n) y) (λ k y. number_same (eq_by_cmp nat_cmp k n) y) over_put q
        ∙ by (down child 0 q) (λ k is same. absurd (cc (sym e ∙ ap (λ p. eq_by_cmp path_cmp p (path_to m n)) (sym (path_of_root m child next linked q k is) ∙ ap (path_to m) same) ∙ path_itself (path_to m n))))
        ∙ sym (get_map m child next linked q)
      where
        by : (j : Option ℕ) → ((k : ℕ) → j ≡ Some k → k ≡ n → ⊥) → entry_of (option_and_then (λ k. option_map (over k) (get m k)) j) ≡ entry_of (option_and_then (get m) j)
        by None h = refl
        by (Some k) h = ap entry_of (sym (untouched (eq_by_cmp nat_cmp k n) (get m k) (apart k n (h k refl))))

    pub over_map : map_of (object_put m n o) ≡ insert (map_of m) (path_to m n) (with_object o x.entry)
    over_map = same_map path_total only_equal (map_of (object_put m n o)) (insert (map_of m) (path_to m n) (with_object o x.entry))
        (λ q. over_at q (eq_by_cmp path_cmp q (path_to m n)) refl ∙ sym (get-insert path_total (map_of m) (path_to m n) (with_object o x.entry) q))

pub replaced_none : (p : List Seg) (o : NamedObject) (s : Namespace) → get s.map p ≡ None → replaced p o s ≡ (Err (refusal.Namespace NotFound), s)
unfolding replaced
replaced_none p o s none = ap (replaced_in p o s) none

pub replaced_some : (p : List Seg) (o : NamedObject) (s : Namespace) (e : Entry) → get s.map p ≡ Some e → replaced p o s ≡ (Ok tt, record s { map = insert s.map p (with_object o e) })
unfolding replaced
replaced_some p o s e is = ap (replaced_in p o s) is

-- ---- another object in the node that stands at a path

module _ (m : NodeMap) (child : Children) (next : ℕ) (linked : Linked m child next) (n : ℕ) (o : NamedObject) (p : List Seg) (here : Some (numbered n (map_of m)) ≡ option_map Some (at_path (map_of m) p)) where
  node_here : (x : Node) × (get m n ≡ Some x) × (path_to m n ≡ p) × (get (map_of m) p ≡ Some x.entry)
  node_here =
      let f = some_is _ _ here in
      let x = node_of m child next linked n f.0 f.2 in
      let way : path_to m n ≡ p = ap (λ (g : Found). g.0) (sym x.2) ∙ found_there (map_of m) p f.0 f.1 in
      (x.0, x.1, way, ap (get (map_of m)) (sym way) ∙ entry_at m child next linked n x.0 x.1)

  pub here_linked : Linked (object_put m n o) child next
  here_linked = over_linked m child next linked n node_here.0 o node_here.1

  pub here_replaced : replaced p o (record { map = map_of m; next = next }) ≡ (Ok tt, record { map = map_of (object_put m n o); next = next })
  here_replaced =
      replaced_some p o (record { map = map_of m; next = next }) node_here.0.entry node_here.3
      ∙ ap (λ (q : Map). (Ok tt, record { map = q; next = next })) (sym (over_map m child next linked n node_here.0 o node_here.1 ∙ ap (λ (q : List Seg). insert (map_of m) q (with_object o node_here.0.entry)) node_here.2))
