-- The numbers of declarations, and what stands under one.
use Rattle.std.proofs.Common.{◌≡◌, ℕ, ◌<◌, Bool, true, false, cond, T, List, [], ◌∷◌, ◌++◌, Option, Some, None, is_some, refl, ap, sym, subst, ◌∙◌, eqb→eq}
use Rattle.std.specs.Prelude.{option_and_then, ◌==◌, ◌&&◌, if◌then◌else◌}
use Rattle.std.specs.Option.{option_map}
use Rattle.std.proofs.lemmas.Bool.{eq-eqb}
use Rattle.std.specs.declared.cmp.Ordering.{Ordering}
use Rattle.std.specs.declared.cmp.Ordering.TheVariants.{Less, Equal, Greater}
use Rattle.std.specs.Ordering.{is_lt, is_eq, eq_by_cmp}
use Rattle.std.specs.FinMap.{get, entries, entries_sorted, get-entries, find, is_sorted}
use Rattle.std.specs.FinMap.Entries.{below_all}
use Rattle.aml_path.specs.declared.segment.Seg.{Seg}
use Rattle.aml_path.specs.Paths.{path_cmp}
use Rattle.aml_objects.specs.declared.entry.Entry.{Entry}
use Rattle.aml_namespace.specs.declared.node.Node.{Node}
use Rattle.aml_namespace.specs.Namespace.{Map, with_number, numbered}
use Rattle.aml_namespace.specs.Search.{at_path}
use Rattle.aml_namespace.specs.Numbering.{Numbered}
use Rattle.aml_namespace.specs.Nodes.{NodeMap}
use Rattle.aml_namespace.specs.Tree.{Children, down, path_to, map_of, Linked}
use Rattle.aml_namespace.proofs.Paths.{same_path, path_itself, get_map, down_append, there_is, stands_of, path_of_root, reached}

first : (a b : Bool) → T (a && b) → T a
first true b p = tt
first false b p = p

second : (a b : Bool) → T (a && b) → T b
second true b p = p
second false b p = absurd p

less : (r : Ordering) → T (is_lt r) → r ≡ Less
less Less p = refl
less Equal p = absurd p
less Greater p = absurd p

-- ---- the entries of a map that have a number

below_found : (x : List Seg) (es : List (List Seg × Entry)) (q : List Seg) (d : Entry) → T (below_all path_cmp x es) → find path_cmp q es ≡ Some d → path_cmp x q ≡ Less
below_found x [] q d below is = absurd (cc is)
below_found x (e ∷ es) q d below is = by (eq_by_cmp path_cmp q e.0) refl is (below_found x es q d (second _ _ below))
  where
    by : (b : Bool) → eq_by_cmp path_cmp q e.0 ≡ b → cond b (Some e.1) (find path_cmp q es) ≡ Some d → (find path_cmp q es ≡ Some d → path_cmp x q ≡ Less) → path_cmp x q ≡ Less
    by true same is more = ap (path_cmp x) (same_path q e.0 same) ∙ less _ (first _ _ below)
    by false differ is more = more is

head_found : (e : List Seg × Entry) (es : List (List Seg × Entry)) → find path_cmp e.0 (e ∷ es) ≡ Some e.1
head_found e es = ap (λ b. cond b (Some e.1) (find path_cmp e.0 es)) (path_itself e.0)

tail_found : (e : List Seg × Entry) (es : List (List Seg × Entry)) (q : List Seg) (d : Entry) → T (below_all path_cmp e.0 es) → find path_cmp q es ≡ Some d → find path_cmp q (e ∷ es) ≡ Some d
tail_found e es q d below is = by (eq_by_cmp path_cmp q e.0) refl
  where
    by : (b : Bool) → eq_by_cmp path_cmp q e.0 ≡ b → cond b (Some e.1) (find path_cmp q es) ≡ Some d
    by true same =
        let itself : eq_by_cmp path_cmp e.0 q ≡ true = ap (eq_by_cmp path_cmp e.0) (same_path q e.0 same) ∙ path_itself e.0 in
        let apart : eq_by_cmp path_cmp e.0 q ≡ false = ap (λ r. is_eq r) (below_found e.0 es q d below is) in
        absurd (cc (itself, apart))
    by false differ = is

number_of : (n : ℕ) (e : Entry) → (e.number == n) ≡ true → e.number ≡ n
number_of n e is = eqb→eq e.number n (subst T (sym is) tt)

module _ (names : Map) (n : ℕ) where
  none_in : (es : List (List Seg × Entry)) → T (is_sorted path_cmp es) → ((q : List Seg) (d : Entry) → find path_cmp q es ≡ Some d → get names q ≡ Some d) → ((q : List Seg) (d : Entry) → get names q ≡ Some d → d.number ≡ n → ⊥) → with_number n es ≡ None
  none_in [] sorted stands none = refl
  none_in (e ∷ es) sorted stands none = by (e.1.number == n) refl (none_in es (second _ _ sorted) (λ q d is. stands q d (tail_found e es q d (first _ _ sorted) is)) none)
    where
      by : (b : Bool) → (e.1.number == n) ≡ b → with_number n es ≡ None → (if b then Some e else with_number n es) ≡ None
      by true is rest = absurd (none e.0 e.1 (stands e.0 e.1 (head_found e es)) (number_of n e.1 is))
      by false is rest = rest

  one_in : (p : List Seg) (x : Entry) (es : List (List Seg × Entry)) → T (is_sorted path_cmp es) → ((q : List Seg) (d : Entry) → find path_cmp q es ≡ Some d → get names q ≡ Some d) → ((q : List Seg) (d : Entry) → get names q ≡ Some d → d.number ≡ n → q ≡ p)
      → get names p ≡ Some x → x.number ≡ n → find path_cmp p es ≡ Some x → with_number n es ≡ Some (p, x)
  one_in p x [] sorted stands only at number is = absurd (cc is)
  one_in p x (e ∷ es) sorted stands only at number is = by (e.1.number == n) refl (one_in p x es (second _ _ sorted) (λ q d is. stands q d (tail_found e es q d (first _ _ sorted) is)) only at number)
    where
      tail : (b : Bool) → eq_by_cmp path_cmp p e.0 ≡ b → (e.1.number == n) ≡ false → cond b (Some e.1) (find path_cmp p es) ≡ Some x → find path_cmp p es ≡ Some x
      tail true same other found =
          let one : e.1 ≡ x = cc found in
          let test : (e.1.number == n) ≡ true = eq-eqb e.1.number n (ap (λ (z : Entry). z.number) one ∙ number) in
          absurd (cc (test, other))
      tail false differ other found = found

      by : (b : Bool) → (e.1.number == n) ≡ b → (find path_cmp p es ≡ Some x → with_number n es ≡ Some (p, x)) → (if b then Some e else with_number n es) ≡ Some (p, x)
      by true same rest =
          let here = stands e.0 e.1 (head_found e es) in
          let path : e.0 ≡ p = only e.0 e.1 here (number_of n e.1 same) in
          let two : Some e.1 ≡ Some x = sym here ∙ ap (get names) path ∙ at in
          let entry : e.1 ≡ x = cc two in
          ap (λ (q : List Seg). Some (q, e.1)) path ∙ ap (λ (d : Entry). Some (p, d)) entry
      by false other rest = rest (tail (eq_by_cmp path_cmp p e.0) refl other is)

  pub numbered_none : ((q : List Seg) (d : Entry) → get names q ≡ Some d → d.number ≡ n → ⊥) → numbered n names ≡ None
  unfolding numbered
  numbered_none none = none_in (entries names) (entries_sorted names) (λ q d is. get-entries names q ∙ is) none

  pub numbered_one : (p : List Seg) (x : Entry) → get names p ≡ Some x → x.number ≡ n → ((q : List Seg) (d : Entry) → get names q ≡ Some d → d.number ≡ n → q ≡ p) → numbered n names ≡ Some (p, x)
  unfolding numbered
  numbered_one p x at number only = one_in p x (entries names) (entries_sorted names) (λ q d is. get-entries names q ∙ is) only at number (sym (get-entries names p) ∙ at)

-- what stands under a number stands at its path
number_at : (n : ℕ) (es : List (List Seg × Entry)) → T (is_sorted path_cmp es) → (f : List Seg × Entry) → with_number n es ≡ Some f → find path_cmp f.0 es ≡ Some f.1
number_at n [] sorted f is = absurd (cc is)
number_at n (e ∷ es) sorted f is = by (e.1.number == n) is (number_at n es (second _ _ sorted) f)
  where
    by : (b : Bool) → (if b then Some e else with_number n es) ≡ Some f → (with_number n es ≡ Some f → find path_cmp f.0 es ≡ Some f.1) → find path_cmp f.0 (e ∷ es) ≡ Some f.1
    by true is rest =
        let same : e ≡ f = cc is in
        ap (λ (g : List Seg × Entry). find path_cmp g.0 (e ∷ es)) (sym same) ∙ head_found e es ∙ ap (λ (g : List Seg × Entry). Some g.1) same
    by false is rest = tail_found e es f.0 f.1 (first _ _ sorted) (rest is)

pub numbered_stands : (names : Map) (n : ℕ) (f : List Seg × Entry) → numbered n names ≡ Some f → get names f.0 ≡ Some f.1
unfolding numbered
numbered_stands names n f is = get-entries names f.0 ∙ number_at n (entries names) (entries_sorted names) f is

-- ---- in the tree

-- the node that stands at a path
pub record Standing (m : NodeMap) (child : Children) (q : List Seg) (e : Entry) : Type 0 where
  pub number : ℕ
  pub node : Node
  pub at : get m number ≡ Some node
  pub path : path_to m number ≡ q
  pub entry : node.entry ≡ e
  pub leads : down child 0 q ≡ Some number

module _ (m : NodeMap) (child : Children) (next : ℕ) (linked : Linked m child next) where
  pub standing : (q : List Seg) (e : Entry) → get (map_of m) q ≡ Some e → Standing m child q e
  standing q e is = by (down child 0 q) refl (sym (get_map m child next linked q) ∙ is)
    where
      node_by : (n : ℕ) (o : Option Node) → down child 0 q ≡ Some n → get m n ≡ o → option_map (λ (x : Node). x.entry) o ≡ Some e → Standing m child q e
      node_by n None leads at is = absurd (cc is)
      node_by n (Some x) leads at is = record { number = n; node = x; at = at; path = path_of_root m child next linked q n leads; entry = cc is; leads = leads }

      by : (o : Option ℕ) → down child 0 q ≡ o → option_map (λ (x : Node). x.entry) (option_and_then (get m) o) ≡ Some e → Standing m child q e
      by None leads is = absurd (cc is)
      by (Some n) leads is = node_by n (get m n) leads refl is

  pub entry_at : (n : ℕ) (x : Node) → get m n ≡ Some x → get (map_of m) (path_to m n) ≡ Some x.entry
  entry_at n x is = get_map m child next linked (path_to m n) ∙ ap (λ o. option_map (λ (x : Node). x.entry) (option_and_then (get m) o)) (stands_of m child next linked n (ap is_some is)) ∙ ap (option_map (λ (x : Node). x.entry)) is

  number_is : (q : List Seg) (d : Entry) (s : Standing m child q d) → d.number ≡ s.number
  number_is q d s = ap (λ (z : Entry). z.number) (sym s.entry) ∙ linked.number s.number s.node s.at

  numbered_by : (n : ℕ) (o : Option Node) → get m n ≡ o → numbered n (map_of m) ≡ option_map (λ (x : Node). (path_to m n, x.entry)) o
  numbered_by n None is = numbered_none (map_of m) n (λ q d at number. let s = standing q d at in absurd (cc (sym is ∙ ap (get m) (sym number ∙ number_is q d s) ∙ s.at)))
  numbered_by n (Some x) is = numbered_one (map_of m) n (path_to m n) x.entry (entry_at n x is) (linked.number n x is) (λ q d at number. let s = standing q d at in sym s.path ∙ ap (path_to m) (sym (number_is q d s) ∙ number))

  -- the declaration with a number is that of the node with it
  pub numbered_get : (n : ℕ) → numbered n (map_of m) ≡ option_map (λ (x : Node). (path_to m n, x.entry)) (get m n)
  numbered_get n = numbered_by n (get m n) refl

  pub tree_numbered : Numbered (record { map = map_of m; next = next })
  tree_numbered = record {
    below = λ p e is. let s = standing p e is in subst (λ k. k < next) (sym (number_is p e s)) (linked.below s.number s.node s.at);
    distinct = λ p q d e is so same. let s = standing p d is in let t = standing q e so in sym s.path ∙ ap (path_to m) (sym (number_is p d s) ∙ same ∙ number_is q e t) ∙ t.path;
  }

  -- what a walk down from a node finds
  pub down_from : (a : ℕ) (ss : List Seg) → is_some (get m a) ≡ true → option_map (λ (k : ℕ). numbered k (map_of m)) (down child a ss) ≡ option_map Some (at_path (map_of m) (path_to m a ++ ss))
  down_from a ss stands = by (down child a ss) refl
    where
      from_root : down child 0 (path_to m a ++ ss) ≡ down child a ss
      from_root = down_append child 0 (path_to m a) ss ∙ ap (option_and_then (λ k. down child k ss)) (stands_of m child next linked a stands)

      by : (o : Option ℕ) → down child a ss ≡ o → option_map (λ (k : ℕ). numbered k (map_of m)) o ≡ option_map Some (at_path (map_of m) (path_to m a ++ ss))
      by None is = sym (ap (λ o. option_map Some (option_map (λ (e : Entry). (path_to m a ++ ss, e)) o)) (get_map m child next linked (path_to m a ++ ss) ∙ ap (λ o. option_map (λ (x : Node). x.entry) (option_and_then (get m) o)) (from_root ∙ is)))
      by (Some k) is =
          let to = reached m child next linked a ss k stands is in
          let x = there_is (get m k) to.0 in
          let at : get (map_of m) (path_to m a ++ ss) ≡ Some x.0.entry = ap (get (map_of m)) (sym to.1) ∙ entry_at k x.0 x.1 in
          ap Some (numbered_get k ∙ ap (option_map (λ (x : Node). (path_to m k, x.entry))) x.1 ∙ ap (λ (p : List Seg). Some (p, x.0.entry)) to.1)
          ∙ sym (ap (λ o. option_map Some (option_map (λ (e : Entry). (path_to m a ++ ss, e)) o)) at)
