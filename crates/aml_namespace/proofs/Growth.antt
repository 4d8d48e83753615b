-- The tree after a change: a node more, a leaf less, another object, the mutexes released.
use Rattle.std.proofs.Common.{◌≡◌, ℕ, zero, suc, ◌+◌, ◌<◌, Bool, true, false, cond, List, [], ◌∷◌, ◌++◌, ◌⊎◌, inl, inr, Option, Some, None, is_some, refl, ap, sym, subst, ◌∙◌, arith}
use Rattle.std.specs.Prelude.{option_and_then}
use Rattle.std.specs.Option.{option_map}
use Rattle.std.proofs.lemmas.Bool.{cases_eq}
use Rattle.std.specs.Ordering.{eq_by_cmp}
use Rattle.std.specs.FinMap.{get, insert, remove, get-insert, get-remove, same_map}
use Rattle.aml_path.specs.declared.segment.Seg.{Seg}
use Rattle.aml_path.specs.Paths.{path_cmp}
use Rattle.aml_objects.specs.declared.entry.Entry.{Entry}
use Rattle.aml_namespace.specs.declared.node.Node.{Node}
use Rattle.aml_namespace.specs.Nodes.{NodeMap}
use Rattle.aml_namespace.specs.Tree.{Children, down, path_to, map_of, lies, Linked, index_cmp}
use Rattle.aml_namespace.proofs.Numbers.{insert_here, insert_apart, remove_here, remove_apart}
use Rattle.aml_namespace.proofs.Indexes.{same_key, key_itself}
use Rattle.aml_namespace.proofs.Paths.{path_total, only_equal, same_path, path_itself, stands_at, get_map, down_append, there_is, lies_there, path_step, stands_of, path_of_root, node_of_root}

abbrev pub entry_of : Option Node → Option Entry
entry_of = option_map (λ (x : Node). x.entry)

-- nodes that lie where they lay keep their paths
pub same_paths : (m after : NodeMap) (child child_after : Children) (next next_after : ℕ) (linked : Linked m child next) (linked_after : Linked after child_after next_after) (b n : ℕ) → n < b
    → ((k : ℕ) → is_some (get after k) ≡ true → lies (get m k) ≡ lies (get after k)) → is_some (get after n) ≡ true → path_to after n ≡ path_to m n
same_paths m after child child_after next next_after linked linked_after zero n lt same stands = absurd (omega (arith, lt))
same_paths m after child child_after next next_after linked linked_after (suc b) zero lt same stands = refl
same_paths m after child child_after next next_after linked linked_after (suc b) (suc n) lt same stands =
    let some : 0 < suc n = omega arith in
    let y = there_is (get after (suc n)) stands in
    let x = lies_there (get m (suc n)) y.0.parent.number y.0.segment (same (suc n) stands ∙ ap lies y.1) in
    let low = linked_after.before (suc n) y.0 y.1 some in
    let above = same_paths m after child child_after next next_after linked linked_after b y.0.parent.number (omega (arith, low, lt)) same (linked_after.parent (suc n) y.0 y.1 some) in
    path_step after child_after next_after linked_after (suc n) y.0 y.1 some
    ∙ ap (λ (l : List Seg). l ++ y.0.segment ∷ []) (above ∙ ap (path_to m) (sym x.2))
    ∙ ap (λ (s : Seg). path_to m x.0.parent.number ++ s ∷ []) (sym x.3)
    ∙ sym (path_step m child next linked (suc n) x.0 x.1 some)

module _ (m : NodeMap) (child : Children) (next : ℕ) (linked : Linked m child next) where
  abbrev keep : (after : NodeMap) (child_after : Children) (next_after : ℕ) → Linked after child_after next_after → ((k : ℕ) → is_some (get after k) ≡ true → lies (get m k) ≡ lies (get after k)) → (n : ℕ) → is_some (get after n) ≡ true → path_to after n ≡ path_to m n
  keep after child_after next_after linked_after same n stands = same_paths m after child child_after next next_after linked linked_after (n + 1) n (omega arith) same stands

  pub at_most : (n : ℕ) → is_some (get m n) ≡ true → n < next
  at_most n is = let x = there_is (get m n) is in linked.below n x.0 x.1

  pub none_next : get m next ≡ None
  none_next = by (get m next) refl
    where
      by : (o : Option Node) → get m next ≡ o → o ≡ None
      by None is = refl
      by (Some x) is = let lt = linked.below next x is in absurd (omega (arith, lt))

  -- ---- a node more

  module _ (x : Node) (child_after : Children) (stands : is_some (get m x.parent.number) ≡ true) (free : child x.parent.number x.segment ≡ None) (number : x.entry.number ≡ next)
      (updated : (p : ℕ) (s : Seg) → child_after p s ≡ cond (eq_by_cmp index_cmp (x.parent.number, x.segment) (p, s)) (Some next) (child p s)) where
    abbrev grown : NodeMap
    grown = insert m next x

    not_next : (n : ℕ) → is_some (get m n) ≡ true → n ≡ next → ⊥
    not_next n is e = let lt = at_most n is in absurd (omega (arith, lt, e))

    old : (n : ℕ) → is_some (get m n) ≡ true → get grown n ≡ get m n
    old n is = insert_apart m next x n (not_next n is)

    still : (n : ℕ) → is_some (get m n) ≡ true → is_some (get grown n) ≡ true
    still n is = ap is_some (old n is) ∙ is

    child_here : child_after x.parent.number x.segment ≡ Some next
    child_here = updated x.parent.number x.segment ∙ ap (λ b. cond b (Some next) (child x.parent.number x.segment)) (key_itself x.parent.number x.segment)

    child_old : (p : ℕ) (s : Seg) (n : ℕ) → child p s ≡ Some n → child_after p s ≡ Some n
    child_old p s n is = by (eq_by_cmp index_cmp (x.parent.number, x.segment) (p, s)) refl
      where
        by : (b : Bool) → eq_by_cmp index_cmp (x.parent.number, x.segment) (p, s) ≡ b → child_after p s ≡ Some n
        by true e = let same = same_key x.parent.number p x.segment s e in absurd (cc (sym free ∙ ap (λ k. child k x.segment) same.0 ∙ ap (child p) same.1 ∙ is))
        by false e = updated p s ∙ ap (λ b. cond b (Some next) (child p s)) e ∙ is

    child_new : (p : ℕ) (s : Seg) (n : ℕ) → child_after p s ≡ Some n → ((n ≡ next) × (x.parent.number ≡ p) × (x.segment ≡ s)) ⊎ (child p s ≡ Some n)
    child_new p s n is = by (eq_by_cmp index_cmp (x.parent.number, x.segment) (p, s)) refl
      where
        by : (b : Bool) → eq_by_cmp index_cmp (x.parent.number, x.segment) (p, s) ≡ b → ((n ≡ next) × (x.parent.number ≡ p) × (x.segment ≡ s)) ⊎ (child p s ≡ Some n)
        by true e =
            let same = same_key x.parent.number p x.segment s e in
            let one : Some next ≡ Some n = sym (updated p s ∙ ap (λ b. cond b (Some next) (child p s)) e) ∙ is in
            let number : n ≡ next = cc one in
            inl (number, same.0, same.1)
        by false e = inr (sym (updated p s ∙ ap (λ b. cond b (Some next) (child p s)) e) ∙ is)

    case : (n : ℕ) (y : Node) → get grown n ≡ Some y → ((n ≡ next) × (x ≡ y)) ⊎ (get m n ≡ Some y)
    case n y is = elim (cases_eq n next) [
      | inl e ↦ let one : Some x ≡ Some y = sym (ap (get grown) e ∙ insert_here m next x) ∙ is in let same : x ≡ y = cc one in inl (e, same)
      | inr ne ↦ inr (sym (insert_apart m next x n ne) ∙ is)
    ]

    some_next : 0 < next
    some_next = at_most 0 linked.root

    pub grown_linked : Linked grown child_after (next + 1)
    grown_linked = record {
      root = still 0 linked.root;
      below = λ n y is. elim (case n y is) [ inl e ↦ let same = e.0 in omega (arith, same) | inr was ↦ let lt = linked.below n y was in omega (arith, lt) ];
      number = λ n y is. elim (case n y is) [ inl e ↦ ap (λ (z : Node). z.entry.number) (sym e.1) ∙ number ∙ sym e.0 | inr was ↦ linked.number n y was ];
      up = λ n y is some. elim (case n y is) [
        | inl e ↦ subst (λ (z : Node). child_after z.parent.number z.segment ≡ Some n) e.1 (child_here ∙ ap Some (sym e.0))
        | inr was ↦ child_old y.parent.number y.segment n (linked.up n y was some)
      ];
      before = λ n y is some. elim (case n y is) [
        | inl e ↦ subst (λ (z : Node). z.parent.number < n) e.1 (let lt = at_most x.parent.number stands in let same = e.0 in omega (arith, lt, same))
        | inr was ↦ linked.before n y was some
      ];
      parent = λ n y is some. elim (case n y is) [
        | inl e ↦ subst (λ (z : Node). is_some (get grown z.parent.number) ≡ true) e.1 (still x.parent.number stands)
        | inr was ↦ still y.parent.number (linked.parent n y was some)
      ];
      named = λ p s n is. elim (child_new p s n is) [ inl e ↦ let same = e.0 in omega (arith, same, some_next) | inr was ↦ linked.named p s n was ];
      there = λ p s n is. elim (child_new p s n is) [
        | inl e ↦ ap lies (ap (get grown) e.0 ∙ insert_here m next x) ∙ ap (λ k. Some (k, x.segment)) e.1 ∙ ap (λ (t : Seg). Some (p, t)) e.2
        | inr was ↦ let y = lies_there (get m n) p s (linked.there p s n was) in ap lies (old n (ap is_some y.1)) ∙ linked.there p s n was
      ];
    }

    -- the new node's path
    abbrev pub grown_path : List Seg
    grown_path = path_to m x.parent.number ++ x.segment ∷ []

    lies_same : (k : ℕ) → is_some (get m k) ≡ true → lies (get grown k) ≡ lies (get m k)
    lies_same k is = ap lies (old k is)

    old_path : (n : ℕ) → is_some (get m n) ≡ true → path_to grown n ≡ path_to m n
    old_path n is = sym (same_paths grown m child_after child (next + 1) next grown_linked linked (n + 1) n (omega arith) lies_same is)

    new_path : path_to grown next ≡ grown_path
    new_path = path_step grown child_after (next + 1) grown_linked next x (insert_here m next x) some_next ∙ ap (λ (l : List Seg). l ++ x.segment ∷ []) (old_path x.parent.number stands)

    nowhere : down child 0 grown_path ≡ None
    nowhere = down_append child 0 (path_to m x.parent.number) (x.segment ∷ []) ∙ ap (option_and_then (λ k. down child k (x.segment ∷ []))) (stands_of m child next linked x.parent.number stands) ∙ ap (option_and_then (λ k. Some k)) free

    pub free_path : get (map_of m) grown_path ≡ None
    free_path = get_map m child next linked grown_path ∙ ap (λ o. entry_of (option_and_then (get m) o)) nowhere

    grown_at : (q : List Seg) (b : Bool) → eq_by_cmp path_cmp q grown_path ≡ b → get (map_of grown) q ≡ cond b (Some x.entry) (get (map_of m) q)
    grown_at q true e =
        let this : q ≡ grown_path = same_path q grown_path e in
        stands_at grown q (Some next) (λ n is. let same : next ≡ n = cc is in ap (path_to grown) (sym same) ∙ new_path ∙ sym this)
        (λ n is at. elim (cases_eq n next) [
          | inl same ↦ ap Some (sym same)
          | inr ne ↦
              let stood : is_some (get m n) ≡ true = ap is_some (sym (insert_apart m next x n ne)) ∙ is in
              absurd (cc (sym nowhere ∙ ap (down child 0) (sym this ∙ sym at ∙ old_path n stood) ∙ stands_of m child next linked n stood))
        ])
        ∙ ap entry_of (insert_here m next x)
    grown_at q false e =
        stands_at grown q (down child 0 q) (λ n is. old_path n (node_of_root m child next linked q n is) ∙ path_of_root m child next linked q n is)
        (λ n is at. elim (cases_eq n next) [
          | inl same ↦ absurd (cc (sym e ∙ ap (λ p. eq_by_cmp path_cmp p grown_path) (sym at ∙ ap (path_to grown) same ∙ new_path) ∙ path_itself grown_path))
          | inr ne ↦
              let stood : is_some (get m n) ≡ true = ap is_some (sym (insert_apart m next x n ne)) ∙ is in
              ap (down child 0) (sym at ∙ old_path n stood) ∙ stands_of m child next linked n stood
        ])
        ∙ same_by (down child 0 q) refl ∙ sym (get_map m child next linked q)
      where
        same_by : (o : Option ℕ) → down child 0 q ≡ o → entry_of (option_and_then (get grown) o) ≡ entry_of (option_and_then (get m) o)
        same_by None is = refl
        same_by (Some n) is = ap entry_of (old n (node_of_root m child next linked q n is))

    pub grown_map : map_of grown ≡ insert (map_of m) grown_path x.entry
    grown_map = same_map path_total only_equal (map_of grown) (insert (map_of m) grown_path x.entry) (λ q. grown_at q (eq_by_cmp path_cmp q grown_path) refl ∙ sym (get-insert path_total (map_of m) grown_path x.entry q))

  -- ---- a leaf less

  module _ (n : ℕ) (x : Node) (child_after : Children) (is_n : get m n ≡ Some x) (some : 0 < n) (leaf : (s : Seg) → child n s ≡ None)
      (updated : (p : ℕ) (s : Seg) → child_after p s ≡ cond (eq_by_cmp index_cmp (x.parent.number, x.segment) (p, s)) None (child p s)) where
    abbrev cut : NodeMap
    cut = remove m n

    pub kept : (k : ℕ) → is_some (get cut k) ≡ true → (k ≡ n → ⊥) × (get cut k ≡ get m k)
    kept k is = elim (cases_eq k n) [
      | inl e ↦ absurd (cc (sym is ∙ ap is_some (ap (get cut) e ∙ remove_here m n)))
      | inr ne ↦ (ne, remove_apart m n k ne)
    ]

    kept_node : (k : ℕ) (y : Node) → get cut k ≡ Some y → (k ≡ n → ⊥) × (get m k ≡ Some y)
    kept_node k y is = let both = kept k (ap is_some is) in (both.0, sym both.1 ∙ is)

    -- only the leaf itself is its parent's child there
    child_kept : (p : ℕ) (s : Seg) (k : ℕ) → (k ≡ n → ⊥) → child p s ≡ Some k → child_after p s ≡ Some k
    child_kept p s k ne is = by (eq_by_cmp index_cmp (x.parent.number, x.segment) (p, s)) refl
      where
        by : (b : Bool) → eq_by_cmp index_cmp (x.parent.number, x.segment) (p, s) ≡ b → child_after p s ≡ Some k
        by true e =
            let same = same_key x.parent.number p x.segment s e in
            let one : Some k ≡ Some n = sym is ∙ ap (λ j. child j s) (sym same.0) ∙ ap (child x.parent.number) (sym same.1) ∙ linked.up n x is_n some in
            let this : k ≡ n = cc one in
            absurd (ne this)
        by false e = updated p s ∙ ap (λ b. cond b None (child p s)) e ∙ is

    child_was : (p : ℕ) (s : Seg) (k : ℕ) → child_after p s ≡ Some k → (k ≡ n → ⊥) × (child p s ≡ Some k)
    child_was p s k is = by (eq_by_cmp index_cmp (x.parent.number, x.segment) (p, s)) refl
      where
        by : (b : Bool) → eq_by_cmp index_cmp (x.parent.number, x.segment) (p, s) ≡ b → (k ≡ n → ⊥) × (child p s ≡ Some k)
        by true e = absurd (cc (sym (updated p s ∙ ap (λ b. cond b None (child p s)) e) ∙ is))
        by false e =
            let was : child p s ≡ Some k = sym (updated p s ∙ ap (λ b. cond b None (child p s)) e) ∙ is in (
              λ same.
                  let pair : ◌≡◌ {A = Option (ℕ × Seg)} (Some (x.parent.number, x.segment)) (Some (p, s)) = sym (ap lies (ap (get m) same ∙ is_n)) ∙ linked.there p s k was in
                  let one : ◌≡◌ {A = ℕ × Seg} (x.parent.number, x.segment) (p, s) = cc pair in
                  let tied : true ≡ false = sym (key_itself x.parent.number x.segment) ∙ ap (λ (k : ℕ × Seg). eq_by_cmp index_cmp (x.parent.number, x.segment) k) one ∙ e in
                  absurd (cc tied),
              was,
            )

    parent_kept : (k : ℕ) (y : Node) → get m k ≡ Some y → 0 < k → is_some (get cut y.parent.number) ≡ true
    parent_kept k y is some_k = elim (cases_eq y.parent.number n) [
      | inl e ↦ absurd (cc (sym (leaf y.segment) ∙ ap (λ j. child j y.segment) (sym e) ∙ linked.up k y is some_k))
      | inr ne ↦ ap is_some (remove_apart m n y.parent.number ne) ∙ linked.parent k y is some_k
    ]

    pub cut_linked : Linked cut child_after next
    cut_linked = record {
      root = ap is_some (remove_apart m n 0 (λ e. absurd (omega (arith, some, e)))) ∙ linked.root;
      below = λ k y is. linked.below k y (kept_node k y is).1;
      number = λ k y is. linked.number k y (kept_node k y is).1;
      up = λ k y is some_k. let both = kept_node k y is in child_kept y.parent.number y.segment k both.0 (linked.up k y both.1 some_k);
      before = λ k y is some_k. linked.before k y (kept_node k y is).1 some_k;
      parent = λ k y is some_k. parent_kept k y (kept_node k y is).1 some_k;
      named = λ p s k is. linked.named p s k (child_was p s k is).1;
      there = λ p s k is. let both = child_was p s k is in ap lies (remove_apart m n k both.0) ∙ linked.there p s k both.1;
    }

    pub cut_path : (k : ℕ) → is_some (get cut k) ≡ true → path_to cut k ≡ path_to m k
    cut_path k is = keep cut child_after next cut_linked (λ j stands. ap lies (sym (kept j stands).1)) k is

    at_n : down child 0 (path_to m n) ≡ Some n
    at_n = stands_of m child next linked n (ap is_some is_n)

    cut_at : (q : List Seg) (b : Bool) → eq_by_cmp path_cmp q (path_to m n) ≡ b → get (map_of cut) q ≡ cond b None (get (map_of m) q)
    cut_at q true e =
        let this : q ≡ path_to m n = same_path q (path_to m n) e in
        stands_at cut q None (λ k is. absurd (cc is))
        (λ k is at.
        let both = kept k is in
        let stood : is_some (get m k) ≡ true = ap is_some (sym both.1) ∙ is in
        let one : Some k ≡ Some n = sym (stands_of m child next linked k stood) ∙ ap (down child 0) (sym (cut_path k is) ∙ at ∙ this) ∙ at_n in
        let same : k ≡ n = cc one in
        absurd (both.0 same))
    cut_at q false e =
        let not_n : (k : ℕ) → down child 0 q ≡ Some k → k ≡ n → ⊥ = λ k is same. absurd (cc (sym e ∙ ap (λ p. eq_by_cmp path_cmp p (path_to m n)) (sym (path_of_root m child next linked q k is) ∙ ap (path_to m) same) ∙ path_itself (path_to m n))) in
        let stays : (k : ℕ) → down child 0 q ≡ Some k → get cut k ≡ get m k = λ k is. remove_apart m n k (not_n k is) in
        stands_at cut q (down child 0 q)
        (λ k is. cut_path k (ap is_some (stays k is) ∙ node_of_root m child next linked q k is) ∙ path_of_root m child next linked q k is)
        (λ k is at. let both = kept k is in
        let stood : is_some (get m k) ≡ true = ap is_some (sym both.1) ∙ is in
        ap (down child 0) (sym at ∙ cut_path k is) ∙ stands_of m child next linked k stood)
        ∙ same_by (down child 0 q) stays ∙ sym (get_map m child next linked q)
      where
        same_by : (o : Option ℕ) → ((k : ℕ) → o ≡ Some k → get cut k ≡ get m k) → entry_of (option_and_then (get cut) o) ≡ entry_of (option_and_then (get m) o)
        same_by None h = refl
        same_by (Some k) h = ap entry_of (h k refl)

    pub cut_map : map_of cut ≡ remove (map_of m) (path_to m n)
    cut_map = same_map path_total only_equal (map_of cut) (remove (map_of m) (path_to m n)) (λ q. cut_at q (eq_by_cmp path_cmp q (path_to m n)) refl ∙ sym (get-remove path_total (map_of m) (path_to m n) q))

  -- ---- other entries in the nodes, by a change of each that keeps its number

  module _ (after : NodeMap) (change : ℕ → Node → Node) (lies_same : (k : ℕ) (y : Node) → lies (Some (change k y)) ≡ lies (Some y)) (number_same : (k : ℕ) (y : Node) → (change k y).entry.number ≡ y.entry.number)
      (changed : (k : ℕ) → get after k ≡ option_map (change k) (get m k)) where
    was : (k : ℕ) (y : Node) → get after k ≡ Some y → (x : Node) × (get m k ≡ Some x) × (change k x ≡ y)
    was k y is = by (get m k) refl
      where
        by : (o : Option Node) → get m k ≡ o → (x : Node) × (get m k ≡ Some x) × (change k x ≡ y)
        by None none = absurd (cc (sym is ∙ changed k ∙ ap (option_map (change k)) none))
        by (Some x) at = let one : Some (change k x) ≡ Some y = sym (changed k ∙ ap (option_map (change k)) at) ∙ is in let same : change k x ≡ y = cc one in (x, at, same)

    lies_at : (o : Option Node) (k : ℕ) → lies (option_map (change k) o) ≡ lies o
    lies_at None k = refl
    lies_at (Some y) k = lies_same k y

    some_at : (o : Option Node) (k : ℕ) → is_some (option_map (change k) o) ≡ is_some o
    some_at None k = refl
    some_at (Some y) k = refl

    lies_after : (k : ℕ) → lies (get after k) ≡ lies (get m k)
    lies_after k = ap lies (changed k) ∙ lies_at (get m k) k

    some_after : (k : ℕ) → is_some (get after k) ≡ is_some (get m k)
    some_after k = ap is_some (changed k) ∙ some_at (get m k) k

    placed : (k : ℕ) (x y : Node) → change k x ≡ y → (x.parent.number ≡ y.parent.number) × (x.segment ≡ y.segment)
    placed k x y same =
        let pair : ◌≡◌ {A = Option (ℕ × Seg)} (Some (x.parent.number, x.segment)) (Some (y.parent.number, y.segment)) = sym (lies_same k x) ∙ ap (λ (z : Node). lies (Some z)) same in
        let one : (x.parent.number, x.segment) ≡ (y.parent.number, y.segment) = cc pair in
        (ap (λ (e : ℕ × Seg). e.0) one, ap (λ (e : ℕ × Seg). e.1) one)

    pub changed_linked : Linked after child next
    changed_linked = record {
      root = some_after 0 ∙ linked.root;
      below = λ k y is. let x = was k y is in linked.below k x.0 x.1;
      number = λ k y is. let x = was k y is in ap (λ (z : Node). z.entry.number) (sym x.2) ∙ number_same k x.0 ∙ linked.number k x.0 x.1;
      up = λ k y is some. let x = was k y is in let p = placed k x.0 y x.2 in ap (λ j. child j y.segment) (sym p.0) ∙ ap (child x.0.parent.number) (sym p.1) ∙ linked.up k x.0 x.1 some;
      before = λ k y is some. let x = was k y is in let p = placed k x.0 y x.2 in subst (λ j. j < k) p.0 (linked.before k x.0 x.1 some);
      parent = λ k y is some. let x = was k y is in let p = placed k x.0 y x.2 in some_after y.parent.number ∙ ap (λ j. is_some (get m j)) (sym p.0) ∙ linked.parent k x.0 x.1 some;
      named = linked.named;
      there = λ p s k is. lies_after k ∙ linked.there p s k is;
    }

    changed_path : (k : ℕ) → is_some (get after k) ≡ true → path_to after k ≡ path_to m k
    changed_path k is = keep after child next changed_linked (λ j stands. sym (lies_after j)) k is

    pub changed_at : (q : List Seg) → get (map_of after) q ≡ entry_of (option_and_then (λ k. option_map (change k) (get m k)) (down child 0 q))
    changed_at q = get_map after child next changed_linked q ∙ ap entry_of (by (down child 0 q))
      where
        by : (o : Option ℕ) → option_and_then (get after) o ≡ option_and_then (λ k. option_map (change k) (get m k)) o
        by None = refl
        by (Some k) = changed k
