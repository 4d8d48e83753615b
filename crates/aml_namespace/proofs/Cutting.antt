-- The removal of the nodes below one, leaf by leaf.
use Rattle.std.proofs.Common.{◌≡◌, ◌≢◌, ℕ, zero, suc, ◌+◌, ◌-◌, ◌*◌, ◌<◌, ◌≤◌, Bool, true, false, cond, List, [], ◌∷◌, ◌++◌, length, take, drop, inl, inr, Option, Some, None, is_some, refl, ap, sym, subst, ◌∙◌, arith, length-append, take-append-drop, length-drop, append_assoc, append-nil, add-mul, one-mul, not}
use Rattle.std.specs.Prelude.{option_and_then, ◌&&◌, nat_lt}
use Rattle.std.specs.Option.{option_map}
use Rattle.std.proofs.lemmas.Bool.{cases_eq}
use Rattle.std.proofs.lemmas.Bool.Decides.{nat_tests}
use Rattle.std.proofs.lemmas.List.{take_all, take-append-le}
use Rattle.std.specs.Ordering.{nat_cmp, eq_by_cmp}
use Rattle.std.specs.Cmp.{nat_cmp_total}
use Rattle.std.specs.FinMap.{get, remove, retain_keys, get-retain_keys, get-remove, same_map, len, len-remove, empty_of_len, get-empty}
use Rattle.aml_path.specs.declared.segment.Seg.{Seg}
use Rattle.aml_path.specs.Paths.{path_cmp, path_eq, is_below}
use Rattle.aml_namespace.specs.declared.node.Node.{Node}
use Rattle.aml_namespace.specs.Namespace.{HasBelow}
use Rattle.aml_namespace.specs.Nodes.{NodeMap}
use Rattle.aml_namespace.specs.Tree.{Children, down, path_to, map_of, Linked, Cut}
use Rattle.aml_namespace.proofs.Numbers.{remove_apart}
use Rattle.aml_namespace.proofs.Paths.{path_total, only_equal, same_path, path_itself, other_path, get_map, down_append, there_is, lies_there, path_step, stands_of}
use Rattle.aml_namespace.proofs.Growth.{cut_linked, cut_map, cut_path, at_most}

-- ---- paths below another

both : (a b : Bool) → (a && b) ≡ true → (a ≡ true) × (b ≡ true)
both true true is = (is, is)
both true false is = absurd (cc is)
both false b is = absurd (cc is)

split : (l : List Seg) → 0 < length l → (s : Seg) × (r : List Seg) × (l ≡ s ∷ r)
split [] some = absurd (omega (arith, some))
split (s ∷ r) some = (s, r, refl)

pub below_parts : (p q : List Seg) → is_below p q ≡ true → (s : Seg) × (r : List Seg) × (q ≡ p ++ s ∷ r)
below_parts p q is =
    let tests = both (nat_lt (length p) (length q)) (path_eq (take (length p) q) p) is in
    let longer : length p < length q = grind (arith, nat_tests, tests.0) in
    let front : take (length p) q ≡ p = same_path (take (length p) q) p tests.1 in
    let rest = split (drop (length p) q) (omega (arith, length-drop (length p) q, longer)) in
    (rest.0, rest.1, sym (take-append-drop (length p) q) ∙ ap (λ (l : List Seg). l ++ drop (length p) q) front ∙ ap (λ (l : List Seg). p ++ l) rest.2)

pub is_below_is : (p : List Seg) (s : Seg) (r : List Seg) → is_below p (p ++ s ∷ r) ≡ true
is_below_is p s r =
    let count : length (p ++ s ∷ r) ≡ length p + (length r + 1) = length-append p (s ∷ r) ∙ omega arith in
    let longer : nat_lt (length p) (length (p ++ s ∷ r)) ≡ true = grind (arith, nat_tests, count) in
    let front : take (length p) (p ++ s ∷ r) ≡ p = take-append-le (length p) p (s ∷ r) (omega arith) ∙ take_all (length p) p (omega arith) in
    ap (λ b. b && path_eq (take (length p) (p ++ s ∷ r)) p) longer ∙ ap (λ (l : List Seg). path_eq l p) front ∙ path_itself p

take_past : (p r : List Seg) (n : ℕ) → length p ≤ n → take n (p ++ r) ≡ p ++ take (n - length p) r
take_past [] r n le = ap (λ k. take k r) (omega arith)
take_past (s ∷ ss) r zero le = absurd (omega (arith, le))
take_past (s ∷ ss) r (suc n) le = ap (λ (l : List Seg). s ∷ l) (take_past ss r n (omega (arith, le)) ∙ ap (λ k. ss ++ take k r) (omega arith))

some_rest : (l : List Seg) → (l ≡ [] → ⊥) → 0 < length l
some_rest [] some = absurd (some refl)
some_rest (s ∷ r) some = omega arith

-- the path above one that is below
shorter : (l p r : List Seg) (s : Seg) → l ++ s ∷ [] ≡ p ++ r → (r ≡ [] → ⊥) → (q : List Seg) × (l ≡ p ++ q)
shorter l p [] s is some = absurd (some refl)
shorter l p (t ∷ ts) s is some =
    let count : length l + 1 ≡ length p + suc (length ts) = sym (length-append l (s ∷ [])) ∙ ap length is ∙ length-append p (t ∷ ts) in (
      take (length l - length p) (t ∷ ts),
      sym (take-append-le (length l) l (s ∷ []) (omega arith) ∙ take_all (length l) l (omega arith)) ∙ ap (take (length l)) is ∙ take_past p (t ∷ ts) (length l) (omega (arith, count)),
    )

-- ---- the loop

-- some of the nodes below the start are gone
pub record Underway (old m : NodeMap) (child : Children) (next start current : ℕ) : Type 0 where
  pub linked : Linked m child next
  pub stands : is_some (get m start) ≡ true
  pub same : path_to m start ≡ path_to old start
  pub here : is_some (get m current) ≡ true
  pub rest : List Seg
  pub path : path_to m current ≡ path_to old start ++ rest
  pub others : (q : List Seg) → is_below (path_to old start) q ≡ false → get (map_of m) q ≡ get (map_of old) q

pub underway_first : (m : NodeMap) (child : Children) (next start : ℕ) → Linked m child next → is_some (get m start) ≡ true → Underway m m child next start start
underway_first m child next start linked stands = record { linked = linked; stands = stands; same = refl; here = stands; rest = []; path = sym (append-nil (path_to m start)); others = λ q is. refl }

module _ (old m : NodeMap) (child : Children) (next start current : ℕ) (u : Underway old m child next start current) where
  -- down to a child
  module _ (s : Seg) (n : ℕ) (is : child current s ≡ Some n) where
    at_child : (x : Node) × (get m n ≡ Some x) × (x.parent.number ≡ current) × (x.segment ≡ s)
    at_child = lies_there (get m n) current s (u.linked.there current s n is)

    pub underway_child : Underway old m child next start n
    underway_child = record {
      linked = u.linked;
      stands = u.stands;
      same = u.same;
      here = ap is_some at_child.1;
      rest = u.rest ++ s ∷ [];
      path =
          path_step m child next u.linked n at_child.0 at_child.1 (u.linked.named current s n is)
          ∙ ap (λ p. path_to m p ++ at_child.0.segment ∷ []) at_child.2 ∙ ap (λ (t : Seg). path_to m current ++ t ∷ []) at_child.3
          ∙ ap (λ (l : List Seg). l ++ s ∷ []) u.path ∙ append_assoc (path_to old start) u.rest (s ∷ []);
      others = u.others;
    }

    pub child_later : (current < n) × (n < next)
    child_later = (subst (λ p. p < n) at_child.2 (u.linked.before n at_child.0 at_child.1 (u.linked.named current s n is)), u.linked.below n at_child.0 at_child.1)

  -- a leaf taken out
  module _ (after : NodeMap) (child_after : Children) (parent : ℕ) (leaf : (s : Seg) → child current s ≡ None) (apart : current ≡ start → ⊥)
      (removed : (x : Node) → get m current ≡ Some x → Cut m after child child_after current x parent) where
    at_leaf : (x : Node) × (get m current ≡ Some x)
    at_leaf = there_is (get m current) u.here

    gone : Cut m after child child_after current at_leaf.0 parent
    gone = removed at_leaf.0 at_leaf.1

    not_path : u.rest ≡ [] → ⊥
    not_path none =
        let one : Some current ≡ Some start =
        sym (stands_of m child next u.linked current u.here) ∙ ap (down child 0) (u.path ∙ ap (λ (l : List Seg). path_to old start ++ l) none ∙ append-nil (path_to old start) ∙ sym u.same) ∙ stands_of m child next u.linked start u.stands in
        let same : current ≡ start = cc one in
        absurd (apart same)

    not_root : (n : ℕ) → current ≡ n → u.rest ≢ [] → 0 < n
    not_root zero is some = absurd (some (no_rest (path_to old start) u.rest (sym u.path ∙ ap (path_to m) is)))
      where
        no_rest : (p r : List Seg) → p ++ r ≡ [] → r ≡ []
        no_rest [] r is = is
        no_rest (s ∷ ss) r is = absurd (cc is)
    not_root (suc n) is some = omega arith

    some_number : 0 < current
    some_number = not_root current refl not_path

    linked_cut : Linked (remove m current) child_after next
    linked_cut = cut_linked m child next u.linked current at_leaf.0 child_after at_leaf.1 some_number leaf gone.children

    left : (k : ℕ) → is_some (get m k) ≡ true → (k ≡ current → ⊥) → is_some (get (remove m current) k) ≡ true
    left k is ne = ap is_some (remove_apart m current k ne) ∙ is

    path_left : (k : ℕ) → is_some (get m k) ≡ true → (k ≡ current → ⊥) → path_to (remove m current) k ≡ path_to m k
    path_left k is ne = cut_path m child next u.linked current at_leaf.0 child_after at_leaf.1 some_number leaf gone.children k (left k is ne)

    low : at_leaf.0.parent.number < current
    low = u.linked.before current at_leaf.0 at_leaf.1 some_number

    parent_apart : at_leaf.0.parent.number ≡ current → ⊥
    parent_apart e = let lt = low in absurd (omega (arith, lt, e))

    parent_stands : is_some (get m at_leaf.0.parent.number) ≡ true
    parent_stands = u.linked.parent current at_leaf.0 at_leaf.1 some_number

    above_path : (q : List Seg) × (path_to m at_leaf.0.parent.number ≡ path_to old start ++ q)
    above_path = shorter (path_to m at_leaf.0.parent.number) (path_to old start) u.rest at_leaf.0.segment (sym (path_step m child next u.linked current at_leaf.0 at_leaf.1 some_number) ∙ u.path) not_path

    beside : (q : List Seg) → is_below (path_to old start) q ≡ false → get (map_of (remove m current)) q ≡ get (map_of m) q
    beside q is =
        ap (λ n. get n q) (cut_map m child next u.linked current at_leaf.0 child_after at_leaf.1 some_number leaf gone.children)
        ∙ get-remove path_total (map_of m) (path_to m current) q
        ∙ ap (λ b. cond b None (get (map_of m) q)) (other_path (eq_by_cmp path_cmp q (path_to m current)) q (path_to m current) refl (λ same.
        let parts = split u.rest (some_rest u.rest not_path) in
        absurd (cc (sym is ∙ ap (is_below (path_to old start)) (same ∙ u.path ∙ ap (λ (l : List Seg). path_to old start ++ l) parts.2) ∙ is_below_is (path_to old start) parts.0 parts.1))))

    -- the leaf's path is below the start's, and stood at the beginning unless something was removed before it
    below_start : is_below (path_to old start) (path_to m current) ≡ true
    below_start =
        let parts = split u.rest (some_rest u.rest not_path) in
        ap (is_below (path_to old start)) (u.path ∙ ap (λ (l : List Seg). path_to old start ++ l) parts.2) ∙ is_below_is (path_to old start) parts.0 parts.1

    leaf_stands : is_some (get (map_of m) (path_to m current)) ≡ true
    leaf_stands =
        ap is_some (get_map m child next u.linked (path_to m current)
        ∙ ap (λ (o : Option ℕ). option_map (λ (x : Node). x.entry) (option_and_then (get m) o)) (stands_of m child next u.linked current u.here)
        ∙ ap (option_map (λ (x : Node). x.entry)) at_leaf.1)

    pub some_below : (removed : Bool) → (removed ≡ false → m ≡ old) → (removed ≡ true → HasBelow (path_to old start) (map_of old)) → HasBelow (path_to old start) (map_of old)
    some_below true kept some = some refl
    some_below false kept some = (path_to m current, below_start, ap (λ (n : NodeMap). is_some (get (map_of n) (path_to m current))) (sym (kept refl)) ∙ leaf_stands)

    cut_underway : Underway old (remove m current) child_after next start parent
    cut_underway = record {
      linked = linked_cut;
      stands = left start u.stands (λ e. apart (sym e));
      same = path_left start u.stands (λ e. apart (sym e)) ∙ u.same;
      here = ap (λ k. is_some (get (remove m current) k)) gone.above ∙ left at_leaf.0.parent.number parent_stands parent_apart;
      rest = above_path.0;
      path = ap (path_to (remove m current)) gone.above ∙ path_left at_leaf.0.parent.number parent_stands parent_apart ∙ above_path.1;
      others = λ q is. beside q is ∙ u.others q is;
    }

    pub underway_cut : Underway old after child_after next start parent
    underway_cut = subst (λ (n : NodeMap). Underway old n child_after next start parent) (sym gone.nodes) cut_underway

    some_len : 0 < len m
    some_len = elim (cases_eq (len m) 0) [
      | inl e ↦ absurd (cc (sym u.here ∙ ap (λ (n : NodeMap). is_some (get n current)) (empty_of_len m e) ∙ ap is_some (get-empty nat_cmp current)))
      | inr ne ↦ omega (arith, ne)
    ]

    pub fewer : (len m ≡ len after + 1) × (parent < next) × (current < next)
    fewer =
        let here : is_some (get m current) ≡ true = u.here in
        let count : len (remove m current) ≡ len m - 1 = len-remove nat_cmp_total m current ∙ ap (λ b. cond b (len m - 1) (len m)) here in
        let some : 0 < len m = some_len in
        let same : len after ≡ len m - 1 = ap len gone.nodes ∙ count in
        let low = at_most m child next u.linked current u.here in
        let up = at_most m child next u.linked at_leaf.0.parent.number parent_stands in
        (omega (arith, same, some), subst (λ k. k < next) (sym gone.above) up, low)

  -- at the end: nothing stands below
  pub all_gone : current ≡ start → ((s : Seg) → child current s ≡ None) → map_of m ≡ retain_keys (map_of old) (λ q. not (is_below (path_to old start) q))
  all_gone at leaf = same_map path_total only_equal (map_of m) (retain_keys (map_of old) (λ q. not (is_below (path_to old start) q))) (λ q.
      each q (is_below (path_to old start) q) refl
      ∙ sym (get-retain_keys (map_of old) (λ q. not (is_below (path_to old start) q)) q (λ x tied. ap (λ y. not (is_below (path_to old start) y)) (sym (only_equal q x tied)))))
    where
      each : (q : List Seg) (b : Bool) → is_below (path_to old start) q ≡ b → get (map_of m) q ≡ cond (not b) (get (map_of old) q) None
      each q true is =
          let parts = below_parts (path_to old start) q is in
          get_map m child next u.linked q
          ∙ ap (λ (o : Option ℕ). option_map (λ (x : Node). x.entry) (option_and_then (get m) o))
          (ap (down child 0) (parts.2 ∙ ap (λ (l : List Seg). l ++ parts.0 ∷ parts.1) (sym u.same))
          ∙ down_append child 0 (path_to m start) (parts.0 ∷ parts.1)
          ∙ ap (option_and_then (λ k. down child k (parts.0 ∷ parts.1))) (stands_of m child next u.linked start u.stands)
          ∙ ap (option_and_then (λ k. down child k parts.1)) (ap (λ k. child k parts.0) (sym at) ∙ leaf parts.0))
      each q false is = u.others q is

-- a node less outweighs any number; and else a child's number is greater
pub measure_cut : (l k next p c : ℕ) → l ≡ k + 1 → p < next → c < next → k * (next + 1) + (next - p) < l * (next + 1) + (next - c)
measure_cut l k next p c is lp lc =
    let one : l * (next + 1) ≡ (k + 1) * (next + 1) = ap (λ n. n * (next + 1)) is in
    let more : (k + 1) * (next + 1) ≡ k * (next + 1) + 1 * (next + 1) = add-mul k 1 (next + 1) in
    let last : 1 * (next + 1) ≡ next + 1 = one-mul (next + 1) in
    omega (arith, one, more, last, lp, lc)

pub measure_child : (l next c n : ℕ) → c < n → n < next → l * (next + 1) + (next - n) < l * (next + 1) + (next - c)
measure_child l next c n lt below = omega (arith, lt, below)

-- where nothing stands at a path, nothing stands below it
pub nothing_below : (m : NodeMap) (child : Children) (next : ℕ) → Linked m child next → (p : List Seg) → down child 0 p ≡ None → map_of m ≡ retain_keys (map_of m) (λ q. not (is_below p q))
nothing_below m child next linked p none = same_map path_total only_equal (map_of m) (retain_keys (map_of m) (λ q. not (is_below p q))) (λ q.
    each q (is_below p q) refl ∙ sym (get-retain_keys (map_of m) (λ q. not (is_below p q)) q (λ x tied. ap (λ y. not (is_below p y)) (sym (only_equal q x tied)))))
  where
    each : (q : List Seg) (b : Bool) → is_below p q ≡ b → get (map_of m) q ≡ cond (not b) (get (map_of m) q) None
    each q true is =
        let parts = below_parts p q is in
        get_map m child next linked q
        ∙ ap (λ (o : Option ℕ). option_map (λ (x : Node). x.entry) (option_and_then (get m) o)) (ap (down child 0) parts.2 ∙ down_append child 0 p (parts.0 ∷ parts.1) ∙ ap (option_and_then (λ k. down child k (parts.0 ∷ parts.1))) none)
    each q false is = refl
