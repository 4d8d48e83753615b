-- The nodes above and below one, in the map of paths.
use Rattle.std.proofs.Common.{◌≡◌, ℕ, ◌+◌, ◌-◌, ◌<◌, ◌≤◌, List, [], ◌∷◌, ◌++◌, length, take, Option, Some, None, is_some, true, refl, ap, sym, ◌∙◌, arith, length-append, length-take-le, take-take}
use Rattle.std.specs.Option.{option_map}
use Rattle.std.proofs.lemmas.List.{take_all, take-append-le}
use Rattle.std.specs.FinMap.{get}
use Rattle.aml_path.specs.declared.segment.Seg.{Seg}
use Rattle.aml_objects.specs.declared.entry.Entry.{Entry}
use Rattle.aml_objects.specs.declared.node.NodeId.{NodeId}
use Rattle.aml_namespace.specs.declared.node.Node.{Node}
use Rattle.aml_namespace.specs.Namespace.{Map, numbered}
use Rattle.aml_namespace.specs.Search.{Found, at_path, IsParent, IsAncestor}
use Rattle.aml_namespace.specs.Nodes.{NodeMap}
use Rattle.aml_namespace.specs.Tree.{Children, down, path_to, map_of, Linked}
use Rattle.aml_namespace.proofs.Paths.{there_is, path_step}
use Rattle.aml_namespace.proofs.Numbering.{numbered_get, down_from}
use Rattle.aml_namespace.proofs.Finding.{ids, through_ids}

module _ (m : NodeMap) (child : Children) (next : ℕ) (linked : Linked m child next) where
  -- a declaration that stands is that of a node
  pub node_of : (n : ℕ) (f : Found) → numbered n (map_of m) ≡ Some f → (x : Node) × (get m n ≡ Some x) × (f ≡ (path_to m n, x.entry))
  node_of n f is = by (get m n) refl
    where
      by : (o : Option Node) → get m n ≡ o → (x : Node) × (get m n ≡ Some x) × (f ≡ (path_to m n, x.entry))
      by None at = absurd (cc (sym is ∙ numbered_get m child next linked n ∙ ap (option_map (λ (x : Node). (path_to m n, x.entry))) at))
      by (Some x) at =
          let one : ◌≡◌ {A = Option Found} (Some f) (Some (path_to m n, x.entry)) = sym is ∙ numbered_get m child next linked n ∙ ap (option_map (λ (x : Node). (path_to m n, x.entry))) at in
          let same : ◌≡◌ {A = Found} f (path_to m n, x.entry) = cc one in
          (x, at, same)

  -- a declaration that stands at a path is that of the node there
  pub node_at : (n : ℕ) (p : List Seg) → option_map (λ (f : Found). f.0) (numbered n (map_of m)) ≡ Some p → (is_some (get m n) ≡ true) × (path_to m n ≡ p)
  node_at n p is = by (numbered n (map_of m)) refl is
    where
      by : (o : Option Found) → numbered n (map_of m) ≡ o → option_map (λ (f : Found). f.0) o ≡ Some p → (is_some (get m n) ≡ true) × (path_to m n ≡ p)
      by None at is = absurd (cc is)
      by (Some f) at is =
          let x = node_of n f at in
          let same : f.0 ≡ p = cc is in
          (ap is_some x.1, sym (ap (λ (g : Found). g.0) x.2) ∙ same)

  pub root_is : (n : ℕ) → n ≡ 0 → (e : Entry) × (numbered n (map_of m) ≡ Some ([], e))
  root_is n is =
      let x = there_is (get m 0) linked.root in
      (x.0.entry, ap (λ k. numbered k (map_of m)) is ∙ numbered_get m child next linked 0 ∙ ap (option_map (λ (z : Node). ([], z.entry))) x.1)

  pub above_root : (f : Found) → numbered 0 (map_of m) ≡ Some f → f.0 ≡ []
  above_root f is = ap (λ (g : Found). g.0) (node_of 0 f is).2

  pub above_none : (n : ℕ) (f : Found) → get m n ≡ None → numbered n (map_of m) ≡ Some f → ⊥
  above_none n f none is = let x = node_of n f is in absurd (cc (sym none ∙ x.1))

  pub above_some : (n : ℕ) (x : Node) (f : Found) → get m n ≡ Some x → 0 < n → numbered n (map_of m) ≡ Some f → IsParent (map_of m) f.0 x.parent.number x.segment
  above_some n x f at some is =
      let y = there_is (get m x.parent.number) (linked.parent n x at some) in
      record {
        above = (path_to m x.parent.number, y.0.entry);
        stands = numbered_get m child next linked x.parent.number ∙ ap (option_map (λ (z : Node). (path_to m x.parent.number, z.entry))) y.1;
        ends = ap (λ (g : Found). g.0) (node_of n f is).2 ∙ path_step m child next linked n x at some;
      }

  pub below_is : (a : ℕ) (f : Found) (ss : List Seg) (o : Option NodeId) → numbered a (map_of m) ≡ Some f → ids o ≡ down child a ss → option_map (λ (id : NodeId). numbered id.number (map_of m)) o ≡ option_map Some (at_path (map_of m) (f.0 ++ ss))
  below_is a f ss o is to =
      let x = node_of a f is in
      through_ids (λ n. numbered n (map_of m)) o
      ∙ ap (option_map (λ (n : ℕ). numbered n (map_of m))) to
      ∙ down_from m child next linked a ss (ap is_some x.1)
      ∙ ap (λ (g : Found). option_map Some (at_path (map_of m) (g.0 ++ ss))) (sym x.2)

-- ---- so many levels up

pub ancestor_self : (names : Map) (n : ℕ) (f : Found) → numbered n names ≡ Some f → IsAncestor names f.0 n 0
ancestor_self names n f is = record { above = f; stands = is; within = omega arith; is = sym (take_all (length f.0 - 0) f.0 (omega arith)) }

one_less : (l q : List Seg) (k : ℕ) (s : Seg) → k ≤ length l → take k l ≡ q ++ s ∷ [] → (k ≡ length q + 1) × (take (length q) l ≡ q)
one_less l q k s le is =
    let count : k ≡ length q + 1 = omega (arith, length-take-le k l le, ap length is, length-append q (s ∷ [])) in
    let inner : take (length q) l ≡ take (length q) (take k l) = sym (take-take (length q) k l (omega (arith, count))) in
    (count, inner ∙ ap (take (length q)) is ∙ take-append-le (length q) q (s ∷ []) (omega arith) ∙ take_all (length q) q (omega arith))

pub ancestor_more : (names : Map) (path : List Seg) (n i p : ℕ) (s : Seg) → (a : IsAncestor names path n i) → IsParent names a.above.0 p s → IsAncestor names path p (i + 1)
ancestor_more names path n i p s a b =
    let parts = one_less path b.above.0 (length path - i) s (omega arith) (sym a.is ∙ b.ends) in
    let count = parts.0 in
    record {
      above = b.above;
      stands = b.stands;
      within = omega (arith, count);
      is = sym parts.1 ∙ ap (λ k. take k path) (omega (arith, count));
    }

pub ancestor_root : (names : Map) (path : List Seg) (n i : ℕ) → (a : IsAncestor names path n i) → a.above.0 ≡ [] → length path ≡ i
ancestor_root names path n i a root = omega (arith, a.within, length-take-le (length path - i) path (omega arith), ap length a.is, ap length root)
