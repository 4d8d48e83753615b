-- The tree that nodes make: who is whose child, by an index of parents and segments, and which path leads to a node.
use Rattle.std.specs.Prelude.{Bool, ◌≡◌, ◌==◌, if◌then◌else◌, filter_map, ℕ, zero, suc, ◌<◌, true, cond, List, [], ◌∷◌, ◌++◌, map, Option, Some, None, is_some, option_and_then}
use Rattle.std.specs.Option.{option_map}
use Rattle.std.specs.declared.cmp.Ordering.{Ordering}
use Rattle.std.specs.Ordering.{nat_cmp, eq_by_cmp, ordering_then}
use Rattle.std.specs.BTreeMap.{is_at}
use Rattle.std.specs.Map.{lookup}
use Rattle.std.specs.FinMap.{get, remove, entries, from_entries}
use Rattle.aml_path.specs.declared.segment.Seg.{Seg}
use Rattle.aml_path.specs.Segments.{seg_cmp}
use Rattle.aml_objects.specs.declared.node.NodeId.{NodeId}
use Rattle.aml_namespace.specs.declared.node.Node.{Node}
use Rattle.aml_namespace.specs.Namespace.{Map}
use Rattle.aml_namespace.specs.Nodes.{NodeMap}
use Rattle.aml_namespace.specs.Parents.{is_marked}
use Rattle.aml_namespace.specs.Places.{place_of, may_be}

-- the order of the index: by parents, and then by segments
abbrev pub index_cmp : ℕ × Seg → ℕ × Seg → Ordering
index_cmp x y = ordering_then (nat_cmp x.0 y.0) (seg_cmp x.1 y.1)

abbrev pub Index : Type 0
Index = List ((ℕ × Seg) × NodeId)

abbrev pub Children : Type 0
Children = ℕ → Seg → Option ℕ

-- the child of a node that has this segment
abbrev pub child_in : Index → Children
child_in es parent segment = option_map (λ (id : NodeId). id.number) (lookup (is_at (index_cmp (parent, segment))) es)

-- each node with a child is marked as a parent, and each place in the index where a node is
abbrev pub ParentsMarked : List Bool → Index → Type 0
ParentsMarked marks es = (p : ℕ) (s : Seg) → is_some (child_in es p s) ≡ true → is_marked marks p ≡ true

abbrev pub PlacesMarked : List Bool → Index → Type 0
PlacesMarked marks es = (p : ℕ) (s : Seg) → is_some (child_in es p s) ≡ true → may_be marks (place_of p s) ≡ true

-- from a node down some segments
abbrev pub down : Children → ℕ → List Seg → Option ℕ
down child n [] = Some n
down child n (s ∷ ss) = option_and_then (λ k. down child k ss) (child n s)

-- ---- the path to a node: up to the root, number 0, in so many steps at most

abbrev pub from_node : (ℕ → List Seg) → Option Node → List Seg
from_node above None = []
from_node above (Some x) = above x.parent.number ++ x.segment ∷ []

abbrev pub climb : NodeMap → ℕ → ℕ → List Seg
climb m zero f = []
climb m (suc n) zero = []
climb m (suc n) (suc f) = from_node (λ p. climb m p f) (get m (suc n))

-- a parent's number is below its child's
abbrev pub path_to : NodeMap → ℕ → List Seg
path_to m n = climb m n n

-- what stands at each path
unfoldable pub map_of : NodeMap → Map
map_of m = from_entries (map (λ e. (path_to m e.0, e.1.entry)) (entries m))

-- a node's parent and segment
abbrev pub lies : Option Node → Option (ℕ × Seg)
lies = option_map (λ (x : Node). (x.parent.number, x.segment))

-- each node but the root is the child of its parent
abbrev pub AllListed : NodeMap → Children → Type 0
AllListed m child = (n : ℕ) (x : Node) → get m n ≡ Some x → 0 < n → child x.parent.number x.segment ≡ Some n

-- the nodes and the index make a tree: the root stands; the number of a node is that of its declaration, and below the next
-- one; a node other than the root is its parent's child, and its parent was declared before it; and a child is a node that
-- lies there
pub record Linked (m : NodeMap) (child : Children) (next : ℕ) : Type 0 where
  pub root : is_some (get m 0) ≡ true
  pub below : (n : ℕ) (x : Node) → get m n ≡ Some x → n < next
  pub number : (n : ℕ) (x : Node) → get m n ≡ Some x → x.entry.number ≡ n
  pub up : (n : ℕ) (x : Node) → get m n ≡ Some x → 0 < n → child x.parent.number x.segment ≡ Some n
  pub before : (n : ℕ) (x : Node) → get m n ≡ Some x → 0 < n → x.parent.number < n
  pub parent : (n : ℕ) (x : Node) → get m n ≡ Some x → 0 < n → is_some (get m x.parent.number) ≡ true
  pub named : (p : ℕ) (s : Seg) (n : ℕ) → child p s ≡ Some n → 0 < n
  pub there : (p : ℕ) (s : Seg) (n : ℕ) → child p s ≡ Some n → lies (get m n) ≡ Some (p, s)

-- a node is taken out, and its parent is the one with this number
pub record Cut (m after : NodeMap) (child child_after : Children) (n : ℕ) (x : Node) (parent : ℕ) : Type 0 where
  pub nodes : after ≡ remove m n
  pub children : (p : ℕ) (s : Seg) → child_after p s ≡ cond (eq_by_cmp index_cmp (x.parent.number, x.segment) (p, s)) None (child p s)
  pub above : parent ≡ x.parent.number

-- the segment of an entry of the index, where it is below this parent;  and of all such, in the order of the index
abbrev pub segment_below : ℕ → (ℕ × Seg) × NodeId → Option Seg
segment_below parent e = if e.0.0 == parent then Some e.0.1 else None

abbrev pub segments_below : ℕ → Index → List Seg
segments_below parent es = filter_map (segment_below parent) es
