-- Paths by number, as a tree of steps: each leads from a node with a lower number by one segment.
use Rattle.std.specs.Prelude.{◌≡◌, ◌<◌, ◌+◌, ℕ, zero, suc, List, [], ◌∷◌, ◌++◌, length, get_or, Option, Some, None, option_map, option_and_then, if◌then◌else◌}
use Rattle.std.specs.List.{slice_get}
use Rattle.std.specs.declared.cmp.Ordering.{Ordering}
use Rattle.std.specs.Ordering.{nat_cmp, ordering_then}
use Rattle.std.specs.BTreeMap.{is_at}
use Rattle.std.specs.Map.{lookup}
use Rattle.aml_path.specs.declared.segment.Seg.{Seg}
use Rattle.aml_path.specs.Segments.{seg_cmp}
use Rattle.aml_path.specs.Paths.{path_eq}

-- the node that a step leads from, and the segment
abbrev pub Step : Type 0
Step = ℕ × Seg

abbrev pub step_cmp : Step → Step → Ordering
step_cmp x y = ordering_then (nat_cmp x.0 y.0) (seg_cmp x.1 y.1)

abbrev pub Children : Type 0
Children = ℕ → Seg → Option ℕ

-- the node that a step leads to
abbrev pub child_in : List (Step × ℕ) → Children
child_in es parent segment = lookup (is_at (step_cmp (parent, segment))) es

-- from a node down some segments
abbrev pub down : Children → ℕ → List Seg → Option ℕ
down child n [] = Some n
down child n (s ∷ ss) = option_and_then (λ k. down child k ss) (child n s)

-- the path of one more step, after the paths of the nodes before it
abbrev pub path_by : List (List Seg) → Step → List Seg
path_by ps x = get_or ps x.0 [] ++ x.1 ∷ []

abbrev pub grown : List (List Seg) → List Step → List (List Seg)
grown ps [] = ps
grown ps (x ∷ xs) = grown (ps ++ path_by ps x ∷ []) xs

-- the paths of the nodes in the order of their numbers, the root's first
unfoldable pub paths_of : List Step → List (List Seg)
paths_of steps = grown ([] ∷ []) steps

-- the step that leads to a node: none to the root
abbrev pub own : List Step → ℕ → Option Step
own steps zero = None
own steps (suc k) = slice_get steps k

-- a step leads to the node whose own it is, from a node with a lower number
pub record Linked (steps : List Step) (child : Children) : Type 0 where
  pub up : (n p : ℕ) (s : Seg) → own steps n ≡ Some (p, s) → child p s ≡ Some n
  pub there : (p : ℕ) (s : Seg) (n : ℕ) → child p s ≡ Some n → own steps n ≡ Some (p, s)
  pub before : (n p : ℕ) (s : Seg) → own steps n ≡ Some (p, s) → p < n

-- ---- what the paths show

-- the number of a path
abbrev pub number_of : List Seg → List (List Seg) → Option ℕ
number_of path [] = None
number_of path (p ∷ ps) = if path_eq p path then Some 0 else option_map (λ n. n + 1) (number_of path ps)

-- no path has two numbers
abbrev pub Distinct : List (List Seg) → Type 0
Distinct ps = (n : ℕ) → n < length ps → number_of (get_or ps n []) ps ≡ Some n

-- each path keeps its number, and others may follow
pub record Kept (ps qs : List (List Seg)) : Type 0 where
  pub more : List (List Seg)
  pub is : qs ≡ ps ++ more

-- the numbers of other paths, in their order
pub record Leads (ps others : List (List Seg)) (nodes : List ℕ) : Type 0 where
  pub distinct : Distinct others
  pub many : length nodes ≡ length others
  pub each : (n : ℕ) → n < length others → number_of (get_or others n []) ps ≡ Some (get_or nodes n 0)
