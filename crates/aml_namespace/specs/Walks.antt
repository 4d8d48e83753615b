-- The names below a path, and all names, in order.
use Rattle.std.specs.Prelude.{◌≡◌, ◌+◌, ◌==◌, ◌&&◌, nat_lt, false, Bool, ⊤, List, [], ◌∷◌, length, Option, Some, None, slice_get, if◌then◌else◌}
use Rattle.std.specs.List.{filter_map, AllByRecursion}
use Rattle.std.specs.declared.cmp.Ordering.{Ordering}
use Rattle.std.specs.declared.cmp.Ordering.TheVariants.{Less}
use Rattle.std.specs.FinMap.{keys}
use Rattle.aml_path.specs.declared.segment.Seg.{Seg}
use Rattle.aml_path.specs.Paths.{path_eq, is_below}
use Rattle.aml_namespace.specs.Namespace.{Map}

-- the last segment of a path that is one level below another
abbrev pub child_of : List Seg → List Seg → Option Seg
child_of p q = if length q == length p + 1 && is_below p q then slice_get q (length p) else None

-- the segments of the names one level below a path, ascending
unfoldable pub children : List Seg → Map → List Seg
children p m = filter_map (child_of p) (keys m)

-- a path that isn't the root
abbrev pub named : List Seg → Option (List Seg)
named p = if nat_lt 0 (length p) then Some p else None

-- the paths of all names but the root, in path order
unfoldable pub walked : Map → List (List Seg)
walked m = filter_map named (keys m)

-- whether this is the path that is given, and not the root's
abbrev pub is_named : List Seg → Option (List Seg) → Bool
is_named q None = false
is_named q (Some p) = nat_lt 0 (length p) && path_eq q p

-- each element comes before all that follow it
abbrev pub Ascending : {A : Type 0} → (A → A → Ordering) → List A → Type 0
Ascending R [] = ⊤
Ascending R (x ∷ xs) = AllByRecursion (λ y. R x y ≡ Less) xs × Ascending R xs
