-- How many arguments a path takes, and where a name is found among the paths that are known.
use Rattle.std.specs.Prelude.{ℕ, zero, suc, List, [], ◌∷◌, ◌++◌, length, take, Bool, true, false, not, Option, Some, None, option_map, is_some, ◌&&◌, if◌then◌else◌}
use Rattle.aml_path.specs.declared.segment.Seg.{Seg}
use Rattle.aml_path.specs.Paths.{Name, path_eq, is_searched}
use Rattle.aml_arities.specs.declared.arities.Arity.{Arity}

-- whether an entry is of this path and sort: declared, or named by an External
abbrev pub is_of : List Seg → Bool → Arity → Bool
is_of path true a = a.external && path_eq a.path path
is_of path false a = not a.external && path_eq a.path path

abbrev pub or_else : {A : Type 0} → Option A → Option A → Option A
or_else None o = o
or_else (Some x) o = Some x

-- the count of the last entry of a path and sort
abbrev pub latest : List Seg → Bool → List Arity → Option ℕ
latest path external [] = None
latest path external (a ∷ arities) = or_else (latest path external arities) (if is_of path external a then Some a.count else None)

-- a declared name counts before an External, and of two of the same sort the later
unfoldable pub arity_at : List Arity → List Seg → Option ℕ
arity_at arities path = or_else (latest path false arities) (latest path true arities)

-- the path, where it is known
abbrev pub known : List Arity → List Seg → Option (List Seg)
known arities path = option_map (λ n. path) (arity_at arities path)

-- where a single segment is found: below the first n segments of the scope, or else below fewer
unfoldable pub search_up : List Arity → List Seg → List Seg → ℕ → Option (List Seg)
search_up arities scope segments zero = known arities (take 0 scope ++ segments)
search_up arities scope segments (suc n) = or_else (known arities (take (suc n) scope ++ segments)) (search_up arities scope segments n)

-- the greatest number up to n of which something holds
abbrev pub greatest : (ℕ → Bool) → ℕ → Option ℕ
greatest holds zero = if holds zero then Some zero else None
greatest holds (suc n) = if holds (suc n) then Some (suc n) else greatest holds n

-- whether some segments below the first n segments of a scope are a path that is known, and whether an External names it
abbrev pub is_known_below : List Arity → List Seg → List Seg → ℕ → Bool
is_known_below arities scope segments n = is_some (arity_at arities (take n scope ++ segments))

abbrev pub is_told_below : List Arity → List Seg → List Seg → ℕ → Bool
is_told_below arities scope segments n = is_some (latest (take n scope ++ segments) true arities)

-- the path where a name is found that stands, without a search, for a path
unfoldable pub found : List Arity → List Seg → Name → List Seg → Option (List Seg)
found arities scope n path = if is_searched n then search_up arities scope n.segments (length scope) else known arities path

-- that path, or else the one that it stands for
abbrev pub or_path : List Seg → Option (List Seg) → List Seg
or_path path None = path
or_path path (Some p) = p

abbrev pub or_none : Option ℕ → ℕ
or_none None = 0
or_none (Some n) = n

abbrev pub arity_where : List Arity → Option (List Seg) → ℕ
arity_where arities None = 0
arity_where arities (Some p) = or_none (arity_at arities p)

-- how many arguments a name takes: none where it isn't found
unfoldable pub arity_of : List Arity → List Seg → Name → List Seg → ℕ
arity_of arities scope n path = arity_where arities (found arities scope n path)
