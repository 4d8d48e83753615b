-- The latest argument counts of paths, by the numbers of the paths.
use Rattle.std.specs.Prelude.{◌≡◌, ◌<◌, ℕ, List, [], ◌∷◌, ◌++◌, length, map, take, get_or, set, Bool, true, false, Option, Some, None, is_some, ◌&&◌, ◌||◌, refl}
use Rattle.std.specs.Coded.{Coded, code_by, coded×, coded_list, coded_option, coded_ℕ}
use Rattle.aml_path.specs.contracts.segment.Seg as seg
use Rattle.aml_path.specs.declared.segment.Seg.{Seg}
use Rattle.aml_arities.specs.declared.counts.Counts.{Counts}
use Rattle.aml_arities.specs.declared.arities.Arity.{Arity}
use Rattle.aml_arities.specs.declared.arities.Entry.{Entry}
use Rattle.aml_arities.specs.Arities.{latest, or_else}
use Rattle.aml_arities.specs.PathTree.{number_of}

-- the paths, and the counts of those that have some, both by number
pub record Counted : Type 0 where
  pub paths : List (List Seg)
  pub counts : List Counts

abbrev pub coded_counts : Coded Counts
coded_counts = code_by (Option ℕ × Option ℕ) (coded× (coded_option coded_ℕ) (coded_option coded_ℕ)) (λ c. (c.declared, c.external)) (λ p. record { declared = p.0; external = p.1 }) (λ _. refl)

abbrev pub counted_code : Coded Counted
counted_code = code_by (List (List Seg) × List Counts) (coded× (coded_list (coded_list seg.the_row.coded)) (coded_list coded_counts)) (λ t. (t.paths, t.counts)) (λ p. record { paths = p.0; counts = p.1 }) (λ _. refl)

abbrev pub no_counts : Counts
no_counts = record { declared = None; external = None }

-- the count of one sort
abbrev pub count_of : Counts → Bool → Option ℕ
count_of c true = c.external
count_of c false = c.declared

-- another count of one sort
abbrev pub with_count : Counts → ℕ → Bool → Counts
with_count c n true = record c { external = Some n }
with_count c n false = record c { declared = Some n }

-- the later count of each sort
abbrev pub over : Counts → Counts → Counts
over later earlier = record { declared = or_else later.declared earlier.declared; external = or_else later.external earlier.external }

-- the counts under a number
abbrev pub counts_at : List Counts → ℕ → Counts
counts_at cs n = get_or cs n no_counts

abbrev pub count_at : List Counts → Bool → Option ℕ → Option ℕ
count_at cs external None = None
count_at cs external (Some n) = count_of (counts_at cs n) external

-- the count of a path, among those of one sort
abbrev pub shown : Counted → List Seg → Bool → Option ℕ
shown t path external = count_at t.counts external (number_of path t.paths)

-- whether there is a count: one that an External tells, or any
abbrev pub is_counted : Bool → Counts → Bool
is_counted any c = is_some c.external || (any && is_some c.declared)

-- the same of a path
abbrev pub is_shown : Bool → Counted → List Seg → Bool
is_shown any t path = is_some (shown t path true) || (any && is_some (shown t path false))

-- whether some segments below the first n segments of a scope have one
abbrev pub is_shown_below : Bool → Counted → List Seg → List Seg → ℕ → Bool
is_shown_below any t scope segments n = is_shown any t (take n scope ++ segments)

-- one count more of the path with a number
abbrev pub with_added : Counted → ℕ → ℕ → Bool → Counted
with_added t node n external = record t { counts = set t.counts node (with_count (counts_at t.counts node) n external) }

abbrev pub SameCounts : Counted → Counted → Type 0
SameCounts t u = (path : List Seg) (external : Bool) → shown u path external ≡ shown t path external

-- earlier counts, and over them later ones
abbrev pub BothCounts : Counted → Counted → Counted → Type 0
BothCounts earlier later both = (path : List Seg) (external : Bool) → shown both path external ≡ or_else (shown later path external) (shown earlier path external)

-- ---- entries, each with the number of its path

abbrev pub arity_of_entry : List (List Seg) → Entry → Arity
arity_of_entry ps e = record { path = get_or ps e.node []; count = e.count; external = e.external }

abbrev pub arities_of : List (List Seg) → List Entry → List Arity
arities_of ps entries = map (arity_of_entry ps) entries

-- each entry's number is one of so many
abbrev pub Placed : ℕ → List Entry → Type 0
Placed n [] = Unit {0}
Placed n (e ∷ es) = (e.node < n) × Placed n es

-- the entry at the node to which its own leads
abbrev pub moved_by : List ℕ → Entry → Entry
moved_by nodes e = record e { node = get_or nodes e.node 0 }

-- each entry has a path, and the count of a path is that of its last entry of the sort
pub record Holds (t : Counted) (entries : List Entry) : Type 0 where
  pub placed : Placed (length t.paths) entries
  pub latest : (path : List Seg) (external : Bool) → shown t path external ≡ latest path external (arities_of t.paths entries)
