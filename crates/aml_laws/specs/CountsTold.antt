-- How many arguments paths take while bytes are read, as declared names and Externals tell it (ACPI 6.5, 19.6: External, Method).
use Rattle.std.specs.Prelude.{◌≡◌, ◌≤◌, ◌<◌, ℕ, List, ◌++◌, length, take, true, false, slice_get, Some, None}
use Rattle.aml_path.specs.declared.segment.Seg.{Seg}
use Rattle.aml_arities.specs.Arities.{arity_at}
use Rattle.aml_arities.specs.declared.arities.Arity.{Arity}

-- what a declared name tells of its path, and what an External does
abbrev pub declared_with : List Seg → ℕ → Arity
declared_with path count = record { path = path; count = count; external = false }

abbrev pub named_with : List Seg → ℕ → Arity
named_with path count = record { path = path; count = count; external = true }

-- none of these is told of a path by a declared name, or by an External
abbrev pub NoneDeclared : List Seg → List Arity → Type 0
NoneDeclared path told = (i : ℕ) (a : Arity) → slice_get told i ≡ Some a → a.path ≡ path → a.external ≡ false → ⊥

abbrev pub NoneNamed : List Seg → List Arity → Type 0
NoneNamed path told = (i : ℕ) (a : Arity) → slice_get told i ≡ Some a → a.path ≡ path → a.external ≡ true → ⊥

-- segments have a count below the first k segments of a scope, and below no longer front of it
pub record IsNearestCount (told : List Arity) (scope segments : List Seg) (k count : ℕ) : Type 0 where
  pub within : k ≤ length scope
  pub has : arity_at told (take k scope ++ segments) ≡ Some count
  pub none_nearer : (j : ℕ) → k < j → j ≤ length scope → arity_at told (take j scope ++ segments) ≡ None

-- segments have a count below no front of a scope
abbrev pub HasNoCount : List Arity → List Seg → List Seg → Type 0
HasNoCount told scope segments = (j : ℕ) → j ≤ length scope → arity_at told (take j scope ++ segments) ≡ None
