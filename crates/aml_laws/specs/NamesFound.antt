-- Where a name stands that is searched for, and what an alias leads to (ACPI 6.5, 5.3 and 19.6.4).
use Rattle.std.specs.Prelude.{◌≡◌, ◌≤◌, ◌<◌, ℕ, List, ◌++◌, length, take, Option, Some, None, Ok, Err}
use Rattle.std.specs.FinMap.{get}
use Rattle.ar_space.specs.declared.refusal.Refusal.TheVariants as refusal
use Rattle.ar_space.specs.declared.refusal.NamespaceFault.TheVariants.{NotFound}
use Rattle.ar_space.specs.Outcome.{Outcome}
use Rattle.aml_path.specs.declared.segment.Seg.{Seg}
use Rattle.aml_objects.specs.declared.entry.Entry.{Entry}
use Rattle.aml_objects.specs.declared.entry.NamedObject.{NamedObject}
use Rattle.aml_objects.specs.declared.entry.NamedObject.TheVariants as named
use Rattle.aml_namespace.specs.Namespace.{Map}
use Rattle.aml_namespace.specs.Search.{Found}

-- the segments stand below the first k segments of the scope, and below no longer front of it
pub record IsNearest (names : Map) (scope segments : List Seg) (k : ℕ) (entry : Entry) : Type 0 where
  pub within : k ≤ length scope
  pub stands : get names (take k scope ++ segments) ≡ Some entry
  pub none_nearer : (j : ℕ) → k < j → j ≤ length scope → get names (take j scope ++ segments) ≡ None

-- the segments stand below no front of the scope
abbrev pub StandsNowhere : Map → List Seg → List Seg → Type 0
StandsNowhere names scope segments = (j : ℕ) → j ≤ length scope → get names (take j scope ++ segments) ≡ None

-- the path of an alias, which nothing else has
abbrev pub alias_path : NamedObject → Option (List Seg)
alias_path (named.Alias at) = Some at
alias_path _ = None

-- what stands at a path is found there, or where it is an alias at the alias's own path, in one step: an alias of an alias, and one of
-- nothing, lead nowhere
pub data LeadsTo (names : Map) (path : List Seg) (entry : Entry) : Outcome Found → Type 0 where
  itself : alias_path entry.object ≡ None → LeadsTo names path entry (Ok (path, entry))
  target : (at : List Seg) (other : Entry) → alias_path entry.object ≡ Some at → get names at ≡ Some other → alias_path other.object ≡ None → LeadsTo names path entry (Ok (at, other))
  nothing : (at : List Seg) → alias_path entry.object ≡ Some at → get names at ≡ None → LeadsTo names path entry (Err (refusal.Namespace NotFound))
  chain : (at next : List Seg) (other : Entry) → alias_path entry.object ≡ Some at → get names at ≡ Some other → alias_path other.object ≡ Some next → LeadsTo names path entry (Err (refusal.Namespace NotFound))
