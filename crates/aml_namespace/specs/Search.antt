-- What a name finds from a scope (ACPI 6.5, 5.3).
use Rattle.std.specs.Prelude.{◌≡◌, ◌≤◌, ◌-◌, ℕ, zero, suc, List, [], ◌∷◌, ◌++◌, length, take, Option, Some, None, Ok, Err, if◌then◌else◌}
use Rattle.std.specs.Option.{option_map}
use Rattle.std.specs.FinMap.{get}
use Rattle.ar_space.specs.declared.refusal.Refusal.TheVariants as refusal
use Rattle.ar_space.specs.declared.refusal.NamespaceFault.TheVariants.{NotFound}
use Rattle.ar_space.specs.Outcome.{Outcome, ◌>>=◌}
use Rattle.aml_path.specs.declared.segment.Seg.{Seg}
use Rattle.aml_path.specs.Paths.{Name, resolved, is_searched}
use Rattle.aml_objects.specs.declared.entry.Entry.{Entry}
use Rattle.aml_objects.specs.declared.entry.NamedObject.{NamedObject}
use Rattle.aml_objects.specs.declared.entry.NamedObject.TheVariants as object
use Rattle.aml_namespace.specs.Namespace.{Map, numbered}

-- a path, and what stands there
abbrev pub Found : Type 0
Found = List Seg × Entry

abbrev pub at_path : Map → List Seg → Option Found
at_path m p = option_map (λ e. (p, e)) (get m p)

-- the first of two, if there is one
abbrev pub or_else : {A : Type 0} → Option A → Option A → Option A
or_else None o = o
or_else (Some x) o = Some x

-- what stands at some segments below a prefix of the scope: the longest of those of at most n segments counts
unfoldable pub search_up : Map → List Seg → List Seg → ℕ → Option Found
search_up m scope segments zero = at_path m (take 0 scope ++ segments)
search_up m scope segments (suc n) = or_else (at_path m (take (suc n) scope ++ segments)) (search_up m scope segments n)

abbrev pub found_or_not : {A : Type 0} → Option A → Outcome A
found_or_not None = Err (refusal.Namespace NotFound)
found_or_not (Some f) = Ok f

-- a searched name finds the entry in the scope or the nearest above it, any other the entry at its one path
unfoldable pub first_found : Map → List Seg → Name → Outcome Found
first_found m scope n = if is_searched n then found_or_not (search_up m scope n.segments (length scope)) else (resolved n scope >>= (λ p. found_or_not (at_path m p)))

-- the target of an alias is what stands at its path, and no alias
abbrev pub no_alias : Found → NamedObject → Outcome Found
no_alias f (object.Alias t) = Err (refusal.Namespace NotFound)
no_alias f object.Scope = Ok f
no_alias f object.Device = Ok f
no_alias f object.Processor = Ok f
no_alias f object.PowerResource = Ok f
no_alias f object.ThermalZone = Ok f
no_alias f (object.Method x) = Ok f
no_alias f (object.Data v) = Ok f
no_alias f (object.OperationRegion r) = Ok f
no_alias f (object.FieldUnit u) = Ok f
no_alias f (object.BufferField b) = Ok f
no_alias f (object.Mutex n) = Ok f
no_alias f (object.Event n) = Ok f

abbrev pub target_of : Option Found → Outcome Found
target_of None = Err (refusal.Namespace NotFound)
target_of (Some f) = no_alias f f.1.object

abbrev pub by_object : Map → Found → NamedObject → Outcome Found
by_object m f (object.Alias t) = target_of (at_path m t)
by_object m f object.Scope = Ok f
by_object m f object.Device = Ok f
by_object m f object.Processor = Ok f
by_object m f object.PowerResource = Ok f
by_object m f object.ThermalZone = Ok f
by_object m f (object.Method x) = Ok f
by_object m f (object.Data v) = Ok f
by_object m f (object.OperationRegion r) = Ok f
by_object m f (object.FieldUnit u) = Ok f
by_object m f (object.BufferField b) = Ok f
by_object m f (object.Mutex n) = Ok f
by_object m f (object.Event n) = Ok f

-- an alias leads to its target, in one step; anything else stands for itself
unfoldable pub through : Map → Found → Outcome Found
through m f = by_object m f f.1.object

-- what a name finds from a scope, and where
unfoldable pub found : Map → List Seg → Name → Outcome Found
found m scope n = do
  f ← first_found m scope n
  through m f

-- the same from a scope that is given by the number of its declaration; nothing is found from one that doesn't stand
abbrev pub found_in : Map → Option Found → Name → Outcome Found
found_in m None n = Err (refusal.Namespace NotFound)
found_in m (Some f) n = found m f.0 n

abbrev pub found_from : Map → ℕ → Name → Outcome Found
found_from m number n = found_in m (numbered number m) n

-- ---- ways through the tree, by the numbers of declarations

-- the path that an alias leads to
abbrev pub aliased : NamedObject → Option (List Seg)
aliased (object.Alias t) = Some t
aliased o = None

-- the declaration with this number stands one level above a path, which ends with this segment
pub record IsParent (m : Map) (path : List Seg) (number : ℕ) (segment : Seg) : Type 0 where
  pub above : Found
  pub stands : numbered number m ≡ Some above
  pub ends : path ≡ above.0 ++ segment ∷ []

-- so many levels above
pub record IsAncestor (m : Map) (path : List Seg) (number : ℕ) (count : ℕ) : Type 0 where
  pub above : Found
  pub stands : numbered number m ≡ Some above
  pub within : count ≤ length path
  pub is : above.0 ≡ take (length path - count) path

-- some segments below the declaration with this number make the path that a name stands for
pub record IsFront (m : Map) (number : ℕ) (segments : List Seg) (path : Outcome (List Seg)) : Type 0 where
  pub front : Found
  pub stands : numbered number m ≡ Some front
  pub makes : path ≡ Ok (front.0 ++ segments)
