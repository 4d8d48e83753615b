-- Searches and changes of the namespace answer with no fault of the register space.
use Rattle.std.specs.FinMap.{contains_key, get}
use Rattle.std.specs.Prelude.{List, None, Option, Some, length, ◌-◌, ◌==◌, ◌^◌}
use Rattle.aml_path.specs.Paths.{Name, is_searched}
use Rattle.aml_path.specs.declared.segment.Seg.{Seg}
use Rattle.aml_objects.specs.declared.entry.Entry.{Entry}
use Rattle.aml_objects.specs.declared.entry.NamedObject.TheVariants as object
use Rattle.aml_objects.specs.declared.entry.NamedObject.{NamedObject}
use Rattle.aml_namespace.specs.Namespace.{Map, Namespace, above, declared, replaced, replaced_in}
use Rattle.aml_namespace.specs.Search.{Found, at_path, by_object, first_found, found, found_or_not, no_alias, search_up, target_of, through}
use Rattle.aml_laws.proofs.CleanChanges.{AllClean, branch_clean, direct_clean}
use Rattle.aml_laws.proofs.CleanOutcomes.{Clean, followed_clean, if_clean}
use Rattle.aml_laws.proofs.CleanValues.{resolved_clean}

-- ---- searches

pub found_or_not_clean : {A : Type 0} (o : Option A) → Clean (found_or_not o)
found_or_not_clean None = tt
found_or_not_clean (Some f) = tt

pub first_found_clean : (m : Map) (scope : List Seg) (n : Name) → Clean (first_found m scope n)
unfolding first_found
first_found_clean m scope n = if_clean (is_searched n) _ _ (found_or_not_clean (search_up m scope n.segments (length scope))) (followed_clean _ _ (resolved_clean n scope) (λ p. found_or_not_clean (at_path m p)))

pub no_alias_clean : (f : Found) (ob : NamedObject) → Clean (no_alias f ob)
no_alias_clean f (object.Alias t) = tt
no_alias_clean f _ = tt

pub target_of_clean : (o : Option Found) → Clean (target_of o)
target_of_clean None = tt
target_of_clean (Some f) = no_alias_clean f f.1.object

pub by_object_clean : (m : Map) (f : Found) (ob : NamedObject) → Clean (by_object m f ob)
by_object_clean m f (object.Alias t) = target_of_clean (at_path m t)
by_object_clean m f _ = tt

pub through_clean : (m : Map) (f : Found) → Clean (through m f)
unfolding through
through_clean m f = by_object_clean m f f.1.object

pub found_clean : (m : Map) (scope : List Seg) (n : Name) → Clean (found m scope n)
unfolding found
found_clean m scope n = followed_clean _ _ (first_found_clean m scope n) (λ f. through_clean m f)

-- ---- changes of the namespace

pub declared_clean : (p : List Seg) (o : NamedObject) → AllClean (declared p o)
unfolding declared
declared_clean p o = direct_clean _ (λ s. branch_clean (contains_key s.map (above p)) _ _ (branch_clean (contains_key s.map p) _ _ tt (branch_clean (s.next == 2 ^ 64 - 1) _ _ tt tt)) tt)

replaced_in_clean : (p : List Seg) (o : NamedObject) (s : Namespace) (e : Option Entry) → Clean (replaced_in p o s e).0
replaced_in_clean p o s None = tt
replaced_in_clean p o s (Some e) = tt

pub replaced_clean : (p : List Seg) (o : NamedObject) → AllClean (replaced p o)
unfolding replaced
replaced_clean p o = direct_clean _ (λ s. replaced_in_clean p o s (get s.map p))
