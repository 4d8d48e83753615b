-- The path for which a name stands, by how it is written.
use Rattle.std.specs.Prelude.{◌≡◌, ◌<◌, ◌≤◌, ◌-◌, ◌+◌, ◌==◌, ℕ, List, [], ◌∷◌, ◌++◌, length, take, true, false, Some, None, Ok, Err, nat_lt, refl}
use Rattle.std.specs.FinMap.{get}
use Rattle.std.proofs.Common.{arith, ap, sym, subst, length-append, ◌∙◌}
use Rattle.std.proofs.Math.Seq.{take-append_seam, take-length}
use Rattle.std.proofs.lemmas.Bool.Decides.{nat_tests}
use Rattle.ar_space.specs.declared.refusal.Refusal.TheVariants as refusal
use Rattle.ar_space.specs.declared.refusal.NameFault.TheVariants.{BadName, AboveRoot}
use Rattle.ar_space.specs.declared.refusal.NamespaceFault.TheVariants.{NotFound}
use Rattle.ar_space.specs.Outcome.{Outcome}
use Rattle.aml_path.specs.declared.segment.Seg.{Seg}
use Rattle.aml_path.specs.Paths.{Name, resolved, is_searched}
use Rattle.aml_objects.specs.declared.entry.Entry.{Entry}
use Rattle.aml_namespace.specs.Namespace.{Map}
use Rattle.aml_namespace.specs.Search.{Found, found}
use Rattle.aml_laws.specs.NamesFound.{IsNearest, StandsNowhere, LeadsTo}
use Rattle.aml_laws.specs.NamesWritten.{from_parents, single, StandsFor, below_root, below_parent, below_scope}
use Rattle.aml_laws.proofs.NamesSearched.{nearest_found, nowhere_found, one_path_found, one_path_empty, no_path}

-- ---- the path of a name

outer_left : (outer inner : List Seg) → take (length (outer ++ inner) - length inner) (outer ++ inner) ≡ outer
outer_left outer inner =
    let long : length (outer ++ inner) ≡ length outer + length inner = length-append outer inner in
    let same : length (outer ++ inner) - length inner ≡ length outer = omega (arith, long) in
    ap (λ n. take n (outer ++ inner)) same ∙ take-append_seam outer inner

all_of : (scope : List Seg) → take (length scope - 0) scope ≡ scope
all_of scope = let whole : length scope - 0 ≡ length scope = omega arith in ap (λ n. take n scope) whole ∙ take-length scope

pub record IsAt (scope : List Seg) (n : Name) (path : List Seg) : Type 0 where
  pub one : is_searched n ≡ false
  pub leads : resolved n scope ≡ Ok path

-- a count that isn't 0 is a prefix, and two segments are no single one
not_none : (n : ℕ) → 0 < n → (n == 0) ≡ false
not_none n some = grind (arith, nat_tests)

not_one : (n : ℕ) → 1 < n → (n == 1) ≡ false
not_one n more = grind (arith, nat_tests)

within_scope : (n count : ℕ) → count ≤ n → nat_lt n count ≡ false
within_scope n count few = grind (arith, nat_tests)

beyond_scope : (n count : ℕ) → n < count → nat_lt n count ≡ true
beyond_scope n count more = grind (arith, nat_tests)

some_parents : (count : ℕ) (segments scope : List Seg) → 0 < count → count ≤ length scope → IsAt scope (from_parents count segments) (take (length scope - count) scope ++ segments)
unfolding resolved
some_parents count segments scope some few = record { one = rw (not_none count some) refl; leads = rw (not_none count some, within_scope (length scope) count few) refl }

no_parents : (segments scope : List Seg) → 1 < length segments → IsAt scope (from_parents 0 segments) (scope ++ segments)
unfolding resolved
no_parents segments scope more = record { one = rw (not_one (length segments) more) refl; leads = rw (not_none (length segments) (omega (arith, more)), within_scope (length scope) 0 (omega arith), all_of scope) refl }

pub stands_at : (scope : List Seg) (n : Name) (path : List Seg) → StandsFor scope n path → IsAt scope n path
unfolding resolved
stands_at scope _ _ (below_root segments) = record { one = refl; leads = refl }
stands_at scope _ _ (below_parent outer inner segments is some) =
    subst (λ (s : List Seg). IsAt s (from_parents (length inner) segments) (outer ++ segments)) (sym is)
    (subst (λ (p : List Seg). IsAt (outer ++ inner) (from_parents (length inner) segments) (p ++ segments)) (outer_left outer inner)
    (some_parents (length inner) segments (outer ++ inner) some (let long : length (outer ++ inner) ≡ length outer + length inner = length-append outer inner in omega (arith, long))))
stands_at scope _ _ (below_scope segments more) = no_parents segments scope more

pub path_at : (scope : List Seg) (n : Name) (path : List Seg) → StandsFor scope n path → resolved n scope ≡ Ok path
path_at scope n path h = (stands_at scope n path h).leads

pub single_at : (scope : List Seg) (s : Seg) → resolved (single s) scope ≡ Ok (scope ++ s ∷ [])
unfolding resolved
single_at scope s = rw (within_scope (length scope) 0 (omega arith), all_of scope) refl

pub above_root : (scope segments : List Seg) (count : ℕ) → length scope < count → resolved (from_parents count segments) scope ≡ Err (refusal.Name AboveRoot)
unfolding resolved
above_root scope segments count more = rw (not_none count (omega (arith, more)), beyond_scope (length scope) count more) refl

pub null_name : (scope : List Seg) → resolved (from_parents 0 []) scope ≡ Err (refusal.Name BadName)
unfolding resolved
null_name scope = refl

pub ruleset a_name_is_declared_at_one_path = (path_at, single_at, above_root, null_name)

-- ---- what it finds

module _ (m : Map) (scope : List Seg) where
  pub single_finds_the_nearest : (s : Seg) (k : ℕ) (entry : Entry) (r : Outcome Found) → IsNearest m scope (s ∷ []) k entry → LeadsTo m (take k scope ++ s ∷ []) entry r → found m scope (single s) ≡ r
  single_finds_the_nearest s k entry r near h = nearest_found m scope (single s) k entry r refl near h

  pub single_finds_nothing : (s : Seg) → StandsNowhere m scope (s ∷ []) → found m scope (single s) ≡ Err (refusal.Namespace NotFound)
  single_finds_nothing s none = nowhere_found m scope (single s) refl none

  pub path_found : (n : Name) (path : List Seg) (entry : Entry) (r : Outcome Found) → StandsFor scope n path → get m path ≡ Some entry → LeadsTo m path entry r → found m scope n ≡ r
  path_found n path entry r h is leads = let at = stands_at scope n path h in one_path_found m scope n path entry r at.one at.leads is leads

  pub path_empty : (n : Name) (path : List Seg) → StandsFor scope n path → get m path ≡ None → found m scope n ≡ Err (refusal.Namespace NotFound)
  path_empty n path h none = let at = stands_at scope n path h in one_path_empty m scope n path at.one at.leads none

  above_by : (count : ℕ) (segments : List Seg) → length scope < count → is_searched (from_parents count segments) ≡ false
  above_by count segments more = rw (not_none count (omega (arith, more))) refl

  pub nothing_above_the_root : (segments : List Seg) (count : ℕ) → length scope < count → found m scope (from_parents count segments) ≡ Err (refusal.Name AboveRoot)
  nothing_above_the_root segments count more = no_path m scope (from_parents count segments) (refusal.Name AboveRoot) (above_by count segments more) (above_root scope segments count more)

  pub nothing_without_a_name : found m scope (from_parents 0 []) ≡ Err (refusal.Name BadName)
  nothing_without_a_name = no_path m scope (from_parents 0 []) (refusal.Name BadName) refl (null_name scope)

pub ruleset a_single_segment = (single_finds_the_nearest, single_finds_nothing)

pub ruleset a_path = (path_found, path_empty, nothing_above_the_root, nothing_without_a_name)
