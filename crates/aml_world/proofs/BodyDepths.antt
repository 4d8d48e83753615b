-- The deepest place of a scope below which a name stands in the body of a control method, or an External names it.
use Rattle.std.specs.Prelude.{◌≡◌, ◌-◌, ◌+◌, ◌≤◌, ℕ, zero, suc, List, ◌++◌, length, take, Bool, true, ◌||◌, Option, Some, None, is_some, if◌then◌else◌}
use Rattle.std.proofs.Common.{ap, ◌∙◌, refl, arith, length-append}
use Rattle.std.proofs.lemmas.List.{length-take-le}
use Rattle.std.specs.Option.{option_map}
use Rattle.std.specs.FinMap.{get}
use Rattle.aml_path.specs.declared.segment.Seg.{Seg}
use Rattle.aml_arities.specs.declared.arities.Arity.{Arity}
use Rattle.aml_arities.specs.Arities.{latest, or_else, arity_at, greatest, is_known_below, is_told_below}
use Rattle.aml_objects.specs.declared.entry.Entry.{Entry}
use Rattle.aml_namespace.specs.Namespace.{Map}
use Rattle.aml_namespace.specs.Search.{Found, search_up}
use Rattle.aml_namespace.specs.Search.{or_else as elsewise}
use Rattle.aml_world.specs.state.Invocations.{count_through, arities_in}
use Rattle.aml_world.proofs.BodyCounts.{body_declared, body_external}

greatest_same : (f g : ℕ → Bool) → ((k : ℕ) → f k ≡ g k) → (n : ℕ) → greatest f n ≡ greatest g n
greatest_same f g same zero = rw (same 0) refl
greatest_same f g same (suc n) = rw (same (suc n), greatest_same f g same n) refl

module _ (m : Map) (scope segments : List Seg) where
  abbrev pub stands_below : ℕ → Bool
  stands_below n = is_some (get m (take n scope ++ segments))

  deep : (n : ℕ) → n ≤ length scope → length (take n scope ++ segments) - length segments ≡ n
  deep n le =
      let path : length (take n scope ++ segments) ≡ length (take n scope) + length segments = length-append (take n scope) segments in
      let long : length (take n scope) ≡ n = length-take-le n scope le in
      omega (arith, path, long)

  first_by : (o : Option Entry) → option_map (λ (f : Found). length f.0 - length segments) (option_map (λ e. (take 0 scope ++ segments, e)) o) ≡ (if is_some o then Some 0 else None)
  first_by None = refl
  first_by (Some e) = ap Some (deep 0 (omega arith))

  next_by : (n : ℕ) → suc n ≤ length scope → (o : Option Entry) (p : Option Found) (r : Option ℕ) → option_map (λ (f : Found). length f.0 - length segments) p ≡ r
      → option_map (λ (f : Found). length f.0 - length segments) (elsewise (option_map (λ e. (take (suc n) scope ++ segments, e)) o) p) ≡ (if is_some o then Some (suc n) else r)
  next_by n le None p r is = is
  next_by n le (Some e) p r is = ap Some (deep (suc n) le)

  -- what the definition of a search finds, by its depth
  pub search_depth : (n : ℕ) → n ≤ length scope → option_map (λ (f : Found). length f.0 - length segments) (search_up m scope segments n) ≡ greatest stands_below n
  unfolding search_up
  search_depth zero le = first_by (get m (take 0 scope ++ segments))
  search_depth (suc n) le = next_by n le (get m (take (suc n) scope ++ segments)) (search_up m scope segments n) (greatest stands_below n) (search_depth n (omega (arith, le)))

either_by : {A : Type 0} (f : A → ℕ) (a : Option A) (b : Option ℕ) → (is_some a || is_some b) ≡ is_some (or_else (option_map f a) b)
either_by f None b = refl
either_by f (Some x) b = refl

module _ (m : Map) (told : List Arity) where
  known_by : (p : List Seg) → (is_some (get m p) || is_some (latest p true told)) ≡ is_some (arity_at (arities_in m told) p)
  unfolding arity_at
  known_by p = either_by (λ (e : Entry). count_through m e.object) (get m p) (latest p true told) ∙ rw (body_declared m told p, body_external m told p) refl

  -- in a body a path is known where a name stands, or an External told of it
  pub deepest_in_body : (scope segments : List Seg) (n : ℕ) → greatest (λ k. stands_below m scope segments k || is_told_below told scope segments k) n ≡ greatest (is_known_below (arities_in m told) scope segments) n
  deepest_in_body scope segments = greatest_same (λ k. stands_below m scope segments k || is_told_below told scope segments k) (is_known_below (arities_in m told) scope segments) (λ k. known_by (take k scope ++ segments))
