-- The last count of a path in the body of a control method: of what stands there, or of an External.
use Rattle.std.specs.Prelude.{◌≡◌, ℕ, List, [], ◌∷◌, map, Bool, true, false, ◌&&◌, T, Option, Some, None, cond, if◌then◌else◌}
use Rattle.std.proofs.Common.{ap, sym, ◌∙◌, refl, subst, rules}
use Rattle.std.specs.declared.cmp.Ordering.{Ordering}
use Rattle.std.specs.declared.cmp.Ordering.TheVariants.{Less, Equal, Greater}
use Rattle.std.specs.List.{filter}
use Rattle.std.specs.Ordering.{is_lt}
use Rattle.std.specs.Option.{option_map}
use Rattle.std.specs.Cmp.{IsTotalOrder, eq_by_cmp_equiv}
use Rattle.std.specs.Cmp.Rules.{comparing}
use Rattle.std.specs.FinMap.{get, entries, entries_sorted, get-entries, find, is_sorted, IsAntisymmetric, slice_cmp-IsAntisymmetric}
use Rattle.std.specs.FinMap.Entries.{below_all}
use Rattle.aml_path.specs.declared.segment.Seg.{Seg}
use Rattle.aml_path.proofs.Segments.{seg_cmp_exact}
use Rattle.aml_path.specs.Paths.{path_cmp, path_eq}
use Rattle.aml_arities.specs.declared.arities.Arity.{Arity}
use Rattle.aml_arities.specs.Arities.{latest, or_else}
use Rattle.aml_arities.proofs.Counted.{latest_append}
use Rattle.aml_objects.specs.declared.entry.Entry.{Entry}
use Rattle.aml_namespace.specs.Namespace.{Map}
use Rattle.aml_world.specs.state.Invocations.{count_through, arity_of_entry, arities_in}

pub path_total : IsTotalOrder path_cmp
path_total = search (comparing, rules) depth 9

-- only equal paths tie
pub only_equal : IsAntisymmetric path_cmp
only_equal = slice_cmp-IsAntisymmetric seg_cmp_exact

first : (a b : Bool) → T (a && b) → T a
first true b p = tt
first false b p = absurd p

second : (a b : Bool) → T (a && b) → T b
second true b p = p
second false b p = absurd p

less : (o : Ordering) → T (is_lt o) → o ≡ Less
less Less p = refl
less Equal p = absurd p
less Greater p = absurd p

-- a path before all entries stands at none of them
below_none : (k : List Seg) (es : List (List Seg × Entry)) → T (below_all path_cmp k es) → find path_cmp k es ≡ None
below_none k [] h = refl
below_none k (e ∷ es) h = rw (less (path_cmp k e.0) (first _ _ h)) (below_none k es (second _ _ h))

or_none : {A : Type 0} (o : Option A) → or_else o None ≡ o
or_none None = refl
or_none (Some x) = refl

standing_by : (b : Bool) (f : Entry → ℕ) (e : Entry) (rest : Option ℕ) (o : Option Entry) → rest ≡ option_map f o → (b ≡ true → o ≡ None)
    → or_else rest (if b then Some (f e) else None) ≡ option_map f (cond b (Some e) o)
standing_by true f e rest o is none = rw (is, none refl) refl
standing_by false f e rest o is none = or_none rest ∙ is

-- in path order each path stands once
standing : (m : Map) (p : List Seg) (es : List (List Seg × Entry)) → T (is_sorted path_cmp es) → latest p false (map (arity_of_entry m) es) ≡ option_map (λ e. count_through m e.object) (find path_cmp p es)
standing m p [] h = refl
standing m p (e ∷ es) h =
    standing_by (path_eq e.0 p) (λ x. count_through m x.object) e.1 _ (find path_cmp p es) (standing m p es (second _ _ h))
    (λ t. subst (λ k. find path_cmp k es ≡ None) (only_equal e.0 p (search (rules, t))) (below_none e.0 es (first _ _ h)))
    ∙ ap (λ b. option_map (λ (x : Entry). count_through m x.object) (cond b (Some e.1) (find path_cmp p es))) ((eq_by_cmp_equiv path_total).symm e.0 p)

none_external : (m : Map) (p : List Seg) (es : List (List Seg × Entry)) → latest p true (map (arity_of_entry m) es) ≡ None
none_external m p [] = refl
none_external m p (e ∷ es) = rw (none_external m p es) refl

none_by : (b : Bool) (p : List Seg) (a : Arity) (arities : List Arity) → a.external ≡ b → latest p false (filter (λ x. x.external) arities) ≡ None → latest p false (cond b (a ∷ filter (λ x. x.external) arities) (filter (λ x. x.external) arities)) ≡ None
none_by true p a arities is h = rw (h, is) refl
none_by false p a arities is h = h

none_declared : (p : List Seg) (arities : List Arity) → latest p false (filter (λ x. x.external) arities) ≡ None
none_declared p [] = refl
none_declared p (a ∷ arities) = none_by a.external p a arities refl (none_declared p arities)

external_by : (b : Bool) (p : List Seg) (a : Arity) (arities : List Arity) → a.external ≡ b → latest p true (filter (λ x. x.external) arities) ≡ latest p true arities
    → latest p true (cond b (a ∷ filter (λ x. x.external) arities) (filter (λ x. x.external) arities)) ≡ latest p true (a ∷ arities)
external_by true p a arities is h = rw h refl
external_by false p a arities is h = rw (h, is) (sym (or_none (latest p true arities)))

externals : (p : List Seg) (arities : List Arity) → latest p true (filter (λ x. x.external) arities) ≡ latest p true arities
externals p [] = refl
externals p (a ∷ arities) = external_by a.external p a arities refl (externals p arities)

module _ (m : Map) (told : List Arity) where
  -- what is declared is what stands
  pub body_declared : (p : List Seg) → latest p false (arities_in m told) ≡ option_map (λ e. count_through m e.object) (get m p)
  body_declared p =
      latest_append p false (map (arity_of_entry m) (entries m)) _
      ∙ ap (λ o. or_else o (latest p false (map (arity_of_entry m) (entries m)))) (none_declared p told)
      ∙ standing m p (entries m) (entries_sorted m)
      ∙ ap (option_map (λ (e : Entry). count_through m e.object)) (sym (get-entries m p))

  -- an External is one that a table has told of
  pub body_external : (p : List Seg) → latest p true (arities_in m told) ≡ latest p true told
  body_external p =
      latest_append p true (map (arity_of_entry m) (entries m)) _
      ∙ ap (or_else (latest p true (filter (λ a. a.external) told))) (none_external m p (entries m))
      ∙ or_none _ ∙ externals p told

pub ruleset counting = (body_declared, body_external)
