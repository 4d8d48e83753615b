-- Which names are gone over.
use Rattle.std.specs.FinMap.{get, keys, contains_key-keys}
use Rattle.std.specs.Prelude.{◌≡◌, ◌≢◌, ◌↔◌, ◌+◌, ◌==◌, List, [], ◌∷◌, ◌++◌, length, slice_get, Contains, true, is_some, Some, refl}
use Rattle.std.proofs.Common.{sym, subst, ◌∙◌, length-append}
use Rattle.std.proofs.lemmas.Bool.{eq-eqb}
use Rattle.aml_namespace.specs.Namespace.{Map}
use Rattle.aml_namespace.specs.Walks.{child_of, children, named, walked}
use Rattle.aml_namespace.proofs.Ascent.{child_path}
use Rattle.aml_namespace.proofs.Cutting.{is_below_is}
use Rattle.aml_path.specs.declared.segment.Seg.{Seg}
use Rattle.machine_laws.proofs.KernelBuses.{any_from, any_has, kept_name, some_name}
use Rattle.machine_laws.proofs.OneOfList.{picked_from, picked_has}

module _ (names : Map) where
  key_stands : (p : List Seg) → Contains (keys names) p → is_some (get names p) ≡ true
  key_stands p c = contains_key-keys names p ∙ any_has p (keys names) c

  stands_as_key : (p : List Seg) → is_some (get names p) ≡ true → Contains (keys names) p
  stands_as_key p is = any_from p (keys names) (sym (contains_key-keys names p) ∙ is)

  pub walked_stands : (p : List Seg) → Contains (walked names) p ↔ ((p ≢ []) × (is_some (get names p) ≡ true))
  unfolding walked
  walked_stands p = (
    λ c. (let key = picked_from named (keys names) p c in
        let kept = kept_name key.0 p key.2 in
        (kept.1, subst (λ (q : List Seg). is_some (get names q) ≡ true) kept.0 (key_stands key.0 key.1))),
    λ h. picked_has named (keys names) p p (stands_as_key p h.1) (some_name p h.0),
  )

  last_is : (p : List Seg) (s : Seg) → slice_get (p ++ s ∷ []) (length p) ≡ Some s
  last_is [] s = refl
  last_is (t ∷ ts) s = last_is ts s

  own_child : (p : List Seg) (s : Seg) → child_of p (p ++ s ∷ []) ≡ Some s
  own_child p s =
      let level : (length (p ++ s ∷ []) == length p + 1) ≡ true = eq-eqb (length (p ++ s ∷ [])) (length p + 1) (length-append p (s ∷ [])) in
      rw (level, is_below_is p s []) (last_is p s)

  pub child_stands : (p : List Seg) (s : Seg) → Contains (children p names) s ↔ (is_some (get names (p ++ s ∷ [])) ≡ true)
  unfolding children
  child_stands p s = (
    λ c. (let key = picked_from (child_of p) (keys names) s c in
        subst (λ (q : List Seg). is_some (get names q) ≡ true) (child_path p key.0 s key.2) (key_stands key.0 key.1)),
    λ is. picked_has (child_of p) (keys names) (p ++ s ∷ []) s (stands_as_key (p ++ s ∷ []) is) (own_child p s),
  )
