-- A PCI-to-PCI bridge is asked by reads of its configuration header, and in the wide profile alone.
use Rattle.std.specs.Prelude.{◌≡◌, ◌⊎◌, ℕ, zero, suc, ◌-◌, ◌≤◌, List, [], ◌∷◌, ◌++◌, length, take, Bool, true, false, Option, Some, None, Ok, refl, if◌then◌else◌}
use Rattle.std.proofs.Common.{inl, inr, arith, ap, sym, subst, ◌∙◌, length-take-le, take-take}
use Rattle.ar_space.specs.declared.space.Width.TheVariants.{W8}
use Rattle.ar_space.specs.declared.space.Place.{Place}
use Rattle.ar_space.specs.declared.space.Place.TheVariants as place
use Rattle.ar_space.specs.Accesses.{Accesses}
use Rattle.ar_space.specs.Change.{give, settle, go_on, ◌>>=◌}
use Rattle.aml_path.specs.declared.segment.Seg.{Seg}
use Rattle.aml_fields.specs.declared.region.AddressSpace.{AddressSpace}
use Rattle.aml_fields.specs.declared.region.AddressSpace.TheVariants as spaces
use Rattle.aml_fields.specs.Regions.{unit_place, read_access, read_unit}
use Rattle.aml_namespace.specs.Namespace.{Map, above}
use Rattle.aml_world.specs.declared.fields.pci_functions.Sought.TheVariants as sought
use Rattle.aml_world.specs.declared.state.profile.Profile.{Profile}
use Rattle.aml_world.specs.declared.state.profile.Profile.TheVariants as profiles
use Rattle.aml_world.specs.state.State.{State}
use Rattle.aml_world.specs.fields.PciFunctions.{base_bus, has, is_bridge, nearest_from, nearest, or_deep, or_behind, behind_asked, pci_function}
use Rattle.aml_world.specs.fields.Bridges.{bridges_over, bridges_to, header_of, secondary_bus}
use Rattle.aml_laws.specs.RegionAccesses.{AsksBridge, header_type, secondary_bus as secondary_bus_number}
use Rattle.aml_laws.proofs.Preorders.{either_branch, Preorder, Respects, settle_respects, settle_then_respects, then_respects}
use Rattle.aml_laws.proofs.RegisterAccesses.{number_of_space, pci_space_numbered}
use Rattle.aml_laws.proofs.WorldRelations.{WorldRelationOf}

-- ---- the bytes that are read

header_type_asks : (function : AddressSpace) (at : Place) → number_of_space function ≡ 2 → unit_place (header_of function) W8 14 ≡ Ok at → AsksBridge at W8
unfolding unit_place
header_type_asks spaces.Memory at is e = absurd (cc is)
header_type_asks spaces.Io at is e = absurd (cc is)
header_type_asks (spaces.Pci seg bus dev func) at is e = let same : place.Pci seg bus dev func 14 ≡ at = cc e in subst (λ x. AsksBridge x W8) same (header_type seg bus dev func)

secondary_bus_asks : (function : AddressSpace) (at : Place) → number_of_space function ≡ 2 → unit_place (header_of function) W8 25 ≡ Ok at → AsksBridge at W8
unfolding unit_place
secondary_bus_asks spaces.Memory at is e = absurd (cc is)
secondary_bus_asks spaces.Io at is e = absurd (cc is)
secondary_bus_asks (spaces.Pci seg bus dev func) at is e = let same : place.Pci seg bus dev func 25 ≡ at = cc e in subst (λ x. AsksBridge x W8) same (secondary_bus_number seg bus dev func)

module _ {S : Type 0} {listed : Bool} {accesses : Accesses S} (relation : WorldRelationOf listed accesses) (u : State S) where
  -- where a world with the one space is led to, so is the world with the other one
  abbrev spaces_led_to : Preorder S
  spaces_led_to = record {
    Leads = λ s t. (w : State S) → relation.Leads u (record w { space = s }) → relation.Leads u (record w { space = t });
    reflexive = λ s w h. h;
    transitive = λ r s t h i w l. i w (h w l);
  }

  module _ (wide : u.profile ≡ profiles.Wide) where
    byte_read_leads : (at : Place) → AsksBridge at W8 → Respects spaces_led_to (read_access accesses at W8)
    unfolding read_access
    byte_read_leads at is = record { respects = λ s w l. relation.bridge_asked u (record w { space = s }) at W8 wide is l }

    pub secondary_bus_leads : (seg bus address : ℕ) → Respects spaces_led_to (secondary_bus accesses seg bus address)
    unfolding secondary_bus read_unit
    secondary_bus_leads seg bus address =
        settle_then_respects _ _ (λ function e.
        let pci = pci_space_numbered seg bus address function e in
        then_respects _ _ (settle_then_respects _ _ (λ at is. byte_read_leads at (header_type_asks function at pci is))) (λ kind.
        then_respects _ _ (settle_respects _) (λ bridge.
        settle_then_respects _ _ (λ at is. byte_read_leads at (secondary_bus_asks function at pci is)))))

-- ---- where the core profile reaches a function, no bridge stands above it

not_found : {A : Type 0} (b : Bool) (x : A) (o : Option A) → (if b then Some x else o) ≡ None → (b ≡ false) × (o ≡ None)
not_found true x o e = absurd (cc e)
not_found false x o e = (refl, e)

scope_passed : (b c : Bool) (q : List Seg) (l : List (List Seg)) → c ≡ false → l ≡ [] → (if b then [] else (if c then l ++ q ∷ [] else l)) ≡ []
scope_passed true c q l is none = refl
scope_passed false true q l is none = absurd (cc is)
scope_passed false false q l is none = none

module _ (names : Map) where
  none_over : (p q : List Seg) (n : ℕ) → ((k : ℕ) → k ≤ n → take k q ≡ take k p) → nearest_from names sought.Bridge q n ≡ None → bridges_over names p (suc n) ≡ []
  unfolding nearest_from bridges_over
  none_over p q zero alike none =
      let here = (not_found (is_bridge names (take 0 q)) (take 0 q) None none).0 in
      scope_passed (has names (take 0 p) base_bus) (is_bridge names (take 0 p)) (take 0 p) (bridges_over names p zero) (sym (ap (is_bridge names) (alike 0 (omega arith))) ∙ here) refl
  none_over p q (suc n) alike none =
      let parts = not_found (is_bridge names (take (suc n) q)) (take (suc n) q) (nearest_from names sought.Bridge q n) none in
      scope_passed (has names (take (suc n) p) base_bus) (is_bridge names (take (suc n) p)) (take (suc n) p) (bridges_over names p (suc n)) (sym (ap (is_bridge names) (alike (suc n) (omega arith))) ∙ parts.0) (none_over p q n (λ k l. alike k (omega (arith, l))) parts.1)

  none_to_by_length : (p : List Seg) (n : ℕ) → length p ≡ n → nearest_from names sought.Bridge (take (n - 1) p) (length (take (n - 1) p)) ≡ None → bridges_over names p n ≡ []
  unfolding bridges_over
  none_to_by_length p zero is none = refl
  none_to_by_length p (suc n) is none =
      let less : suc n - 1 ≡ n = omega arith in
      let long : length (take n p) ≡ n = length-take-le n p (omega (arith, is)) in
      let none_above = subst (λ q. nearest_from names sought.Bridge q (length q) ≡ None) (ap (λ k. take k p) less) none in
      none_over p (take n p) n (λ k l. take-take k n p l) (subst (λ k. nearest_from names sought.Bridge (take n p) k ≡ None) long none_above)

  none_to : (p : List Seg) → nearest_from names sought.Bridge (above p) (length (above p)) ≡ None → bridges_to names p ≡ []
  none_to p none = either_branch (λ l. l ≡ []) (has names p base_bus) [] (bridges_over names p (length p)) refl (none_to_by_length p (length p) refl none)

-- bridges may be asked of a world
abbrev pub MayAsk : {S : Type 0} → State S → List (List Seg) → Type 0
MayAsk w bridges = (w.profile ≡ profiles.Wide) ⊎ (bridges ≡ [])

module _ {S : Type 0} where
  reached_by_cases : (w : State S) (p q : List Seg) (profile : Profile) (bridge : Option (List Seg)) → w.profile ≡ profile → nearest_from w.names.map sought.Bridge (above p) (length (above p)) ≡ bridge → (go_on (or_behind profile bridge) w (λ reached. give p)).0 ≡ Ok q → MayAsk w (bridges_to w.names.map q)
  unfolding go_on give
  reached_by_cases w p q profiles.Wide bridge is near e = inl is
  reached_by_cases w p q profiles.Core None is near e = let same : p ≡ q = cc e in inr (subst (λ x. bridges_to w.names.map x ≡ []) same (none_to w.names.map p near))
  reached_by_cases w p q profiles.Core (Some x) is near e = absurd (cc e)

  near_by_cases : (w : State S) (q : List Seg) (near : Option (List Seg)) → ((settle (or_deep near) >>= (λ p. nearest sought.Bridge (above p) >>= (λ bridge. behind_asked bridge >>= (λ reached. give p)))) w).0 ≡ Ok q → MayAsk w (bridges_to w.names.map q)
  unfolding nearest behind_asked settle ◌>>=◌ go_on
  near_by_cases w q None e = absurd (cc e)
  near_by_cases w q (Some p) e = reached_by_cases w p q w.profile (nearest_from w.names.map sought.Bridge (above p) (length (above p))) refl refl e

  pub function_may_ask : (scope : List Seg) (w : State S) (q : List Seg) → (pci_function scope w).0 ≡ Ok q → MayAsk w (bridges_to w.names.map q)
  unfolding pci_function nearest ◌>>=◌ go_on
  function_may_ask scope w q e = near_by_cases w q (nearest_from w.names.map sought.Function scope (length scope)) e
