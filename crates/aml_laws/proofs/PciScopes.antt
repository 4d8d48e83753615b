-- A region of PCI_Config belongs to the nearest device with an address, and the bridges above that are asked.
use Rattle.std.specs.Prelude.{◌≡◌, ◌≤◌, ◌<◌, ◌-◌, ◌==◌, ◌&&◌, ℕ, zero, suc, not, Bool, true, false, List, [], ◌∷◌, ◌++◌, length, take, Option, Some, None, Ok, Err, is_some, refl, if◌then◌else◌}
use Rattle.std.proofs.Common.{arith, ap, sym, subst, ◌∙◌, length-take-le, take-take}
use Rattle.std.proofs.lemmas.Bool.Decides.{nat_tests}
use Rattle.std.specs.FinMap.{get}
use Rattle.ar_space.specs.declared.refusal.Refusal.TheVariants as refusal
use Rattle.ar_space.specs.declared.refusal.EvaluationFault.TheVariants.{DeepPci}
use Rattle.ar_space.specs.Change.{give, settle, go_on, ◌>>=◌}
use Rattle.aml_path.specs.declared.segment.Seg.{Seg}
use Rattle.aml_objects.specs.declared.entry.Entry.{Entry}
use Rattle.aml_objects.specs.declared.entry.NamedObject.{NamedObject}
use Rattle.aml_objects.specs.declared.entry.NamedObject.TheVariants as object
use Rattle.aml_namespace.specs.Namespace.{Map, above}
use Rattle.aml_world.specs.declared.fields.pci_functions.Sought.{Sought}
use Rattle.aml_world.specs.declared.fields.pci_functions.Sought.TheVariants as sought
use Rattle.aml_world.specs.declared.state.profile.Profile.TheVariants as profiles
use Rattle.aml_world.specs.state.State.{State}
use Rattle.aml_world.specs.fields.PciFunctions.{adr, hid, is_device_object, is_device, has, is_function, is_bridge, fits, nearest_from, nearest, or_behind, behind_asked, pci_function}
use Rattle.aml_laws.specs.PciScopes.{StandsIn, IsFunctionAt, IsBridgeAt, IsNearestSuch, NoneSuch}

-- ---- what is tested, in words

both_hold : (b c : Bool) → (b && c) ≡ true → (b ≡ true) × (c ≡ true)
both_hold true c h = (refl, h)
both_hold false c h = absurd (cc h)

turned : (b : Bool) → not b ≡ true → b ≡ false
turned false h = refl
turned true h = absurd (cc h)

not_true : (b : Bool) → (b ≡ true → ⊥) → b ≡ false
not_true false h = refl
not_true true h = absurd (h refl)

a_device : (o : NamedObject) → is_device_object o ≡ true → o ≡ object.Device
a_device object.Device h = refl
a_device _ h = absurd (cc h)

record Device (o : Option Entry) : Type 0 where
  entry : Entry
  stands : o ≡ Some entry
  device : entry.object ≡ object.Device

device_found : (o : Option Entry) → is_device o ≡ true → Device o
device_found None h = absurd (cc h)
device_found (Some e) h = record { entry = e; stands = refl; device = a_device e.object h }

some_found : (o : Option Entry) → is_some o ≡ true → (e : Entry) × (o ≡ Some e)
some_found None h = absurd (cc h)
some_found (Some e) h = (e, refl)

pub none_found : (o : Option Entry) → is_some o ≡ false → o ≡ None
none_found None h = refl
none_found (Some e) h = absurd (cc h)

module _ (names : Map) where
  pub has_it : (p : List Seg) (s : Seg) → StandsIn names s p → has names p s ≡ true
  has_it p s is = ap is_some is.stands

  pub in_scope : (p : List Seg) (s : Seg) → has names p s ≡ true → StandsIn names s p
  in_scope p s h = let e = some_found (get names (p ++ s ∷ [])) h in record { entry = e.0; stands = e.1 }

  pub function_tested : (p : List Seg) → IsFunctionAt names p → is_function names p ≡ true
  function_tested p is = ap (λ o. is_device o && has names p adr) is.stands ∙ ap (λ o. is_device_object o && has names p adr) is.device ∙ has_it p adr is.address

  pub function_is : (p : List Seg) → is_function names p ≡ true → IsFunctionAt names p
  function_is p h =
      let parts = both_hold (is_device (get names p)) (has names p adr) h in
      let d = device_found (get names p) parts.0 in
      record { entry = d.entry; stands = d.stands; device = d.device; address = in_scope p adr parts.1 }

  pub bridge_tested : (p : List Seg) → IsBridgeAt names p → is_bridge names p ≡ true
  bridge_tested p is = ap (λ b. b && not (has names p hid)) (function_tested p is.function) ∙ ap (λ o. not (is_some o)) is.no_hid

  pub bridge_is : (p : List Seg) → is_bridge names p ≡ true → IsBridgeAt names p
  bridge_is p h =
      let parts = both_hold (is_function names p) (not (has names p hid)) h in
      record { function = function_is p parts.0; no_hid = none_found (get names (p ++ hid ∷ [])) (turned (has names p hid) parts.1) }

  -- ---- the nearest

  module _ (x : Sought) (p : List Seg) where
    nearest_by : (b : Bool) (k n : ℕ) → (k == suc n) ≡ b → fits names x (take k p) ≡ true → k ≤ suc n → ((j : ℕ) → k < j → j ≤ suc n → fits names x (take j p) ≡ false) → (k ≤ n → nearest_from names x p n ≡ Some (take k p)) → nearest_from names x p (suc n) ≡ Some (take k p)
    unfolding nearest_from
    nearest_by true k n at is le none further =
        let same : suc n ≡ k = grind (arith, nat_tests) in
        let here : fits names x (take (suc n) p) ≡ true = ap (λ m. fits names x (take m p)) same ∙ is in
        rw here (ap (λ m. Some (take m p)) same)
    nearest_by false k n at is le none further =
        let less : k ≤ n = grind (arith, nat_tests) in
        rw (none (suc n) (omega (arith, less)) (omega arith)) (further less)

    nearest_is : (k n : ℕ) → fits names x (take k p) ≡ true → k ≤ n → ((j : ℕ) → k < j → j ≤ n → fits names x (take j p) ≡ false) → nearest_from names x p n ≡ Some (take k p)
    unfolding nearest_from
    nearest_is k zero is le none =
        let same : 0 ≡ k = omega (arith, le) in
        let here : fits names x (take 0 p) ≡ true = ap (λ m. fits names x (take m p)) same ∙ is in
        rw here (ap (λ m. Some (take m p)) same)
    nearest_is k (suc n) is le none = nearest_by (k == suc n) k n refl is le none (λ less. nearest_is k n is less (λ j more few. none j more (omega (arith, few))))

    nearest_none : (n : ℕ) → ((j : ℕ) → j ≤ n → fits names x (take j p) ≡ false) → nearest_from names x p n ≡ None
    unfolding nearest_from
    nearest_none zero none = rw (none 0 (omega arith)) refl
    nearest_none (suc n) none = rw (none (suc n) (omega arith)) (nearest_none n (λ j le. none j (omega (arith, le))))

    some_by : (b : Bool) (q : List Seg) (o : Option (List Seg)) → (r : List Seg) × (o ≡ Some r) → (r : List Seg) × ((if b then Some q else o) ≡ Some r)
    some_by true q o h = (q, refl)
    some_by false q o h = h

    some_here : (b : Bool) (k n : ℕ) → (k == suc n) ≡ b → fits names x (take k p) ≡ true → k ≤ suc n → (k ≤ n → (r : List Seg) × (nearest_from names x p n ≡ Some r)) → (r : List Seg) × (nearest_from names x p (suc n) ≡ Some r)
    unfolding nearest_from
    some_here true k n at is le further =
        let same : suc n ≡ k = grind (arith, nat_tests) in
        let here : fits names x (take (suc n) p) ≡ true = ap (λ m. fits names x (take m p)) same ∙ is in
        (take (suc n) p, rw here refl)
    some_here false k n at is le further = some_by (fits names x (take (suc n) p)) (take (suc n) p) (nearest_from names x p n) (further (grind (arith, nat_tests)))

    nearest_some : (k n : ℕ) → fits names x (take k p) ≡ true → k ≤ n → (r : List Seg) × (nearest_from names x p n ≡ Some r)
    unfolding nearest_from
    nearest_some k zero is le =
        let same : 0 ≡ k = omega (arith, le) in
        let here : fits names x (take 0 p) ≡ true = ap (λ m. fits names x (take m p)) same ∙ is in
        (take 0 p, rw here refl)
    nearest_some k (suc n) is le = some_here (k == suc n) k n refl is le (λ less. nearest_some k n is less)

-- ---- the laws

module _ {S : Type 0} (w : State S) where
  abbrev names_of : Map
  names_of = w.names.map

  pub nearest_parent : (s : Seg) (p : List Seg) (k : ℕ) → IsNearestSuch (StandsIn names_of s) p k → nearest (sought.Parent s) p w ≡ (Ok (Some (take k p)), w)
  unfolding nearest
  nearest_parent s p k is = ap (λ o. (Ok o, w)) (nearest_is names_of (sought.Parent s) p k (length p) (has_it names_of (take k p) s is.such) is.within (λ j more le. not_true _ (λ h. is.none_nearer j more le (in_scope names_of (take j p) s h))))

  pub no_parent : (s : Seg) (p : List Seg) → NoneSuch (StandsIn names_of s) p (length p) → nearest (sought.Parent s) p w ≡ (Ok None, w)
  unfolding nearest
  no_parent s p none = ap (λ o. (Ok o, w)) (nearest_none names_of (sought.Parent s) p (length p) (λ j le. not_true _ (λ h. none j le (in_scope names_of (take j p) s h))))

  pub no_function : (scope : List Seg) → NoneSuch (IsFunctionAt names_of) scope (length scope) → pci_function scope w ≡ (Err (refusal.Evaluation DeepPci), w)
  unfolding pci_function nearest settle go_on ◌>>=◌
  no_function scope none = rw (nearest_none names_of sought.Function scope (length scope) (λ j le. not_true _ (λ h. none j le (function_is names_of (take j scope) h)))) refl

  -- no bridge among a path and those above it
  pub bridge_lacks : (p : List Seg) → NoneSuch (IsBridgeAt names_of) p (length p) → nearest_from names_of sought.Bridge p (length p) ≡ None
  bridge_lacks p none = nearest_none names_of sought.Bridge p (length p) (λ j le. not_true _ (λ h. none j le (bridge_is names_of (take j p) h)))

  module _ (scope : List Seg) (k : ℕ) (is : IsNearestSuch (IsFunctionAt names_of) scope k) where
    found_near : nearest_from names_of sought.Function scope (length scope) ≡ Some (take k scope)
    found_near = nearest_is names_of sought.Function scope k (length scope) (function_tested names_of (take k scope) is.such) is.within (λ j more le. not_true _ (λ h. is.none_nearer j more le (function_is names_of (take j scope) h)))

    above_is : above (take k scope) ≡ take (k - 1) scope
    above_is =
        let long : length (take k scope) ≡ k = length-take-le k scope is.within in
        ap (λ n. take (n - 1) (take k scope)) long ∙ take-take (k - 1) k scope (omega arith)

    above_long : length (above (take k scope)) ≡ k - 1
    above_long = ap length above_is ∙ length-take-le (k - 1) scope (let w = is.within in omega (arith, w))

    front_above : (j : ℕ) → j ≤ k - 1 → take j (above (take k scope)) ≡ take j scope
    front_above j le = ap (take j) above_is ∙ take-take j (k - 1) scope le

    no_bridge : NoneSuch (IsBridgeAt names_of) scope (k - 1) → nearest_from names_of sought.Bridge (above (take k scope)) (length (above (take k scope))) ≡ None
    no_bridge none =
        nearest_none names_of sought.Bridge (above (take k scope)) (length (above (take k scope)))
        (λ j le. let long = above_long in not_true _ (λ h. none j (omega (arith, le, long)) (subst (IsBridgeAt names_of) (front_above j (omega (arith, le, long))) (bridge_is names_of (take j (above (take k scope))) h))))

    reached_by : (profile : _) → go_on {S = State S} (or_behind profile None) w (λ reached. give (take k scope)) ≡ (Ok (take k scope), w)
    unfolding go_on give
    reached_by profiles.Core = refl
    reached_by profiles.Wide = refl

    pub nearest_function : NoneSuch (IsBridgeAt names_of) scope (k - 1) → pci_function scope w ≡ (Ok (take k scope), w)
    unfolding pci_function nearest behind_asked settle give go_on ◌>>=◌
    nearest_function none = rw (found_near, no_bridge none) (reached_by w.profile)

    pub function_behind : w.profile ≡ profiles.Wide → pci_function scope w ≡ (Ok (take k scope), w)
    unfolding pci_function nearest behind_asked settle give go_on ◌>>=◌
    function_behind wide = rw (found_near, wide) refl

    pub function_deep : (j : ℕ) → w.profile ≡ profiles.Core → j ≤ k - 1 → IsBridgeAt names_of (take j scope) → pci_function scope w ≡ (Err (refusal.Evaluation DeepPci), w)
    unfolding pci_function nearest behind_asked settle give go_on ◌>>=◌
    function_deep j core le bridge =
        let long = above_long in
        let some = nearest_some names_of sought.Bridge (above (take k scope)) j (length (above (take k scope))) (bridge_tested names_of (take j (above (take k scope))) (subst (IsBridgeAt names_of) (sym (front_above j le)) bridge)) (omega (arith, le, long)) in
        rw (found_near, some.1, core) refl

pub ruleset a_region_of_pci_config_belongs_to_the_nearest_device = (nearest_function, function_behind, function_deep, no_function)
