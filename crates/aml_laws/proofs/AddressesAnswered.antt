-- What an address of a PCI function answers comes from the nearest device with an `_ADR`, whose objects are asked in turn.
use Rattle.std.specs.Prelude.{◌≡◌, ◌⊎◌, ◌≤◌, ◌<◌, ◌+◌, ◌*◌, ◌/◌, ◌%◌, ◌++◌, ◌==◌, ◌||◌, ◌&&◌, ℕ, zero, suc, nat_lt, Bool, true, false, List, [], ◌∷◌, length, take, Option, Some, None, Result, Ok, Err, refl, if◌then◌else◌}
use Rattle.std.proofs.Common.{arith, inl, inr, ap, sym, subst, ◌∙◌}
use Rattle.std.proofs.lemmas.Bool.{eqb-true}
use Rattle.std.proofs.lemmas.Bool.Decides.{nat_tests}
use Rattle.std.proofs.lemmas.Nat.{div-add-mod'}
use Rattle.ar_space.specs.declared.space.Place.TheVariants as place
use Rattle.ar_space.specs.declared.space.Width.TheVariants.{W8}
use Rattle.ar_space.specs.declared.refusal.Refusal.{Refusal}
use Rattle.ar_space.specs.declared.refusal.SpaceFault.{SpaceFault}
use Rattle.ar_space.specs.Accesses.{Accesses}
use Rattle.ar_space.specs.Outcome.{Outcome}
use Rattle.ar_space.specs.Change.{Change, give, settle, go_on, ◌>>=◌}
use Rattle.aml_path.specs.declared.segment.Seg.{Seg}
use Rattle.aml_fields.specs.declared.region.AddressSpace.{AddressSpace}
use Rattle.aml_fields.specs.declared.region.AddressSpace.TheVariants as spaces
use Rattle.aml_fields.specs.Regions.{unit_place, faulted, read_access, read_unit}
use Rattle.aml_namespace.specs.Namespace.{Map, above}
use Rattle.aml_world.specs.declared.fields.pci_functions.Sought.{Sought}
use Rattle.aml_world.specs.declared.fields.pci_functions.Sought.TheVariants as sought
use Rattle.aml_world.specs.state.State.{State, on_space}
use Rattle.aml_world.specs.state.Run.{Run, lift}
use Rattle.aml_world.specs.fields.PciFunctions.{adr, segment_group, base_bus, fits, nearest_from, nearest, or_deep, behind_asked, pci_function}
use Rattle.aml_world.specs.fields.Regions.{pci_space}
use Rattle.aml_world.specs.fields.Bridges.{bridge_header, bridges_to, bridges_above, header_byte, secondary_bus}
use Rattle.aml_world.specs.fields.Fields.{part_in, inherited, bus_behind, bus_behind_all, pci_address}
use Rattle.aml_laws.specs.PciAddresses.{MayBeFunction, BridgeTells, is_bridge, with_space, PartAnswers, of_none, of_nearest, BridgesLead, no_further, leads_on, AddressAnswers, in_range, AddressFound}
use Rattle.aml_laws.specs.PciScopes.{IsFunctionAt, IsNearestSuch}
use Rattle.aml_laws.proofs.ChangesNothing.{pci_function_changes_nothing}
use Rattle.aml_laws.proofs.LocatedRegions.{gave_both}
use Rattle.aml_laws.proofs.PciScopes.{has_it, in_scope, function_is, function_tested}

-- ---- one after another

-- the first of two gave something, and the second gave this behind it
pub record GaveInTurn {H A B : Type 0} (m : Change H A) (k : A → Change H B) (h : H) (b : B) (after : H) : Type 0 where
  pub first : A
  pub gave : (m h).0 ≡ Ok first
  pub then_gave : k first (m h).1 ≡ (Ok b, after)

turn_by_cases : {H A B : Type 0} (m : Change H A) (k : A → Change H B) (h : H) (b : B) (after : H) (r : Outcome A) → (m h).0 ≡ r → go_on r (m h).1 k ≡ (Ok b, after) → GaveInTurn m k h b after
unfolding go_on
turn_by_cases m k h b after (Ok a) is e = record { first = a; gave = is; then_gave = e }
turn_by_cases {B = B} m k h b after (Err x) is e = let refused : Err x ≡ Ok b = ap (λ (p : Outcome B × _). p.0) e in absurd (cc refused)

pub gave_in_turn : {H A B : Type 0} (m : Change H A) (k : A → Change H B) (h : H) (b : B) (after : H) → (m >>= k) h ≡ (Ok b, after) → GaveInTurn m k h b after
unfolding ◌>>=◌
gave_in_turn m k h b after e = turn_by_cases m k h b after (m h).0 refl e

-- an outcome with what was left
left_behind : {A B : Type 0} (p : A × B) (a : A) → p.0 ≡ a → p ≡ (a, p.1)
left_behind p a e = ap (λ x. (x, p.1)) e

first_of : {A B : Type 0} (p : A × B) (a : A) (b : B) → p ≡ (a, b) → p.0 ≡ a
first_of {A} {B} p a b e = ap (λ (x : A × B). x.0) e

second_of : {A B : Type 0} (p : A × B) (a : A) (b : B) → p ≡ (a, b) → p.1 ≡ b
second_of {A} {B} p a b e = ap (λ (x : A × B). x.1) e

-- ---- the nearest that is sought

module _ (names : Map) (x : Sought) (p : List Seg) where
  record NearestFound (n : ℕ) (q : List Seg) : Type 0 where
    count : ℕ
    at : count ≤ n
    is : take count p ≡ q
    fits_it : fits names x (take count p) ≡ true
    none : (j : ℕ) → count < j → j ≤ n → fits names x (take j p) ≡ false

  found_first : (b : Bool) (q : List Seg) → fits names x (take 0 p) ≡ b → (if b then Some (take 0 p) else None) ≡ Some q → NearestFound 0 q
  found_first true q is e = let same : take 0 p ≡ q = cc e in record { count = 0; at = omega arith; is = same; fits_it = is; none = λ j more le. absurd (omega (arith, more, le)) }
  found_first false q is e = absurd (cc e)

  -- so many segments, or fewer
  or_fewer : (b : Bool) (j n : ℕ) → (j == suc n) ≡ b → fits names x (take (suc n) p) ≡ false → j ≤ suc n → (j ≤ n → fits names x (take j p) ≡ false) → fits names x (take j p) ≡ false
  or_fewer true j n at is le fewer = let same : j ≡ suc n = grind (arith, nat_tests) in ap (λ k. fits names x (take k p)) same ∙ is
  or_fewer false j n at is le fewer = fewer (grind (arith, nat_tests))

  found_next : (b : Bool) (n : ℕ) (q : List Seg) → fits names x (take (suc n) p) ≡ b → (if b then Some (take (suc n) p) else nearest_from names x p n) ≡ Some q → (nearest_from names x p n ≡ Some q → NearestFound n q) → NearestFound (suc n) q
  found_next true n q is e further = let same : take (suc n) p ≡ q = cc e in record { count = suc n; at = omega arith; is = same; fits_it = is; none = λ j more le. absurd (omega (arith, more, le)) }
  found_next false n q is e further =
      let f = further e in
      let le = f.at in
      record { count = f.count; at = omega (arith, le); is = f.is; fits_it = f.fits_it; none = λ j more few. or_fewer (j == suc n) j n refl is few (λ fewer. f.none j more fewer) }

  nearest_found : (n : ℕ) (q : List Seg) → nearest_from names x p n ≡ Some q → NearestFound n q
  unfolding nearest_from
  nearest_found zero q e = found_first (fits names x (take 0 p)) q refl e
  nearest_found (suc n) q e = found_next (fits names x (take (suc n) p)) n q refl e (nearest_found n q)

  not_first : (b : Bool) (j : ℕ) → fits names x (take 0 p) ≡ b → (if b then Some (take 0 p) else None) ≡ None → j ≤ 0 → fits names x (take j p) ≡ false
  not_first true j is e le = absurd (cc e)
  not_first false j is e le = let same : j ≡ 0 = omega (arith, le) in ap (λ k. fits names x (take k p)) same ∙ is

  not_next : (b : Bool) (n j : ℕ) → fits names x (take (suc n) p) ≡ b → (if b then Some (take (suc n) p) else nearest_from names x p n) ≡ None → j ≤ suc n → (nearest_from names x p n ≡ None → j ≤ n → fits names x (take j p) ≡ false) → fits names x (take j p) ≡ false
  not_next true n j is e le further = absurd (cc e)
  not_next false n j is e le further = or_fewer (j == suc n) j n refl is le (further e)

  nearest_lacks : (n : ℕ) → nearest_from names x p n ≡ None → (j : ℕ) → j ≤ n → fits names x (take j p) ≡ false
  unfolding nearest_from
  nearest_lacks zero e j le = not_first (fits names x (take 0 p)) j refl e le
  nearest_lacks (suc n) e j le = not_next (fits names x (take (suc n) p)) n j refl e le (λ further. nearest_lacks n further j)

both_ways : (b : Bool) → b ≡ false → b ≡ true → ⊥
both_ways b fails holds = absurd (cc (sym fails ∙ holds))

-- ---- the function of a scope

deep_unless : (near : Option (List Seg)) (p : List Seg) → or_deep near ≡ Ok p → near ≡ Some p
deep_unless None p e = absurd (cc e)
deep_unless (Some q) p e = let same : q ≡ p = cc e in ap Some same

-- the nearest device with an `_ADR`, by how many segments of a scope it has
pub record NearestFunction (names : Map) (scope path : List Seg) : Type 0 where
  pub segments : ℕ
  pub is : take segments scope ≡ path
  pub nearest : IsNearestSuch (IsFunctionAt names) scope segments

module _ {S : Type 0} (w : State S) (scope path : List Seg) where
  function_near : (pci_function scope w).0 ≡ Ok path → nearest_from w.names.map sought.Function scope (length scope) ≡ Some path
  unfolding pci_function nearest behind_asked settle give
  function_near e =
      let a = gave_both (nearest sought.Function scope) _ w path e in
      let b = gave_both (settle (or_deep a.first)) _ w path a.then_gave in
      let c = gave_both (nearest sought.Bridge (above b.first)) _ w path b.then_gave in
      let d = gave_both (behind_asked c.first) _ w path c.then_gave in
      let found : nearest_from w.names.map sought.Function scope (length scope) ≡ a.first = cc a.gave in
      let same : b.first ≡ path = cc d.then_gave in
      found ∙ deep_unless a.first b.first b.gave ∙ ap Some same

  pub function_found : (pci_function scope w).0 ≡ Ok path → NearestFunction w.names.map scope path
  function_found e =
      let f = nearest_found w.names.map sought.Function scope (length scope) path (function_near e) in
      record {
        segments = f.count;
        is = f.is;
        nearest = record {
          within = f.at;
          such = function_is w.names.map (take f.count scope) f.fits_it;
          none_nearer = λ j more le is. both_ways _ (f.none j more le) (function_tested w.names.map (take j scope) is);
        };
      }

-- ---- the objects of an address

module _ {S : Type 0} (accesses : Accesses S) (call : List Seg → Run S ℕ) where
  part_by_cases : (name : Seg) (scope : List Seg) (s : State S × ℕ) (r : Outcome ℕ) (after : State S × ℕ) (near : Option (List Seg)) → nearest_from s.0.names.map (sought.Parent name) scope (length scope) ≡ near → part_in accesses call name near s ≡ (r, after)
      → PartAnswers call name scope s r after
  unfolding give
  part_by_cases name scope s r after None is e =
      subst (λ (p : Outcome ℕ × (State S × ℕ)). PartAnswers call name scope s p.0 p.1) e
      (of_none (λ j le stands. both_ways _ (nearest_lacks s.0.names.map (sought.Parent name) scope (length scope) is j le) (has_it s.0.names.map (take j scope) name stands)))
  part_by_cases name scope s r after (Some q) is e =
      let f = nearest_found s.0.names.map (sought.Parent name) scope (length scope) q is in
      of_nearest f.count r after
      (record {
        within = f.at;
        such = in_scope s.0.names.map (take f.count scope) name f.fits_it;
        none_nearer = λ j more le stands. both_ways _ (f.none j more le) (has_it s.0.names.map (take j scope) name stands);
      })
      (ap (λ p. call (p ++ name ∷ []) s) f.is ∙ e)

  part_answered : (name : Seg) (scope : List Seg) (s : State S × ℕ) (r : Outcome ℕ) (after : State S × ℕ) → inherited accesses call name scope s ≡ (r, after) → PartAnswers call name scope s r after
  unfolding inherited lift nearest go_on ◌>>=◌
  part_answered name scope s r after e = part_by_cases name scope s r after (nearest_from s.0.names.map (sought.Parent name) scope (length scope)) refl e

-- ---- the numbers of a function

-- the address space of a function, and its numbers
record IsAddressed (seg bus address : ℕ) (space : AddressSpace) : Type 0 where
  fit : MayBeFunction seg bus (address / 65536) (address % 65536)
  is : spaces.Pci seg bus (address / 65536) (address % 65536) ≡ space

less_than : (n k : ℕ) → nat_lt n k ≡ true → n < k
less_than n k is = grind (arith, nat_tests)

addressed_by_cases : (seg bus address : ℕ) (space : AddressSpace) (x : Refusal) (a b c d : Bool) → nat_lt seg 65536 ≡ a → nat_lt bus 256 ≡ b → nat_lt (address / 65536) 32 ≡ c → nat_lt (address % 65536) 8 ≡ d
    → (if a && (b && (c && d)) then Ok (spaces.Pci seg bus (address / 65536) (address % 65536)) else Err x) ≡ Ok space → IsAddressed seg bus address space
addressed_by_cases seg bus address space x true true true true a b c d e =
    record { fit = record { group_fits = less_than seg 65536 a; bus_fits = less_than bus 256 b; device_fits = less_than (address / 65536) 32 c; function_fits = less_than (address % 65536) 8 d }; is = cc e }
addressed_by_cases seg bus address space x true true true false a b c d e = absurd (cc e)
addressed_by_cases seg bus address space x true true false h a b c d e = absurd (cc e)
addressed_by_cases seg bus address space x true false g h a b c d e = absurd (cc e)
addressed_by_cases seg bus address space x false f g h a b c d e = absurd (cc e)

addressed : (seg bus address : ℕ) (space : AddressSpace) → pci_space seg bus address ≡ Ok space → IsAddressed seg bus address space
addressed seg bus address space e = addressed_by_cases seg bus address space _ (nat_lt seg 65536) (nat_lt bus 256) (nat_lt (address / 65536) 32) (nat_lt (address % 65536) 8) refl refl refl refl e

-- ---- bridges

kind_by_cases : (kind : ℕ) (a b : Bool) (x : Refusal) → (kind % 128 == 1) ≡ a → (kind % 128 == 2) ≡ b → if◌then◌else◌ {A = Outcome (Unit {0})} (a || b) (Ok tt) (Err x) ≡ Ok tt → (kind % 128 ≡ 1) ⊎ (kind % 128 ≡ 2)
kind_by_cases kind true b x is so e = inl (eqb-true (kind % 128) 1 is)
kind_by_cases kind false true x is so e = inr (eqb-true (kind % 128) 2 so)
kind_by_cases kind false false x is so e = absurd (cc e)

bridge_kind_told : (kind : ℕ) (done : Unit {0}) → bridge_header kind ≡ Ok done → (kind % 128 ≡ 1) ⊎ (kind % 128 ≡ 2)
bridge_kind_told kind tt e = kind_by_cases kind (kind % 128 == 1) (kind % 128 == 2) _ refl refl e

not_faulted : {A : Type 0} (r : Result A SpaceFault) (a : A) → faulted r ≡ Ok a → r ≡ Ok a
not_faulted (Ok b) a e = let same : b ≡ a = cc e in ap Ok same
not_faulted (Err fault) a e = absurd (cc e)

module _ {S : Type 0} (accesses : Accesses S) where
  module _ (seg bus dev func : ℕ) (s : S) (n : ℕ) where
    type_read : (header_byte accesses (spaces.Pci seg bus dev func) 14 s).0 ≡ Ok n → accesses.reads s (place.Pci seg bus dev func 14) W8 ≡ (Ok n, (header_byte accesses (spaces.Pci seg bus dev func) 14 s).1)
    unfolding read_unit unit_place read_access settle go_on ◌>>=◌
    type_read e = left_behind (accesses.reads s (place.Pci seg bus dev func 14) W8) (Ok n) (not_faulted (accesses.reads s (place.Pci seg bus dev func 14) W8).0 n e)

    number_read : (after : S) → header_byte accesses (spaces.Pci seg bus dev func) 25 s ≡ (Ok n, after) → accesses.reads s (place.Pci seg bus dev func 25) W8 ≡ (Ok n, after)
    unfolding read_unit unit_place read_access settle go_on ◌>>=◌
    number_read after e =
        left_behind (accesses.reads s (place.Pci seg bus dev func 25) W8) (Ok n) (not_faulted (accesses.reads s (place.Pci seg bus dev func 25) W8).0 n (first_of _ (Ok n) after e))
        ∙ ap (λ t. (Ok n, t)) (second_of (header_byte accesses (spaces.Pci seg bus dev func) 25 s) (Ok n) after e)

  module _ (seg bus dev func : ℕ) (fit : MayBeFunction seg bus dev func) (s : S) (number : ℕ) (after : S) where
    -- of a function: its header type, and its secondary bus
    header_tells : (header_byte accesses (spaces.Pci seg bus dev func) 14 >>= (λ kind. settle (bridge_header kind) >>= (λ bridge. header_byte accesses (spaces.Pci seg bus dev func) 25))) s ≡ (Ok number, after)
        → BridgeTells accesses seg bus dev func s (Ok number) after
    unfolding settle
    header_tells e =
        let a = gave_in_turn (header_byte accesses (spaces.Pci seg bus dev func) 14) _ s number after e in
        let t = (header_byte accesses (spaces.Pci seg bus dev func) 14 s).1 in
        let b = gave_in_turn (settle (bridge_header a.first)) _ t number after a.then_gave in
        is_bridge a.first number t after fit (type_read seg bus dev func s a.first a.gave) (bridge_kind_told a.first b.first b.gave) (number_read seg bus dev func t number after b.then_gave)

  bridge_tells : (seg bus address : ℕ) (s : S) (number : ℕ) (after : S) → secondary_bus accesses seg bus address s ≡ (Ok number, after) → BridgeTells accesses seg bus (address / 65536) (address % 65536) s (Ok number) after
  unfolding secondary_bus settle
  bridge_tells seg bus address s number after e =
      let a = gave_in_turn (settle (pci_space seg bus address)) _ s number after e in
      let at = addressed seg bus address a.first a.gave in
      header_tells seg bus (address / 65536) (address % 65536) at.fit s number after
      (subst (λ f. (header_byte accesses f 14 >>= (λ kind. settle (bridge_header kind) >>= (λ bridge. header_byte accesses f 25))) s ≡ (Ok number, after)) (sym at.is) a.then_gave)

word_low : (address : ℕ) → address % 65536 < 65536
word_low address = omega arith

module _ {S : Type 0} (accesses : Accesses S) (call : List Seg → Run S ℕ) (seg : ℕ) where
  one_leads : (bus : ℕ) (p : List Seg) (ps : List (List Seg)) (s : State S × ℕ) (number : ℕ) (t after : State S × ℕ) (r : Outcome ℕ) → bus_behind accesses call seg bus p s ≡ (Ok number, t) → BridgesLead accesses call seg number ps t r after
      → BridgesLead accesses call seg bus (p ∷ ps) s r after
  unfolding bus_behind lift on_space
  one_leads bus p ps s number t after r e on =
      let a = gave_in_turn (call (p ++ adr ∷ [])) _ s number t e in
      let between = (call (p ++ adr ∷ []) s).1 in
      let answer = secondary_bus accesses seg bus a.first between.0.space in
      let told : answer ≡ (Ok number, answer.1) = left_behind answer (Ok number) (first_of _ (Ok number) t a.then_gave) in
      let behind : with_space between answer.1 ≡ t = second_of (answer.0, with_space between answer.1) (Ok number) t a.then_gave in
      let asked : call (p ++ adr ∷ []) s ≡ (Ok (a.first / 65536 * 65536 + a.first % 65536), between) = left_behind (call (p ++ adr ∷ []) s) (Ok a.first) a.gave ∙ ap (λ n. (Ok n, between)) (sym (div-add-mod' a.first 65536)) in
      leads_on bus (a.first / 65536) (a.first % 65536) number p ps s between after r answer.1 (word_low a.first) asked (bridge_tells accesses seg bus a.first between.0.space number answer.1 told)
      (subst (λ u. BridgesLead accesses call seg number ps u r after) (sym behind) on)

  bridges_lead : (bus : ℕ) (ps : List (List Seg)) (s : State S × ℕ) (end : ℕ) (after : State S × ℕ) → bus_behind_all accesses call seg bus ps s ≡ (Ok end, after) → BridgesLead accesses call seg bus ps s (Ok end) after
  unfolding bus_behind_all give
  bridges_lead bus [] s end after e = subst (λ (p : Outcome ℕ × (State S × ℕ)). BridgesLead accesses call seg bus [] s p.0 p.1) e (no_further bus s)
  bridges_lead bus (p ∷ ps) s end after e =
      let a = gave_in_turn (bus_behind accesses call seg bus p) _ s end after e in
      one_leads bus p ps s a.first (bus_behind accesses call seg bus p s).1 after (Ok end) (left_behind (bus_behind accesses call seg bus p s) (Ok a.first) a.gave) (bridges_lead a.first ps (bus_behind accesses call seg bus p s).1 end after a.then_gave)

-- ---- the whole address

module _ {S : Type 0} (accesses : Accesses S) (call : List Seg → Run S ℕ) where
  -- of the function at a path, once the bridges above it are known
  objects_answered : (path : List Seg) (s : State S × ℕ) (space : AddressSpace) (after : State S × ℕ)
      → (inherited accesses call segment_group path >>= (λ seg. inherited accesses call base_bus path >>= (λ bus. bus_behind_all accesses call seg bus (bridges_to s.0.names.map path) >>= (λ behind. call (path ++ adr ∷ []) >>= (λ address. settle (pci_space seg behind address)))))) s ≡ (Ok space, after)
      → AddressAnswers accesses call path s (Ok space) after
  unfolding settle
  objects_answered path s space after e =
      let a = gave_in_turn (inherited accesses call segment_group path) _ s space after e in
      let t = (inherited accesses call segment_group path s).1 in
      let b = gave_in_turn (inherited accesses call base_bus path) _ t space after a.then_gave in
      let u = (inherited accesses call base_bus path t).1 in
      let c = gave_in_turn (bus_behind_all accesses call a.first b.first (bridges_to s.0.names.map path)) _ u space after b.then_gave in
      let v = (bus_behind_all accesses call a.first b.first (bridges_to s.0.names.map path) u).1 in
      let d = gave_in_turn (call (path ++ adr ∷ [])) _ v space after c.then_gave in
      let x = (call (path ++ adr ∷ []) v).1 in
      let at = addressed a.first c.first d.first space (first_of (pci_space a.first c.first d.first, x) (Ok space) after d.then_gave) in
      let end : x ≡ after = second_of (pci_space a.first c.first d.first, x) (Ok space) after d.then_gave in
      let asked : call (path ++ adr ∷ []) v ≡ (Ok (d.first / 65536 * 65536 + d.first % 65536), after) =
      left_behind (call (path ++ adr ∷ []) v) (Ok d.first) d.gave ∙ ap (λ n. (Ok n, x)) (sym (div-add-mod' d.first 65536)) ∙ ap (λ y. (Ok (d.first / 65536 * 65536 + d.first % 65536), y)) end in
      subst (λ z. AddressAnswers accesses call path s (Ok z) after) at.is
      (in_range a.first b.first c.first (d.first / 65536) (d.first % 65536) t u v after
      (part_answered accesses call segment_group path s (Ok a.first) t (left_behind (inherited accesses call segment_group path s) (Ok a.first) a.gave))
      (part_answered accesses call base_bus path t (Ok b.first) u (left_behind (inherited accesses call base_bus path t) (Ok b.first) b.gave))
      (bridges_lead accesses call a.first b.first (bridges_to s.0.names.map path) u c.first v (left_behind (bus_behind_all accesses call a.first b.first (bridges_to s.0.names.map path) u) (Ok c.first) c.gave))
      asked
      at.fit)

  pub address_answered : (scope : List Seg) (s : State S × ℕ) (space : AddressSpace) (after : State S × ℕ) → pci_address accesses call scope s ≡ (Ok space, after) → AddressFound accesses call scope s space after
  unfolding pci_address bridges_above lift
  address_answered scope s space after e =
      let a = gave_in_turn (lift (pci_function scope)) _ s space after e in
      let here = pci_function_changes_nothing scope s.0 in
      let b = gave_in_turn (lift (bridges_above a.first)) _ s space after (subst (λ (w : State S). (lift (bridges_above a.first) >>= (λ bridges. inherited accesses call segment_group a.first >>= (λ seg. inherited accesses call base_bus a.first >>= (λ bus. bus_behind_all accesses call seg bus bridges >>= (λ behind. call (a.first ++ adr ∷ []) >>= (λ address. settle (pci_space seg behind address))))))) (w, s.1) ≡ (Ok space, after)) here a.then_gave) in
      let f = function_found s.0 scope a.first a.gave in
      let bridges : bridges_to s.0.names.map a.first ≡ b.first = cc b.gave in
      let answers = objects_answered a.first s space after
      (subst (λ l. (inherited accesses call segment_group a.first >>= (λ seg. inherited accesses call base_bus a.first >>= (λ bus. bus_behind_all accesses call seg bus l >>= (λ behind. call (a.first ++ adr ∷ []) >>= (λ address. settle (pci_space seg behind address)))))) s ≡ (Ok space, after)) (sym bridges) b.then_gave) in
      record { segments = f.segments; nearest = f.nearest; answers = subst (λ p. AddressAnswers accesses call p s (Ok space) after) (sym f.is) answers }
