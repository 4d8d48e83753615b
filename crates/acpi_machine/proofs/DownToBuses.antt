-- The bridges down to a device: those above it, and itself where it is one.
use Rattle.std.specs.Prelude.{◌≡◌, ◌==◌, ◌<◌, ◌≤◌, ◌&&◌, not, ℕ, zero, suc, Bool, true, false, Option, Some, None, List, [], ◌∷◌, ◌++◌, length, take, Ok, Err, IfOk, IfErr, IsErr, IsErrAnd, if◌then◌else◌}
use Rattle.std.proofs.Common.{refl, sym, ap, ◌∙◌, arith}
use Rattle.std.proofs.lemmas.Bool.{eqb-true, eqb-false}
use Rattle.std.proofs.lemmas.List.{length-take-le}
use Rattle.std.proofs.Math.Seq.{take-length}
use Rattle.ar_space.specs.declared.refusal.Refusal.{Refusal}
use Rattle.ar_space.specs.declared.refusal.Refusal.TheVariants.{OutOfMemory}
use Rattle.ar_space.specs.Change.{Does}
use Rattle.ar_space.specs.Outcome.{Outcome, seen}
use Rattle.aml_path.specs.declared.segment.Seg.{Seg}
use Rattle.aml_namespace.specs.Namespace.{Map}
use Rattle.aml_world.specs.declared.fields.pci_functions.Sought.{Sought}
use Rattle.aml_world.specs.declared.fields.pci_functions.Sought.TheVariants as sought
use Rattle.aml_world.specs.fields.Bridges.{with_scope, bridges_over, bridges_to, bridges_above}
use Rattle.aml_world.specs.fields.PciFunctions.{base_bus, has, is_bridge, fits, nearest_from, nearest}
use Rattle.aml_world.specs.state.State.{State}
use Rattle.acpi_machine.specs.Buses.{is_itself, bridges_down_to}

differs : (n m : ℕ) → n < m → (n == m) ≡ false
differs n m lt = by (n == m) refl
  where
    by : (b : Bool) → (n == m) ≡ b → b ≡ false
    by true e = let q = eqb-true n m e in absurd (omega (arith, lt, q))
    by false e = refl

same : (n : ℕ) → (n == n) ≡ true
same n = by (n == n) refl
  where
    by : (b : Bool) → (n == n) ≡ b → b ≡ true
    by true e = refl
    by false e = absurd (eqb-false n n e refl)

module _ (names : Map) (x : Sought) (p : List Seg) where
  -- one that is found with fewer segments is another one
  shorter : (n k : ℕ) (rest : Option (List Seg)) (b : Bool) → n ≤ length p → n < length p → is_itself rest p ≡ false → is_itself (if b then Some (take n p) else rest) p ≡ false
  shorter n k rest true le lt h = ap (λ l. l == length p) (length-take-le n p le) ∙ differs n (length p) lt
  shorter n k rest false le lt h = h

  found_short : (n : ℕ) → n < length p → is_itself (nearest_from names x p n) p ≡ false
  unfolding nearest_from
  found_short zero lt = shorter 0 0 None (fits names x (take 0 p)) (omega arith) lt refl
  found_short (suc n) lt = shorter (suc n) 0 (nearest_from names x p n) (fits names x (take (suc n) p)) (omega (arith, lt)) lt (found_short n (omega (arith, lt)))

  whole : (rest : Option (List Seg)) (b : Bool) (n : ℕ) → n ≡ length p → is_itself rest p ≡ false → is_itself (if b then Some (take n p) else rest) p ≡ b
  whole rest true n e h = ap (λ l. l == length p) (length-take-le n p (omega (arith, e)) ∙ e) ∙ same (length p)
  whole rest false n e h = h

  found_at : (n : ℕ) → n ≡ length p → is_itself (nearest_from names x p n) p ≡ fits names x (take n p)
  unfolding nearest_from
  found_at zero e = whole None (fits names x (take 0 p)) 0 e refl
  found_at (suc n) e = whole (nearest_from names x p n) (fits names x (take (suc n) p)) (suc n) e (found_short n (omega (arith, e)))

  found_itself : is_itself (nearest_from names x p (length p)) p ≡ fits names x p
  found_itself = found_at (length p) refl ∙ ap (fits names x) (take-length p)

-- what is found says what the device itself is
module _ {S : Type 0} (w : State S) (p : List Seg) where
  nearest_is : (x : Sought) (o : Option (List Seg)) → Does (Ok o) w (nearest x p) w → is_itself o p ≡ fits w.names.map x p
  unfolding nearest
  nearest_is x o h = ap (λ q. is_itself q p) (sym (ap (λ (a : Outcome (Option (List Seg)) × State S). o_of a.0) (h.is tt))) ∙ found_itself w.names.map x p
    where
      o_of : Outcome (Option (List Seg)) → Option (List Seg)
      o_of (Ok q) = q
      o_of (Err e) = None

  above_is : (l : List (List Seg)) → Does (Ok l) w (bridges_above p) w → l ≡ bridges_to w.names.map p
  unfolding bridges_above
  above_is l h = sym (ap (λ (a : Outcome (List (List Seg)) × State S). l_of a.0) (h.is tt))
    where
      l_of : Outcome (List (List Seg)) → List (List Seg)
      l_of (Ok q) = q
      l_of (Err e) = []

  -- the bridges above a device that has a base bus number
  pub down_based : (based : Option (List Seg)) (l : List (List Seg)) → Does (Ok based) w (nearest (sought.Parent base_bus) p) w → Does (Ok l) w (bridges_above p) w → is_itself based p ≡ true → Does (Ok l) w (bridges_down_to p) w
  unfolding bridges_down_to
  down_based based l h i own =
      let b : has w.names.map p base_bus ≡ true = sym (nearest_is (sought.Parent base_bus) based h) ∙ own in
      let none : l ≡ [] = above_is l i ∙ rw b refl in
      record { is = λ _. rw (b, none) refl }

  over_is : (l : List (List Seg)) → has w.names.map p base_bus ≡ false → Does (Ok l) w (bridges_above p) w → l ≡ bridges_over w.names.map p (length p)
  over_is l b i = above_is l i ∙ rw b refl

  -- those above one that is no bridge
  pub down_plain : (based bridge : Option (List Seg)) (l : List (List Seg)) → Does (Ok based) w (nearest (sought.Parent base_bus) p) w → Does (Ok bridge) w (nearest sought.Bridge p) w → Does (Ok l) w (bridges_above p) w → is_itself based p ≡ false → is_itself bridge p ≡ false → Does (Ok l) w (bridges_down_to p) w
  unfolding bridges_down_to
  down_plain based bridge l h j i own other =
      let b : has w.names.map p base_bus ≡ false = sym (nearest_is (sought.Parent base_bus) based h) ∙ own in
      let c : is_bridge w.names.map p ≡ false = sym (nearest_is sought.Bridge bridge j) ∙ other in
      let k = over_is l b i in
      record { is = λ _. rw (b, c, k) refl }

  -- those above a bridge, and the bridge
  pub down_bridge : {A : Type 0} (r : Outcome A) (view : A → List (List Seg)) (based bridge : Option (List Seg)) (l : List (List Seg)) → Does (Ok based) w (nearest (sought.Parent base_bus) p) w → Does (Ok bridge) w (nearest sought.Bridge p) w → Does (Ok l) w (bridges_above p) w → is_itself based p ≡ false → is_itself bridge p ≡ true
      → IfOk r (λ a. view a ≡ l ++ p ∷ []) → IfErr r (λ e. e ≡ OutOfMemory) → Does (seen view r) w (bridges_down_to p) w
  unfolding bridges_down_to
  down_bridge (Ok a) view based bridge l h j i own itself all memory =
      let b : has w.names.map p base_bus ≡ false = sym (nearest_is (sought.Parent base_bus) based h) ∙ own in
      let c : is_bridge w.names.map p ≡ true = sym (nearest_is sought.Bridge bridge j) ∙ itself in
      let k = over_is l b i in
      record { is = λ _. rw (b, c, all, k) refl }
  down_bridge (Err e) view based bridge l h j i own itself all memory = record { is = λ ne. absurd (ne memory) }

  -- only want of memory refuses it
  pub down_sought : {A : Type 0} {e : Refusal} (r : Outcome A) (view : A → List (List Seg)) (x : Sought) → Does (Err e) w (nearest x p) w → IsErr r × IsErrAnd r (λ y. y ≡ e) → Does (seen view r) w (bridges_down_to p) w
  unfolding nearest
  down_sought (Ok a) view x h i = absurd (cc i.0)
  down_sought (Err y) view x h i = record { is = λ ne. absurd (cc (ap (λ (a : Outcome (Option (List Seg)) × State S). a.0) (h.is (λ k. ne (i.1 ∙ k))))) }

  pub down_above : {A : Type 0} {e : Refusal} (r : Outcome A) (view : A → List (List Seg)) → Does (Err e) w (bridges_above p) w → IsErr r × IsErrAnd r (λ y. y ≡ e) → Does (seen view r) w (bridges_down_to p) w
  unfolding bridges_above
  down_above (Ok a) view h i = absurd (cc i.0)
  down_above (Err y) view h i = record { is = λ ne. absurd (cc (ap (λ (a : Outcome (List (List Seg)) × State S). a.0) (h.is (λ k. ne (i.1 ∙ k))))) }

pub ruleset down = (down_based, down_plain, down_bridge, down_sought, down_above)
