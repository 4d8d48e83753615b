-- The bridges above a device, going down from the root.
use Rattle.std.proofs.Common.{◌≡◌, ℕ, zero, suc, ◌+◌, ◌<◌, ◌≤◌, ◌++◌, ◌∷◌, [], List, take, length, get_or, Option, Some, None, Ok, Err, refl, ap, sym, ◌∙◌, arith, append_assoc}
use Rattle.std.specs.Prelude.{Bool, true, false, IfOk, IfErr, ◌==◌, if◌then◌else◌}
use Rattle.std.proofs.lemmas.Bool.{eqb-true, eqb-false}
use Rattle.std.proofs.Math.Seq.{take-length}
use Rattle.ar_space.specs.declared.refusal.Refusal.TheVariants.{OutOfMemory}
use Rattle.ar_space.specs.Outcome.{Outcome, seen}
use Rattle.ar_space.specs.Change.{Does}
use Rattle.aml_path.specs.declared.segment.Seg.{Seg}
use Rattle.aml_namespace.specs.Namespace.{Map}
use Rattle.aml_namespace.specs.Search.{at_path}
use Rattle.aml_world.specs.declared.fields.pci_functions.Sought.TheVariants as sought
use Rattle.aml_world.specs.fields.PciFunctions.{base_bus, has, is_bridge}
use Rattle.aml_world.specs.fields.Bridges.{with_scope, bridges_over, bridges_to, bridges_above}
use Rattle.aml_world.specs.state.State.{State}
use Rattle.aml_world.proofs.NearestFunctions.{none_fits, take_past}

-- ---- the answer

pub does_bridges : {S A : Type 0} (w : State S) (p : List Seg) (r : Outcome A) (view : A → List (List Seg)) → IfOk r (λ a. view a ≡ bridges_to w.names.map p) → IfErr r (λ e. e ≡ OutOfMemory) → Does (seen view r) w (bridges_above p) w
unfolding bridges_above
does_bridges w p (Ok a) view is memory = record { is = λ _. ap (λ l. (Ok l, w)) (sym is) }
does_bridges w p (Err e) view is memory = record { is = λ ne. absurd (ne memory) }

-- ---- one scope after another, going down

module _ (m : Map) (p : List Seg) where
  pub over_first : (l : List (List Seg)) → l ≡ [] → l ≡ bridges_over m p 0
  unfolding bridges_over
  over_first l is = is

  pub over_next : (n : ℕ) (l : List (List Seg)) → l ≡ with_scope m (take n p) (bridges_over m p n) → l ≡ bridges_over m p (n + 1)
  unfolding bridges_over
  over_next n l is = let e : suc n ≡ n + 1 = omega arith in is ∙ ap (bridges_over m p) e

  passed : (b c : Bool) (q : List Seg) (l : List (List Seg)) → b ≡ false → c ≡ false → (if b then [] else (if c then l ++ q ∷ [] else l)) ≡ l
  passed b c q l e h = ap (λ (t : Bool). if t then [] else (if c then l ++ q ∷ [] else l)) e ∙ ap (λ (t : Bool). if t then l ++ q ∷ [] else l) h

  -- no bridge stands beyond a depth
  beyond : (i k : ℕ) → i ≤ k → ((j : ℕ) → i ≤ j → (has m (take j p) base_bus ≡ false) × (is_bridge m (take j p) ≡ false)) → bridges_over m p k ≡ bridges_over m p i
  unfolding bridges_over
  beyond i zero le none = let e : zero ≡ i = omega (arith, le) in ap (bridges_over m p) e
  beyond i (suc k) le none = by (i == suc k) refl (λ l. beyond i k l none)
    where
      by : (b : Bool) → (i == suc k) ≡ b → (i ≤ k → bridges_over m p k ≡ bridges_over m p i) → bridges_over m p (suc k) ≡ bridges_over m p i
      by true e above = ap (bridges_over m p) (sym (eqb-true i (suc k) e))
      by false e above =
          let ne = eqb-false i (suc k) e in
          let l : i ≤ k = omega (arith, le, ne) in
          passed (has m (take k p) base_bus) (is_bridge m (take k p)) (take k p) (bridges_over m p k) (none k l).0 (none k l).1 ∙ above l

  pub none_left : (l : List (List Seg)) → l ≡ [] → has m p base_bus ≡ true → l ≡ bridges_to m p
  none_left l is own = is ∙ sym (ap (λ (t : Bool). if t then [] else bridges_over m p (length p)) own)

  pub all_left : (n : ℕ) (l : List (List Seg)) → n ≡ length p → l ≡ bridges_over m p n → has m p base_bus ≡ false → l ≡ bridges_to m p
  all_left n l ends is own = is ∙ ap (bridges_over m p) ends ∙ sym (ap (λ (t : Bool). if t then [] else bridges_over m p (length p)) own)

  -- where no node stands at the next segment of the path
  pub bridges_end : (n : ℕ) (s : Seg) (l : List (List Seg)) → l ≡ bridges_over m p (n + 1) → n < length p → s ≡ get_or p n s → ((rest : List Seg) → at_path m (take n p ++ s ∷ rest) ≡ None) → l ≡ bridges_to m p
  bridges_end n s l is lt at none =
      let free : (j : ℕ) → n + 1 ≤ j → (has m (take j p) base_bus ≡ false) × (is_bridge m (take j p) ≡ false) = λ j more.
      let h = take_past p n j s lt at (omega (arith, more)) in
      let below : (rest : List Seg) → at_path m (take j p ++ rest) ≡ None = λ rest. ap (λ (q : List Seg). at_path m (q ++ rest)) h.1 ∙ ap (at_path m) (append_assoc (take n p) (s ∷ h.0) rest) ∙ none (h.0 ++ rest) in
      let here = ap (at_path m) h.1 ∙ none h.0 in
      (none_fits m (sought.Parent base_bus) (take j p) below here, none_fits m sought.Bridge (take j p) below here) in
      let own : has m p base_bus ≡ false = ap (λ (q : List Seg). has m q base_bus) (sym (take-length p)) ∙ (free (length p) (omega (arith, lt))).0 in
      is ∙ sym (beyond (n + 1) (length p) (omega (arith, lt)) free) ∙ sym (ap (λ (t : Bool). if t then [] else bridges_over m p (length p)) own)
