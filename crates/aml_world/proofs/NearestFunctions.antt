-- The nearest scope that is what is sought, going down from the root.
use Rattle.std.proofs.Common.{◌≡◌, ℕ, zero, suc, ◌+◌, ◌<◌, ◌≤◌, ◌++◌, ◌∷◌, [], List, take, length, get_or, Option, Some, None, Ok, refl, ap, sym, ◌∙◌, arith, append_assoc}
use Rattle.std.specs.Prelude.{Bool, true, false, IfSome, ◌==◌, ◌&&◌, not, is_some, if◌then◌else◌}
use Rattle.std.specs.Option.{option_map}
use Rattle.std.specs.FinMap.{get}
use Rattle.std.proofs.lemmas.Bool.{eqb-true, eqb-false}
use Rattle.std.proofs.lemmas.List.{take_more}
use Rattle.ar_space.specs.Outcome.{Outcome}
use Rattle.ar_space.specs.Change.{Does}
use Rattle.aml_path.specs.declared.segment.Seg.{Seg}
use Rattle.aml_objects.specs.declared.entry.Entry.{Entry}
use Rattle.aml_objects.specs.declared.node.NodeId.{NodeId}
use Rattle.aml_namespace.specs.Namespace.{Map, numbered}
use Rattle.aml_namespace.specs.Search.{Found, at_path}
use Rattle.aml_world.specs.declared.fields.pci_functions.Sought.{Sought}
use Rattle.aml_world.specs.declared.fields.pci_functions.Sought.TheVariants as sought
use Rattle.aml_world.specs.fields.PciFunctions.{adr, hid, is_device, has, is_function, is_bridge, fits, nearest_from, nearest}
use Rattle.aml_world.specs.state.State.{State}

-- ---- the answer of the search

pub nearest_none : {S : Type 0} (w : State S) (x : Sought) (p : List Seg) → None ≡ nearest_from w.names.map x p (length p) → Does (Ok None) w (nearest x p) w
unfolding nearest
nearest_none w x p is = record { is = λ _. ap (λ o. (Ok o, w)) (sym is) }

pub nearest_some : {S : Type 0} (w : State S) (x : Sought) (p q : List Seg) (n : ℕ) → Some (take n p) ≡ nearest_from w.names.map x p (length p) → take n p ≡ q → Does (Ok (Some q)) w (nearest x p) w
unfolding nearest
nearest_some w x p q n is at = record { is = λ _. ap (λ o. (Ok o, w)) (sym is ∙ ap Some at) }

-- ---- what stands at a node's path

pub found_there : (m : Map) (p : List Seg) (f : Found) → at_path m p ≡ Some f → f.0 ≡ p
found_there m p f is = by (get m p) is
  where
    by : (o : Option Entry) → option_map (λ e. (p, e)) o ≡ Some f → f.0 ≡ p
    by None h = absurd (cc h)
    by (Some e) h = let same : (p, e) ≡ f = cc h in sym (ap (λ (g : Found). g.0) same)

pub some_is : (n : Option Found) (o : Option Found) → Some n ≡ option_map Some o → (f : Found) × (o ≡ Some f) × (n ≡ Some f)
some_is n None is = absurd (cc is)
some_is n (Some f) is = (f, refl, cc is)

-- a name stands below just where a node does
pub has_node : (m : Map) (p : List Seg) (s : Seg) (child : Option NodeId) → option_map (λ (id : NodeId). numbered id.number m) child ≡ option_map Some (at_path m (p ++ s ∷ [])) → is_some child ≡ has m p s
has_node m p s child is = by child (get m (p ++ s ∷ [])) is
  where
    by : (c : Option NodeId) (o : Option Entry) → option_map (λ (id : NodeId). numbered id.number m) c ≡ option_map Some (option_map (λ e. (p ++ s ∷ [], e)) o) → is_some c ≡ is_some o
    by None None h = refl
    by None (Some e) h = absurd (cc h)
    by (Some id) None h = absurd (cc h)
    by (Some id) (Some e) h = refl

-- ---- nothing fits where nothing stands

nothing_at : (m : Map) (p : List Seg) → at_path m p ≡ None → get m p ≡ None
nothing_at m p is = by (get m p) is
  where
    by : (o : Option Entry) → option_map {U = Found} (λ e. (p, e)) o ≡ None → o ≡ None
    by None h = refl
    by (Some e) h = absurd (cc h)

no_function : (m : Map) (q : List Seg) → get m q ≡ None → is_function m q ≡ false
no_function m q is = ap (λ o. is_device o && has m q adr) is

pub none_fits : (m : Map) (x : Sought) (q : List Seg) → ((more : List Seg) → at_path m (q ++ more) ≡ None) → at_path m q ≡ None → fits m x q ≡ false
none_fits m sought.Function q below here = no_function m q (nothing_at m q here)
none_fits m sought.Bridge q below here = ap (λ b. b && not (has m q hid)) (no_function m q (nothing_at m q here))
none_fits m (sought.Parent s) q below here = ap is_some (nothing_at m (q ++ s ∷ []) (below (s ∷ [])))

-- ---- one scope after another, going down

deeper : (n k : ℕ) (near : Option ℕ) → n ≤ k → IfSome near (λ d. d ≤ n) → IfSome near (λ d. d ≤ k)
deeper n k None le within = within
deeper n k (Some d) le within = omega (arith, le, within)

pub within_next : (n : ℕ) (b : Bool) (near : Option ℕ) → IfSome near (λ d. d ≤ n) → IfSome (if b then Some (n + 1) else near) (λ d. d ≤ n + 1)
within_next n true near within = omega arith
within_next n false near within = deeper n (n + 1) near (omega arith) within

pub within_first : (b : Bool) → IfSome (if b then Some 0 else None) (λ d. d ≤ 0)
within_first true = omega arith
within_first false = tt

pub within_path : (n : ℕ) (near : Option ℕ) (p q : List Seg) → p ≡ q → n ≤ length p → IfSome near (λ d. d ≤ n) → IfSome near (λ d. d ≤ length q)
within_path n near p q same le within = let length_is = ap length same in deeper n (length q) near (omega (arith, le, length_is)) within

pub taken : {A : Type 0} (xs : List A) (i : ℕ) (x : A) → i < length xs → x ≡ get_or xs i x → take (i + 1) xs ≡ take i xs ++ x ∷ []
taken xs i x lt at = take_more xs i x lt ∙ ap (λ y. take i xs ++ y ∷ []) (sym at)

pub take_past : {A : Type 0} (xs : List A) (i k : ℕ) (x : A) → i < length xs → x ≡ get_or xs i x → i < k → (rest : List A) × (take k xs ≡ take i xs ++ x ∷ rest)
take_past [] i k x lt at more = absurd (omega (arith, lt))
take_past (y ∷ ys) i zero x lt at more = absurd (omega (arith, more))
take_past (y ∷ ys) zero (suc k) x lt at more = (take k ys, ap (λ z. z ∷ take k ys) (sym at))
take_past (y ∷ ys) (suc i) (suc k) x lt at more = let h = take_past ys i k x (omega (arith, lt)) at (omega (arith, more)) in (h.0, ap (λ l. y ∷ l) h.1)

module _ (m : Map) (x : Sought) (p : List Seg) where
  -- the scope at a depth
  abbrev pub shown : Option ℕ → Option (List Seg)
  shown = option_map (λ n. take n p)

  by_test : (b : Bool) (n : ℕ) (near : Option ℕ) (o : Option (List Seg)) → shown near ≡ o → shown (if b then Some n else near) ≡ (if b then Some (take n p) else o)
  by_test true n near o is = refl
  by_test false n near o is = is

  pub near_first : (b : Bool) → b ≡ fits m x (take 0 p) → shown (if b then Some 0 else None) ≡ nearest_from m x p 0
  unfolding nearest_from
  near_first b is = by_test b 0 None None refl ∙ ap (λ (t : Bool). if t then Some (take 0 p) else None) is

  next_by : (n k : ℕ) (b : Bool) (near : Option ℕ) → n + 1 ≡ suc k → b ≡ fits m x (take (n + 1) p) → shown near ≡ nearest_from m x p n → shown (if b then Some (n + 1) else near) ≡ nearest_from m x p (suc k)
  unfolding nearest_from
  next_by n k b near e is so_far =
      let same : n ≡ k = omega (arith, e) in
      by_test b (n + 1) near (nearest_from m x p n) so_far
      ∙ ap (λ (t : Bool). if t then Some (take (n + 1) p) else nearest_from m x p n) is
      ∙ ap (λ (j : ℕ). if fits m x (take j p) then Some (take j p) else nearest_from m x p n) e
      ∙ ap (λ (j : ℕ). if fits m x (take (suc k) p) then Some (take (suc k) p) else nearest_from m x p j) same

  pub near_next : (n : ℕ) (b : Bool) (near : Option ℕ) → b ≡ fits m x (take (n + 1) p) → shown near ≡ nearest_from m x p n → shown (if b then Some (n + 1) else near) ≡ nearest_from m x p (n + 1)
  near_next n b near is so_far = let e : n + 1 ≡ suc n = omega arith in next_by n n b near e is so_far ∙ ap (nearest_from m x p) (sym e)

  skipped : (b : Bool) (q : List Seg) (o : Option (List Seg)) → b ≡ false → (if b then Some q else o) ≡ o
  skipped b q o is = ap (λ (t : Bool). if t then Some q else o) is

  -- nothing fits beyond a depth
  beyond : (i k : ℕ) → i ≤ k → ((j : ℕ) → i < j → fits m x (take j p) ≡ false) → nearest_from m x p k ≡ nearest_from m x p i
  unfolding nearest_from
  beyond i zero le none = let e : zero ≡ i = omega (arith, le) in ap (nearest_from m x p) e
  beyond i (suc k) le none = by (i == suc k) refl (λ l. beyond i k l none)
    where
      by : (b : Bool) → (i == suc k) ≡ b → (i ≤ k → nearest_from m x p k ≡ nearest_from m x p i) → nearest_from m x p (suc k) ≡ nearest_from m x p i
      by true e above = ap (nearest_from m x p) (sym (eqb-true i (suc k) e))
      by false e above =
          let ne = eqb-false i (suc k) e in
          skipped (fits m x (take (suc k) p)) (take (suc k) p) (nearest_from m x p k) (none (suc k) (omega (arith, le, ne))) ∙ above (omega (arith, le, ne))

  -- where no node stands at the next segment of the path
  pub near_end : (n : ℕ) (s : Seg) → n < length p → s ≡ get_or p n s → ((rest : List Seg) → at_path m (take n p ++ s ∷ rest) ≡ None) → nearest_from m x p n ≡ nearest_from m x p (length p)
  near_end n s lt at none = sym (beyond n (length p) (omega (arith, lt)) (λ j more.
      let h = take_past p n j s lt at more in
      none_fits m x (take j p)
      (λ rest. ap (λ (q : List Seg). at_path m (q ++ rest)) h.1 ∙ ap (at_path m) (append_assoc (take n p) (s ∷ h.0) rest) ∙ none (h.0 ++ rest))
      (ap (at_path m) h.1 ∙ none h.0)))
