-- Paths in the tree, and what stands at them.
use Rattle.std.proofs.Common.{◌≡◌, ℕ, zero, suc, ◌+◌, ◌<◌, ◌≤◌, Bool, true, false, cond, List, [], ◌∷◌, ◌++◌, map, Option, Some, None, is_some, refl, ap, sym, ◌∙◌, arith, append_assoc, append-nil}
use Rattle.std.specs.Prelude.{option_and_then}
use Rattle.std.specs.Option.{option_map}
use Rattle.std.specs.declared.cmp.Ordering.{Ordering}
use Rattle.std.specs.declared.cmp.Ordering.TheVariants.{Less, Equal, Greater}
use Rattle.std.specs.Ordering.{nat_cmp, eq_by_cmp, is_eq}
use Rattle.std.specs.Cmp.{IsTotalOrder, eq_by_cmp_equiv}
use Rattle.std.specs.Cmp.Rules.{comparing}
use Rattle.std.proofs.Common.{rules}
use Rattle.std.specs.FinMap.{get, entries, get-entries, get-from_entries, find, IsAntisymmetric, slice_cmp-IsAntisymmetric}
use Rattle.aml_path.specs.declared.segment.Seg.{Seg}
use Rattle.aml_path.proofs.Segments.{seg_cmp_exact}
use Rattle.aml_path.specs.Paths.{path_cmp}
use Rattle.aml_namespace.specs.declared.node.Node.{Node}
use Rattle.aml_namespace.specs.Nodes.{NodeMap}
use Rattle.aml_namespace.specs.Tree.{Children, down, from_node, climb, path_to, map_of, lies, Linked}
use Rattle.aml_namespace.proofs.Numbers.{here, apart}

pub path_total : IsTotalOrder path_cmp
path_total = search (comparing, rules) depth 9

-- only equal paths tie
pub only_equal : IsAntisymmetric path_cmp
only_equal = slice_cmp-IsAntisymmetric seg_cmp_exact

equal : (r : Ordering) → is_eq r ≡ true → r ≡ Equal
equal Less is = absurd (cc is)
equal Equal is = refl
equal Greater is = absurd (cc is)

pub same_path : (p q : List Seg) → eq_by_cmp path_cmp p q ≡ true → p ≡ q
same_path p q h = only_equal p q (equal (path_cmp p q) h)

pub path_itself : (p : List Seg) → eq_by_cmp path_cmp p p ≡ true
path_itself p = (eq_by_cmp_equiv path_total).refl p

pub other_path : (b : Bool) (p q : List Seg) → eq_by_cmp path_cmp p q ≡ b → (p ≡ q → ⊥) → b ≡ false
other_path true p q is ne = absurd (ne (same_path p q is))
other_path false p q is ne = refl

-- ---- what stands at a path, by a function that gives the node's number

module _ (m : NodeMap) (q : List Seg) (answer : Option ℕ) (other : (n : ℕ) → answer ≡ Some n → path_to m n ≡ q) where
  nothing : (o : Option ℕ) → None ≡ option_map (λ (x : Node). x.entry) (option_and_then (λ n. find nat_cmp n []) o)
  nothing None = refl
  nothing (Some n) = refl

  skipped : (e : ℕ × Node) (es : List (ℕ × Node)) (o : Option ℕ) → answer ≡ o → eq_by_cmp path_cmp q (path_to m e.0) ≡ false
      → option_and_then (λ n. find nat_cmp n es) o ≡ option_and_then (λ n. find nat_cmp n (e ∷ es)) o
  skipped e es None is differ = refl
  skipped e es (Some n) is differ =
      let not : n ≡ e.0 → ⊥ = λ same. absurd (cc (sym differ ∙ ap (eq_by_cmp path_cmp q) (ap (path_to m) (sym same) ∙ other n is) ∙ path_itself q)) in
      sym (ap (λ b. cond b (Some e.1) (find nat_cmp n es)) (apart n e.0 not))

  later : (e : ℕ × Node) (es : List (ℕ × Node)) (n : ℕ) (b : Bool) → is_some (find nat_cmp n es) ≡ true → is_some (cond b (Some e.1) (find nat_cmp n es)) ≡ true
  later e es n true is = refl
  later e es n false is = is

  first_is : (e : ℕ × Node) (es : List (ℕ × Node)) → find nat_cmp e.0 (e ∷ es) ≡ Some e.1
  first_is e es = ap (λ b. cond b (Some e.1) (find nat_cmp e.0 es)) (here e.0)

  step : (e : ℕ × Node) (es : List (ℕ × Node)) (b : Bool) → eq_by_cmp path_cmp q (path_to m e.0) ≡ b → ((n : ℕ) → is_some (find nat_cmp n (e ∷ es)) ≡ true → path_to m n ≡ q → answer ≡ Some n)
      → find path_cmp q (map (λ e. (path_to m e.0, e.1.entry)) es) ≡ option_map (λ (x : Node). x.entry) (option_and_then (λ n. find nat_cmp n es) answer)
      → cond b (Some e.1.entry) (find path_cmp q (map (λ e. (path_to m e.0, e.1.entry)) es)) ≡ option_map (λ (x : Node). x.entry) (option_and_then (λ n. find nat_cmp n (e ∷ es)) answer)
  step e es true is one rest =
      let this : answer ≡ Some e.0 = one e.0 (ap is_some (first_is e es)) (sym (same_path q (path_to m e.0) is)) in
      sym (ap (λ o. option_map (λ (x : Node). x.entry) (option_and_then (λ n. find nat_cmp n (e ∷ es)) o)) this ∙ ap (option_map (λ (x : Node). x.entry)) (first_is e es))
  step e es false is one rest = rest ∙ ap (option_map (λ (x : Node). x.entry)) (skipped e es answer refl is)

  in_list : (es : List (ℕ × Node)) → ((n : ℕ) → is_some (find nat_cmp n es) ≡ true → path_to m n ≡ q → answer ≡ Some n)
      → find path_cmp q (map (λ e. (path_to m e.0, e.1.entry)) es) ≡ option_map (λ (x : Node). x.entry) (option_and_then (λ n. find nat_cmp n es) answer)
  in_list [] one = nothing answer
  in_list (e ∷ es) one = step e es (eq_by_cmp path_cmp q (path_to m e.0)) refl one (in_list es (λ n is. one n (later e es n (eq_by_cmp nat_cmp n e.0) is)))

  same_through : (o : Option ℕ) → option_and_then (λ n. find nat_cmp n (entries m)) o ≡ option_and_then (get m) o
  same_through None = refl
  same_through (Some n) = sym (get-entries m n)

  pub stands_at : ((n : ℕ) → is_some (get m n) ≡ true → path_to m n ≡ q → answer ≡ Some n) → get (map_of m) q ≡ option_map (λ (x : Node). x.entry) (option_and_then (get m) answer)
  unfolding map_of
  stands_at one =
      get-from_entries path_total (map (λ e. (path_to m e.0, e.1.entry)) (entries m)) q
      ∙ in_list (entries m) (λ n is. one n (ap is_some (get-entries m n) ∙ is))
      ∙ ap (option_map (λ (x : Node). x.entry)) (same_through answer)

-- ---- going down

pub down_append : (child : Children) (n : ℕ) (p q : List Seg) → down child n (p ++ q) ≡ option_and_then (λ k. down child k q) (down child n p)
down_append child n [] q = refl
down_append child n (s ∷ ss) q = by (child n s) (λ k. down_append child k ss q)
  where
    by : (o : Option ℕ) → ((k : ℕ) → down child k (ss ++ q) ≡ option_and_then (λ j. down child j q) (down child k ss))
        → option_and_then (λ k. down child k (ss ++ q)) o ≡ option_and_then (λ k. down child k q) (option_and_then (λ k. down child k ss) o)
    by None more = refl
    by (Some k) more = more k

pub there_is : (o : Option Node) → is_some o ≡ true → (x : Node) × (o ≡ Some x)
there_is None is = absurd (cc is)
there_is (Some x) is = (x, refl)

pub lies_there : (o : Option Node) (p : ℕ) (s : Seg) → lies o ≡ Some (p, s) → (x : Node) × (o ≡ Some x) × (x.parent.number ≡ p) × (x.segment ≡ s)
lies_there None p s is = absurd (cc is)
lies_there (Some x) p s is = let pair : (x.parent.number, x.segment) ≡ (p, s) = cc is in (x, refl, ap (λ (e : ℕ × Seg). e.0) pair, ap (λ (e : ℕ × Seg). e.1) pair)

module _ (m : NodeMap) (child : Children) (next : ℕ) (linked : Linked m child next) where
  climb_same : (n f g : ℕ) → n ≤ f → n ≤ g → climb m n f ≡ climb m n g
  climb_same zero f g lf lg = refl
  climb_same (suc n) zero g lf lg = absurd (omega (arith, lf))
  climb_same (suc n) (suc f) zero lf lg = absurd (omega (arith, lg))
  climb_same (suc n) (suc f) (suc g) lf lg = by (get m (suc n)) refl (λ p le lf. climb_same p f g lf)
    where
      by : (o : Option Node) → get m (suc n) ≡ o → ((p : ℕ) → p ≤ n → p ≤ f → p ≤ g → climb m p f ≡ climb m p g) → from_node (λ p. climb m p f) o ≡ from_node (λ p. climb m p g) o
      by None is above = refl
      by (Some x) is above =
          let low = linked.before (suc n) x is (omega arith) in
          ap (λ (l : List Seg). l ++ x.segment ∷ []) (above x.parent.number (omega (arith, low)) (omega (arith, low, lf)) (omega (arith, low, lg)))

  -- the path to a node is its parent's, and its segment
  pub path_step : (n : ℕ) (x : Node) → get m n ≡ Some x → 0 < n → path_to m n ≡ path_to m x.parent.number ++ x.segment ∷ []
  path_step zero x is some = absurd (omega (arith, some))
  path_step (suc n) x is some =
      let low = linked.before (suc n) x is some in
      ap (from_node (λ p. climb m p n)) is ∙ ap (λ (l : List Seg). l ++ x.segment ∷ []) (climb_same x.parent.number n x.parent.number (omega (arith, low)) (omega arith))

  -- the path to a node leads down to it
  pub found_at : (b n : ℕ) (x : Node) → n < b → get m n ≡ Some x → down child 0 (path_to m n) ≡ Some n
  found_at zero n x lt is = absurd (omega (arith, lt))
  found_at (suc b) zero x lt is = refl
  found_at (suc b) (suc n) x lt is =
      let some : 0 < suc n = omega arith in
      let low = linked.before (suc n) x is some in
      let above = there_is (get m x.parent.number) (linked.parent (suc n) x is some) in
      ap (down child 0) (path_step (suc n) x is some)
      ∙ down_append child 0 (path_to m x.parent.number) (x.segment ∷ [])
      ∙ ap (option_and_then (λ k. down child k (x.segment ∷ []))) (found_at b x.parent.number above.0 (omega (arith, low, lt)) above.1)
      ∙ ap (option_and_then (λ k. Some k)) (linked.up (suc n) x is some)

  -- where segments lead down to is a node, and its path ends with them
  pub reached : (a : ℕ) (q : List Seg) (n : ℕ) → is_some (get m a) ≡ true → down child a q ≡ Some n → (is_some (get m n) ≡ true) × (path_to m n ≡ path_to m a ++ q)
  reached a [] n stands is =
      let same : a ≡ n = cc is in
      (ap (λ k. is_some (get m k)) (sym same) ∙ stands, ap (path_to m) (sym same) ∙ sym (append-nil (path_to m a)))
  reached a (s ∷ ss) n stands is = by (child a s) refl is (λ k. reached k ss n)
    where
      by : (o : Option ℕ) → child a s ≡ o → option_and_then (λ k. down child k ss) o ≡ Some n
          → ((k : ℕ) → is_some (get m k) ≡ true → down child k ss ≡ Some n → (is_some (get m n) ≡ true) × (path_to m n ≡ path_to m k ++ ss))
          → (is_some (get m n) ≡ true) × (path_to m n ≡ path_to m a ++ s ∷ ss)
      by None at is more = absurd (cc is)
      by (Some k) at is more =
          let x = lies_there (get m k) a s (linked.there a s k at) in
          let rest = more k (ap is_some x.1) is in
          let one : path_to m k ≡ path_to m a ++ s ∷ [] = path_step k x.0 x.1 (linked.named a s k at) ∙ ap (λ p. path_to m p ++ x.0.segment ∷ []) x.2 ∙ ap (λ (t : Seg). path_to m a ++ t ∷ []) x.3 in
          (rest.0, rest.1 ∙ ap (λ (l : List Seg). l ++ ss) one ∙ append_assoc (path_to m a) (s ∷ []) ss)

  pub stands_of : (n : ℕ) → is_some (get m n) ≡ true → down child 0 (path_to m n) ≡ Some n
  stands_of n is = let x = there_is (get m n) is in found_at (n + 1) n x.0 (omega arith) x.1

  pub path_of_root : (q : List Seg) (n : ℕ) → down child 0 q ≡ Some n → path_to m n ≡ q
  path_of_root q n is = (reached 0 q n linked.root is).1

  pub node_of_root : (q : List Seg) (n : ℕ) → down child 0 q ≡ Some n → is_some (get m n) ≡ true
  node_of_root q n is = (reached 0 q n linked.root is).0

  -- what stands at a path is the entry of the node that it leads to
  pub get_map : (q : List Seg) → get (map_of m) q ≡ option_map (λ (x : Node). x.entry) (option_and_then (get m) (down child 0 q))
  get_map q = stands_at m q (down child 0 q) (path_of_root q) (λ n is at. ap (down child 0) (sym at) ∙ stands_of n is)
