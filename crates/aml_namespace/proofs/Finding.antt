-- What nodes found in the tree say of the map of paths.
use Rattle.std.proofs.Common.{◌≡◌, ℕ, ◌+◌, ◌<◌, cond, List, [], ◌∷◌, ◌++◌, length, drop, get_or, inl, inr, Option, Some, None, is_some, refl, ap, sym, ◌∙◌, arith, add-one, drop-cons}
use Rattle.std.specs.Prelude.{option_and_then}
use Rattle.std.specs.Option.{option_map}
use Rattle.std.proofs.lemmas.Bool.{cases_eq}
use Rattle.std.specs.Ordering.{nat_cmp, eq_by_cmp}
use Rattle.std.specs.FinMap.{get, insert, empty, get-empty, get-insert, same_map}
use Rattle.aml_path.specs.declared.segment.Seg.{Seg}
use Rattle.aml_path.specs.Paths.{path_cmp}
use Rattle.aml_objects.specs.declared.node.NodeId.{NodeId}
use Rattle.aml_objects.specs.declared.entry.Entry.{Entry}
use Rattle.aml_objects.specs.declared.entry.NamedObject.TheVariants as object
use Rattle.aml_namespace.specs.declared.node.Node.{Node}
use Rattle.aml_namespace.specs.Namespace.{Map, Namespace, numbered, root_alone}
use Rattle.aml_namespace.specs.Search.{Found, at_path}
use Rattle.aml_namespace.specs.Numbering.{Numbered}
use Rattle.aml_namespace.specs.Nodes.{NodeMap}
use Rattle.aml_namespace.specs.Tree.{Children, child_in, down, path_to, map_of, Linked}
use Rattle.aml_namespace.proofs.Numbers.{insert_here, insert_apart}
use Rattle.aml_namespace.proofs.Paths.{path_total, only_equal, get_map, down_append, there_is, path_of_root, node_of_root}
use Rattle.aml_namespace.proofs.Numbering.{numbered_get, numbered_one, numbered_stands, down_from}

pub down_step : (child : Children) (n : ℕ) (ss : List Seg) (i : ℕ) (s : Seg) → i < length ss → s ≡ get_or ss i s → down child n (drop i ss) ≡ option_and_then (λ k. down child k (drop (i + 1) ss)) (child n s)
down_step child n ss i s l at = rw (drop-cons ss i s l, ← at, add-one) refl

-- ---- the root alone

module _ (x : Node) (is : x.entry ≡ record { number = 0; object = object.Scope }) where
  abbrev alone : NodeMap
  alone = insert empty x.entry.number x

  zero_is : x.entry.number ≡ 0
  zero_is = ap (λ (e : Entry). e.number) is

  alone_here : get alone 0 ≡ Some x
  alone_here = ap (get alone) (sym zero_is) ∙ insert_here empty x.entry.number x

  alone_at : (n : ℕ) (y : Node) → get alone n ≡ Some y → (n ≡ 0) × (x ≡ y)
  alone_at n y at = elim (cases_eq n 0) [
    | inl e ↦ let one : Some x ≡ Some y = sym alone_here ∙ ap (get alone) (sym e) ∙ at in let same : x ≡ y = cc one in (e, same)
    | inr ne ↦ absurd (cc (sym (insert_apart empty x.entry.number x n (λ e. ne (e ∙ zero_is)) ∙ get-empty nat_cmp n) ∙ at))
  ]

  pub alone_linked : Linked alone (child_in []) 1
  alone_linked = record {
    root = ap is_some alone_here;
    below = λ n y at. let same = (alone_at n y at).0 in omega (arith, same);
    number = λ n y at. let same = alone_at n y at in ap (λ (z : Node). z.entry.number) (sym same.1) ∙ zero_is ∙ sym same.0;
    up = λ n y at some. let same = (alone_at n y at).0 in absurd (omega (arith, same, some));
    before = λ n y at some. let same = (alone_at n y at).0 in absurd (omega (arith, same, some));
    parent = λ n y at some. let same = (alone_at n y at).0 in absurd (omega (arith, same, some));
    named = λ p s n at. absurd (cc at);
    there = λ p s n at. absurd (cc at);
  }

  alone_get : (q : List Seg) → option_map (λ (x : Node). x.entry) (option_and_then (get alone) (down (child_in []) 0 q)) ≡ cond (eq_by_cmp path_cmp q []) (Some (record { number = 0; object = object.Scope })) (get {R = path_cmp} empty q)
  alone_get [] = ap (option_map (λ (x : Node). x.entry)) alone_here ∙ ap Some is
  alone_get (s ∷ ss) = sym (get-empty path_cmp (s ∷ ss))

  pub alone_is : record { map = map_of alone; next = 1 } ≡ root_alone
  alone_is = ap (λ (m : Map). record { map = m; next = 1 }) (same_map path_total only_equal (map_of alone) (insert empty [] (record { number = 0; object = object.Scope }))
      (λ q. get_map alone (child_in []) 1 alone_linked q ∙ alone_get q ∙ sym (get-insert path_total empty [] (record { number = 0; object = object.Scope }) q)))

-- ---- nodes and entries

abbrev pub ids : Option NodeId → Option ℕ
ids = option_map (λ (id : NodeId). id.number)

pub through_ids : {X : Type 0} (f : ℕ → X) (o : Option NodeId) → option_map (λ (id : NodeId). f id.number) o ≡ option_map f (ids o)
through_ids f None = refl
through_ids f (Some id) = refl

module _ (m : NodeMap) (child : Children) (next : ℕ) (linked : Linked m child next) where
  pub node_none : (n : ℕ) → get m n ≡ None → None ≡ option_map (λ (f : Found). f.1) (numbered n (map_of m))
  node_none n is = sym (ap (option_map (λ (f : Found). f.1)) (numbered_get m child next linked n ∙ ap (option_map (λ (x : Node). (path_to m n, x.entry))) is))

  pub node_some : (n : ℕ) (x : Node) → get m n ≡ Some x → Some x.entry ≡ option_map (λ (f : Found). f.1) (numbered n (map_of m))
  node_some n x is = sym (ap (option_map (λ (f : Found). f.1)) (numbered_get m child next linked n ∙ ap (option_map (λ (x : Node). (path_to m n, x.entry))) is))

  pub at_none : (front back : List Seg) → down child 0 front ≡ None → None ≡ option_map Some (at_path (map_of m) (front ++ back))
  at_none front back is = sym (ap (λ o. option_map Some (option_map (λ (e : Entry). (front ++ back, e)) o))
      (get_map m child next linked (front ++ back) ∙ ap (λ o. option_map (λ (x : Node). x.entry) (option_and_then (get m) o)) (down_append child 0 front back ∙ ap (option_and_then (λ k. down child k back)) is)))

  pub at_some : (front back : List Seg) (k : ℕ) (o : Option NodeId) → down child 0 front ≡ Some k → ids o ≡ down child k back
      → option_map (λ (id : NodeId). numbered id.number (map_of m)) o ≡ option_map Some (at_path (map_of m) (front ++ back))
  at_some front back k o is to =
      through_ids (λ n. numbered n (map_of m)) o
      ∙ ap (option_map (λ (n : ℕ). numbered n (map_of m))) to
      ∙ down_from m child next linked k back (node_of_root m child next linked front k is)
      ∙ ap (λ (p : List Seg). option_map Some (at_path (map_of m) (p ++ back))) (path_of_root m child next linked front k is)

  pub find_is : (q : List Seg) → down child 0 q ≡ option_map (λ (e : Entry). e.number) (get (map_of m) q)
  find_is q = by (down child 0 q) refl ∙ sym (ap (option_map (λ (e : Entry). e.number)) (get_map m child next linked q))
    where
      by : (o : Option ℕ) → down child 0 q ≡ o → o ≡ option_map (λ (e : Entry). e.number) (option_map (λ (x : Node). x.entry) (option_and_then (get m) o))
      by None is = refl
      by (Some n) is =
          let x = there_is (get m n) (node_of_root m child next linked q n is) in
          ap Some (sym (linked.number n x.0 x.1)) ∙ sym (ap (λ o. option_map (λ (e : Entry). e.number) (option_map (λ (x : Node). x.entry) o)) x.1)

pub get_none : (names : Map) (p : List Seg) → None ≡ option_map {T = Found} Some (at_path names p) → None ≡ get names p
get_none names p is = by (get names p) is
  where
    by : (o : Option Entry) → None ≡ option_map {T = Found} Some (option_map (λ (e : Entry). (p, e)) o) → None ≡ o
    by None is = refl
    by (Some e) is = absurd (cc is)

pub get_some : (names : Map) (p : List Seg) (n : ℕ) → Some (numbered n names) ≡ option_map Some (at_path names p) → option_map (λ (f : Found). f.1) (numbered n names) ≡ get names p
get_some names p n is = by (get names p) is
  where
    by : (o : Option Entry) → Some (numbered n names) ≡ option_map Some (option_map (λ (e : Entry). (p, e)) o) → option_map (λ (f : Found). f.1) (numbered n names) ≡ o
    by None is = absurd (cc is)
    by (Some e) is = let at : numbered n names ≡ Some (p, e) = cc is in ap (option_map (λ (f : Found). f.1)) at

-- the declaration with a number is what stands at a path, where it is known to be there
pub stands_here : (names : Map) (p : List Seg) (n : ℕ) → option_map (λ (f : Found). f.0) (numbered n names) ≡ Some p → Some (numbered n names) ≡ option_map Some (at_path names p)
stands_here names p n is = by (numbered n names) refl is
  where
    by : (o : Option Found) → numbered n names ≡ o → option_map (λ (f : Found). f.0) o ≡ Some p → Some (numbered n names) ≡ option_map Some (at_path names p)
    by None at is = absurd (cc is)
    by (Some f) at is =
        let same : f.0 ≡ p = cc is in
        ap Some at ∙ sym (ap (λ (q : List Seg). option_map Some (at_path names q)) (sym same) ∙ ap (λ o. option_map Some (option_map (λ (e : Entry). (f.0, e)) o)) (numbered_stands names n f at))

-- what stands at a path stands under its number
pub numbered_found : (s : Namespace) → Numbered s → (p : List Seg) (e : Entry) → get s.map p ≡ Some e → numbered e.number s.map ≡ Some (p, e)
numbered_found s law p e is = numbered_one s.map e.number p e is refl (λ q d at same. law.distinct q p d e at is same)
