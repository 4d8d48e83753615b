-- What a declaration answers, by what stands.
use Rattle.std.proofs.Common.{◌≡◌, ℕ, ◌+◌, ◌-◌, ◌^◌, Bool, true, false, cond, List, [], ◌∷◌, ◌++◌, length, take, Option, Some, None, Ok, Err, is_some, refl, ap, sym, ◌∙◌, arith, inl, inr, length-append}
use Rattle.std.proofs.lemmas.List.{take_all, take-append-le}
use Rattle.std.specs.Prelude.{option_and_then, ◌==◌}
use Rattle.std.specs.Option.{option_map}
use Rattle.std.proofs.lemmas.Bool.{cases_eq}
use Rattle.std.specs.FinMap.{get, insert, remove}
use Rattle.ar_space.specs.declared.refusal.Refusal.TheVariants as refusal
use Rattle.ar_space.specs.declared.refusal.EvaluationFault.TheVariants.{ObjectLimit}
use Rattle.ar_space.specs.declared.refusal.NamespaceFault.TheVariants.{Exists, NotFound}
use Rattle.aml_path.specs.declared.segment.Seg.{Seg}
use Rattle.aml_objects.specs.declared.entry.NamedObject.{NamedObject}
use Rattle.aml_objects.specs.declared.node.NodeId.{NodeId}
use Rattle.aml_namespace.specs.declared.node.Node.{Node}
use Rattle.aml_namespace.specs.Namespace.{Namespace, above, declared}
use Rattle.aml_namespace.specs.Nodes.{NodeMap}
use Rattle.aml_namespace.specs.Tree.{Children, down, map_of, Linked}
use Rattle.aml_namespace.proofs.Numbers.{insert_apart, remove_here, remove_apart, same_numbers}
use Rattle.aml_namespace.proofs.Paths.{get_map, down_append, there_is, node_of_root}

pub put_undone : (m : NodeMap) (n : ℕ) (x : Node) → get m n ≡ None → remove (insert m n x) n ≡ m
put_undone m n x none = same_numbers (remove (insert m n x) n) m (λ q. elim (cases_eq q n) [
  | inl e ↦ ap (get (remove (insert m n x) n)) e ∙ remove_here (insert m n x) n ∙ sym (ap (get m) e ∙ none)
  | inr ne ↦ remove_apart (insert m n x) n q ne ∙ insert_apart m n x q ne
])

pub number_updated : (b : Bool) (id : NodeId) (n : ℕ) (o : Option NodeId) → id.number ≡ n → option_map (λ (i : NodeId). i.number) (cond b (Some id) o) ≡ cond b (Some n) (option_map (λ (i : NodeId). i.number) o)
number_updated true id n o is = ap Some is
number_updated false id n o is = refl

pub number_removed : (b : Bool) (o : Option NodeId) → option_map (λ (i : NodeId). i.number) (cond b None o) ≡ cond b None (option_map (λ (i : NodeId). i.number) o)
number_removed true o = refl
number_removed false o = refl

-- ---- the answer, case by case

module _ (p : List Seg) (o : NamedObject) (s : Namespace) where
  pub declared_nowhere : is_some (get s.map (above p)) ≡ false → declared p o s ≡ (Err (refusal.Namespace NotFound), s)
  unfolding declared
  declared_nowhere parent = rw parent refl

  pub declared_twice : is_some (get s.map (above p)) ≡ true → is_some (get s.map p) ≡ true → declared p o s ≡ (Err (refusal.Namespace Exists), s)
  unfolding declared
  declared_twice parent stands = rw (parent, stands) refl

  pub declared_past : is_some (get s.map (above p)) ≡ true → is_some (get s.map p) ≡ false → (s.next == 2 ^ 64 - 1) ≡ true → declared p o s ≡ (Err (refusal.Evaluation ObjectLimit), s)
  unfolding declared
  declared_past parent free full = rw (parent, free, full) refl

  pub declared_new : is_some (get s.map (above p)) ≡ true → is_some (get s.map p) ≡ false → (s.next == 2 ^ 64 - 1) ≡ false
      → declared p o s ≡ (Ok s.next, record { map = insert s.map p (record { number = s.next; object = o }); next = s.next + 1 })
  unfolding declared
  declared_new parent free room = rw (parent, free, room) refl

-- the path above, where the last segment is known
pub above_is : (front : List Seg) (s : Seg) → above (front ++ s ∷ []) ≡ front
above_is front s = ap (λ n. take n (front ++ s ∷ [])) (omega (arith, length-append front (s ∷ []))) ∙ take-append-le (length front) front (s ∷ []) (omega arith) ∙ take_all (length front) front (omega arith)

module _ (m : NodeMap) (child : Children) (next : ℕ) (linked : Linked m child next) where
  pub contains : (q : List Seg) → is_some (get (map_of m) q) ≡ is_some (down child 0 q)
  contains q = ap is_some (get_map m child next linked q) ∙ by (down child 0 q) refl
    where
      by : (o : Option ℕ) → down child 0 q ≡ o → is_some (option_map (λ (x : Node). x.entry) (option_and_then (get m) o)) ≡ is_some o
      by None is = refl
      by (Some n) is = let x = there_is (get m n) (node_of_root m child next linked q n is) in ap (λ o. is_some (option_map (λ (x : Node). x.entry) o)) x.1

  -- whether a child stands
  pub contains_child : (front : List Seg) (s : Seg) (n : ℕ) → down child 0 front ≡ Some n → is_some (get (map_of m) (front ++ s ∷ [])) ≡ is_some (child n s)
  contains_child front s n is = contains (front ++ s ∷ []) ∙ ap is_some (down_append child 0 front (s ∷ []) ∙ ap (option_and_then (λ k. down child k (s ∷ []))) is) ∙ by (child n s)
    where
      by : (o : Option ℕ) → is_some (option_and_then (λ k. Some k) o) ≡ is_some o
      by None = refl
      by (Some k) = refl
