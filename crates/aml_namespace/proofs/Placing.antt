-- Another object in a node that is given by its number, whether it stands or not.
use Rattle.std.proofs.Common.{◌≡◌, ◌∙◌, ℕ, List, Option, Some, None, Ok, Bool, true, false, refl, ap, sym, subst}
use Rattle.std.specs.Option.{option_map}
use Rattle.std.specs.FinMap.{get}
use Rattle.aml_path.specs.declared.segment.Seg.{Seg}
use Rattle.aml_objects.specs.declared.entry.NamedObject.{NamedObject}
use Rattle.aml_namespace.specs.declared.node.Node.{Node}
use Rattle.aml_namespace.specs.Namespace.{replaced, numbered}
use Rattle.aml_namespace.specs.Search.{Found}
use Rattle.aml_namespace.specs.Nodes.{NodeMap, object_in, object_put}
use Rattle.aml_namespace.specs.Tree.{Children, map_of, path_to, Linked}
use Rattle.aml_namespace.proofs.Numbering.{numbered_get}
use Rattle.aml_namespace.proofs.Finding.{stands_here}
use Rattle.aml_namespace.proofs.Changes.{over_linked, here_replaced}

put_nowhere : (m : NodeMap) (n : ℕ) (o : NamedObject) → get m n ≡ None → object_put m n o ≡ m
unfolding object_put
put_nowhere m n o none = ap (object_in m n o) none

no_node : (o : Option Node) (p : List Seg) → option_map {U = Found} (λ (x : Node). (p, x.entry)) o ≡ None → o ≡ None
no_node None p is = refl
no_node (Some x) p is = absurd (cc is)

-- a number of no declaration is that of no node
pub nothing_at : (m : NodeMap) (child : Children) (next : ℕ) → Linked m child next → (n : ℕ) → numbered n (map_of m) ≡ None → get m n ≡ None
nothing_at m child next linked n none = no_node (get m n) (path_to m n) (sym (numbered_get m child next linked n) ∙ none)

module _ (m : NodeMap) (child : Children) (next : ℕ) (linked : Linked m child next) (n : ℕ) (o : NamedObject) where
  pub put_linked : Linked (object_put m n o) child next
  put_linked = by (get m n) refl
    where
      by : (z : Option Node) → get m n ≡ z → Linked (object_put m n o) child next
      by None is = subst (λ (a : NodeMap). Linked a child next) (sym (put_nowhere m n o is)) linked
      by (Some x) is = over_linked m child next linked n x o is

  pub put_replaced : (f : Found) → numbered n (map_of m) ≡ Some f → replaced f.0 o (record { map = map_of m; next = next }) ≡ (Ok tt, record { map = map_of (object_put m n o); next = next })
  put_replaced f is = here_replaced m child next linked n o f.0 (stands_here (map_of m) f.0 n (ap (option_map (λ (g : Found). g.0)) is))

  pub put_unchanged : numbered n (map_of m) ≡ None → object_put m n o ≡ m
  put_unchanged none = put_nowhere m n o (nothing_at m child next linked n none)

  -- a change that may be none
  pub maybe_linked : (b : Bool) (after : NodeMap) → (b ≡ true → after ≡ object_put m n o) → (b ≡ false → after ≡ m) → Linked after child next
  maybe_linked true after put same = subst (λ (a : NodeMap). Linked a child next) (sym (put refl)) put_linked
  maybe_linked false after put same = subst (λ (a : NodeMap). Linked a child next) (sym (same refl)) linked
