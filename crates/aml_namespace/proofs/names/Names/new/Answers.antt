use Rattle.std.proofs.Common.{◌≡◌, ◌∙◌, ap, sym, subst, [], Ok}
use Rattle.std.specs.Ordering.{nat_cmp}
use Rattle.std.specs.FinMap.{get, insert, empty, get-empty}
use Rattle.aml_namespace.specs.Namespace.{Namespace}
use Rattle.aml_namespace.specs.Nodes.{NodeMap}
use Rattle.aml_namespace.specs.Tree.{Index, child_in, map_of, Linked}
use Rattle.aml_namespace.proofs.Finding.{alone_linked, alone_is}
use Rattle.aml_namespace.proofs.names.Names.new.Goals as goal

pub insert-requires : goal.insert-requires
insert-requires c = record { new = ap (λ (m : NodeMap). get m c.root_node.result.entry.number) c.new-nodes.ensures ∙ get-empty nat_cmp c.root_node.result.entry.number }

pub invariant_of-result : goal.invariant_of-result
invariant_of-result c =
    let x = c.root_node.result in
    let nodes : c.insert.new.self ≡ insert empty x.entry.number x = c.in_ok-insert.ensures.put ∙ ap (λ (m : NodeMap). insert m x.entry.number x) c.new-nodes.ensures in
    let alone : Linked c.insert.new.self (child_in []) 1 = subst (λ (m : NodeMap). Linked m (child_in []) 1) (sym nodes) (alone_linked x c.root_node.ensures) in
    subst (λ (es : Index). Linked c.insert.new.self (child_in es) 1) (sym c.in_ok-index.ensures.empty) alone

pub returns : goal.returns
returns c =
    let x = c.root_node.result in
    let nodes : c.insert.new.self ≡ insert empty x.entry.number x = c.in_ok-insert.ensures.put ∙ ap (λ (m : NodeMap). insert m x.entry.number x) c.new-nodes.ensures in
    let all : ◌≡◌ {A = Namespace} (record { map = map_of c.insert.new.self; next = 1 }) (record { map = map_of (insert empty x.entry.number x); next = 1 }) = ap (λ (m : NodeMap). record { map = map_of m; next = 1 }) nodes in
    record { is = λ _. ap Ok (sym (all ∙ alone_is x c.root_node.ensures)) }
