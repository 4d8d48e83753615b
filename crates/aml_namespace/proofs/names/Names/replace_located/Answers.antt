use Rattle.std.proofs.Common.{◌≡◌, ◌∙◌, ap, sym, subst, Some, Ok}
use Rattle.std.specs.Option.{option_map}
use Rattle.aml_namespace.specs.Namespace.{Namespace, replaced, numbered}
use Rattle.aml_namespace.specs.Search.{at_path}
use Rattle.aml_namespace.specs.Nodes.{NodeMap}
use Rattle.aml_namespace.specs.Tree.{child_in, map_of, Linked}
use Rattle.aml_namespace.proofs.Finding.{get_none}
use Rattle.aml_namespace.proofs.Changes.{here_linked, here_replaced, replaced_none}
use Rattle.aml_namespace.proofs.names.Names.replace_located.Goals as goal

pub returns-in-None-clause-change : goal.returns-in-None-clause-change
returns-in-None-clause-change c = record { is = λ _. replaced_none c.args.located.now c.args.object c.args.self.now (sym (get_none c.args.self.now.map c.args.located.now c.in-None.ensures)) }

pub invariant_of-self : goal.invariant_of-self
invariant_of-self c =
    let here = subst (λ (s : Namespace). Some (numbered c.in-Some.id.number s.map) ≡ option_map Some (at_path s.map c.args.located.now)) (sym c.self.view_is) c.in-Some.ensures in
    subst (λ (m : NodeMap). Linked m (child_in c.self.inside.index) c.self.inside.next) (sym c.replace.ensures)
    (here_linked c.self.inside.nodes (child_in c.self.inside.index) c.self.inside.next c.self.invariant c.in-Some.id.number c.args.object c.args.located.now here)

pub returns-in-Some-clause-change : goal.returns-in-Some-clause-change
returns-in-Some-clause-change c =
    let here = subst (λ (s : Namespace). Some (numbered c.in-Some.id.number s.map) ≡ option_map Some (at_path s.map c.args.located.now)) (sym c.self.view_is) c.in-Some.ensures in
    record {
      is = λ _.
          ap (replaced c.args.located.now c.args.object) (sym c.self.view_is)
          ∙ here_replaced c.self.inside.nodes (child_in c.self.inside.index) c.self.inside.next c.self.invariant c.in-Some.id.number c.args.object c.args.located.now here
          ∙ ap (λ (m : NodeMap). (Ok tt, record { map = map_of m; next = c.self.inside.next })) (sym c.replace.ensures);
    }
