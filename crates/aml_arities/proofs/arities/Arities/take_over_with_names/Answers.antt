use Rattle.std.proofs.Common.{◌≡◌, ◌∙◌, ◌++◌, ap, sym, subst, List, map, rules}
use Rattle.aml_arities.specs.declared.arities.Arity.{Arity}
use Rattle.aml_arities.specs.declared.arities.Entry.{Entry}
use Rattle.aml_arities.specs.Counts.{arities_of, moved_by, Holds}
use Rattle.aml_arities.proofs.Counted.{under_shows, under_holds}
use Rattle.aml_arities.proofs.arities.Arities.take_over_with_names.Goals as goal

pub invariant_of-self : goal.invariant_of-self
invariant_of-self c =
    let items : c.append.new.self.items ≡ map (moved_by c.in_ok-nodes.nodes.items) c.self.inside.entries.items ++ c.added.inside.entries.items =
    c.in_ok-append.ensures.items
    ∙ ap (λ (l : List Entry). l ++ c.added.inside.entries.items)
    (c.in_ok-entries.ensures ∙ ap (λ ns. map (moved_by ns) c.deref.result.now) c.deref-2.ensures.value ∙ ap (map (moved_by c.in_ok-nodes.nodes.items)) c.deref.ensures.value) in
    subst (λ (l : List Entry). Holds c.put_under.new.self l) (sym items) (under_holds c.self.inside.names c.make_all.new.self c.added.inside.names c.put_under.new.self c.self.inside.entries.items c.added.inside.entries.items c.in_ok-nodes.nodes.items c.make_all.ensures.kept c.make_all.ensures.same c.in_ok-nodes.ensures.nodes c.put_under.ensures.paths c.put_under.ensures.counts c.self.invariant c.added.invariant)

pub returns-clause-ok : goal.returns-clause-ok
returns-clause-ok c =
    let items : c.append.new.self.items ≡ map (moved_by c.in_ok-nodes.nodes.items) c.self.inside.entries.items ++ c.added.inside.entries.items =
    c.in_ok-append.ensures.items
    ∙ ap (λ (l : List Entry). l ++ c.added.inside.entries.items)
    (c.in_ok-entries.ensures ∙ ap (λ ns. map (moved_by ns) c.deref.result.now) c.deref-2.ensures.value ∙ ap (map (moved_by c.in_ok-nodes.nodes.items)) c.deref.ensures.value) in
    ap (arities_of c.put_under.new.self.paths) items
    ∙ under_shows c.self.inside.names c.make_all.new.self c.added.inside.names c.put_under.new.self c.self.inside.entries.items c.added.inside.entries.items c.in_ok-nodes.nodes.items c.make_all.ensures.kept c.make_all.ensures.same c.in_ok-nodes.ensures.nodes c.put_under.ensures.paths c.put_under.ensures.counts c.self.invariant c.added.invariant
    ∙ ap (λ (l : List Arity). l ++ arities_of c.added.inside.names.paths c.added.inside.entries.items) c.self.view_is
    ∙ ap (λ (l : List Arity). c.args.self.now ++ l) c.added.view_is
