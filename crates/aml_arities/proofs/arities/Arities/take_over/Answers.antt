use Rattle.std.proofs.Common.{◌≡◌, ◌∙◌, ◌++◌, ap, sym, subst, List, map, rules}
use Rattle.aml_arities.specs.declared.arities.Arity.{Arity}
use Rattle.aml_arities.specs.declared.arities.Entry.{Entry}
use Rattle.aml_arities.specs.Counts.{arities_of, moved_by, Holds}
use Rattle.aml_arities.proofs.Counted.{grown_shows, grown_holds, over_shows, over_holds}
use Rattle.aml_arities.proofs.arities.Arities.take_over.Goals as goal

pub invariant_of-self : goal.invariant_of-self
invariant_of-self c = grown_holds c.self.inside.names c.make_all.new.self c.self.inside.entries.items c.make_all.ensures.kept c.make_all.ensures.same c.self.invariant

pub returns-in_err-nodes-clause-err : goal.returns-in_err-nodes-clause-err
returns-in_err-nodes-clause-err c =
    let e : arities_of c.make_all.new.self.paths c.self.inside.entries.items ≡ c.args.self.now = grown_shows c.self.inside.names c.make_all.new.self c.self.inside.entries.items c.make_all.ensures.kept c.make_all.ensures.same c.self.invariant ∙ c.self.view_is in
    search (rules, e)

pub invariant_of-self-in_err-entries : goal.invariant_of-self-in_err-entries
invariant_of-self-in_err-entries c = grown_holds c.self.inside.names c.make_all.new.self c.self.inside.entries.items c.make_all.ensures.kept c.make_all.ensures.same c.self.invariant

pub returns-in_err-entries-clause-err : goal.returns-in_err-entries-clause-err
returns-in_err-entries-clause-err c =
    let e : arities_of c.make_all.new.self.paths c.self.inside.entries.items ≡ c.args.self.now = grown_shows c.self.inside.names c.make_all.new.self c.self.inside.entries.items c.make_all.ensures.kept c.make_all.ensures.same c.self.invariant ∙ c.self.view_is in
    search (rules, e)

pub invariant_of-self-in_err-append : goal.invariant_of-self-in_err-append
invariant_of-self-in_err-append c =
    subst (λ (l : List Entry). Holds c.make_all.new.self l) (sym c.in_err-append.ensures.items) (grown_holds c.self.inside.names c.make_all.new.self c.self.inside.entries.items c.make_all.ensures.kept c.make_all.ensures.same c.self.invariant)

pub returns-in_err-append-clause-err : goal.returns-in_err-append-clause-err
returns-in_err-append-clause-err c =
    let e : arities_of c.make_all.new.self.paths c.append.new.self.items ≡ c.args.self.now =
    ap (arities_of c.make_all.new.self.paths) c.in_err-append.ensures.items ∙ grown_shows c.self.inside.names c.make_all.new.self c.self.inside.entries.items c.make_all.ensures.kept c.make_all.ensures.same c.self.invariant ∙ c.self.view_is in
    search (rules, e)

pub invariant_of-self-2 : goal.invariant_of-self-2
invariant_of-self-2 c =
    let items : c.append.new.self.items ≡ c.self.inside.entries.items ++ map (moved_by c.in_ok-nodes.nodes.items) c.added.inside.entries.items =
    c.in_ok-append.ensures.items
    ∙ ap (λ (l : List Entry). c.self.inside.entries.items ++ l)
    (c.in_ok-entries.ensures ∙ ap (λ ns. map (moved_by ns) c.deref.result.now) c.deref-2.ensures.value ∙ ap (map (moved_by c.in_ok-nodes.nodes.items)) c.deref.ensures.value) in
    subst (λ (l : List Entry). Holds c.put_over.new.self l) (sym items) (over_holds c.self.inside.names c.make_all.new.self c.added.inside.names c.put_over.new.self c.self.inside.entries.items c.added.inside.entries.items c.in_ok-nodes.nodes.items c.make_all.ensures.kept c.make_all.ensures.same c.in_ok-nodes.ensures.nodes c.put_over.ensures.paths c.put_over.ensures.counts c.self.invariant c.added.invariant)

pub returns-clause-ok : goal.returns-clause-ok
returns-clause-ok c =
    let items : c.append.new.self.items ≡ c.self.inside.entries.items ++ map (moved_by c.in_ok-nodes.nodes.items) c.added.inside.entries.items =
    c.in_ok-append.ensures.items
    ∙ ap (λ (l : List Entry). c.self.inside.entries.items ++ l)
    (c.in_ok-entries.ensures ∙ ap (λ ns. map (moved_by ns) c.deref.result.now) c.deref-2.ensures.value ∙ ap (map (moved_by c.in_ok-nodes.nodes.items)) c.deref.ensures.value) in
    ap (arities_of c.put_over.new.self.paths) items
    ∙ over_shows c.self.inside.names c.make_all.new.self c.added.inside.names c.put_over.new.self c.self.inside.entries.items c.added.inside.entries.items c.in_ok-nodes.nodes.items c.make_all.ensures.kept c.make_all.ensures.same c.in_ok-nodes.ensures.nodes c.put_over.ensures.paths c.put_over.ensures.counts c.self.invariant c.added.invariant
    ∙ ap (λ (l : List Arity). l ++ arities_of c.added.inside.names.paths c.added.inside.entries.items) c.self.view_is
    ∙ ap (λ (l : List Arity). c.args.self.now ++ l) c.added.view_is
