use Rattle.std.proofs.Common.{◌≡◌, ◌∙◌, ◌++◌, ◌∷◌, [], ap, sym, subst, List, rules}
use Rattle.aml_arities.specs.declared.arities.Arity.{Arity}
use Rattle.aml_arities.specs.declared.arities.Entry.{Entry}
use Rattle.aml_arities.specs.Counts.{Counted, with_added, arities_of, Holds}
use Rattle.aml_arities.proofs.Counted.{grown_shows, grown_holds, added_shows, added_holds}
use Rattle.aml_arities.proofs.arities.Arities.add.Goals as goal

pub invariant_of-self-in_err-node : goal.invariant_of-self-in_err-node
invariant_of-self-in_err-node c =
    subst (λ (es : List Entry). Holds c.make.new.self es) (sym c.reserve.ensures.items)
    (grown_holds c.self.inside.names c.make.new.self c.self.inside.entries.items c.make.ensures.kept c.make.ensures.same c.self.invariant)

pub returns-in_err-node-clause-err : goal.returns-in_err-node-clause-err
returns-in_err-node-clause-err c =
    let e : arities_of c.make.new.self.paths c.reserve.new.self.items ≡ c.args.self.now =
    ap (arities_of c.make.new.self.paths) c.reserve.ensures.items
    ∙ grown_shows c.self.inside.names c.make.new.self c.self.inside.entries.items c.make.ensures.kept c.make.ensures.same c.self.invariant
    ∙ c.self.view_is in
    search (rules, e)

pub invariant_of-self-2 : goal.invariant_of-self-2
invariant_of-self-2 c =
    let es = c.self.inside.entries.items in
    let t = c.make.new.self in
    let x : Entry = record { node = c.in_ok-node.node; count = c.args.count; external = c.args.external } in
    let items : c.push_reserved.new.self.items ≡ es ++ x ∷ [] = c.push_reserved.ensures.items ∙ ap (λ (l : List Entry). l ++ x ∷ []) c.reserve.ensures.items in
    let holds = grown_holds c.self.inside.names t es c.make.ensures.kept c.make.ensures.same c.self.invariant in
    subst (λ (l : List Entry). Holds c.add.new.self l) (sym items)
    (subst (λ (u : Counted). Holds u (es ++ x ∷ [])) (sym c.add.ensures) (added_holds t es x c.args.path c.in_ok-node.ensures.node c.in_ok-node.ensures.room holds))

pub returns-clause-ok : goal.returns-clause-ok
returns-clause-ok c =
    let es = c.self.inside.entries.items in
    let t = c.make.new.self in
    let x : Entry = record { node = c.in_ok-node.node; count = c.args.count; external = c.args.external } in
    let a : Arity = record { path = c.args.path; count = c.args.count; external = c.args.external } in
    let items : c.push_reserved.new.self.items ≡ es ++ x ∷ [] = c.push_reserved.ensures.items ∙ ap (λ (l : List Entry). l ++ x ∷ []) c.reserve.ensures.items in
    let holds = grown_holds c.self.inside.names t es c.make.ensures.kept c.make.ensures.same c.self.invariant in
    ap (arities_of c.add.new.self.paths) items
    ∙ ap (λ (u : Counted). arities_of u.paths (es ++ x ∷ [])) c.add.ensures
    ∙ added_shows t es x c.args.path c.in_ok-node.ensures.node c.in_ok-node.ensures.room holds
    ∙ ap (λ (l : List Arity). l ++ a ∷ []) (grown_shows c.self.inside.names t es c.make.ensures.kept c.make.ensures.same c.self.invariant ∙ c.self.view_is)
