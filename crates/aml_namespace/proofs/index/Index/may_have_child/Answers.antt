use Rattle.std.proofs.Common.{◌∙◌, ap, sym}
use Rattle.aml_namespace.specs.Places.{may_be}
use Rattle.aml_namespace.specs.Tree.{Index, child_in}
use Rattle.aml_namespace.proofs.Marking.{unmarked, empty_place}
use Rattle.aml_namespace.proofs.index.Index.may_have_child.Goals as goal

pub returns-then-contains : goal.returns-then-contains
returns-then-contains c = λ none.
    let nothing = ap (may_be c.self.inside.taken) (sym c.first_place.ensures) ∙ sym c.contains-then-contains.ensures ∙ none in
    ap (λ (es : Index). child_in es c.args.parent c.args.segment) (sym c.self.view_is) ∙ empty_place c.self.inside.taken c.self.inside.places.entries c.self.invariant.1 c.args.parent c.args.segment nothing

pub returns-else-contains : goal.returns-else-contains
returns-else-contains c = λ _.
    ap (λ (es : Index). child_in es c.args.parent c.args.segment) (sym c.self.view_is)
    ∙ unmarked c.self.inside.parents c.self.inside.places.entries c.self.invariant.0 c.args.parent (sym c.contains.ensures ∙ c.if-contains.false) c.args.segment
