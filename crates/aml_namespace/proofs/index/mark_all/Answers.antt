use Rattle.std.proofs.Common.{◌∙◌, ◌||◌, ap, sym, is_some}
use Rattle.aml_namespace.specs.Places.{may_be, place_of}
use Rattle.aml_namespace.specs.Tree.{Index, child_in}
use Rattle.aml_namespace.proofs.Marking.{marked_more}
use Rattle.aml_namespace.proofs.index.mark_all.Goals as goal

pub loop-place-preserved : goal.loop-place-preserved
loop-place-preserved c = λ p s stands.
    marked_more c.loop-place.taken c.insert.new.self (c.in-Some.place.now, c.in-Some.field-0-1.now) c.next.new.self p s
    (ap (may_be c.insert.new.self) (sym c.first_place.ensures) ∙ c.insert.ensures.here) c.insert.ensures.others
    (sym (ap (λ (es : Index). is_some (child_in es p s) || may_be c.loop-place.taken (place_of p s)) c.in-Some.ensures.steps) ∙ c.loop-place.invariant p s stands)
